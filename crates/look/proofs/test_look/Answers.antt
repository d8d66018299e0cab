-- `look::test_look` meets its contract: one law for each way out.
-- Assumes nothing.
use native.Mathlib.Omega.{arith}
use Rattle.std.proofs.lemmas.Result.{err_from_is_err_and}
use Rattle.look.proofs.Looking.{other_size, would_remain, would_refuse}
use Rattle.look.proofs.test_look.Goals as goal

pub returns-then-total-ne16 : goal.returns-then-total-ne16
returns-then-total-ne16 c = other_size _ _ _ _ (λ e. omega arith)

pub returns : goal.returns
returns c = would_remain _ _ _ _ _ c.test_post.ensures (omega arith) _ _ c.in_ok-test_post.was c.remaining.ensures

pub returns-in_err-test_post : goal.returns-in_err-test_post
returns-in_err-test_post c =
    let p = err_from_is_err_and c.from_residual.result c.from_residual.ensures.1 in
    rw (p.1, p.2) (would_refuse _ _ _ _ _ c.test_post.ensures (omega arith) _ c.in_err-test_post.was)
