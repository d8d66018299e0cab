-- `posting::post` meets its contract: where the tickets are entered no test applied, and where one applies nothing is written.
-- Assumes nothing.
use Rattle.std.proofs.lemmas.Result.{err_from_is_err_and}
use Rattle.posting.proofs.Testing.{none_applied, posted, not_posted}
use Rattle.posting.proofs.post.Goals as goal

pub enter_all-requires : goal.enter_all-requires
enter_all-requires c = none_applied _ _ _ _ c.test_post.ensures _ c.in_ok-test_post.was

pub returns : goal.returns
returns c =
    posted _ _ _ _ c.test_post.ensures _ _ c.in_ok-test_post.was c.enter_all.ensures

pub returns-in_err-test_post : goal.returns-in_err-test_post
returns-in_err-test_post c =
    let p = err_from_is_err_and c.from_residual.result c.from_residual.ensures.1 in
    rw (p.1, p.2) (not_posted _ _ _ _ c.test_post.ensures _ c.in_err-test_post.was)
