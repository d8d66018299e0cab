-- `ticket::quote` meets its contract: the squarings are written after all tests.
-- Assumes nothing.
use native.Mathlib.Omega.{arith}
use Rattle.std.proofs.lemmas.Result.{err_from_is_err_and}
use Rattle.ticket.proofs.Working.{to_quote, quoted, not_quoted}
use Rattle.ticket.proofs.quote.Goals as goal

pub squarings-requires : goal.squarings-requires
squarings-requires c =
    let h = to_quote _ _ _ _ _ _ _ c.sized.ensures _ c.test_part.ensures _ c.in_ok-test_part.was in
    (h.1, h.2)

pub put_wide-requires : goal.put_wide-requires
put_wide-requires c =
    let h = to_quote _ _ _ _ _ _ _ c.sized.ensures _ c.test_part.ensures _ c.in_ok-test_part.was in
    omega (arith, h.0)

pub returns : goal.returns
returns c =
    quoted _ _ _ _ _ _ _ c.sized.ensures _ c.test_part.ensures _ _ c.in_ok-test_part.was _ _ c.squarings.ensures c.put_wide.ensures

pub returns-in_err-test_part : goal.returns-in_err-test_part
returns-in_err-test_part c =
    let p = err_from_is_err_and c.from_residual.result c.from_residual.ensures.1 in rw (p.1, p.2) (not_quoted _ _ _ _ _ _ _ c.sized.ensures _ c.test_part.ensures _ _ c.in_err-test_part.was)
