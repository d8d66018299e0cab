-- `ticket::work` meets its contract: both slices are written after all tests.
-- Assumes nothing.
use native.Mathlib.Omega.{arith}
use Rattle.std.proofs.lemmas.Result.{err_from_is_err_and}
use Rattle.ticket.proofs.Working.{to_work, worked, not_worked}
use Rattle.ticket.proofs.work.Goals as goal

pub sum-worked-requires : goal.sum-worked-requires
sum-worked-requires c =
    let h = to_work _ _ _ _ _ _ _ _ c.both_sized.ensures _ c.test_part.ensures _ c.in_ok-test_part.was in
    (h.2, h.3)

pub put_wide-requires : goal.put_wide-requires
put_wide-requires c =
    let h = to_work _ _ _ _ _ _ _ _ c.both_sized.ensures _ c.test_part.ensures _ c.in_ok-test_part.was in
    omega (arith, h.0)

pub put_wide-requires-2 : goal.put_wide-requires-2
put_wide-requires-2 c =
    let h = to_work _ _ _ _ _ _ _ _ c.both_sized.ensures _ c.test_part.ensures _ c.in_ok-test_part.was in
    omega (arith, h.1)

pub returns : goal.returns
returns c =
    worked _ _ _ _ _ _ _ _ c.both_sized.ensures _ c.test_part.ensures _ _ c.in_ok-test_part.was _ _ _ _
    c.sum-worked.ensures c.put_wide.ensures c.put_wide-2.ensures

pub returns-in_err-test_part : goal.returns-in_err-test_part
returns-in_err-test_part c =
    let p = err_from_is_err_and c.from_residual.result c.from_residual.ensures.1 in rw (p.1, p.2) (not_worked _ _ _ _ _ _ _ _ c.both_sized.ensures _ c.test_part.ensures _ _ c.in_err-test_part.was)
