-- `writer::write` meets its contract: where the output is written no test applied, and where one applies nothing is written.
-- Assumes nothing.
use native.Mathlib.Omega.{arith}
use Rattle.std.proofs.lemmas.Result.{err_from_is_err_and}
use Rattle.writer.proofs.WriteTests.{none_applied, written, not_written}
use Rattle.writer.proofs.write.Goals as goal

pub put_head-requires : goal.put_head-requires
put_head-requires c =
    let h = none_applied _ _ _ _ _ _ c.test_write.ensures _ c.in_ok-size.was in
    omega (arith, h.room)

pub invariant_of-pairs : goal.invariant_of-pairs
invariant_of-pairs c =
    let h = none_applied _ _ _ _ _ _ c.test_write.ensures _ c.in_ok-size.was in
    record { even = omega (arith, h.even) }

pub put_contents-requires : goal.put_contents-requires
put_contents-requires c =
    let h = none_applied _ _ _ _ _ _ c.test_write.ensures _ c.in_ok-size.was in
    omega (arith, h.room)

pub put_bodies-requires : goal.put_bodies-requires
put_bodies-requires c =
    let h = none_applied _ _ _ _ _ _ c.test_write.ensures _ c.in_ok-size.was in
    (omega (arith, h.room), h.range, h.tickets)

pub returns : goal.returns
returns c =
    written _ _ _ _ _ _ c.test_write.ensures _ _ _ _ c.in_ok-size.was c.put_head.ensures
    (c.put_contents.ensures _ _ _) c.put_bodies.ensures

pub returns-in_err-size : goal.returns-in_err-size
returns-in_err-size c =
    let p = err_from_is_err_and c.from_residual.result c.from_residual.ensures.1 in
    rw (p.1, p.2) (not_written _ _ _ _ _ _ c.test_write.ensures _ c.in_err-size.was)
