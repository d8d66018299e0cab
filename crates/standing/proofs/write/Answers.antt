-- `standing::write` meets its contract: where the output is written no test applied, and where one applies nothing is written.
-- Assumes nothing.
use native.Mathlib.Omega.{arith}
use Rattle.std.proofs.lemmas.Result.{err_from_is_err_and}
use Rattle.standing.proofs.Writing.{none_applied, written, not_written}
use Rattle.standing.proofs.write.Goals as goal

pub overflow_sub-e : goal.overflow_sub-e
overflow_sub-e c =
    let h = none_applied _ _ _ _ _ c.test_standing.ensures _ c.in_ok-size.was in
    omega (arith, h.size_is)

pub put_head-requires : goal.put_head-requires
put_head-requires c =
    let h = none_applied _ _ _ _ _ c.test_standing.ensures _ c.in_ok-size.was in
    omega (arith, h.room)

pub invariant_of-ledger : goal.invariant_of-ledger
invariant_of-ledger c = record { sized = (none_applied _ _ _ _ _ c.test_standing.ensures _ c.in_ok-size.was).ledger_has }

pub invariant_of-put_tickets : goal.invariant_of-put_tickets
invariant_of-put_tickets c = record { sized = (none_applied _ _ _ _ _ c.test_standing.ensures _ c.in_ok-size.was).book_has }

pub put_tickets-requires : goal.put_tickets-requires
put_tickets-requires c =
    let h = none_applied _ _ _ _ _ c.test_standing.ensures _ c.in_ok-size.was in
    (h.counted, omega (arith, h.room, h.counted))

pub returns : goal.returns
returns c =
    written _ _ _ _ _ c.test_standing.ensures _ _ _ _ _ c.in_ok-size.was c.run.ensures.0 c.run.ensures.1
    c.put_head.ensures c.put_tickets.ensures

pub returns-in_err-size : goal.returns-in_err-size
returns-in_err-size c =
    let p = err_from_is_err_and c.from_residual.result c.from_residual.ensures.1 in
    rw (p.1, p.2) (not_written _ _ _ _ _ c.test_standing.ensures _ c.in_err-size.was)
