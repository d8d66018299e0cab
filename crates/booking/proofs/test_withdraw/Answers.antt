-- `booking::test_withdraw` meets its contract: the ticket's mark decides where the tests before it are passed.
-- Assumes nothing.
use Rattle.std.proofs.lemmas.Result.{err_from_is_err_and}
use Rattle.booking.proofs.Testing.{withdraw_asks, not_taken, in_place, mark_inside, mark_refused, taken}
use Rattle.booking.proofs.test_withdraw.Goals as goal

pub returns-in_err-test_entry : goal.returns-in_err-test_entry
returns-in_err-test_entry c =
    let p = err_from_is_err_and c.from_residual.result c.from_residual.ensures.1 in
    rw (p.1, p.2) (not_taken (withdraw_asks _ _ _ _ _ _ _) _ c.test_entry.ensures _ c.in_err-test_entry.was)

pub invariant_of-ledger : goal.invariant_of-ledger
invariant_of-ledger c = record { sized = (in_place _ _ _ _ _ _ _ _ c.test_entry.ensures _ c.in_ok-test_entry.was).sized }

pub bit_set-requires : goal.bit_set-requires
bit_set-requires c = mark_inside _ _ _ _ _ _ _ _ c.test_entry.ensures _ c.in_ok-test_entry.was

pub returns-then-not-bit_set : goal.returns-then-not-bit_set
returns-then-not-bit_set c =
    mark_refused (withdraw_asks _ _ _ _ _ _ _) _ c.test_entry.ensures _ c.in_ok-test_entry.was _ c.bit_set.ensures
    c.if-not-bit_set.true

pub returns : goal.returns
returns c =
    taken (withdraw_asks _ _ _ _ _ _ _) _ c.test_entry.ensures _ c.in_ok-test_entry.was _ c.bit_set.ensures
    c.if-not-bit_set.false
