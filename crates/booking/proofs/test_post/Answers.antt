-- `booking::test_post` meets its contract: the ticket's mark decides where the tests before it are passed.
-- Assumes nothing.
use mathlib.Core.Path.{ap}
use mathlib.Core.Bool.{not}
use Rattle.std.proofs.lemmas.Result.{err_from_is_err_and}
use Rattle.booking.proofs.Testing.{sum_size, post_asks, not_taken, in_place, mark_inside, mark_refused, taken}
use Rattle.booking.proofs.test_post.Goals as goal

pub returns-then-sum-ne16 : goal.returns-then-sum-ne16
returns-then-sum-ne16 c = sum_size _ _ _ _ _ _ _ _ c.if-sum-ne16.true

pub returns-in_err-test_entry : goal.returns-in_err-test_entry
returns-in_err-test_entry c =
    let p = err_from_is_err_and c.from_residual.result c.from_residual.ensures.1 in
    rw (p.1, p.2) (not_taken (post_asks _ _ _ _ _ _ _ _ c.if-sum-ne16.false) _ c.test_entry.ensures _ c.in_err-test_entry.was)

pub invariant_of-ledger : goal.invariant_of-ledger
invariant_of-ledger c = record { sized = (in_place _ _ _ _ _ _ _ _ c.test_entry.ensures _ c.in_ok-test_entry.was).sized }

pub bit_set-requires : goal.bit_set-requires
bit_set-requires c =
    mark_inside _ _ _ _ _ _ _ _ c.test_entry.ensures _ c.in_ok-test_entry.was

pub returns-then-bit_set : goal.returns-then-bit_set
returns-then-bit_set c =
    mark_refused (post_asks _ _ _ _ _ _ _ _ c.if-sum-ne16.false) _ c.test_entry.ensures _ c.in_ok-test_entry.was _
    c.bit_set.ensures (ap not c.if-bit_set.true)

pub returns : goal.returns
returns c =
    taken (post_asks _ _ _ _ _ _ _ _ c.if-sum-ne16.false) _ c.test_entry.ensures _ c.in_ok-test_entry.was _
    c.bit_set.ensures (ap not c.if-bit_set.false)
