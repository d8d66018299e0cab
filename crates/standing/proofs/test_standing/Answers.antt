-- `standing::test_standing` meets its contract: one law for each way out.
-- Assumes nothing.
use native.Mathlib.Omega.{arith}
use Rattle.series.specs.Names.{formula_of}
use Rattle.series.proofs.FewRows.{few_rows}
use Rattle.run.specs.Run.{limits_of}
use Rattle.book.proofs.Sound.{ledger_sized, book_sized}
use Rattle.booking.proofs.Testing.{right_size}
use Rattle.standing.proofs.Writing.{few_bits, other_size, no_room, not_in_order, accepted}
use Rattle.standing.proofs.test_standing.Goals as goal

pub returns-then-not-sized : goal.returns-then-not-sized
returns-then-not-sized c = other_size _ _ _ _ _ c.sized.ensures c.if-not-sized.true

pub invariant_of-ledger : goal.invariant_of-ledger
invariant_of-ledger c = record { sized = ledger_sized _ _ _ (right_size _ _ _ _ c.sized.ensures c.if-not-sized.false) }

pub overflow_mul-size : goal.overflow_mul-size
overflow_mul-size c =
    let args = c.args in
    let few = few_rows args.f in
    let bits = few_bits (limits_of (formula_of args.f)) args.ledger.now in
    omega (arith, c.count.ensures, few, bits)

pub overflow_add-size : goal.overflow_add-size
overflow_add-size c =
    let args = c.args in
    let few = few_rows args.f in
    let bits = few_bits (limits_of (formula_of args.f)) args.ledger.now in
    omega (arith, c.count.ensures, few, bits)

pub returns-then-out-size : goal.returns-then-out-size
returns-then-out-size c =
    no_room _ _ _ _ _ c.sized.ensures _ c.count.ensures c.if-out-size.true

pub invariant_of-books : goal.invariant_of-books
invariant_of-books c = record { sized = book_sized _ _ _ (right_size _ _ _ _ c.sized.ensures c.if-not-sized.false) }

pub returns-then-not-in_order : goal.returns-then-not-in_order
returns-then-not-in_order c =
    not_in_order _ _ _ _ _ c.sized.ensures _ c.count.ensures c.if-not-sized.false c.if-out-size.false _ c.in_order.ensures
    c.if-not-in_order.true

pub overflow_cast-result : goal.overflow_cast-result
overflow_cast-result c =
    let args = c.args in
    let few = few_rows args.f in
    let bits = few_bits (limits_of (formula_of args.f)) args.ledger.now in
    omega (arith, c.count.ensures, few, bits)

pub returns : goal.returns
returns c =
    accepted _ _ _ _ _ c.sized.ensures _ c.count.ensures c.if-not-sized.false c.if-out-size.false _ c.in_order.ensures
    c.if-not-in_order.false
