-- `booking::test_entry` meets its contract: one law for each way out.
-- Assumes nothing.
use Rattle.std.proofs.lemmas.Result.{err_from_is_err_and}
use Rattle.book.specs.Book.{view_with}
use Rattle.book.proofs.Sound.{book_sized}
use Rattle.booking.proofs.Testing.{with_book, right_size, wrong_size_lem, no_ticket, by_ledger}
use Rattle.booking.proofs.test_entry.Goals as goal

pub returns-then-not-sized : goal.returns-then-not-sized
returns-then-not-sized c = wrong_size_lem _ (view_with _ _ _) _ _ _ _ _ c.sized.ensures c.if-not-sized.true

pub returns-in_err-test_ticket : goal.returns-in_err-test_ticket
returns-in_err-test_ticket c =
    let p = err_from_is_err_and c.from_residual.result c.from_residual.ensures.1 in
    rw (p.1, p.2) (
    no_ticket _ (view_with _ _ _) _ _ _ _ _ c.sized.ensures c.if-not-sized.false _ c.test_ticket.ensures _ c.in_err-test_ticket.was)

pub invariant_of-ledger : goal.invariant_of-ledger
invariant_of-ledger c = record { sized = (with_book _ _ _).size (right_size _ _ _ _ c.sized.ensures c.if-not-sized.false) }

pub invariant_of-test_book : goal.invariant_of-test_book
invariant_of-test_book c = record { sized = book_sized _ _ _ (right_size _ _ _ _ c.sized.ensures c.if-not-sized.false) }

pub returns : goal.returns
returns c =
    by_ledger _ (view_with _ _ _) _ _ _ _ _ c.sized.ensures c.if-not-sized.false _ c.test_ticket.ensures _ c.in_ok-test_ticket.was
    c.test_book.result c.test_book.ensures
