-- `booking::test_sheet_post` meets its contract: one law for each way out.
-- Assumes nothing.
use mathlib.Core.Path.{sym, ◌∙◌}
use Rattle.std.proofs.lemmas.Result.{err_from_is_err_and}
use Rattle.sheet.proofs.Form.{sheet_fits}
use Rattle.posting.proofs.Testing.{ledger_size_lem, sheet_size, other_sheet, other_ledger, may_look, one_marked, admitted}
use Rattle.book.proofs.Sound.{book_sized}
use Rattle.booking.proofs.Testing.{with_book, right_size}
use Rattle.booking.proofs.SheetTesting.{together}
use Rattle.booking.proofs.test_sheet_post.Goals as goal

pub returns-then-not-sized : goal.returns-then-not-sized
returns-then-not-sized c = ledger_size_lem (together _ _ _ _) (sym c.sized.ensures ∙ c.if-not-sized.true)

pub returns-then-not-sized-2 : goal.returns-then-not-sized-2
returns-then-not-sized-2 c = sheet_size (together _ _ _ _) _ c.sized-2.ensures c.if-not-sized-2.true

pub invariant_of-sheet : goal.invariant_of-sheet
invariant_of-sheet c = record { head = (sheet_fits _ _ (sym c.sized-2.ensures ∙ c.if-not-sized-2.false)).0 }

pub returns-in_err-test_sheet : goal.returns-in_err-test_sheet
returns-in_err-test_sheet c =
    let p = err_from_is_err_and c.from_residual.result c.from_residual.ensures.1 in
    rw (p.1, p.2) (
    other_sheet (together _ _ _ _) _ c.sized-2.ensures (right_size _ _ _ _ c.sized.ensures c.if-not-sized.false) c.if-not-sized-2.false _
    c.test_sheet.ensures _ c.in_err-test_sheet.was)

pub invariant_of-ledger : goal.invariant_of-ledger
invariant_of-ledger c = record { sized = (with_book _ _ _).size (right_size _ _ _ _ c.sized.ensures c.if-not-sized.false) }

pub invariant_of-books : goal.invariant_of-books
invariant_of-books c = record { sized = book_sized _ _ _ (right_size _ _ _ _ c.sized.ensures c.if-not-sized.false) }

pub returns-in_err-test_book : goal.returns-in_err-test_book
returns-in_err-test_book c =
    let p = err_from_is_err_and c.from_residual-in_err-test_book.result c.from_residual-in_err-test_book.ensures.1 in
    rw (p.1, p.2) (
    other_ledger (together _ _ _ _) _ c.sized-2.ensures (right_size _ _ _ _ c.sized.ensures c.if-not-sized.false) c.if-not-sized-2.false _
    c.test_sheet.ensures _ c.in_ok-test_sheet.was _ _ c.run.ensures.0 c.run.ensures.1 _ c.test_book.ensures _
    c.in_err-test_book.was)

pub invariant_of-entries : goal.invariant_of-entries
invariant_of-entries c = record {
  room = (may_look (together _ _ _ _) _ c.sized-2.ensures (right_size _ _ _ _ c.sized.ensures c.if-not-sized.false) c.if-not-sized-2.false _
      c.test_sheet.ensures _ c.in_ok-test_sheet.was _ _ c.run.ensures.0 c.run.ensures.1 _ c.test_book.ensures _
      c.in_ok-test_book.was _ c.count.ensures.0).0;
}

pub none_marked-requires : goal.none_marked-requires
none_marked-requires c =
    (may_look (together _ _ _ _) _ c.sized-2.ensures (right_size _ _ _ _ c.sized.ensures c.if-not-sized.false) c.if-not-sized-2.false _
    c.test_sheet.ensures _ c.in_ok-test_sheet.was _ _ c.run.ensures.0 c.run.ensures.1 _ c.test_book.ensures _
    c.in_ok-test_book.was _ c.count.ensures.0).2

pub returns-then-not-none_marked : goal.returns-then-not-none_marked
returns-then-not-none_marked c =
    one_marked (together _ _ _ _) _ c.sized-2.ensures (right_size _ _ _ _ c.sized.ensures c.if-not-sized.false) c.if-not-sized-2.false _
    c.test_sheet.ensures _ c.in_ok-test_sheet.was _ _ c.run.ensures.0 c.run.ensures.1 _ c.test_book.ensures _
    c.in_ok-test_book.was _ c.count.ensures.0 _ c.none_marked.ensures c.if-not-none_marked.true

pub returns : goal.returns
returns c =
    admitted (together _ _ _ _) _ c.sized-2.ensures (right_size _ _ _ _ c.sized.ensures c.if-not-sized.false) c.if-not-sized-2.false _
    c.test_sheet.ensures _ c.in_ok-test_sheet.was _ _ c.run.ensures.0 c.run.ensures.1 _ c.test_book.ensures _
    c.in_ok-test_book.was _ c.count.ensures.0 _ c.none_marked.ensures c.if-not-none_marked.false
