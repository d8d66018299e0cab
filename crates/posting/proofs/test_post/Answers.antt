-- `posting::test_post` meets its contract: one law for each way out.
-- Assumes nothing.
use mathlib.Core.Path.{sym, ◌∙◌}
use Rattle.std.proofs.lemmas.Result.{err_from_is_err_and}
use Rattle.sheet.proofs.Form.{sheet_fits}
use Rattle.ledger.proofs.Posting.{size_right, size_wrong}
use Rattle.posting.proofs.Testing.{alone, ledger_size_lem, sheet_size, other_sheet, other_ledger, may_look, one_marked, admitted}
use Rattle.posting.proofs.test_post.Goals as goal

pub returns-then-ledger-ledger_size : goal.returns-then-ledger-ledger_size
returns-then-ledger-ledger_size c = ledger_size_lem (alone _ _ _) (size_wrong _ _ (λ e. c.if-ledger-ledger_size.true (e ∙ sym c.ledger_size.ensures)))

pub returns-then-not-sized : goal.returns-then-not-sized
returns-then-not-sized c = sheet_size (alone _ _ _) _ c.sized.ensures c.if-not-sized.true

pub invariant_of-sheet : goal.invariant_of-sheet
invariant_of-sheet c = record { head = (sheet_fits _ _ (sym c.sized.ensures ∙ c.if-not-sized.false)).0 }

pub returns-in_err-test_sheet : goal.returns-in_err-test_sheet
returns-in_err-test_sheet c =
    let p = err_from_is_err_and c.from_residual.result c.from_residual.ensures.1 in
    rw (p.1, p.2) (
    other_sheet (alone _ _ _) _ c.sized.ensures (size_right _ _ (c.if-ledger-ledger_size.false ∙ c.ledger_size.ensures)) c.if-not-sized.false _
    c.test_sheet.ensures _ c.in_err-test_sheet.was)

pub returns-in_err-test_ledger : goal.returns-in_err-test_ledger
returns-in_err-test_ledger c =
    let p = err_from_is_err_and c.from_residual-in_err-test_ledger.result c.from_residual-in_err-test_ledger.ensures.1 in
    rw (p.1, p.2) (
    other_ledger (alone _ _ _) _ c.sized.ensures (size_right _ _ (c.if-ledger-ledger_size.false ∙ c.ledger_size.ensures)) c.if-not-sized.false _
    c.test_sheet.ensures _ c.in_ok-test_sheet.was _ _ c.run.ensures.0 c.run.ensures.1 _ c.test_ledger.ensures _
    c.in_err-test_ledger.was)

pub invariant_of-entries : goal.invariant_of-entries
invariant_of-entries c = record {
  room = (may_look (alone _ _ _) _ c.sized.ensures (size_right _ _ (c.if-ledger-ledger_size.false ∙ c.ledger_size.ensures)) c.if-not-sized.false _
      c.test_sheet.ensures _ c.in_ok-test_sheet.was _ _ c.run.ensures.0 c.run.ensures.1 _ c.test_ledger.ensures _
      c.in_ok-test_ledger.was _ c.count.ensures.0).0;
}

pub none_marked-requires : goal.none_marked-requires
none_marked-requires c =
    (may_look (alone _ _ _) _ c.sized.ensures (size_right _ _ (c.if-ledger-ledger_size.false ∙ c.ledger_size.ensures)) c.if-not-sized.false _
    c.test_sheet.ensures _ c.in_ok-test_sheet.was _ _ c.run.ensures.0 c.run.ensures.1 _ c.test_ledger.ensures _
    c.in_ok-test_ledger.was _ c.count.ensures.0).2

pub returns-then-not-none_marked : goal.returns-then-not-none_marked
returns-then-not-none_marked c =
    one_marked (alone _ _ _) _ c.sized.ensures (size_right _ _ (c.if-ledger-ledger_size.false ∙ c.ledger_size.ensures)) c.if-not-sized.false _
    c.test_sheet.ensures _ c.in_ok-test_sheet.was _ _ c.run.ensures.0 c.run.ensures.1 _ c.test_ledger.ensures _
    c.in_ok-test_ledger.was _ c.count.ensures.0 _ c.none_marked.ensures c.if-not-none_marked.true

pub returns : goal.returns
returns c =
    admitted (alone _ _ _) _ c.sized.ensures (size_right _ _ (c.if-ledger-ledger_size.false ∙ c.ledger_size.ensures)) c.if-not-sized.false _
    c.test_sheet.ensures _ c.in_ok-test_sheet.was _ _ c.run.ensures.0 c.run.ensures.1 _ c.test_ledger.ensures _
    c.in_ok-test_ledger.was _ c.count.ensures.0 _ c.none_marked.ensures c.if-not-none_marked.false
