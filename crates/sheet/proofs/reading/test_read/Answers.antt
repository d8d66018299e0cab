-- `sheet::reading::test_read` meets its contract: one law for each way out.
-- Assumes nothing.
use mathlib.Core.Path.{sym, ◌∙◌}
use Rattle.std.proofs.lemmas.Result.{err_from_is_err_and}
use Rattle.sheet.proofs.Form.{sheet_fits}
use Rattle.sheet.proofs.ReadTests.{other_size, list_short, sums_short, read_refused, read_accepted}
use Rattle.sheet.proofs.reading.test_read.Goals as goal

pub returns-then-not-sized : goal.returns-then-not-sized
returns-then-not-sized c = other_size _ _ _ _ _ c.sized.ensures c.if-not-sized.true

pub invariant_of-sheet : goal.invariant_of-sheet
invariant_of-sheet c = record { head = (sheet_fits _ _ (sym c.sized.ensures ∙ c.if-not-sized.false)).0 }

pub returns-then-list-e : goal.returns-then-list-e
returns-then-list-e c = list_short _ _ _ _ _ c.sized.ensures _ c.count-e.ensures.0 c.if-list-e.true

pub returns-then-sums-e : goal.returns-then-sums-e
returns-then-sums-e c =
    sums_short _ _ _ _ _ c.sized.ensures _ c.count-e.ensures.0 c.if-sums-e.true

pub returns : goal.returns
returns c =
    read_accepted _ _ _ _ _ c.sized.ensures _ c.count-e.ensures.0 c.if-not-sized.false
    c.if-list-e.false c.if-sums-e.false _ c.test_sheet.ensures _ c.in_ok-test_sheet.was

pub returns-in_err-test_sheet : goal.returns-in_err-test_sheet
returns-in_err-test_sheet c =
    let p = err_from_is_err_and c.from_residual.result c.from_residual.ensures.1 in
    rw (p.1, p.2) (
    read_refused _ _ _ _ _ c.sized.ensures _ c.count-e.ensures.0 c.if-not-sized.false
    c.if-list-e.false c.if-sums-e.false _ c.test_sheet.ensures _ c.in_err-test_sheet.was)
