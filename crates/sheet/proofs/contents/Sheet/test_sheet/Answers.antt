-- `sheet::contents::Sheet::test_sheet` meets its contract: a sheet in its form has room for its entries.
-- Assumes nothing.
use mathlib.Core.Path.{sym, ◌∙◌}
use native.Mathlib.Omega.{arith}
use Rattle.sheet.proofs.Form.{formed_length}
use Rattle.sheet.proofs.contents.Sheet.test_sheet.Goals as goal

pub invariant_of-entries : goal.invariant_of-entries
invariant_of-entries c =
    let h = formed_length _ (sym c.well_formed-2.ensures ∙ c.if-not-well_formed.false) in
    omega (arith, h)
