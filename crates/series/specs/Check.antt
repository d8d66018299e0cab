-- The formula of check runs: document 02, slip 4; document 001, equation (3), its fractions brought to odd N.
use Rattle.std.specs.Prelude.{◌+◌, ◌-◌, ◌^◌, true, false, [], ◌∷◌}
use Rattle.series.specs.Series.{Formula, row}

abbrev pub check : Formula
check = record {
  rows = row 8 1 (128 + 2) true ∷ row 2 1 (128 - 1) false ∷ row 8 5 (128 + 0) false ∷ row 4 3 (128 - 1) false ∷ [];
  step = 4;
  alternates = false;
  last = 2 ^ 59;
}
