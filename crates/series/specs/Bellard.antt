-- Bellard's formula: document 01's table of rows; document 001, equation (4).
use Rattle.std.specs.Prelude.{◌+◌, ◌-◌, ◌^◌, true, false, [], ◌∷◌}
use Rattle.series.specs.Series.{Formula, row}

abbrev pub bellard : Formula
bellard = record {
  rows =
      row 4 1 (128 - 1) false ∷ row 4 3 (128 - 6) false ∷ row 10 1 (128 + 2) true ∷ row 10 3 (128 + 0) false
      ∷ row 10 5 (128 - 4) false ∷ row 10 7 (128 - 4) false ∷ row 10 9 (128 - 6) true ∷ [];
  step = 10;
  alternates = true;
  last = 2 ^ 60;
}
