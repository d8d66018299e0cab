-- How much of what a formula sets fits a word: it has few rows, and its positions fit 8 bytes.
-- Assumes nothing.
use Rattle.std.proofs.Common.{◌^◌, ◌<◌, ◌≤◌, lit<, lit≤}
use Rattle.series.specs.Series.{row_count}
use Rattle.series.specs.Names.{formula_of}
use Rattle.series.specs.declared.Series.{Series}
use Rattle.series.specs.declared.Series.TheVariants.{Bellard, Check}

pub few_rows : (f : Series) → row_count (formula_of f) ≤ 7
few_rows Bellard = lit≤ tt
few_rows Check = lit≤ tt

pub near_positions : (f : Series) → (formula_of f).last < 2 ^ 64
near_positions Bellard = lit< tt
near_positions Check = lit< tt
