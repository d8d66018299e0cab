-- A check of the two formulas' rows against what is known: the digits of pi at position 1.
-- Assumes nothing.
use Rattle.std.proofs.Common.{◌≡◌, ◌/◌, ◌^◌, refl}
use Rattle.algebra.specs.Sum.{sum}
use Rattle.algebra.specs.Whole.{residue}
use Rattle.series.specs.Series.{size, is_added, term_count, on_side, row_sum, over_rows, side_sum, sizes_sum}
use Rattle.series.specs.Names.{formula_of}
use Rattle.series.specs.declared.Series.{Series}
use Rattle.series.specs.declared.Series.TheVariants.{Bellard, Check}

-- the sum of all terms at position 1 begins with 243F6A88.., the first hexadecimal digits of pi after the point, by either formula
pub known_digits : (f : Series) → sizes_sum (formula_of f) 1 (term_count (formula_of f) 1) / 2 ^ 8 ≡ 0x243F6A8885A308D313198A2E037073
unfolding sizes_sum term_count size side_sum over_rows row_sum sum on_side is_added residue
known_digits Bellard = refl
known_digits Check = refl
