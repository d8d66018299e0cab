-- The general fact, for any list of rows in which every N is at least 1 and, at every length, the exact terms that are not charged together
-- with all from K on add up to less than one unit on each side: the bound around the total, and the digits that it settles. It holds by
-- whatever rule terms are charged. Document 01, "Closing"; document 02, slips 4 and 5.
-- A list of rows is a `Formula`: so no l is below -128 (a row holds l + 128, which is a natural number), and one step of E and one rule of signs
-- are those of all its rows.
use Rattle.std.specs.Prelude.{◌≡◌, ℕ, ◌*◌, ◌≤◌, ◌<◌, ℤ}
use Rattle.algebra.specs.Whole.{quotient}
use Rattle.series.specs.Series.{Formula, sizes_sum}
use Rattle.digits.specs.Digits.{unit_at, Settles, OneOutcome, low_digits}
use Rattle.interval.specs.Exact.{MakesWhole, exact_sum}
use Rattle.interval.specs.Interval.{Rule, low, high, LiesFrom, Positive, RestBelowUnit}

-- the ends of the interval around the sum of the sizes of the first K terms
abbrev pub low_end : Rule → Formula → ℕ → ℕ → ℤ
low_end R F p K = low R F p K (sizes_sum F p K)

abbrev pub high_end : Rule → Formula → ℕ → ℕ → ℤ
high_end R F p K = high R F p K (sizes_sum F p K)

pub record Bounded (R : Rule) (F : Formula) (p K : ℕ) : Type 0 where
  -- every exact sum from length K on lies in the interval
  pub near : (D L : ℕ) → 0 < D → K ≤ L → MakesWhole F p L D → LiesFrom D (low_end R F p K) (high_end R F p K) (exact_sum F p D L)
  -- and where both ends have the same quotient, its lowest digits are those of the exact sum
  pub digits : (d : ℕ) → Settles (low_end R F p K) (high_end R F p K) d → (D L : ℕ) → 0 < D → K ≤ L → MakesWhole F p L D
      → low_digits d (quotient (exact_sum F p D L) (D * unit_at d)) ≡ low_digits d (quotient (low_end R F p K) (unit_at d))
  -- the distance settles no digit, or there is a greatest d that it settles: one of the two, and one d
  pub outcome : OneOutcome (low_end R F p K) (high_end R F p K)

abbrev pub AnyRows : Type 0
AnyRows = (R : Rule) (F : Formula) (p K : ℕ) → Positive F → RestBelowUnit R F p K → Bounded R F p K
