-- The two formulas meet what is asked of a list of rows: every N is at least 1, and the terms that are not charged, before K and from K on, add up
-- to less than one unit on each side, at every position: by the rule of the tables of rows, and one test more that antt computes.
-- Assumes nothing.
use mathlib.Core.Path.{◌≡◌, refl}
use mathlib.Core.Bool.{true}
use mathlib.Core.List.{Memᴰ}
use Prim.Native.Nat.{ℕ, ◌≤◌}
use native.Mathlib.Omega.{arith}
use borrow.Author.Tests.{ltb-true}
use lib.Dec.{ltb}
use Rattle.series.specs.Series.{Row, over_rows, term_count}
use Rattle.series.specs.Names.{formula_of}
use Rattle.series.specs.declared.Series.{Series}
use Rattle.series.specs.declared.Series.TheVariants.{Bellard, Check}
use Rattle.series.proofs.Numbers.{step_positive}
use Rattle.series.proofs.Table.{fitting_row}
use Rattle.interval.specs.Interval.{is_charged, Positive, RestBelowUnit}
use Rattle.interval.specs.Counts.{charged_in}
use Rattle.interval.proofs.Charged.{before_k}
use Rattle.interval.proofs.Rest.{percent, rest_below}

-- every j is odd
pub positive : (f : Series) → Positive (formula_of f)
unfolding Positive
positive f r m k = let h = (fitting_row f r m).j_odd in omega (arith, h)

-- no l is above 2
pub charged_before_k : (f : Series) (p : ℕ) (r : Row) → Memᴰ r (formula_of f).rows → charged_in (formula_of f) p r ≤ term_count (formula_of f) p
charged_before_k f p r m = before_k (formula_of f) p r (step_positive f) (fitting_row f r m).lead_small

-- the rows' parts of a unit come to less than a hundred hundredths
room : (f : Series) → ltb (over_rows percent (formula_of f).rows) 100 ≡ true
unfolding over_rows
room Bellard = refl
room Check = refl

pub rest : (f : Series) (p : ℕ) → RestBelowUnit is_charged (formula_of f) p (term_count (formula_of f) p)
unfolding Positive
rest f p =
    let F = formula_of f in
    rest_below F p (term_count F p) (step_positive f) (λ r m. positive f r m 1)
    (charged_before_k f p) (ltb-true (over_rows percent (formula_of f).rows) 100 (room f))
