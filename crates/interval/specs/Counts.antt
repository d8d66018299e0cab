-- K, a and b as the documents give them for the two formulas, beside the definitions that they follow from. Document 01, "The rows" and
-- "Closing"; document 02, slips 4 and 5.
use Rattle.std.specs.Prelude.{◌≡◌, cond, ℕ, ◌+◌, ◌*◌, ◌-◌, ◌/◌, ◌%◌, ◌≤◌, ltb}
use mathlib.Core.List.{Memᴰ}
use Rattle.series.specs.Series.{Formula, Row, Side, plus, minus, skipped, rise, term_count, on_side, over_rows}
use Rattle.series.specs.Bellard.{bellard}
use Rattle.series.specs.Check.{check}
use Rattle.series.specs.Names.{formula_of}
use Rattle.series.specs.declared.Series.{Series}
use Rattle.interval.specs.Interval.{is_charged, every_term, charges}

-- ---- the closed form

-- how many terms of a row are charged: those with step * k at most 4 n + l + 128
unfoldable pub charged_in : Formula → ℕ → Row → ℕ
charged_in F p r = rise p r / F.step + 1

-- how many of a row's first c terms are on a side: the even ones, (c + 1) / 2 of them, have the sign of term 0, and the odd ones, c / 2 of
-- them, that of term 1
unfoldable pub side_count : Formula → Side → Row → ℕ → ℕ
side_count F side r c = cond (on_side F side r 0) ((c + 1) / 2) 0 + cond (on_side F side r 1) (c / 2) 0

-- a or b of a run
unfoldable pub closed_charges : Formula → Side → ℕ → ℕ
closed_charges F side p = over_rows (λ r. side_count F side r (charged_in F p r)) F.rows

-- ---- as given

pub record CountsAsGiven : Type 0 where
  pub bellard_k : (p : ℕ) → term_count bellard p ≡ (4 * skipped p + 130) / 10 + 1
  pub check_k : (p : ℕ) → term_count check p ≡ (4 * skipped p + 130) / 4 + 1
  -- the charged terms of a row are its first ones, as many as that, and all of them stand before K
  pub first_ones : (f : Series) (p : ℕ) (r : Row) (k : ℕ) → is_charged (formula_of f) p r k ≡ ltb k (charged_in (formula_of f) p r)
  pub before_k : (f : Series) (p : ℕ) (r : Row) → Memᴰ r (formula_of f).rows → charged_in (formula_of f) p r ≤ term_count (formula_of f) p
  -- a and b of either formula in closed form
  pub closed : (f : Series) (side : Side) (p : ℕ)
      → charges is_charged (formula_of f) side p (term_count (formula_of f) p) ≡ closed_charges (formula_of f) side p
  -- K and 3 K - 2 for check runs
  pub check_a : (p : ℕ) → charges is_charged check plus p (term_count check p) ≡ term_count check p
  pub check_b : (p : ℕ) → charges is_charged check minus p (term_count check p) ≡ 3 * term_count check p - 2

-- a and b by the rule before slip 5
pub record EveryTermCounts : Type 0 where
  -- for even K, 7 K / 2 each
  pub bellard_even : (p K : ℕ) → K % 2 ≡ 0 → (side : Side) → charges every_term bellard side p K ≡ 7 * K / 2
  -- for odd K, 7 (K - 1) / 2, and 2 or 5
  pub bellard_odd_a : (p K : ℕ) → K % 2 ≡ 1 → charges every_term bellard plus p K ≡ 7 * (K - 1) / 2 + 2
  pub bellard_odd_b : (p K : ℕ) → K % 2 ≡ 1 → charges every_term bellard minus p K ≡ 7 * (K - 1) / 2 + 5
  -- K and 3 K for check runs
  pub check_a : (p K : ℕ) → charges every_term check plus p K ≡ K
  pub check_b : (p K : ℕ) → charges every_term check minus p K ≡ 3 * K
