-- The numbers of a term in words of 64 bits: 4 n + 130, E, the step's multiples and N all fit, for each k below K: so the terms of a row
-- are worked in words.
-- Assumes nothing.
use Rattle.std.proofs.Common.{◌≡◌, ℕ, ◌+◌, ◌*◌, ◌/◌, ◌%◌, ◌^◌, ◌<◌, ◌≤◌, ap, arith, lit<, lit≤}
use Rattle.std.proofs.lemmas.Grind.{common_steps}
use Rattle.series.specs.Series.{Formula, Row, skipped, divisor, fall, term_count}
use Rattle.series.specs.Fitting.{Position, Fitting, Workable}
use Rattle.series.specs.Squarings.{Short}
use Rattle.series.specs.Names.{formula_of, numbers_of}
use Rattle.series.specs.declared.Series.{Series}
use Rattle.series.specs.declared.Series.TheVariants.{Bellard, Check}

pub last_small : (f : Series) → (formula_of f).last ≤ 2 ^ 60
last_small Bellard = lit≤ tt
last_small Check = lit≤ tt

pub step_positive : (f : Series) → 0 < (formula_of f).step
step_positive Bellard = lit< tt
step_positive Check = lit< tt

-- k falls no further than 4 n + 130
fall_small : (F : Formula) (p k : ℕ) → k < term_count F p → fall F k ≤ 4 * skipped p + 130
unfolding term_count
fall_small F p k h = grind (arith, common_steps)

-- K fits with room to spare
pub count_small : (f : Series) (p : ℕ) → Position (formula_of f) p → term_count (formula_of f) p < 2 ^ 63
unfolding term_count
count_small f p w = grind (arith, common_steps, last_small)

-- K grows with p
pub count_grows : (F : Formula) (p p' : ℕ) → 0 < F.step → p ≤ p' → term_count F p ≤ term_count F p'
unfolding term_count
count_grows F p p' s h = grind (arith, common_steps)

divisor_fits : (f : Series) (p : ℕ) (r : Row) (k : ℕ) → Position (formula_of f) p → Fitting (formula_of f) r → k < term_count (formula_of f) p
    → divisor r k < 2 ^ 63
divisor_fits f p r k w t h =
    grind (arith, common_steps, count_grows, step_positive)

divisor_odd : (F : Formula) (r : Row) (k : ℕ) → Fitting F r → divisor r k % 2 ≡ 1
divisor_odd F r k t = odd r.m r.j t.m_even t.j_odd
  where
    odd : (m j : ℕ) → m % 2 ≡ 0 → j % 2 ≡ 1 → (m * k + j) % 2 ≡ 1
    odd m j e o =
        let half : m / 2 * 2 ≡ m = omega arith in
        omega (arith, ap (λ t. t * k) half)

-- ---- the terms of a row, as the code has their numbers

pub workable : (f : Series) (p : ℕ) (r : Row) (end : ℕ) → Position (formula_of f) p → Fitting (formula_of f) r → end ≤ term_count (formula_of f) p
    → Workable (numbers_of (formula_of f) p r) end
workable f p r end w t h = record {
  end_fits = grind (arith, count_small);
  fall_fits = λ k l. omega (arith, fall_small (formula_of f) p k (omega (arith, l)), w.high, last_small f);
  odd = λ k. divisor_odd (formula_of f) r k t;
  small = λ k l. divisor_fits f p r k w t (omega (arith, l));
}

-- no E - 64 has more than 63 bits
pub short : (f : Series) (p : ℕ) (r : Row) → p ≤ (formula_of f).last → Fitting (formula_of f) r → Short p r
short f p r h t = grind (arith, common_steps, last_small)
