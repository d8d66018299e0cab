-- The squarings of a range of terms, one term at a time: none takes more than 62, and a loop that adds modulo 2 ^ 128 comes to their number.
-- Assumes nothing.
use Rattle.std.proofs.Common.{◌≡◌, ℕ, ◌+◌, ◌-◌, ◌*◌, ◌/◌, ◌%◌, ◌^◌, ◌<◌, ◌≤◌, Bool, true, false, cond, leb, sym, refl, ap, ◌∙◌, ap₂, le_trans, lt_trans, add-zero, mod-eq_of_lt, zero-add, arith, lit<}
use Rattle.std.proofs.lemmas.Grind.{common_steps}
use Rattle.algebra.specs.Bits.{bit_length}
use Rattle.algebra.specs.Sum.{sum}
use Rattle.algebra.proofs.Bits.{length_below}
use Rattle.algebra.proofs.Sums.{sum_le, sum_same, sum_split, sum_none, sum_next}
use Rattle.series.specs.Series.{Formula, Row, modulus, rise, fall}
use Rattle.series.specs.Squarings.{squarings, range_squarings, Short}

module _ (F : Formula) (p : ℕ) (r : Row) where
  pub none : (k : ℕ) → rise p r < fall F k + 128 → squarings F p r k ≡ 0
  unfolding squarings
  none k l = grind (arith, common_steps)

  few : Short p r → (k : ℕ) → squarings F p r k ≤ 62
  unfolding squarings
  few h k = go (leb (fall F k + 128) (rise p r))
    where
      go : (t : Bool) → cond t (bit_length (rise p r - fall F k - 64) - 1) 0 ≤ 62
      go true = let l = length_below (rise p r - fall F k - 64) 63 (omega arith) in omega (arith, l)
      go false = omega arith

  pub at_most : Short p r → (first count : ℕ) → range_squarings F p r first count ≤ 62 * count
  unfolding range_squarings
  at_most h first count =
      le_trans (sum_le (squarings F p r) (λ k. 62) first count (λ k l u. few h k))
      (omega (arith, sum_same (λ k. 62) 62 first count (λ k l u. refl)))

-- ---- as a loop meets them that adds modulo 2 ^ 128

module _ (F : Formula) (p : ℕ) (r : Row) (first : ℕ) where
  pub none_yet : (count : ℕ) → count ≡ 0 → 0 ≡ range_squarings F p r first count % modulus
  unfolding range_squarings
  none_yet count e = grind (arith, common_steps, sum_none)

  -- one term, or none
  pub one_alone : (count q : ℕ) → count ≡ 1 → q < 2 ^ 64 → q ≡ squarings F p r first → q ≡ range_squarings F p r first count % modulus
  unfolding range_squarings
  one_alone count q c h e =
      sym (mod-eq_of_lt (lt_trans h (lit< tt)))
      ∙ ap (λ (n : ℕ). n % modulus) (e ∙ ap (squarings F p r) (sym (add-zero first)) ∙ sym (zero-add _) ∙ ap (λ (n : ℕ). n + squarings F p r (first + 0)) (sym (sum_none (squarings F p r) first)) ∙ sym (sum_next (squarings F p r) first 0) ∙ ap (sum (squarings F p r) first) (sym c))

  -- two ranges
  both : (c d : ℕ)
      → (range_squarings F p r first c % modulus + range_squarings F p r (first + c) d % modulus) % modulus ≡ range_squarings F p r first (c + d) % modulus
  unfolding range_squarings
  both c d = grind (arith, common_steps, sum_split)

  -- the terms from k on, after those from `first` up to it
  pub and_counts : (k d s q t : ℕ) → first ≤ k → s ≡ range_squarings F p r first (k - first) % modulus → q ≡ range_squarings F p r k d % modulus
      → t ≡ (s + q) % modulus → t ≡ range_squarings F p r first (k + d - first) % modulus
  and_counts k d s q t l is q-is e =
      let from : first + (k - first) ≡ k = omega arith in
      let all : k - first + d ≡ k + d - first = omega arith in
      e ∙ ap₂ (λ (x y : ℕ). (x + y) % modulus) is (q-is ∙ ap (λ (n : ℕ). range_squarings F p r n d % modulus) (sym from)) ∙ both (k - first) d
      ∙ ap (λ (n : ℕ). range_squarings F p r first n % modulus) all

  pub halved_count : (count : ℕ)
      → (range_squarings F p r first (count / 2) % modulus + range_squarings F p r (first + count / 2) (count - count / 2) % modulus) % modulus
      ≡ range_squarings F p r first count % modulus
  halved_count count =
      let all : count / 2 + (count - count / 2) ≡ count = omega arith in
      both (count / 2) (count - count / 2) ∙ ap (λ (n : ℕ). range_squarings F p r first n % modulus) all

  -- a count of so many terms is below 2 ^ 128
  pub exact : (count s : ℕ) → Short p r → count < 2 ^ 63 → s ≡ range_squarings F p r first count % modulus → s ≡ range_squarings F p r first count
  exact count s h l e = grind (arith, common_steps, at_most)
