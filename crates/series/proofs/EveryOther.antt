-- Every other term of a row has one sign: a range of pairs is two sums, each with a sign.
-- Assumes nothing.
use Rattle.std.proofs.Common.{◌≡◌, ℕ, ◌+◌, ◌*◌, ◌%◌, ◌<◌, Bool, true, false, cond, not, refl, ap, ◌∙◌, ap₂, mod-lt, arith}
use Rattle.std.proofs.lemmas.Grind.{common_steps}
use lib.IntN.{sub_ℕ}
use Rattle.algebra.specs.Sum.{sum}
use Rattle.algebra.specs.Whole.{residue}
use Rattle.algebra.proofs.Cong.{Mod, rem, of_eq, refl_mod, symm, trans, plus}
use Rattle.algebra.proofs.Sums.{sum_ext, sum_zero, sum_pairs}
use Rattle.series.specs.Series.{Formula, Row, Side, modulus, is_added, on_side, row_sum, range_sum, size}
use Rattle.series.specs.Series as series
use Rattle.series.specs.Results.{signed_by}
use Rattle.series.proofs.Sides.{same_sign}
use Rattle.series.proofs.RangeSums.{residue_of, residue_sum}

-- ---- a number with a sign, reduced or not, beside what is on the other side

abbrev signed_by_lem : (m : ℕ) → Bool → ℕ → ℕ
signed_by_lem m added v = cond added v (residue m (sub_ℕ 0 v))

one_sign : (m x : ℕ) (b : Bool) → 0 < m → Mod m (cond (not b) x 0 + signed_by_lem m b (x % m)) (cond b x 0)
one_sign m x true h = trans (of_eq {b = x % m} (omega arith)) (rem m x)
one_sign m x false h = trans (plus (symm (rem m x)) (refl_mod (residue m (sub_ℕ 0 (x % m))))) (residue_sum m 0 (x % m) h)

two_signs : (m x y : ℕ) (b c : Bool) → 0 < m
    → (signed_by_lem m b (x % m) + signed_by_lem m c (y % m)) % m ≡ residue m (sub_ℕ (cond b x 0 + cond c y 0) (cond (not b) x 0 + cond (not c) y 0))
two_signs m x y b c h =
    let s = signed_by_lem m b (x % m) in
    let u = signed_by_lem m c (y % m) in
    residue_of m (cond b x 0 + cond c y 0) (cond (not b) x 0 + cond (not c) y 0) ((s + u) % m) (mod-lt (s + u) h)
    (trans (plus (refl_mod (cond (not b) x 0 + cond (not c) y 0)) (rem m (s + u)))
    (trans (of_eq {b = cond (not b) x 0 + s + (cond (not c) y 0 + u)} (omega arith)) (plus (one_sign m x b h) (one_sign m y c h))))

-- ---- a row's terms

sum_cond : (b : Bool) (g : ℕ → ℕ) (c : ℕ) → sum (λ i. cond b (g i) 0) 0 c ≡ cond b (sum g 0 c) 0
sum_cond true g c = refl
sum_cond false g c = sum_zero (λ i. 0) 0 c (λ i. refl)

module _ (F : Formula) (p : ℕ) (r : Row) (k c : ℕ) where
  -- c terms, each two after the one before, from j on
  abbrev pub others : ℕ → ℕ
  others j = sum (λ i. size F p r (j + 2 * i)) 0 c

  same_side : (side : Side) (j i : ℕ) → on_side F side r (j + 2 * i) ≡ on_side F side r j
  unfolding on_side
  same_side series.plus j i = same_sign F r (j + 2 * i) j (omega arith)
  same_side series.minus j i = ap not (same_sign F r (j + 2 * i) j (omega arith))

  side_of_lem : (side : Side) (j : ℕ) → sum (λ i. cond (on_side F side r (j + 2 * i)) (size F p r (j + 2 * i)) 0) 0 c ≡ cond (on_side F side r j) (others j) 0
  side_of_lem side j =
      sum_ext (λ i. cond (on_side F side r (j + 2 * i)) (size F p r (j + 2 * i)) 0) (λ i. cond (on_side F side r j) (size F p r (j + 2 * i)) 0) 0 c
      (λ i l u. ap (λ (b : Bool). cond b (size F p r (j + 2 * i)) 0) (same_side side j i))
      ∙ sum_cond (on_side F side r j) (λ i. size F p r (j + 2 * i)) c

  row_of : (side : Side) → row_sum F side r (size F p r) k (2 * c) ≡ cond (on_side F side r k) (others k) 0 + cond (on_side F side r (k + 1)) (others (k + 1)) 0
  unfolding row_sum
  row_of side =
      sum_pairs (λ j. cond (on_side F side r j) (size F p r j) 0) k c ∙ ap₂ ◌+◌ (side_of_lem side k) (side_of_lem side (k + 1))

  pub alternating : (x y t : ℕ) → x ≡ others k % modulus → y ≡ others (k + 1) % modulus
      → t ≡ (signed_by (is_added F r k) x + signed_by (is_added F r (k + 1)) y) % modulus → t ≡ range_sum F p r k (2 * c)
  unfolding range_sum on_side
  alternating x y t ex ey e = grind (arith, common_steps, two_signs, row_of)
