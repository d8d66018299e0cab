-- For any list of rows whose N are at least 1 and whose uncharged terms stay below a unit: the exact sum at every length from K on
-- lies from low to high modulo 2 ^ 128, and where low and high share a quotient, the exact sum has its lowest digits.
-- Assumes nothing.
use mathlib.Core.Path.{◌≡◌, refl, sym, ap, ◌∙◌, subst}
use Prim.Native.Nat.{ℕ, suc, ◌+◌, ◌*◌, ◌-◌, ◌^◌, ◌≤◌, ◌<◌}
use native.Mathlib.Nat.{zero-add, lt_of_mul-lt-mul_right, mul-le-mul_left, mul-lt-mul_of_pos_left, mul-pos, one-le-pow}
use native.Mathlib.Omega.{arith}
use lib.Pow.{pow_pos}
use lib.IntN.{ℤ, pos, sub_ℕ, neg_ℤ, ◌*ℤ◌}
use Rattle.algebra.specs.Whole.{residue, quotient}
use Rattle.series.specs.Series.{Formula, Side, plus, minus, modulus, size, side_sum, sizes_sum}
use Rattle.digits.specs.Digits.{unit_at, Settles, hex_text, low_digits}
use Rattle.interval.specs.Exact.{exact_times, exact_sum, MakesWhole}
use Rattle.interval.specs.Interval.{Rule, charges, uncharged_times, Positive, RestBelowUnit, low, high, LiesFrom}
use Rattle.series.proofs.Sides.{side_split}
use Rattle.digits.proofs.Settled.{split_modulus}
use Rattle.interval.proofs.Bound.{carry, head_low, head_high, low_side, high_side}
use Rattle.algebra.proofs.Integers.{Diff, diff_sub, diff_add, diff_neg, diff_mul_pos, diff_pos_mul, diff_le, diff_self, above, beneath, floor_low, floor_high, residue_is, residue_eq, turns, back}

-- the exact sum, as the difference of its two sides, lies from low to high, in naturals
pub record Near (D M total a b X⁺ X⁻ : ℕ) : Type 0 where
  pub y : ℕ
  pub z : ℕ
  pub from : D * total + X⁻ + y * (D * M) ≤ X⁺ + z * (D * M) + D * (b + 1)
  pub upto : X⁺ + z * (D * M) ≤ X⁻ + y * (D * M) + D * (total + a + 1)

group_low : (t X⁻ Y X⁺Z c : ℕ) → t + X⁻ + Y ≤ X⁺Z + c → t + (X⁻ + Y) ≤ X⁺Z + c
group_low t X⁻ Y X⁺Z c h = omega arith

group_high : (x X⁻ Y c D : ℕ) → x ≤ X⁻ + Y + c → x + D * 0 ≤ c + (X⁻ + Y)
group_high x X⁻ Y c D h = omega arith

shorter : (F : Formula) (p D : ℕ) {K L : ℕ} → K ≤ L → MakesWhole F p L D → MakesWhole F p K D
unfolding MakesWhole
shorter F p D h whole r m k l = whole r m k (omega arith)

module _ (R : Rule) (F : Formula) (p K : ℕ) (positive : Positive F) (tail : RestBelowUnit R F p K) where
  pub near : (D L : ℕ) → 0 < D → K ≤ L → MakesWhole F p L D
      → Near D modulus (sizes_sum F p K) (charges R F plus p K) (charges R F minus p K) (side_sum F plus (exact_times F p D) 0 L) (side_sum F minus (exact_times F p D) 0 L)
  unfolding RestBelowUnit sizes_sum
  near D L d h whole =
      let x = exact_times F p D in
      let rest = L - K in
      let e : K + rest ≡ L = omega arith in
      let w = shorter F p D h whole in
      let whole' = subst (λ (n : ℕ). MakesWhole F p n D) (sym e) whole in
      let cut : (side : Side) → side_sum F side x 0 L ≡ side_sum F side x 0 K + side_sum F side x K rest =
      λ side. ap (side_sum F side x 0) (sym e) ∙ side_split F side x 0 K rest ∙ ap (λ (n : ℕ). side_sum F side x 0 K + side_sum F side x n rest) (zero-add K) in
      let t : (side : Side) → side_sum F side (uncharged_times R F p D) 0 K + side_sum F side x K rest < D = tail D rest d whole' in
      let Q⁺ = side_sum F plus (size F p) 0 K in
      let Q⁻ = side_sum F minus (size F p) 0 K in
      let q = sub_ℕ Q⁺ Q⁻ in
      let r = residue_is modulus q (pow_pos 128) (diff_sub Q⁺ Q⁻) in
      let c⁺ = side_sum F plus (carry F p) 0 K in
      let c⁻ = side_sum F minus (carry F p) 0 K in
      let a = charges R F plus p K in
      let b = charges R F minus p K in
      let l = head_low F p positive D K w in
      let u = head_high F p positive D K w R in
      record {
        y = back modulus q + c⁺;
        z = turns modulus q + c⁻;
        from = low_side D modulus (residue modulus q) a b _ _ _ _ _ _ _ _ Q⁺ Q⁻ c⁺ c⁻ (back modulus q) (turns modulus q) (cut plus) (cut minus) (t plus) (t minus) (l plus) (l minus) (u plus) (u minus) r;
        upto = high_side D modulus (residue modulus q) a b _ _ _ _ _ _ _ _ Q⁺ Q⁻ c⁺ c⁻ (back modulus q) (turns modulus q) (cut plus) (cut minus) (t plus) (t minus) (l plus) (l minus) (u plus) (u minus) r;
      }

  pub lies_from : (D L : ℕ) → 0 < D → K ≤ L → MakesWhole F p L D
      → LiesFrom D (low R F p K (sizes_sum F p K)) (high R F p K (sizes_sum F p K)) (exact_sum F p D L)
  unfolding LiesFrom low high exact_sum
  lies_from D L d h whole =
      let n = near D L d h whole in
      let X⁺ = side_sum F plus (exact_times F p D) 0 L in
      let X⁻ = side_sum F minus (exact_times F p D) 0 L in
      let total = sizes_sum F p K in
      let a = charges R F plus p K in
      let b = charges R F minus p K in
      let z = sub_ℕ n.y n.z in
      let shifted = diff_add (sub_ℕ X⁺ X⁻) (neg_ℤ (z *ℤ pos (D * modulus))) (diff_sub X⁺ X⁻) (diff_neg _ (diff_mul_pos z (D * modulus) (diff_sub n.y n.z))) in (
        z,
        diff_le _ _ (diff_pos_mul D (sub_ℕ total (b + 1)) (diff_sub total (b + 1))) shifted (group_low _ _ _ _ _ n.from),
        diff_le _ _ shifted (diff_pos_mul D (pos (total + a + 1)) {a = total + a + 1} {b = 0} (omega arith)) (group_high _ _ _ _ D n.upto),
      )

-- two quotients rounded down by U of numbers that lie in one stretch of U: they differ by what was taken off
same_quotient : (U m s t s' t' y z X⁺ X⁻ : ℕ) → s * U + X⁻ + y * (m * U) ≤ X⁺ + z * (m * U) + t * U → X⁺ + z * (m * U) + t * U < X⁻ + y * (m * U) + suc s * U
    → s' * U + X⁻ ≤ X⁺ + t' * U → X⁺ + t' * U < X⁻ + suc s' * U → s' + t + m * z ≡ s + t' + m * y
same_quotient U m s t s' t' y z X⁺ X⁻ l h l' h' =
    let up : (s + t' + m * y) * U < suc (s' + t + m * z) * U = omega arith in
    let down : (s' + t + m * z) * U < suc (s + t' + m * y) * U = omega arith in
    let u = lt_of_mul-lt-mul_right U up in
    let v = lt_of_mul-lt-mul_right U down in
    omega (arith, u, v)

-- where low and high have the same quotient by W, with 2 ^ 128 = m W, the quotient of X by D W leaves the same modulo m
module _ (D m W total a b X⁺ X⁻ : ℕ) (Q : ℤ) (d : 0 < D) (w : 0 < W) (m⁺ : 0 < m) (M : ℕ) (M-is : M ≡ m * W)
    (near : Near D M total a b X⁺ X⁻)
    (lo : quotient (sub_ℕ total (b + 1)) W ≡ Q) (hi : quotient (pos (total + a + 1)) W ≡ Q) where
  scaled : (s t : ℕ) → Diff Q s t → s * W + (b + 1) ≤ total + t * W → total + a + 1 + t * W < 0 + suc s * W
      → residue m (quotient (sub_ℕ X⁺ X⁻) (D * W)) ≡ residue m Q
  scaled s t dq l h =
      let X = sub_ℕ X⁺ X⁻ in
      let U = D * W in
      let u = mul-pos d w in
      let q' = quotient X U in
      let s' = above q' in
      let t' = beneath q' in
      let fl = floor_low X U u (diff_sub X⁺ X⁻) (diff_self q') in
      let fh = floor_high X U u (diff_sub X⁺ X⁻) (diff_self q') in
      let lD = mul-le-mul_left D l in
      let hD = mul-lt-mul_of_pos_left h d in
      let f = subst (λ (n : ℕ). D * total + X⁻ + near.y * (D * n) ≤ X⁺ + near.z * (D * n) + D * (b + 1)) M-is near.from in
      let g = subst (λ (n : ℕ). X⁺ + near.z * (D * n) ≤ X⁻ + near.y * (D * n) + D * (total + a + 1)) M-is near.upto in
      residue_eq m q' Q near.z near.y m⁺ (diff_self q') dq
      (same_quotient U m s t s' t' near.y near.z X⁺ X⁻ (omega (arith, f, lD)) (omega (arith, g, hD)) fl fh)

  pub settles : residue m (quotient (sub_ℕ X⁺ X⁻) (D * W)) ≡ residue m Q
  settles =
      let s = above Q in
      let t = beneath Q in
      let dl = subst (λ (q : ℤ). Diff q s t) (sym lo) (diff_self Q) in
      let dh = subst (λ (q : ℤ). Diff q s t) (sym hi) (diff_self Q) in
      let top : Diff (pos (total + a + 1)) (total + a + 1) 0 = omega arith in
      scaled s t (diff_self Q)
      (floor_low (sub_ℕ total (b + 1)) W w (diff_sub total (b + 1)) dl)
      (floor_high (pos (total + a + 1)) W w top dh)

-- the lowest d digits of X / (D * 2 ^ (128 - 4 d)) are those of the quotient that low and high share
pub shared_digits : (R : Rule) (F : Formula) (p K : ℕ) → Positive F → RestBelowUnit R F p K
    → (d : ℕ) → Settles (low R F p K (sizes_sum F p K)) (high R F p K (sizes_sum F p K)) d
    → (D L : ℕ) → 0 < D → K ≤ L → MakesWhole F p L D
    → low_digits d (quotient (exact_sum F p D L) (D * unit_at d)) ≡ low_digits d (quotient (low R F p K (sizes_sum F p K)) (unit_at d))
unfolding Settles low high exact_sum low_digits
shared_digits R F p K positive rest d s D L dp h whole =
    let X⁺ = side_sum F plus (exact_times F p D) 0 L in
    let X⁻ = side_sum F minus (exact_times F p D) 0 L in
    let total = sizes_sum F p K in
    let a = charges R F plus p K in
    let b = charges R F minus p K in
    ap (hex_text d)
    (settles D (16 ^ d) (unit_at d) total a b X⁺ X⁻ (quotient (sub_ℕ total (b + 1)) (unit_at d)) dp (pow_pos (128 - 4 * d))
    (one-le-pow d 16 (omega arith)) modulus (split_modulus d s.1)
    (near R F p K positive rest D L dp h whole) refl (sym s.2))
