-- The exact sum of the first K terms of every row against the sum of their sizes: D for each charged term, on each side.
-- Assumes nothing.
use mathlib.Core.Path.{◌≡◌, ap, ◌∙◌, subst}
use mathlib.Core.Bool.{Bool, true, false, cond}
use mathlib.Core.List.{Memᴰ}
use Prim.Native.Nat.{ℕ, ◌+◌, ◌*◌, ◌/◌, ◌^◌, ◌≤◌, ◌<◌}
use native.Mathlib.Nat.{mod-add-div, mul-pos, add-zero}
use native.Mathlib.Omega.{arith}
use lib.Pow.{pow_pos}
use Rattle.series.specs.Series.{Row, Formula, Side, modulus, size, divisor, rise, fall, side_sum}
use Rattle.interval.specs.Exact.{exact_times, MakesWhole}
use Rattle.interval.specs.Interval.{Rule, charges, uncharged_times, Positive}
use Rattle.series.proofs.Sides.{side_le, side_add, side_mul}
use Rattle.interval.proofs.Terms.{floor_of, size_floor, quotient_low, quotient_high}

-- how often 2 ^ 128 was taken out of a term
abbrev pub carry : Formula → ℕ → Row → ℕ → ℕ
carry F p r k = floor_of F p r k / modulus

at_least : (a x : ℕ) → x ≤ a + x
at_least a x = omega arith

module _ (F : Formula) (p : ℕ) (positive : Positive F) where
  parts : (r : Row) → Memᴰ r F.rows → (k : ℕ) → size F p r k + modulus * carry F p r k ≡ floor_of F p r k
  unfolding Positive
  parts r m k = ap (λ (x : ℕ). x + modulus * carry F p r k) (size_floor F p r k (positive r m k)) ∙ mod-add-div (floor_of F p r k) modulus

  module _ (D K : ℕ) (whole : MakesWhole F p K D) where
    term_low : (r : Row) → Memᴰ r F.rows → (k : ℕ) → 0 ≤ k → k < 0 + K → D * (size F p r k + modulus * carry F p r k) ≤ exact_times F p D r k
    unfolding MakesWhole Positive exact_times
    term_low r m k l u =
        rw (parts r m k) (quotient_low (2 ^ rise p r) (divisor r k * 2 ^ fall F k) D (mul-pos (positive r m k) (pow_pos (fall F k))) (whole r m k (omega arith)))

    term_high : (R : Rule) (r : Row) → Memᴰ r F.rows → (k : ℕ) → 0 ≤ k → k < 0 + K → exact_times F p D r k ≤ D * (size F p r k + modulus * carry F p r k + cond (R F p r k) 1 0) + uncharged_times R F p D r k
    unfolding MakesWhole Positive exact_times uncharged_times
    term_high R r m k l u = go (R F p r k)
      where
        x : ℕ
        x = exact_times F p D r k

        go : (b : Bool) → x ≤ D * (size F p r k + modulus * carry F p r k + cond b 1 0) + cond b 0 x
        go true = rw (parts r m k, add-zero) (quotient_high (2 ^ rise p r) (divisor r k * 2 ^ fall F k) D (mul-pos (positive r m k) (pow_pos (fall F k))) (whole r m k (omega arith)))
        go false = at_least (D * (size F p r k + modulus * carry F p r k + 0)) x

    -- on each side, the exact sum of the first K terms lies from D times the sum of the sizes to that and D for each term
    pub head_low : (side : Side) → D * (side_sum F side (size F p) 0 K + modulus * side_sum F side (carry F p) 0 K) ≤ side_sum F side (exact_times F p D) 0 K
    head_low side =
        let e₁ = side_mul F side D (λ r k. size F p r k + modulus * carry F p r k) 0 K in
        let e₂ = side_add F side (size F p) (λ r k. modulus * carry F p r k) 0 K in
        let e₃ = side_mul F side modulus (carry F p) 0 K in
        subst (λ (x : ℕ). x ≤ side_sum F side (exact_times F p D) 0 K)
        (e₁ ∙ ap (λ (x : ℕ). D * x) (e₂ ∙ ap (λ (x : ℕ). side_sum F side (size F p) 0 K + x) e₃))
        (side_le F side (λ r k. D * (size F p r k + modulus * carry F p r k)) (exact_times F p D) 0 K term_low)

    pub head_high : (R : Rule) (side : Side)
        → side_sum F side (exact_times F p D) 0 K ≤ D * (side_sum F side (size F p) 0 K + modulus * side_sum F side (carry F p) 0 K + charges R F side p K) + side_sum F side (uncharged_times R F p D) 0 K
    unfolding charges
    head_high R side =
        let one : Row → ℕ → ℕ = λ r k. cond (R F p r k) 1 0 in
        let e₀ = side_add F side (λ r k. D * (size F p r k + modulus * carry F p r k + one r k)) (uncharged_times R F p D) 0 K in
        let e₁ = side_mul F side D (λ r k. size F p r k + modulus * carry F p r k + one r k) 0 K in
        let e₂ = side_add F side (λ r k. size F p r k + modulus * carry F p r k) one 0 K in
        let e₃ = side_add F side (size F p) (λ r k. modulus * carry F p r k) 0 K in
        let e₄ = side_mul F side modulus (carry F p) 0 K in
        subst (λ (x : ℕ). side_sum F side (exact_times F p D) 0 K ≤ x)
        (e₀ ∙ ap (λ (y : ℕ). y + side_sum F side (uncharged_times R F p D) 0 K) (e₁ ∙ ap (λ (x : ℕ). D * x)
        (e₂ ∙ ap (λ (x : ℕ). x + side_sum F side one 0 K) (e₃ ∙ ap (λ (x : ℕ). side_sum F side (size F p) 0 K + x) e₄))))
        (side_le F side (exact_times F p D) (λ r k. D * (size F p r k + modulus * carry F p r k + one r k) + uncharged_times R F p D r k) 0 K (term_high R))

-- The two ends in plain numbers: X⁺ and X⁻ are the exact sums of the two sides, H and T their parts below and from K on, V the
-- uncharged terms, Q⁺ and Q⁻ the sums of the sizes, c⁺ and c⁻ the carries.
module _ (D M total a b X⁺ X⁻ H⁺ H⁻ T⁺ T⁻ V⁺ V⁻ Q⁺ Q⁻ c⁺ c⁻ u v : ℕ)
    (x⁺ : X⁺ ≡ H⁺ + T⁺) (x⁻ : X⁻ ≡ H⁻ + T⁻) (t⁺ : V⁺ + T⁺ < D) (t⁻ : V⁻ + T⁻ < D)
    (l⁺ : D * (Q⁺ + M * c⁺) ≤ H⁺) (l⁻ : D * (Q⁻ + M * c⁻) ≤ H⁻)
    (h⁺ : H⁺ ≤ D * (Q⁺ + M * c⁺ + a) + V⁺) (h⁻ : H⁻ ≤ D * (Q⁻ + M * c⁻ + b) + V⁻)
    (e : Q⁺ + M * v ≡ Q⁻ + total + M * u) where
  pub low_side : D * total + X⁻ + (u + c⁺) * (D * M) ≤ X⁺ + (v + c⁻) * (D * M) + D * (b + 1)
  low_side = let f = ap (λ (n : ℕ). D * n) e in omega (arith, f)

  pub high_side : X⁺ + (v + c⁻) * (D * M) ≤ X⁻ + (u + c⁺) * (D * M) + D * (total + a + 1)
  high_side = let f = ap (λ (n : ℕ). D * n) e in omega (arith, f)
