-- One term: its size is the rest of its exact value rounded down, and D times the exact value lies within one unit.
-- Assumes nothing.
use mathlib.Core.Path.{◌≡◌, refl, sym, ap, ◌∙◌}
use mathlib.Core.Bool.{Bool, true, false, cond}
use Prim.Native.Nat.{ℕ, ◌+◌, ◌*◌, ◌-◌, ◌/◌, ◌%◌, ◌^◌, ◌≤◌, ◌<◌}
use native.Mathlib.Nat.{add-zero, mul-div-mul_right, div-eq_of_lt, div-add-mod, mul-div-le, lt-mul-div-succ, mul-le-mul_left, mul-le-mul_right, le_of_mul-le-mul_left, le_of_lt}
use native.Mathlib.Omega.{arith}
use borrow.Author.Tests.{leb-true, leb-false}
use lib.Pow.{pow_pos, pow-lt, pow-add}
use lib.Dec.{leb}
use Rattle.series.specs.Series.{Row, Formula, modulus, size, divisor, rise, fall}

-- the exact term rounded down
abbrev pub floor_of : Formula → ℕ → Row → ℕ → ℕ
floor_of F p r k = 2 ^ rise p r / (divisor r k * 2 ^ fall F k)

-- 2 ^ a / (n 2 ^ b) for b at most a, and for b above a
whole : (n a b : ℕ) → b ≤ a → 2 ^ a / (n * 2 ^ b) ≡ 2 ^ (a - b) / n
whole n a b h =
    let e : (a - b) + b ≡ a = omega arith in
    ap (λ (x : ℕ). 2 ^ x / (n * 2 ^ b)) (sym e)
    ∙ ap (λ (x : ℕ). x / (n * 2 ^ b)) (pow-add 2 (a - b) b)
    ∙ mul-div-mul_right (2 ^ (a - b)) n (pow_pos b)

below : (n a b : ℕ) → 0 < n → a < b → 2 ^ a / (n * 2 ^ b) ≡ 0
below n a b p h =
    let l = pow-lt h in
    let m = mul-le-mul_right {m = 1} {n = n} (2 ^ b) p in
    div-eq_of_lt (omega (arith, l, m))

-- the size is the exact term rounded down, modulo 2 ^ 128
pub size_floor : (F : Formula) (p : ℕ) (r : Row) (k : ℕ) → 0 < divisor r k → size F p r k ≡ floor_of F p r k % modulus
unfolding size
size_floor F p r k pos = go (leb (fall F k) (rise p r)) refl
  where
    go : (b : Bool) → leb (fall F k) (rise p r) ≡ b → cond (leb (fall F k) (rise p r)) (2 ^ (rise p r - fall F k) / divisor r k % modulus) 0 ≡ floor_of F p r k % modulus
    go true e = rw e (ap (λ (x : ℕ). x % modulus) (sym (whole (divisor r k) (rise p r) (fall F k) (leb-true _ _ e))))
    go false e = rw e (ap (λ (x : ℕ). x % modulus) (sym (below (divisor r k) (rise p r) (fall F k) pos (leb-false _ _ e))))

-- A / W rounded down, and D A / W where it is whole
module _ (A W D : ℕ) (pos : 0 < W) (exact : D * A % W ≡ 0) where
  x_is : W * (D * A / W) ≡ D * A
  x_is = sym (add-zero _) ∙ ap (λ (n : ℕ). W * (D * A / W) + n) (sym exact) ∙ div-add-mod (D * A) W

  pub quotient_low : D * (A / W) ≤ D * A / W
  quotient_low =
      let l = mul-le-mul_left D (mul-div-le A W) in
      le_of_mul-le-mul_left {k = W} (omega (arith, l, x_is)) pos

  pub quotient_high : D * A / W ≤ D * (A / W + 1)
  quotient_high =
      let l = mul-le-mul_left D (le_of_lt (lt-mul-div-succ A pos)) in
      le_of_mul-le-mul_left {k = W} (omega (arith, l, x_is)) pos
