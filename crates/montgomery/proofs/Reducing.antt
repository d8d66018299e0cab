-- y modulo n, for y below 2 * n, as the smaller of y and of y - n modulo 2^64.
-- Assumes nothing.
use Rattle.std.proofs.Common.{◌≡◌, ℕ, ◌+◌, ◌*◌, ◌%◌, ◌^◌, ◌<◌, ◌≤◌, min, Bool, true, false, ltb, refl, arith, ltb-false, ltb-true}
use Rattle.algebra.proofs.Cong.{is-%}

module _ (y n z : ℕ) (l : y < 2 * n) (s : n < 2 ^ 63) (b : z < 2 ^ 64) (w : (z + n) % 2 ^ 64 ≡ y) where
  -- y - n wraps where y is below n, and has its top bit set there
  pub ordered : (z < 2 ^ 63 → z ≤ y) × (2 ^ 63 ≤ z → y ≤ z)
  ordered = (λ h. omega arith, λ h. omega arith)

  pub reduced : (r : ℕ) → r ≡ min y z → r ≡ y % n
  reduced r e = case (ltb y n) refl
    where
      case : (t : Bool) → ltb y n ≡ t → r ≡ y % n
      case true h = let p = ltb-true y n h in is-% (omega (arith, p)) (record { k = 0; j = 0; eq = omega (arith, p) })
      case false h = let p = ltb-false y n h in is-% (omega (arith, p)) (record { k = 1; j = 0; eq = omega (arith, p) })
