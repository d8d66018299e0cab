-- Montgomery's reduction, in any base W: the upper word of a product with n.
-- Assumes nothing.
use Prim.Native.Nat.{ℕ, zero, ◌+◌, ◌*◌, ◌≤◌, ◌<◌}
use native.Mathlib.Nat.{mul-lt-mul_of_pos_right, lt_of_mul-lt-mul_right}
use native.Mathlib.Omega.{arith}

-- the upper word of a product with n is below n
pub upper_below : (W n h l q : ℕ) → q < W → zero < n → h * W + l ≤ q * n → h < n
upper_below W n h l q a b c = lt_of_mul-lt-mul_right W (omega (arith, mul-lt-mul_of_pos_right {k = n} a b))
