-- Finite sums.
use Rattle.std.specs.Prelude.{ℕ, zero, suc, ◌+◌}

-- f first + f (first + 1) + .. + f (first + count - 1)
unfoldable pub sum : (ℕ → ℕ) → ℕ → ℕ → ℕ
sum f first zero = 0
sum f first (suc count) = sum f first count + f (first + count)
