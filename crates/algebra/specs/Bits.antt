-- The bit length of a number: how many digits it has in base 2. 0 has none.
use Rattle.std.specs.Prelude.{ℕ, zero, suc, ◌/◌}

-- of the lowest d digits of x, those up to the highest that is set: it is halved until nothing is left
unfoldable pub bits_in : ℕ → ℕ → ℕ
bits_in zero x = 0
bits_in (suc d) zero = 0
bits_in (suc d) (suc x) = suc (bits_in d (suc x / 2))

-- x has no more than x digits
unfoldable pub bit_length : ℕ → ℕ
bit_length x = bits_in x x
