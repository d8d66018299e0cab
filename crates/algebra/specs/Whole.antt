-- Whole numbers, those below 0 included: the library's ℤ, with a quotient that rounds down and the remainder that goes with it.
use Rattle.std.specs.Prelude.{Bool, false, ℕ, ◌-◌, ◌/◌, ◌%◌, eqb, ℤ, pos, negsuc}

-- the quotient by m, rounded down: that of -1 by 16 is -1. (`negsuc n` is -1 - n.)
abbrev pub quotient : ℤ → ℕ → ℤ
quotient (pos n) m = pos (n / m)
quotient (negsuc n) m = negsuc (n / m)

-- what is left of z modulo m, from 0 to m - 1
unfoldable pub residue : ℕ → ℤ → ℕ
residue m (pos n) = n % m
residue m (negsuc n) = m - 1 - n % m

-- whether two whole numbers are equal
unfoldable pub sameℤ : ℤ → ℤ → Bool
sameℤ (pos a) (pos b) = eqb a b
sameℤ (pos a) (negsuc b) = false
sameℤ (negsuc a) (pos b) = false
sameℤ (negsuc a) (negsuc b) = eqb a b
