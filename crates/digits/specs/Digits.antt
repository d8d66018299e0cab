-- Hexadecimal digits: those that the distance between two whole numbers settles, and their characters. Document 01, "Closing".
use Rattle.std.specs.Prelude.{◌≡◌, Bool, cond, ◌&&◌, ◌||◌, List, [], ◌∷◌, ◌⊎◌, ℕ, zero, suc, ◌+◌, ◌*◌, ◌-◌, ◌/◌, ◌%◌, ◌^◌, ◌≤◌, leb, ltb, ℤ}
use Rattle.algebra.specs.Whole.{quotient, residue, sameℤ}

-- ---- settled digits

-- 2 ^ (128 - 4 d)
abbrev pub unit_at : ℕ → ℕ
unit_at d = 2 ^ (128 - 4 * d)

-- lo and hi have the same quotient by 2 ^ (128 - 4 d), rounded down: the distance between them settles d digits
unfoldable pub Settles : ℤ → ℤ → ℕ → Type 0
Settles lo hi d = (1 ≤ d) × (d ≤ 32) × (quotient lo (unit_at d) ≡ quotient hi (unit_at d))

-- d is the greatest number of digits that the distance settles
pub record Greatest (lo hi : ℤ) (d : ℕ) : Type 0 where
  pub settles : Settles lo hi d
  pub most : (e : ℕ) → Settles lo hi e → e ≤ d

-- it settles none
abbrev pub NoneSettled : ℤ → ℤ → Type 0
NoneSettled lo hi = (d : ℕ) → Settles lo hi d → ⊥

-- Exactly one of the two comes about, and for one d only.
pub record OneOutcome (lo hi : ℤ) : Type 0 where
  pub either : ((d : ℕ) × Greatest lo hi d) ⊎ NoneSettled lo hi
  pub not_both : (d : ℕ) → Greatest lo hi d → NoneSettled lo hi → ⊥
  pub one_d : (d e : ℕ) → Greatest lo hi d → Greatest lo hi e → d ≡ e

-- the greatest d from 1 to n for which lo and hi have the same quotient by 2 ^ (128 - 4 d), or 0 where there is none
unfoldable pub settled_up_to : ℤ → ℤ → ℕ → ℕ
settled_up_to lo hi zero = 0
settled_up_to lo hi (suc d) =
    cond (sameℤ (quotient lo (unit_at (suc d))) (quotient hi (unit_at (suc d)))) (suc d) (settled_up_to lo hi d)

unfoldable pub settled : ℤ → ℤ → ℕ
settled lo hi = settled_up_to lo hi 32

-- ---- characters

-- the character of a digit, 0-9A-F
unfoldable pub hex_digit : ℕ → ℕ
hex_digit v = cond (ltb v 10) (48 + v) (55 + v)

-- whether a character is one of these
unfoldable pub is_digit : ℕ → Bool
is_digit c = (leb 48 c && leb c 57) || (leb 65 c && leb c 70)

-- the lowest d hexadecimal digits of x, the highest first
unfoldable pub hex_text : ℕ → ℕ → List ℕ
hex_text zero x = []
hex_text (suc d) x = hex_digit (x / 16 ^ d % 16) ∷ hex_text d x

-- the lowest d hexadecimal digits of a whole number
unfoldable pub low_digits : ℕ → ℤ → List ℕ
low_digits d z = hex_text d (residue (16 ^ d) z)
