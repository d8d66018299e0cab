-- Algorithm 5: where it begins, where it stands between two turns, where it ends, and the quotient that is made of its power.
use Rattle.std.specs.Prelude.{◌≡◌, ℕ, ◌+◌, ◌-◌, ◌/◌, ◌%◌, ◌^◌, ◌≤◌}
use Rattle.algebra.specs.Bits.{bit_length}
use Rattle.words.specs.Words.{joined}
use Rattle.montgomery.specs.Modulus.{montgomery}
use Rattle.montgomery.specs.declared.Quotient.{Quotient}
use Rattle.montgomery.specs.declared.counted.Counted.{Counted}

-- x stands for 2, and was not squared
abbrev pub Started : ℕ → Counted → Type 0
Started n x = (x.residue.0 ≡ montgomery n 2) × (x.squarings ≡ 0)

-- i bits of e are left: x stands for 2 to the power of the bits above them, and was squared for each of these but the top one
pub record Standing (n e i : ℕ) (x : Counted) : Type 0 where
  pub stands : x.residue.0 ≡ montgomery n (2 ^ (e / 2 ^ i))
  pub counted : x.squarings + i + 1 ≡ bit_length e

-- x stands for 2 ^ e, and was squared for each bit of e but the top one
abbrev pub PowerOf : ℕ → ℕ → Counted → Type 0
PowerOf n e x = (x.residue.0 ≡ montgomery n (2 ^ e)) × (x.squarings ≡ bit_length e - 1)

-- q is the whole part of 2 ^ (64 + f) / n, modulo 2 ^ 128, for each f of 64 or more for whose power x stands, and took x's squarings
abbrev pub QuotientOf : ℕ → Counted → Quotient → Type 0
QuotientOf n x q =
    ((f : ℕ) → 64 ≤ f → x.residue.0 ≡ montgomery n (2 ^ f) → joined q.value.hi q.value.lo ≡ 2 ^ (64 + f) / n % 2 ^ 128)
    × (q.squarings ≡ x.squarings)

-- q is the whole part of 2 ^ (64 + f) / n, modulo 2 ^ 128, and took the squarings of 2 ^ f
abbrev pub PowerQuotient : ℕ → ℕ → Quotient → Type 0
PowerQuotient n f q = (joined q.value.hi q.value.lo ≡ 2 ^ (64 + f) / n % 2 ^ 128) × (q.squarings ≡ bit_length f - 1)
