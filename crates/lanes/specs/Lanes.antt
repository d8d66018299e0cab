-- The lanes of a group, by their numbers.
use Rattle.std.specs.Prelude.{List, ℕ, ◌<◌, get_or, refl}
use Rattle.std.proofs.Common.{lit<}
use Rattle.montgomery.specs.declared.Quotient.{Quotient}
use Rattle.montgomery.specs.declared.modulus.Modulus.{Modulus}
use Rattle.montgomery.specs.declared.counted.Counted.{Counted}

-- something holds of each lane
abbrev pub Each : (ℕ → Type 0) → Type 0
Each P = (j : ℕ) → j < 8 → P j

-- the number of lane j
abbrev pub at : List ℕ → ℕ → ℕ
at l j = get_or l j 0

-- what a group has where it has no lane
abbrev pub one : Modulus
one = record { n = 1; mu = 0xffff_ffff_ffff_ffff; valid = record { positive = lit< tt; small = lit< tt; negated = refl } }

abbrev pub none : Counted
none = record { residue = record { 0 = 0 }; squarings = 0 }

abbrev pub nothing : Quotient
nothing = record { value = record { hi = 0; lo = 0 }; squarings = 0 }

-- the modulus of lane j
abbrev pub modulus : List Modulus → ℕ → Modulus
modulus l j = get_or l j one

-- the residue of lane j, with its count
abbrev pub lane : List Counted → ℕ → Counted
lane l j = get_or l j none

-- the quotient of lane j
abbrev pub quotient : List Quotient → ℕ → Quotient
quotient l j = get_or l j nothing
