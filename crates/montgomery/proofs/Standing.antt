-- Algorithm 5 begins at the top bit, and ends where no bit is left.
-- Assumes nothing.
use Rattle.std.proofs.Common.{◌≡◌, ℕ, ◌+◌, ◌-◌, ◌/◌, ◌^◌, ◌<◌, mod-lt, div-one, arith}
use Rattle.algebra.specs.Bits.{bit_length}
use Rattle.algebra.proofs.Bits.{leading}
use Rattle.montgomery.specs.Modulus.{Modulus, montgomery}
use Rattle.montgomery.specs.Standing.{Standing, Started, PowerOf}
use Rattle.montgomery.specs.declared.counted.Counted.{Counted}

pub begun : (n e i : ℕ) (x : Counted) → 0 < e → i + 1 ≡ bit_length e → Started n x → Standing n e i x
begun n e i x p t s =
    let at : i ≡ bit_length e - 1 = omega (arith, t) in
    let one : e / 2 ^ i ≡ 1 = rw at (leading e p) in
    record { stands = rw one s.0; counted = omega (arith, t, s.1) }

pub ended : (n e i : ℕ) (x : Counted) → i ≡ 0 → Standing n e i x → PowerOf n e x
ended n e i x z s = (rw (z, div-one) at s.stands, omega (arith, z, s.counted))

-- a residue is below the modulus
pub below : (n μ x y : ℕ) → Modulus n μ → x ≡ montgomery n y → x < n
below n μ x y m e = rw e (mod-lt _ m.positive)
