-- `montgomery::turn` meets its contract: the number that the bits of e from i up make is twice that of the bits above, and bit i.
-- Assumes nothing.
use Rattle.std.proofs.Common.{◌≡◌, ℕ, zero, suc, ◌+◌, ◌*◌, ◌/◌, ◌%◌, ◌^◌, ◌<◌, refl, ◌∙◌, mod-lt, arith}
use lib.Bits.{bit_and, and_mask}
use Rattle.algebra.proofs.Cong.{Mod, of-%, is-%, wrapped}
use Rattle.algebra.proofs.Power.{squared, doubled, next_bit}
use Rattle.algebra.proofs.Bits.{length_below}
use Rattle.montgomery.specs.Modulus.{Modulus, montgomery}
use Rattle.montgomery.specs.Standing.{Standing}
use Rattle.montgomery.specs.declared.counted.Counted.{Counted}
use Rattle.montgomery.proofs.Negated.{unit}
use Rattle.montgomery.proofs.Standing.{below}
use Rattle.montgomery.proofs.turn.Goals as goal

module _ (e n μ i x s : ℕ) (m : Modulus n μ) (p : x ≡ montgomery n (2 ^ (e / 2 ^ (i + 1)))) (q : s * 2 ^ 64 % n ≡ x * x % n) where
  square : Mod n s (2 ^ 64 * 2 ^ (e / 2 ^ (i + 1) + e / 2 ^ (i + 1)))
  square =
      let w = unit (2 ^ 64) n μ m.negated in
      squared (2 ^ 64) w.0 (e / 2 ^ (i + 1)) x s w.1 (wrapped n p) (of-% n (s * 2 ^ 64) (x * x) q)

  clear : s < n → e / 2 ^ i % 2 ≡ 0 → s ≡ montgomery n (2 ^ (e / 2 ^ i))
  clear h b =
      let same : e / 2 ^ (i + 1) + e / 2 ^ (i + 1) ≡ e / 2 ^ i = omega (arith, next_bit e i, b) in
      rw same at (is-% h square)

  set : (d : ℕ) → e / 2 ^ i % 2 ≡ 1 → d ≡ 2 * s % n → d ≡ montgomery n (2 ^ (e / 2 ^ i))
  set d b r =
      let same : e / 2 ^ (i + 1) + e / 2 ^ (i + 1) + 1 ≡ e / 2 ^ i = omega (arith, next_bit e i, b) in
      rw same at (is-% (rw r (mod-lt (2 * s) m.positive)) (doubled (2 ^ 64) (e / 2 ^ (i + 1) + e / 2 ^ (i + 1)) s d square (wrapped n r)))

  law : (d : ℕ) → s < n → (bit_and (e / 2 ^ i) 1 ≡ 1 → d ≡ 2 * s % n) × (bit_and (e / 2 ^ i) 1 ≡ 0 → d ≡ s) → d ≡ montgomery n (2 ^ (e / 2 ^ i))
  law d h r = each (e / 2 ^ i % 2) refl
    where
      each : (b : ℕ) → e / 2 ^ i % 2 ≡ b → d ≡ montgomery n (2 ^ (e / 2 ^ i))
      each zero b = r.1 (and_mask (e / 2 ^ i) 1 ∙ b) ∙ clear h b
      each (suc zero) b = set d b (r.0 (and_mask (e / 2 ^ i) 1 ∙ b))
      each (suc (suc t)) b = omega (arith, b)

-- bit i is a bit of a word
place : (n e i : ℕ) (x : Counted) → Standing n e (i + 1) x → e < 2 ^ 64 → x.squarings + i < 63
place n e i x s l = omega (arith, s.counted, length_below e 64 l)

pub overflow_shr-bit : goal.overflow_shr-bit
overflow_shr-bit c = omega (arith, place _ _ _ _ c.requires c.ranges.e.fits)

pub square-requires : goal.square-requires
square-requires c =
    (below _ _ _ _ c.args.m.valid c.requires.stands, omega (arith, place _ _ _ _ c.requires c.ranges.e.fits))

pub returns : goal.returns
returns c =
    record {
      stands = law c.args.e c.args.m.n c.args.m.mu c.args.i c.args.x.residue.0 c.square.result.residue.0 c.args.m.valid c.requires.stands c.square.ensures.1 _ c.square.ensures.0 (c.double.ensures.0, c.double.ensures.1);
      counted = omega (arith, c.double.ensures.2, c.square.ensures.2, c.requires.counted);
    }
