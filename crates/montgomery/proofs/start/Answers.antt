-- `montgomery::start` meets its contract: 2^64 - n is 2^64 modulo n, and twice that is 2^65.
-- Assumes nothing.
use Rattle.std.proofs.Common.{◌≡◌, ℕ, ◌+◌, ◌-◌, ◌*◌, ◌%◌, ◌^◌, ◌<◌, refl, ◌∙◌, arith}
use Rattle.algebra.proofs.Cong.{Mod, to-%, rem, of_eq, refl_mod, trans, times}
use Rattle.montgomery.specs.Modulus.{montgomery}
use Rattle.montgomery.proofs.start.Goals as goal

law : (n r : ℕ) → n < 2 ^ 63 → r ≡ 2 * ((0xffff_ffff_ffff_ffff - n + 1) % n) % n → r ≡ montgomery n 2
law n r h e = e ∙ to-% (trans (times (refl_mod 2) (trans (rem n (0xffff_ffff_ffff_ffff - n + 1)) whole)) (of_eq (omega arith)))
  where
    whole : Mod n (0xffff_ffff_ffff_ffff - n + 1) (2 ^ 64)
    whole = record { k = 1; j = 0; eq = omega arith }

pub returns : goal.returns
returns c = law _ _ c.requires.1 (c.double.ensures.0 refl)
