-- `montgomery::refine` meets its contract: r is x * (2 - n * x) modulo 2^64.
-- Assumes nothing.
use Rattle.std.proofs.Common.{◌≡◌, ℕ, ◌+◌, ◌*◌, ◌%◌, ◌^◌, arith}
use Rattle.algebra.proofs.Cong.{to-%, of-%, wrapped, of_eq, refl_mod, symm, trans, plus, times}
use Rattle.montgomery.proofs.refine.Goals as goal

law : (n x y z r : ℕ) → y ≡ n * x % 2 ^ 64 → (z + y) % 2 ^ 64 ≡ 2 → r ≡ x * z % 2 ^ 64 → (r + x * (n * x)) % 2 ^ 64 ≡ 2 * x % 2 ^ 64
law n x y z r e f g =
    to-%
    (trans (plus (wrapped (2 ^ 64) g) (times (refl_mod x) (symm (wrapped (2 ^ 64) e))))
    (trans (of_eq {b = x * (z + y)} (omega arith)) (trans (times (refl_mod x) (of-% (2 ^ 64) (z + y) 2 f)) (of_eq (omega arith)))))

pub returns : goal.returns
returns c =
    law _ _ _ _ _ c.wrapping_mul-y.ensures (omega arith) c.wrapping_mul.ensures
