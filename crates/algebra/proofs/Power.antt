-- The power of two by squaring, in Montgomery form with base W: x stands for 2 ^ E if x is W * 2 ^ E modulo n.
-- Assumes nothing.
use mathlib.Core.Path.{◌≡◌, ap, sym, ◌∙◌}
use Prim.Native.Nat.{ℕ, ◌+◌, ◌*◌, ◌/◌, ◌%◌, ◌^◌}
use native.Mathlib.Nat.{div-div-eq-div-mul}
use native.Mathlib.Omega.{arith}
use lib.Pow.{pow-add}
use Rattle.algebra.proofs.Cong.{Mod, of_eq, refl_mod, trans, times, cancel}

pub squared : (W i : ℕ) {n : ℕ} (E x s : ℕ) → Mod n (W * i) 1 → Mod n x (W * 2 ^ E) → Mod n (s * W) (x * x) → Mod n s (W * 2 ^ (E + E))
squared W i {n} E x s u p q = cancel W i u (trans q (trans (times p p) (of_eq same)))
  where
    same : W * 2 ^ E * (W * 2 ^ E) ≡ W * 2 ^ (E + E) * W
    same = rw (pow-add 2 E E) (omega arith)

pub doubled : (W : ℕ) {n : ℕ} (F s d : ℕ) → Mod n s (W * 2 ^ F) → Mod n d (2 * s) → Mod n d (W * 2 ^ (F + 1))
doubled W {n} F s d p q = trans q (trans (times (refl_mod 2) p) (of_eq same))
  where
    same : 2 * (W * 2 ^ F) ≡ W * 2 ^ (F + 1)
    same = rw (pow-add 2 F 1) (omega arith)

-- one bit more of e
pub next_bit : (e i : ℕ) → e / 2 ^ i ≡ e / 2 ^ (i + 1) + e / 2 ^ (i + 1) + e / 2 ^ i % 2
next_bit e i =
    let half : e / 2 ^ (i + 1) ≡ e / 2 ^ i / 2 = ap (λ t. e / t) (pow-add 2 i 1) ∙ sym (div-div-eq-div-mul e (2 ^ i) 2) in
    rw half (omega arith)
