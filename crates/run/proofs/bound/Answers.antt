-- `run::bound` meets its contract: no part of the sum is above `count`.
-- Assumes nothing.
use Prim.Native.Nat.{ℕ, ◌+◌, ◌*◌, ◌/◌, ◌%◌, ◌≤◌}
use native.Mathlib.Nat.{le_trans, mul-le-mul_right, mul-le-mul, mul-div-le, mod-lt, le_of_lt}
use Rattle.run.proofs.Blocks.{bound_parts, bound_le}
use Rattle.run.proofs.bound.Goals as goal

module _ (K C i : ℕ) (h : 1 ≤ C) (l : i ≤ C) where
  wholes : i * (K / C) ≤ K
  wholes = le_trans (mul-le-mul_right (K / C) l) (mul-div-le K C)

  rests : i * (K % C) ≤ C * C
  rests = mul-le-mul l (le_of_lt (mod-lt K h))

  sum : i * (K / C) + i * (K % C) / C ≤ K
  sum = rw (bound_parts K C i h) (bound_le K C i l)

pub returns : goal.returns
returns c = bound_parts _ _ _ c.requires.1
