-- A call's answer to C: what an inner function did, with the machine's word in place of its answer.
-- Assumes nothing.
use mathlib.Core.Path.{◌≡◌, ◌∙◌}
use mathlib.Core.List.{List}
use Prim.Native.Nat.{ℕ, ◌^◌, ◌<◌}
use lib.IntN.{ℤ}
use lib.Signed.{mag}
use mir.Syntax.{w64}
use mir.Val.{to_z, of_z}
use mir.ValLaws.{to_z-of_z}
use Rattle.run.specs.Call.{Call, Does}

-- the word that `to_c` gave reads back as the answer
pub to_caller : (c : Call) (after : List (List ℕ)) (r z : ℤ) → mag r < 2 ^ 63 → r ≡ z → Does c z after → Does c (to_z w64 (of_z w64 r)) after
to_caller c after r z h e d = (to_z-of_z w64 r (record { sfits = h }) ∙ e ∙ d.0, d.1)
