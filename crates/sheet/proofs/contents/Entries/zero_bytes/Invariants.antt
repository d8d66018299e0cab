-- `sheet::contents::Entries::zero_bytes` meets its contract: at each turn the zero byte of every entry passed is zero.
-- Assumes nothing.
use mathlib.Core.Path.{◌≡◌}
use mathlib.Core.Bool.{true}
use Prim.Native.Nat.{◌+◌, ◌*◌}
use lib.Dec.{eqb}
use lib.ListN.{get_or}
use Rattle.algebra.specs.Test.{all_below}
use Rattle.sheet.proofs.contents.Entries.zero_bytes.Given as goal

abbrev pub invariant-loop-i : goal.invariant-loop-i
invariant-loop-i l = all_below l.i (λ j. eqb (get_or l.self.bytes.now (17 + 4 * j) 0) 0) ≡ true
