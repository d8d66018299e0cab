-- `sheet::layout::put_contents` meets its contract: after i turns the contents of i tickets stand over the output.
-- Assumes nothing.
use mathlib.Core.Path.{◌≡◌}
use mathlib.Core.List.{List}
use Prim.Native.Nat.{ℕ}
use Rattle.series.specs.Series.{Formula}
use Rattle.sheet.specs.Sheet.{contents_of, listed}
use Rattle.sheet.proofs.Over.{over_to}
use Rattle.sheet.proofs.layout.put_contents.Given as goal

-- after i turns, whatever the sums are
abbrev pub Written : List ℕ → List ℕ → List ℕ → ℕ → Type 0
Written list old out i = (F : Formula) (p C : ℕ) → out ≡ over_to contents_of 4 (listed F p C list) old 16 i

abbrev pub invariant-loop-i : goal.invariant-loop-i
invariant-loop-i l = Written l.pairs.bytes.now l.initial.out l.out l.i
