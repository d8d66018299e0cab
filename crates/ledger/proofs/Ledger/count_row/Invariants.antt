-- `ledger::Ledger::count_row` meets its contract: at each turn the marks of the blocks passed are counted, of one block or of a byte's eight.
-- Assumes nothing.
use mathlib.Core.Path.{◌≡◌}
use Prim.Native.Nat.{◌≤◌, ◌-◌}
use Rattle.series.specs.Names.{formula_of}
use Rattle.run.specs.Run.{limits_of}
use Rattle.ledger.specs.Marks.{row_marks}
use Rattle.ledger.proofs.Ledger.count_row.Given as goal

abbrev pub invariant-loop-block : goal.invariant-loop-block
invariant-loop-block l =
    (l.first ≤ l.block) × (l.block ≤ l.end) × (l.marks ≤ l.block) × (l.marks ≡ row_marks (limits_of (formula_of l.self.f)) l.self.bytes.now l.first (l.block - l.first) l.row)

abbrev pub decreases-loop-block : goal.decreases-loop-block
decreases-loop-block l = l.end - l.block
