-- `ledger::Ledger::count` meets its contract: at each turn the marks of the rows passed are counted.
-- Assumes nothing.
use mathlib.Core.Path.{◌≡◌}
use Prim.Native.Nat.{◌*◌, ◌≤◌, ◌-◌}
use Rattle.series.specs.Names.{formula_of}
use Rattle.run.specs.Run.{limits_of}
use Rattle.ledger.specs.Marks.{marks_from}
use Rattle.ledger.proofs.Ledger.count.Given as goal

abbrev pub invariant-loop-row : goal.invariant-loop-row
invariant-loop-row l =
    (l.marks ≤ 256 * l.row) × (l.marks ≡ marks_from (limits_of (formula_of l.self.f)) l.self.bytes.now l.first (l.end - l.first) l.row)
