-- `posting::none_marked` meets its contract: at each turn no entry passed has its bit set.
-- Assumes nothing.
use mathlib.Core.Path.{◌≡◌}
use mathlib.Core.Bool.{true}
use Rattle.algebra.specs.Test.{all_below}
use Rattle.series.specs.Names.{formula_of}
use Rattle.run.specs.Run.{limits_of}
use Rattle.posting.proofs.Admitting.{unset_at}
use Rattle.posting.proofs.none_marked.Given as goal

abbrev pub invariant-loop-i : goal.invariant-loop-i
invariant-loop-i l = all_below l.i (unset_at (limits_of (formula_of l.ledger.f)) l.ledger.bytes.now l.entries.bytes.now) ≡ true
