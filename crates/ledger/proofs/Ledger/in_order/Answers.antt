-- `ledger::Ledger::in_order` meets its contract: the blocks of a run in range are at most 256.
-- Assumes nothing.
use mathlib.Core.Path.{sym, ◌∙◌}
use native.Mathlib.Omega.{arith}
use Rattle.run.proofs.Range.{range_of}
use Rattle.ledger.proofs.Ledger.in_order.Goals as goal
use Rattle.ledger.proofs.Ledger.in_order.Goals.{then-in_range, else-in_range}

pub none_from-requires : goal.none_from-requires
none_from-requires c =
    elim c.if-in_range.branch [
      | then-in_range w ↦ (range_of _ _ _ (sym c.in_range.ensures ∙ w.if-in_range.true)).c_high
      | else-in_range w ↦ grind arith
    ]
