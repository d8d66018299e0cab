-- `ledger::Ledger::sums` meets its contract: after each turn the sums of the rows passed are in the array, and the rest of it is 0.
-- Assumes nothing.
use mathlib.Core.Path.{refl}
use native.Mathlib.Omega.{arith}
use borrow.Author.Rules.{rules}
use Rattle.ledger.proofs.RowSums.{none_read, one_read}
use Rattle.ledger.proofs.Ledger.sums.Goals as goal

pub loop-row-init : goal.loop-row-init
loop-row-init c = (refl, none_read _ 7)

pub loop-row-preserved : goal.loop-row-preserved
loop-row-preserved c =
    (search rules, one_read _ _ _ _ (omega arith) c.get_wide.ensures c.loop-row.invariant.1)
