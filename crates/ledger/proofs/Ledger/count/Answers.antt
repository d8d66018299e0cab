-- `ledger::Ledger::count` meets its contract: at each turn the marks of the rows passed are counted.
-- Assumes nothing.
use native.Mathlib.Omega.{arith}
use Rattle.ledger.proofs.Counting.{no_row, one_row}
use Rattle.ledger.proofs.Ledger.count.Goals as goal

pub loop-row-init : goal.loop-row-init
loop-row-init c = (omega arith, no_row _ _ _ _)

pub loop-row-preserved : goal.loop-row-preserved
loop-row-preserved c =
    let few = c.count_row-marks.ensures.few in
    (omega (arith, few), one_row _ _ _ _ _ _ _ c.loop-row.invariant.1 c.count_row-marks.ensures.counts)
