-- `ledger::sums::total` meets its contract: after each turn the sums of the rows passed are added up, modulo 2 ^ 128.
-- Assumes nothing.
use Rattle.algebra.proofs.Sums.{total_next}
use Rattle.series.specs.Series.{modulus}
use Rattle.ledger.specs.RowSums.{value_at}
use Rattle.ledger.proofs.RowSums.{none_totalled}
use Rattle.ledger.proofs.sums.total.Goals as goal

pub loop-sum-init : goal.loop-sum-init
loop-sum-init c = none_totalled _

pub loop-sum-preserved : goal.loop-sum-preserved
unfolding value_at
loop-sum-preserved c =
    total_next modulus (value_at _) 0 _ _ _ c.loop-sum.invariant c.add-total.ensures
