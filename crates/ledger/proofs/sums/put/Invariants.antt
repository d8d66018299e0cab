-- `ledger::sums::put` meets its contract: after each turn the sums of the rows passed are in place.
-- Assumes nothing.
use mathlib.Core.Path.{◌≡◌}
use mathlib.Core.List.{◌++◌}
use lib.ListN.{take, drop}
use Rattle.ledger.specs.Ledger.{sum_at}
use Rattle.ledger.specs.Plain.{sum_rows}
use Rattle.ledger.specs.RowSums.{value_at}
use Rattle.ledger.proofs.sums.put.Given as goal

abbrev pub invariant-loop-row : goal.invariant-loop-row
invariant-loop-row l =
    l.s ≡ take 16 l.initial.s ++ sum_rows (value_at l.sums) 0 l.row ++ drop (sum_at l.row) l.initial.s
