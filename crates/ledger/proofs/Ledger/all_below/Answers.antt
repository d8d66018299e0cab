-- `ledger::Ledger::all_below` meets its contract: the count is that of all tickets where all are set.
-- Assumes nothing.
use Rattle.ledger.proofs.Counting.{all_bits}
use Rattle.ledger.proofs.Ledger.all_below.Goals as goal

pub returns : goal.returns
returns c = all_bits _ _ _ _ _ c.count.ensures c.row_count.ensures.counts
