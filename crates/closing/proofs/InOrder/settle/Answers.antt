-- `closing::InOrder::settle` meets its contract: a and b are those of the ledger's run.
-- Assumes nothing.
use Rattle.closing.proofs.Closing.{position_read, settle_is}
use Rattle.closing.proofs.InOrder.settle.Goals as goal

pub in_run-a-requires : goal.in_run-a-requires
in_run-a-requires c =
    position_read _ c.args.self.now.ledger.bytes.now _ c.args.self.now.ordered c.run-p.ensures.0

pub in_run-b-requires : goal.in_run-b-requires
in_run-b-requires c =
    position_read _ c.args.self.now.ledger.bytes.now _ c.args.self.now.ordered c.run-p.ensures.0

pub returns : goal.returns
returns c =
    settle_is _ c.args.self.now.ledger.bytes.now _ _ _ c.run-p.ensures.0 c.in_run-b.ensures.counts
    c.total.ensures _ _ c.in_run-a.ensures.counts c.settled_digits.ensures
