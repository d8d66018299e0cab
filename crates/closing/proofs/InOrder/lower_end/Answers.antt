-- `closing::InOrder::lower_end` meets its contract: total - (b + 1) does not wrap where a digit is settled.
-- Assumes nothing.
use Prim.Native.Nat.{◌<◌, ◌^◌}
use Rattle.words.proofs.Joined.{joined_lt}
use Rattle.closing.proofs.Closing.{position_read, lower_is}
use borrow.Author.Rules.{rules}
use Rattle.closing.proofs.InOrder.lower_end.Goals as goal

pub in_run-b-requires : goal.in_run-b-requires
in_run-b-requires c =
    position_read _ c.args.self.now.ledger.bytes.now _ c.args.self.now.ordered c.run.ensures.0

pub returns : goal.returns
returns c =
    let h : (c.total.result.hi < 2 ^ 64) × (c.total.result.lo < 2 ^ 64) = search rules in
    let l : (c.sub.result.hi < 2 ^ 64) × (c.sub.result.lo < 2 ^ 64) = search rules in
    lower_is _ c.args.self.now.ledger.bytes.now _ _ _ c.run.ensures.0 c.in_run-b.ensures.counts c.total.ensures _ _
    c.requires
    (joined_lt _ _ h.0 h.1) (joined_lt _ _ l.0 l.1)
    c.from.ensures c.sub.ensures
