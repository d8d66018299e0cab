-- `montgomery::top` meets its contract: e is between 2 ^ result and twice that.
-- Assumes nothing.
use Rattle.std.proofs.Common.{sym, pow-suc, add-one, arith}
use Rattle.algebra.proofs.Bits.{length_is}
use Rattle.montgomery.proofs.top.Goals as goal

pub returns : goal.returns
returns c =
    let j = c.ilog2.result in
    sym (length_is c.args.e j c.ilog2.ensures.power_le (rw (add-one j, pow-suc 2 j) (omega arith)))
