-- `words::get_wide` meets its contract: a field of 16 bytes is two of 8.
-- Assumes nothing.
use Rattle.std.proofs.Common.{arith}
use Rattle.words.specs.Words.{joined}
use Rattle.words.proofs.Bytes.{field_add}
use Rattle.words.proofs.get_wide.Goals as goal

pub returns : goal.returns
unfolding joined
returns c = omega (arith, field_add c.args.s.now c.args.at 8 8 (omega arith))
