-- `words::mul_high` meets its contract: the carries of the columns, in base 2^32.
-- Assumes nothing.
use Rattle.std.proofs.Common.{◌^◌, pow_pos}
use Rattle.words.proofs.Halves.{next, upper}
use Rattle.words.proofs.mul_high.Goals as goal

pub returns : goal.returns
unfolding next
returns c = upper (2 ^ 32) c.args.a c.args.b (pow_pos 32)
