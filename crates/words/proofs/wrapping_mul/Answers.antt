-- `words::wrapping_mul` meets its contract: the lower two columns, in base 2^32.
-- Assumes nothing.
use Rattle.std.proofs.Common.{◌^◌, pow_pos}
use Rattle.words.proofs.Halves.{lower}
use Rattle.words.proofs.wrapping_mul.Goals as goal

pub returns : goal.returns
returns c = lower (2 ^ 32) c.args.a c.args.b (pow_pos 32)
