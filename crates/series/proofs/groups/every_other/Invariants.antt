-- `series::groups::every_other` meets its contract: the total is that of the lanes passed.
-- Assumes nothing.
use Rattle.std.proofs.Common.{◌≡◌, ◌%◌}
use Rattle.algebra.specs.Sum.{sum}
use Rattle.words.specs.Words.{joined}
use Rattle.series.specs.Series.{modulus}
use Rattle.series.specs.Groups.{every_other}
use Rattle.series.proofs.groups.every_other.Given as goal

abbrev pub invariant-loop-i : goal.invariant-loop-i
invariant-loop-i l = joined l.total.hi l.total.lo ≡ sum (every_other l.q l.first) 0 l.i % modulus
