-- `series::groups::squarings_of` meets its contract: the total is that of the lanes passed.
-- Assumes nothing.
use Rattle.std.proofs.Common.{◌≡◌, ◌%◌}
use Rattle.algebra.specs.Sum.{sum}
use Rattle.words.specs.Words.{joined}
use Rattle.lanes.specs.Lanes.{quotient}
use Rattle.series.specs.Series.{modulus}
use Rattle.series.proofs.groups.squarings_of.Given as goal

abbrev pub invariant-loop-one : goal.invariant-loop-one
invariant-loop-one l = joined l.total.hi l.total.lo ≡ sum (λ j. (quotient l.fn.q j).squarings) 0 l.one-index % modulus
