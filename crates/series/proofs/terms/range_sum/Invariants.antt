-- `series::terms::range_sum` meets its contract: the sum and the squarings are those of the terms passed.
-- Assumes nothing.
use Rattle.std.proofs.Common.{◌-◌, ◌≤◌}
use Rattle.series.specs.Results.{SumOf}
use Rattle.series.proofs.terms.range_sum.Given as goal

abbrev pub invariant-loop-k : goal.invariant-loop-k
invariant-loop-k l =
    (l.first ≤ l.k)
    × (l.k ≤ l.end)
    × SumOf l.terms.numbers l.first (l.k - l.first) (record { sum = l.sum; squarings = l.squarings })

abbrev pub decreases-loop-k : goal.decreases-loop-k
decreases-loop-k l = l.end - l.k
