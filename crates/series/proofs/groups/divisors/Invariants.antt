-- `series::groups::divisors` meets its contract: the lanes below j have their N.
-- Assumes nothing.
use Rattle.std.proofs.Common.{◌≡◌, ℕ, ◌+◌, ◌*◌, ◌<◌, length}
use Rattle.lanes.specs.Lanes.{at}
use Rattle.series.proofs.groups.divisors.Given as goal

abbrev pub invariant-loop-j : goal.invariant-loop-j
invariant-loop-j l = (length l.n ≡ 8) × ((i : ℕ) → i < l.j → at l.n i ≡ l.numbers.m * (l.k + i) + l.numbers.j)
