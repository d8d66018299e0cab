-- `series::groups::exponents` meets its contract: the lanes below j have their E - 64.
-- Assumes nothing.
use Rattle.std.proofs.Common.{◌≡◌, ℕ, ◌+◌, ◌-◌, ◌*◌, ◌<◌, length}
use Rattle.lanes.specs.Lanes.{at}
use Rattle.series.proofs.groups.exponents.Given as goal

abbrev pub invariant-loop-j : goal.invariant-loop-j
invariant-loop-j l = (length l.f ≡ 8) × ((i : ℕ) → i < l.j → at l.f i ≡ l.numbers.rise - l.numbers.step * (l.k + i) - 64)
