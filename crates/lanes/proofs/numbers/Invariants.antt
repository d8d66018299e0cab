-- `lanes::numbers` meets its contract: the lanes below j hold their number.
-- Assumes nothing.
use Rattle.std.proofs.Common.{◌≡◌, ℕ, ◌<◌, length}
use Rattle.lanes.specs.Lanes.{at, modulus}
use Rattle.lanes.proofs.numbers.Given as goal

abbrev pub invariant-loop-j : goal.invariant-loop-j
invariant-loop-j l =
    record {
      whole : length l.n ≡ 8;
      numbered : (k : ℕ) → k < l.j → at l.n k ≡ (modulus l.m k).n;
    }
