-- `lanes::starts` meets its contract: the lanes below j hold their start.
-- Assumes nothing.
use Rattle.std.proofs.Common.{◌≡◌, ℕ, ◌<◌, length}
use Rattle.montgomery.specs.Standing.{Started}
use Rattle.lanes.specs.Lanes.{at, lane}
use Rattle.lanes.proofs.starts.Given as goal

abbrev pub invariant-loop-j : goal.invariant-loop-j
invariant-loop-j l =
    record {
      whole : length l.x ≡ 8;
      worked : (k : ℕ) → k < l.j → Started (at l.n k) (lane l.x k);
    }
