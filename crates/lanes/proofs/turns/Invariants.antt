-- `lanes::turns` meets its contract: the lanes below j have made their turn, and the others are as they came.
-- Assumes nothing.
use Rattle.std.proofs.Common.{◌≡◌, ℕ, ◌+◌, ◌<◌, ◌≤◌, length}
use Rattle.montgomery.specs.Standing.{Standing}
use Rattle.lanes.specs.Lanes.{at, modulus, lane}
use Rattle.lanes.proofs.turns.Given as goal

abbrev pub invariant-loop-j : goal.invariant-loop-j
invariant-loop-j l =
    record {
      whole : length l.x ≡ 8;
      worked : (k : ℕ) → k < l.j → Standing (modulus l.m k).n (at l.e k) l.i (lane l.x k);
      still : (k : ℕ) → l.j ≤ k → k < 8 → Standing (modulus l.m k).n (at l.e k) (l.i + 1) (lane l.x k);
    }
