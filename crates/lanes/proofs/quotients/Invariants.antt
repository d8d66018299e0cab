-- `lanes::quotients` meets its contract: the lanes below j have their quotient.
-- Assumes nothing.
use Rattle.std.proofs.Common.{◌≡◌, ℕ, ◌<◌, length}
use Rattle.montgomery.specs.Standing.{QuotientOf}
use Rattle.lanes.specs.Lanes.{modulus, lane, quotient}
use Rattle.lanes.proofs.quotients.Given as goal

abbrev pub invariant-loop-j : goal.invariant-loop-j
invariant-loop-j l =
    record {
      whole : length l.q ≡ 8;
      worked : (k : ℕ) → k < l.j → QuotientOf (modulus l.m k).n (lane l.x k) (quotient l.q k);
    }
