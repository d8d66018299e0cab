-- `look::total_after` meets its contract: at each turn the sums of the tickets passed are added to the total of the row sums.
-- Assumes nothing.
use mathlib.Core.Path.{◌≡◌}
use Prim.Native.Nat.{◌+◌, ◌%◌}
use Rattle.algebra.specs.Sum.{sum}
use Rattle.words.specs.Words.{joined}
use Rattle.series.specs.Series.{modulus}
use Rattle.look.proofs.Posted.{body_at}
use Rattle.look.proofs.total_after.Given as goal

abbrev pub invariant-loop-i : goal.invariant-loop-i
invariant-loop-i l =
    joined l.total.hi l.total.lo ≡ (joined l.initial.total.hi l.initial.total.lo + sum (body_at l.s l.count) 0 l.i) % modulus
