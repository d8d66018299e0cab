-- `ledger::sums::total` meets its contract: after each turn the sums of the rows passed are added up, modulo 2 ^ 128.
-- Assumes nothing.
use mathlib.Core.Path.{◌≡◌}
use Prim.Native.Nat.{◌+◌, ◌%◌}
use Rattle.algebra.specs.Sum.{sum}
use Rattle.words.specs.Words.{joined}
use Rattle.series.specs.Series.{modulus}
use Rattle.ledger.specs.RowSums.{value_at}
use Rattle.ledger.proofs.sums.total.Given as goal

abbrev pub invariant-loop-sum : goal.invariant-loop-sum
invariant-loop-sum l = joined l.total.hi l.total.lo ≡ (0 + sum (value_at l.sum-items) 0 l.sum-index) % modulus
