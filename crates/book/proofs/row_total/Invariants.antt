-- `book::row_total` meets its contract: after each turn the sums of the blocks passed are added up, modulo 2 ^ 128.
-- Assumes nothing.
use mathlib.Core.Path.{◌≡◌}
use Prim.Native.Nat.{◌+◌, ◌%◌}
use Rattle.algebra.specs.Sum.{sum}
use Rattle.words.specs.Words.{joined}
use Rattle.series.specs.Series.{modulus}
use Rattle.book.specs.Book.{kept_in}
use Rattle.book.proofs.row_total.Given as goal

abbrev pub invariant-loop-block : goal.invariant-loop-block
invariant-loop-block l = joined l.total.hi l.total.lo ≡ (0 + sum (kept_in l.book l.row) 0 l.block) % modulus
