-- `book::zero_elsewhere` meets its contract: at each turn every place passed is zero whose bit is not set.
-- Assumes nothing.
use mathlib.Core.Path.{◌≡◌}
use mathlib.Core.Bool.{true}
use Rattle.algebra.specs.Test.{all_below}
use Rattle.series.specs.Names.{formula_of}
use Rattle.run.specs.Run.{limits_of}
use Rattle.book.proofs.Rows.{zero_at}
use Rattle.book.proofs.zero_elsewhere.Given as goal

abbrev pub invariant-loop-block : goal.invariant-loop-block
invariant-loop-block l = all_below l.block (zero_at (limits_of (formula_of l.ledger.f)) l.ledger.bytes.now l.book l.row) ≡ true
