-- `book::Books::rows_agree` meets its contract: at each turn every row passed agrees.
-- Assumes nothing.
use mathlib.Core.Path.{◌≡◌}
use mathlib.Core.Bool.{true}
use Rattle.algebra.specs.Test.{all_below}
use Rattle.series.specs.Names.{formula_of}
use Rattle.run.specs.Run.{limits_of}
use Rattle.book.proofs.Rows.{agrees_at}
use Rattle.book.proofs.Books.rows_agree.Given as goal

abbrev pub invariant-loop-row : goal.invariant-loop-row
invariant-loop-row l = all_below l.row (agrees_at (limits_of (formula_of l.self.ledger.f)) l.self.ledger.bytes.now l.self.book.now) ≡ true
