-- `book::Books::rows_agree` meets its contract: at each turn every row passed agrees.
-- Assumes nothing.
use native.Mathlib.Omega.{arith}
use Rattle.algebra.proofs.Below.{below_none}
use Rattle.series.specs.Names.{formula_of}
use Rattle.run.specs.Run.{limits_of}
use Rattle.ledger.specs.RowSums.{value_at}
use Rattle.book.proofs.Rows.{other_sum, not_zeros, row_next}
use Rattle.book.proofs.Books.rows_agree.Goals as goal

pub loop-row-init : goal.loop-row-init
loop-row-init c = below_none _

pub returns-then-not-is_equal : goal.returns-then-not-is_equal
unfolding value_at
returns-then-not-is_equal c =
    other_sum (limits_of (formula_of c.args.self.now.ledger.f)) c.args.self.now.ledger.bytes.now c.args.self.now.book.now _ (omega arith) _ c.row_total.ensures _
    (c.sums-sums.ensures c.loop-row.row) _ c.is_equal.ensures c.if-not-is_equal.true

pub returns-then-not-zero_elsewhere : goal.returns-then-not-zero_elsewhere
unfolding value_at
returns-then-not-zero_elsewhere c =
    not_zeros (limits_of (formula_of c.args.self.now.ledger.f)) c.args.self.now.ledger.bytes.now c.args.self.now.book.now _ (omega arith) _ c.row_total.ensures _
    (c.sums-sums.ensures c.loop-row.row) _ c.is_equal.ensures _ c.zero_elsewhere.ensures c.if-not-zero_elsewhere.true

pub loop-row-preserved : goal.loop-row-preserved
unfolding value_at
loop-row-preserved c = row_next (limits_of (formula_of c.args.self.now.ledger.f)) c.args.self.now.ledger.bytes.now c.args.self.now.book.now _ (omega arith) _ c.row_total.ensures _
    (c.sums-sums.ensures c.loop-row.row) _ c.is_equal.ensures _ c.zero_elsewhere.ensures
    c.if-not-is_equal.false c.if-not-zero_elsewhere.false c.loop-row.invariant
