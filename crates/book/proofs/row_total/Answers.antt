-- `book::row_total` meets its contract: after each turn the sums of the blocks passed are added up, modulo 2 ^ 128.
-- Assumes nothing.
use mathlib.Core.Path.{ap, ◌∙◌}
use Prim.Native.Nat.{ℕ, ◌+◌, ◌%◌}
use Rattle.algebra.proofs.Sums.{total_next}
use Rattle.words.specs.Words.{joined}
use Rattle.series.specs.Series.{modulus}
use Rattle.ledger.proofs.RowSums.{none_totalled}
use Rattle.book.specs.Book.{kept_in}
use Rattle.book.proofs.row_total.Goals as goal

pub loop-block-init : goal.loop-block-init
loop-block-init c = none_totalled _

pub loop-block-preserved : goal.loop-block-preserved
loop-block-preserved c =
    let total = c.loop-block.total in total_next modulus (kept_in c.args.book.now c.args.row) 0 _ _ _ c.loop-block.invariant
    (c.add-total.ensures ∙ ap (λ (k : ℕ). (joined total.hi total.lo + k) % modulus) c.kept.ensures)
