-- `vectors::show::terms` calls what it may: the position, the row and k were tested, and the row fits by the rule of the table.
-- Assumes nothing.
use mathlib.Core.Path.{◌≡◌, sym, subst, ◌∙◌}
use Prim.Native.Nat.{ℕ, ◌+◌, ◌<◌}
use native.Mathlib.Omega.{arith}
use Rattle.series.specs.Series.{row_at, row_count, term_count}
use Rattle.series.specs.Names.{formula_of, numbers_of}
use Rattle.series.specs.Fitting.{Position, Workable}
use Rattle.series.specs.declared.Series.{Series}
use Rattle.series.specs.declared.terms.Numbers.{Numbers}
use Rattle.series.proofs.Numbers.{workable}
use Rattle.series.proofs.Table.{fitting}
use Rattle.run.proofs.Range.{position}
use Rattle.vectors.proofs.show.terms.Goals as goal

in_words : (f : Series) (p row k : ℕ) (n : Numbers) → Position (formula_of f) p → row < row_count (formula_of f)
    → k < term_count (formula_of f) p → n ≡ numbers_of (formula_of f) p (row_at (formula_of f) row) → Workable n (k + 1)
in_words f p row k n w r h s =
    subst (λ (m : Numbers). Workable m (k + 1)) (sym s) (workable f p _ (k + 1) w (fitting f row r) (omega arith))

pub size-requires : goal.size-requires
size-requires g c =
    in_words c.args.f _ _ _ _ (position _ _ 1 (sym c.in_range.ensures ∙ c.if-in_range.true))
    (rw c.row_count.ensures.counts at c.if-row-row_count.true) (rw c.term_count.ensures at c.if-k-term_count.true) c.numbers_of-numbers.ensures
