-- `closing::charges::in_run` meets its contract. The loop's invariant: the sum is that of the rows passed.
-- Assumes nothing.
use mathlib.Core.Path.{◌≡◌, sym, ap, ◌∙◌}
use mathlib.Core.Bool.{Bool, true, cond}
use Prim.Native.Nat.{ℕ, ◌+◌}
use native.Mathlib.Nat.{zero-add}
use native.Mathlib.Omega.{arith}
use Rattle.algebra.specs.Sum.{sum}
use Rattle.algebra.proofs.Sums.{sum_none, sum_next}
use Rattle.series.specs.Series.{row, row_count, term_count, plus, minus}
use Rattle.series.specs.Names.{formula_of}
use Rattle.series.specs.declared.Series.{Series}
use Rattle.series.proofs.Sides.{by_number}
use Rattle.interval.specs.Interval.{is_charged, charges}
use Rattle.interval.specs.Counts.{charged_in, side_count, closed_charges}
use Rattle.interval.proofs.Counts.{counts_as_given}
use Rattle.closing.proofs.charges.in_run.Invariants.{of_row}
use Rattle.closing.proofs.charges.in_run.Goals as goal

next : (f : Series) (added : Bool) (p s i x : ℕ) → s ≡ sum (of_row f added p) 0 i → x ≡ of_row f added p i → s + x ≡ sum (of_row f added p) 0 (i + 1)
next f added p s i x e h =
    let n = sum_next (of_row f added p) 0 i in
    let z = ap (of_row f added p) (zero-add i) in
    omega (arith, e, h, n, z)

all : (f : Series) (added : Bool) (p s i : ℕ) → s ≡ sum (of_row f added p) 0 i → i ≡ row_count (formula_of f)
    → s ≡ charges is_charged (formula_of f) (cond added plus minus) p (term_count (formula_of f) p)
unfolding closed_charges
all f added p s i e h =
    e ∙ ap (sum (of_row f added p) 0) h
    ∙ by_number (λ r. side_count (formula_of f) (cond added plus minus) r (charged_in (formula_of f) p r)) (formula_of f).rows (row 1 1 0 true)
    ∙ sym (counts_as_given.closed f (cond added plus minus) p)

pub loop-row-init : goal.loop-row-init
loop-row-init c = (sym (sum_none _ 0), omega arith)

pub loop-row-preserved : goal.loop-row-preserved
loop-row-preserved c =
    let a = c.args in (
      next a.f a.added a.p _ _ _ c.loop-row.invariant.0 c.in_row-sum.ensures.counts,
      omega (arith, c.loop-row.invariant.1, c.in_row-sum.ensures.small),
    )

pub returns : goal.returns
returns c =
    let a = c.args in
    let counted = c.row_count-rows.ensures.counts in
    record { counts = all a.f a.added a.p _ _ c.loop-row.invariant.0 (omega (arith, counted)); small = omega (arith, c.loop-row.invariant.1) }
