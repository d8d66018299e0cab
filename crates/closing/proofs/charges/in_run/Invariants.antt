-- `closing::charges::in_run` meets its contract. The loop's invariant: the sum is that of the rows passed.
-- Assumes nothing.
use mathlib.Core.Path.{◌≡◌}
use mathlib.Core.Bool.{Bool, cond}
use Prim.Native.Nat.{ℕ, ◌*◌, ◌^◌, ◌≤◌}
use Rattle.algebra.specs.Sum.{sum}
use Rattle.series.specs.Series.{row_at, plus, minus}
use Rattle.series.specs.Names.{formula_of}
use Rattle.series.specs.declared.Series.{Series}
use Rattle.interval.specs.Counts.{charged_in, side_count}
use Rattle.closing.proofs.charges.in_run.Given as goal

-- the charged terms of row i on a side
abbrev pub of_row : Series → Bool → ℕ → ℕ → ℕ
of_row f added p i = side_count (formula_of f) (cond added plus minus) (row_at (formula_of f) i) (charged_in (formula_of f) p (row_at (formula_of f) i))

abbrev pub invariant-loop-row : goal.invariant-loop-row
invariant-loop-row l = (l.sum ≡ sum (of_row l.f l.added l.p) 0 l.row) × (l.sum ≤ l.row * 2 ^ 60)
