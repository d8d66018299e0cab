-- `closing::charges::in_row` meets its contract: the even terms are on the side of term 0, the odd ones on that of term 1.
-- Assumes nothing.
use mathlib.Core.Path.{◌≡◌, refl, ap, ap₂, ◌∙◌}
use mathlib.Core.Bool.{Bool, true, false, beq, cond, not}
use Prim.Native.Nat.{ℕ, ◌+◌, ◌/◌, ◌^◌, ◌≤◌, ◌<◌}
use native.Mathlib.Omega.{arith}
use Rattle.series.specs.Series.{Formula, Row, row_count, row_at, is_added, on_side, plus, minus}
use Rattle.series.specs.Fitting.{Position}
use Rattle.series.specs.Names.{formula_of, numbers_of}
use Rattle.series.specs.declared.Series.{Series}
use Rattle.series.specs.declared.terms.Numbers.{Numbers}
use Rattle.series.proofs.Numbers.{step_positive}
use Rattle.series.proofs.Table.{fitting}
use Rattle.interval.specs.Counts.{charged_in, side_count}
use Rattle.interval.proofs.Charged.{before_k}
use Rattle.closing.proofs.Closing.{count_small}
use Rattle.closing.proofs.charges.in_row.Goals as goal

-- a term is on a side if its sign is that side's
same_side : (F : Formula) (r : Row) (k : ℕ) (added : Bool) → beq (is_added F r k) added ≡ on_side F (cond added plus minus) r k
unfolding on_side
same_side F r k true = added (is_added F r k)
  where
    added : (b : Bool) → beq b true ≡ b
    added true = refl
    added false = refl
same_side F r k false = subtracted (is_added F r k)
  where
    subtracted : (b : Bool) → beq b false ≡ not b
    subtracted true = refl
    subtracted false = refl

-- the numbers of the row, as the code has them
module _ (f : Series) (p row : ℕ) (n : Numbers) (is : n ≡ numbers_of (formula_of f) p (row_at (formula_of f) row)) where
  abbrev F : Formula
  F = formula_of f

  abbrev r : Row
  r = row_at F row

  abbrev count : ℕ
  count = n.rise / n.step + 1

  step-some : 0 < n.step
  step-some = let e = ap (λ (x : Numbers). x.step) is in let s = step_positive f in omega (arith, e, s)

  count_is : count ≡ charged_in F p r
  unfolding charged_in
  count_is = ap (λ (x : Numbers). x.rise / x.step + 1) is

  few : Position F p → row < row_count F → count ≤ 2 ^ 60
  few w h =
      let k = before_k F p r (step_positive f) (fitting f row h).lead_small in
      let s = count_small f p w in
      omega (arith, count_is, k, s)

  counted : (added : Bool)
      → cond (beq n.even added) ((count + 1) / 2) 0 + cond (beq n.odd added) (count / 2) 0 ≡ side_count F (cond added plus minus) r (charged_in F p r)
  unfolding side_count
  counted added =
      ap₂ (λ (b d : Bool). cond (beq b added) ((count + 1) / 2) 0 + cond (beq d added) (count / 2) 0)
      (ap (λ (x : Numbers). x.even) is) (ap (λ (x : Numbers). x.odd) is)
      ∙ ap₂ (λ (b d : Bool). cond b ((count + 1) / 2) 0 + cond d (count / 2) 0) (same_side F r 0 added) (same_side F r 1 added)
      ∙ ap (λ (c : ℕ). cond (on_side F (cond added plus minus) r 0) ((c + 1) / 2) 0 + cond (on_side F (cond added plus minus) r 1) (c / 2) 0) count_is

pub returns : goal.returns
returns c =
    let a = c.args.at in
    let h = few a.f a.p a.row _ c.numbers_of-numbers.ensures a.there.0 a.there.1 in
    record { counts = ap₂ ◌+◌ c.on_side.ensures.counts c.on_side-2.ensures.counts ∙ counted a.f a.p a.row _ c.numbers_of-numbers.ensures c.args.added; small = omega (arith, h, c.on_side.ensures.small, c.on_side-2.ensures.small) }
