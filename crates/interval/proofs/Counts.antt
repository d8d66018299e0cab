-- a and b of a run, counted term by term, in closed form: of a row's terms the even ones have the sign of term 0 and the odd ones that of
-- term 1. For the two formulas these are the documents' a and b, by the rule in force and by the one before it.
-- Assumes nothing.
use mathlib.Core.Path.{◌≡◌, refl, sym, ap, ap₂, ◌∙◌}
use mathlib.Core.Bool.{Bool, true, false, cond, not}
use Prim.Native.Nat.{ℕ, zero, suc, ◌+◌, ◌*◌, ◌-◌, ◌/◌, ◌%◌, ◌≤◌, ◌<◌}
use native.Mathlib.Omega.{arith}
use borrow.Author.Tests.{eqb-true, eqb-false}
use lib.Dec.{eqb}
use Rattle.algebra.specs.Sum.{sum}
use Rattle.series.specs.Series.{Formula, Row, Side, plus, minus, is_added, on_side, row_sum, over_rows, side_sum, term_count}
use Rattle.series.specs.Bellard.{bellard}
use Rattle.series.specs.Check.{check}
use Rattle.series.specs.Names.{formula_of}
use Rattle.series.specs.declared.Series.{Series}
use Rattle.series.specs.declared.Series.TheVariants.{Check}
use Rattle.series.proofs.Numbers.{step_positive}
use Rattle.series.proofs.Sides.{same_sign, cond_none, cond_add, row_ext, row_none, row_split, over_ext}
use Rattle.interval.specs.Interval.{is_charged, every_term, charges}
use Rattle.interval.specs.Counts.{charged_in, side_count, closed_charges, CountsAsGiven, EveryTermCounts}
use Rattle.interval.proofs.Charged.{charged, uncharged, first_ones}
use Rattle.interval.proofs.Premises.{charged_before_k}

-- ---- the terms of a row on a side

module _ (F : Formula) (side : Side) (r : Row) where
  same_side : (s : Side) (j k : ℕ) → j % 2 ≡ k % 2 → on_side F s r j ≡ on_side F s r k
  unfolding on_side
  same_side plus j k e = same_sign F r j k e
  same_side minus j k e = ap not (same_sign F r j k e)

  counted : (c : ℕ) → row_sum F side r (λ k. 1) 0 c ≡ side_count F side r c
  unfolding row_sum sum side_count
  counted zero = ap₂ ◌+◌ (sym (cond_none (on_side F side r 0))) (sym (cond_none (on_side F side r 1)))
  counted (suc c) = ap (λ (n : ℕ). n + cond (on_side F side r (0 + c)) 1 0) (counted c) ∙ next (eqb (c % 2) 0) refl
    where
      -- one term more: an even one, or an odd one
      next : (b : Bool) → eqb (c % 2) 0 ≡ b
          → cond (on_side F side r 0) ((c + 1) / 2) 0 + cond (on_side F side r 1) (c / 2) 0 + cond (on_side F side r (0 + c)) 1 0
          ≡ cond (on_side F side r 0) ((suc c + 1) / 2) 0 + cond (on_side F side r 1) (suc c / 2) 0
      next true t =
          let e = eqb-true (c % 2) 0 t in
          let x : (suc c + 1) / 2 ≡ (c + 1) / 2 + 1 = omega arith in
          let y : suc c / 2 ≡ c / 2 = omega arith in
          let s = cond_add (on_side F side r 0) ((c + 1) / 2) 1 in
          rw (same_side side (0 + c) 0 (omega arith), x, y) (omega (arith, s))
      next false t =
          let n = eqb-false (c % 2) 0 t in
          let x : (suc c + 1) / 2 ≡ (c + 1) / 2 = omega arith in
          let y : suc c / 2 ≡ c / 2 + 1 = omega arith in
          let s = cond_add (on_side F side r 1) (c / 2) 1 in
          rw (same_side side (0 + c) 1 (omega arith), x, y) (omega (arith, s))

-- ---- a and b

-- every term charged: K in every row
every_closed : (F : Formula) (side : Side) (p K : ℕ) → charges every_term F side p K ≡ over_rows (λ r. side_count F side r K) F.rows
unfolding charges side_sum every_term
every_closed F side p K = over_ext _ _ F.rows (λ r m. counted F side r K)

-- of a row's first K terms, those that are charged
row_closed : (F : Formula) (side : Side) (p K : ℕ) (r : Row) → 0 < F.step → charged_in F p r ≤ K
    → row_sum F side r (λ k. cond (is_charged F p r k) 1 0) 0 K ≡ side_count F side r (charged_in F p r)
row_closed F side p K r step h =
    let c = charged_in F p r in
    let v : ℕ → ℕ = λ k. cond (is_charged F p r k) 1 0 in
    let e : c + (K - c) ≡ K = omega arith in
    let head : row_sum F side r v 0 c ≡ side_count F side r c =
    row_ext F side r v (λ k. 1) 0 c (λ k l u. ap (λ (b : Bool). cond b 1 0) (charged F p r k (omega arith))) ∙ counted F side r c in
    let rest : row_sum F side r v (0 + c) (K - c) ≡ 0 =
    row_ext F side r v (λ k. 0) (0 + c) (K - c) (λ k l u. ap (λ (b : Bool). cond b 1 0) (uncharged F p r step k (omega arith))) ∙ row_none F side r (0 + c) (K - c) in
    let cut = ap (row_sum F side r v 0) (sym e) ∙ row_split F side r v 0 c (K - c) in
    omega (arith, head, rest, cut)

closed : (f : Series) (side : Side) (p : ℕ)
    → charges is_charged (formula_of f) side p (term_count (formula_of f) p) ≡ closed_charges (formula_of f) side p
unfolding charges side_sum closed_charges
closed f side p =
    over_ext _ _ (formula_of f).rows (λ r m. row_closed (formula_of f) side p (term_count (formula_of f) p) r (step_positive f) (charged_before_k f p r m))

-- the even terms and the odd ones are all of them
evens : (c : ℕ) → (c + 1) / 2 ≡ c - c / 2
evens c = omega arith

pub counts_as_given : CountsAsGiven
unfolding term_count closed_charges charged_in side_count over_rows on_side is_added
counts_as_given = record {
  bellard_k = λ p. refl;
  check_k = λ p. refl;
  first_ones = λ f p r k. first_ones (formula_of f) p r (step_positive f) k;
  before_k = charged_before_k;
  closed = closed;
  check_a = λ p. closed Check plus p ∙ simp evens (omega arith);
  check_b = λ p. closed Check minus p ∙ simp evens (omega arith);
}

even : (side : Side) (p K : ℕ) → K % 2 ≡ 0 → charges every_term bellard side p K ≡ 7 * K / 2
unfolding side_count over_rows on_side is_added
even plus p K e = every_closed bellard plus p K ∙ simp evens (omega arith)
even minus p K e = every_closed bellard minus p K ∙ simp evens (omega arith)

pub every_term_counts : EveryTermCounts
unfolding side_count over_rows on_side is_added
every_term_counts = record {
  bellard_even = λ p K e side. even side p K e;
  bellard_odd_a = λ p K e. every_closed bellard plus p K ∙ simp evens (omega arith);
  bellard_odd_b = λ p K e. every_closed bellard minus p K ∙ simp evens (omega arith);
  check_a = λ p K. every_closed check plus p K ∙ simp evens (omega arith);
  check_b = λ p K. every_closed check minus p K ∙ simp evens (omega arith);
}
