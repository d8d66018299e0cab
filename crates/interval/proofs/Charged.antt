-- Which terms of a row are charged: the first of them, and as many as the closed form says, all before K where no l is above 2.
-- Assumes nothing.
use mathlib.Core.Path.{◌≡◌, refl}
use mathlib.Core.Bool.{Bool, true, false}
use Prim.Native.Nat.{ℕ, ◌+◌, ◌*◌, ◌/◌, ◌≤◌, ◌<◌}
use native.Mathlib.Nat.{mul-le-mul_left, mul-div-le, lt-mul-div-succ, le-div_iff_mul-le, div-mul-le_self}
use native.Mathlib.Omega.{arith}
use borrow.Author.Tests.{le-leb, lt-leb, ltb-true, ltb-false}
use lib.Dec.{ltb}
use Rattle.series.specs.Series.{Formula, Row, skipped, rise, fall, term_count}
use Rattle.interval.specs.Interval.{is_charged}
use Rattle.interval.specs.Counts.{charged_in}

module _ (F : Formula) (p : ℕ) (r : Row) where
  pub charged : (k : ℕ) → k < charged_in F p r → is_charged F p r k ≡ true
  unfolding is_charged charged_in
  charged k h =
      let q : k ≤ rise p r / F.step = omega arith in
      let l = mul-le-mul_left F.step q in
      le-leb (fall F k) (rise p r) (omega (arith, l, mul-div-le (rise p r) F.step))

  module _ (positive : 0 < F.step) where
    -- the first one that is not has E below 0
    pub first_below : rise p r < fall F (charged_in F p r)
    unfolding charged_in
    first_below = lt-mul-div-succ (rise p r) positive

    pub uncharged : (k : ℕ) → charged_in F p r ≤ k → is_charged F p r k ≡ false
    unfolding is_charged
    uncharged k h =
        let l = mul-le-mul_left F.step h in
        lt-leb (fall F k) (rise p r) (omega (arith, l, first_below))

    pub before_k : r.lead ≤ 130 → charged_in F p r ≤ term_count F p
    unfolding charged_in term_count
    before_k h =
        let l : rise p r / F.step * F.step ≤ 4 * skipped p + 130 = omega (arith, div-mul-le_self (rise p r) F.step) in
        let q = (le-div_iff_mul-le {x = rise p r / F.step} {y = 4 * skipped p + 130} positive).1 l in
        omega arith

    pub first_ones : (k : ℕ) → is_charged F p r k ≡ ltb k (charged_in F p r)
    first_ones k = go (ltb k (charged_in F p r)) refl
      where
        go : (b : Bool) → ltb k (charged_in F p r) ≡ b → is_charged F p r k ≡ b
        go true e = charged k (ltb-true k (charged_in F p r) e)
        go false e = uncharged k (ltb-false k (charged_in F p r) e)
