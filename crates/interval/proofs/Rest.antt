-- The exact terms that are not charged stay below one unit on each side. In each row they start with E below 0 and fall by half or more from
-- one to the next: they add up to less than 1 / N of a unit, where N is that of term 1. Over all rows these parts come to less than a unit.
-- Assumes nothing.
use mathlib.Core.Path.{◌≡◌, sym, ap, ◌∙◌, subst}
use mathlib.Core.Bool.{Bool, true, false, cond}
use mathlib.Core.List.{Memᴰ}
use Prim.Native.Nat.{ℕ, zero, suc, ◌+◌, ◌*◌, ◌-◌, ◌/◌, ◌^◌, ◌≤◌, ◌<◌}
use native.Mathlib.Nat.{zero-add, pow-zero, pow-suc, mul-le-mul_left, mul-le-mul_right, mul-le-mul, div-mul-le_self, lt-mul-div-succ, le_of_mul-le-mul_left, lt_of_mul-lt-mul_left, le_trans, mul-zero, mul-add}
use native.Mathlib.Omega.{arith}
use lib.Pow.{pow_pos, pow-add, pow_mono}
use Rattle.algebra.specs.Sum.{sum}
use Rattle.series.specs.Series.{Row, Formula, Side, divisor, rise, fall, on_side, row_sum, over_rows, side_sum}
use Rattle.interval.specs.Exact.{exact_times}
use Rattle.interval.specs.Interval.{is_charged, uncharged_times, RestBelowUnit}
use Rattle.interval.specs.Counts.{charged_in}
use Rattle.series.proofs.Sides.{row_ext, row_none, row_split, over_le, over_ext, over_add, over_mul}
use Rattle.interval.proofs.Charged.{charged, uncharged, first_below}

-- where each s c is at most half of D / 2 ^ c, their sums S c fall behind D by at least D / 2 ^ c
module _ (D : ℕ) (S s : ℕ → ℕ) (first : S 0 ≡ 0) (next : (c : ℕ) → S (suc c) ≡ S c + s c) (small : (c : ℕ) → s c * 2 ^ c * 2 ≤ D) where
  behind : (c : ℕ) → 2 ^ c * S c + D ≤ D * 2 ^ c
  behind zero = rw first (omega (arith, ap (λ (x : ℕ). D * x) (pow-zero 2)))
  behind (suc c) =
      let h = behind c in
      let k = small c in
      rw (next c, pow-suc) (omega (arith, h, k))

  stays_below : 0 < D → (c : ℕ) → S c < D
  stays_below d c = lt_of_mul-lt-mul_left (2 ^ c) (let h = behind c in omega (arith, h))

-- ---- one row

module _ (F : Formula) (p : ℕ) (r : Row) (step : 0 < F.step) where
  -- N of term 1, which is the least of those that are not charged: term 0 always is
  abbrev least : ℕ
  least = divisor r 1

  -- term i of those that are not charged: E is below - i
  below : (i : ℕ) → 2 ^ rise p r * (2 ^ i * 2) ≤ 2 ^ fall F (charged_in F p r + i)
  below i =
      let c = charged_in F p r in
      let l : i ≤ F.step * i = (let h = mul-le-mul_right i step in omega (arith, h)) in
      let e : F.step * (c + i) ≡ F.step * c + F.step * i = mul-add F.step c i in
      let h : rise p r + (i + 1) ≤ fall F (c + i) = omega (arith, first_below F p r step, l, e) in
      subst (λ (x : ℕ). x ≤ 2 ^ fall F (c + i)) (pow-add 2 (rise p r) (i + 1) ∙ ap (λ (x : ℕ). 2 ^ rise p r * x) (pow-add 2 i 1)) (pow_mono h)

  small : (D i : ℕ) → least * exact_times F p D r (charged_in F p r + i) * 2 ^ i * 2 ≤ D
  unfolding exact_times charged_in
  small D i =
      let k = charged_in F p r + i in
      let A = 2 ^ rise p r in
      let x = exact_times F p D r k in
      let t = 2 ^ i * 2 in
      let one : 1 ≤ k = omega arith in
      let n : least ≤ divisor r k = (let h = mul-le-mul_left r.m one in omega (arith, h)) in
      let h₁ : x * (least * (A * t)) ≤ x * (divisor r k * 2 ^ fall F k) = mul-le-mul_left x (mul-le-mul n (below i)) in
      let h₂ : x * (divisor r k * 2 ^ fall F k) ≤ D * A = div-mul-le_self (D * A) (divisor r k * 2 ^ fall F k) in
      cancel A x least (2 ^ i) D (pow_pos (rise p r)) (le_trans h₁ h₂)
    where
      cancel : (A x w t D : ℕ) → 0 < A → x * (w * (A * (t * 2))) ≤ D * A → w * x * t * 2 ≤ D
      cancel A x w t D a h = le_of_mul-le-mul_left {k = A} (omega (arith, h)) a

  row_below : (D : ℕ) (side : Side) (count : ℕ) → 0 < D → least * row_sum F side r (exact_times F p D r) (charged_in F p r) count < D
  unfolding row_sum sum
  row_below D side count d =
      let c = charged_in F p r in
      let x : ℕ → ℕ = λ k. cond (on_side F side r k) (exact_times F p D r k) 0 in
      stays_below D (λ i. least * sum x c i) (λ i. least * x (c + i)) (mul-zero least) (λ i. mul-add least (sum x c i) (x (c + i)))
      (λ i. on (on_side F side r (c + i)) (exact_times F p D r (c + i)) least (2 ^ i) D (small D i)) d count
    where
      on : (b : Bool) (x w t D : ℕ) → w * x * t * 2 ≤ D → w * cond b x 0 * t * 2 ≤ D
      on true x w t D h = omega (arith, h)
      on false x w t D h = omega arith

  -- the terms that are not charged, before K and from K on, stand in one range
  one_range : (D : ℕ) (side : Side) (K count : ℕ) → charged_in F p r ≤ K
      → row_sum F side r (uncharged_times is_charged F p D r) 0 K + row_sum F side r (exact_times F p D r) K count
      ≡ row_sum F side r (exact_times F p D r) (charged_in F p r) (K - charged_in F p r + count)
  unfolding uncharged_times
  one_range D side K count h =
      let c = charged_in F p r in
      let x = exact_times F p D r in
      let u = uncharged_times is_charged F p D r in
      let e : c + (K - c) ≡ K = omega arith in
      let none : row_sum F side r u 0 c ≡ 0 =
      row_ext F side r u (λ k. 0) 0 c (λ k l m. ap (λ (b : Bool). cond b 0 (x k)) (charged F p r k (omega arith))) ∙ row_none F side r 0 c in
      let all : row_sum F side r u (0 + c) (K - c) ≡ row_sum F side r x (0 + c) (K - c) =
      row_ext F side r u x (0 + c) (K - c) (λ k l m. ap (λ (b : Bool). cond b 0 (x k)) (uncharged F p r step k (omega arith))) in
      let z = ap (λ (n : ℕ). row_sum F side r x n (K - c)) (zero-add c) in
      let cut = ap (row_sum F side r u 0) (sym e) ∙ row_split F side r u 0 c (K - c) in
      let end = row_split F side r x c (K - c) count in
      let at-K = ap (λ (n : ℕ). row_sum F side r x n count) e in
      omega (arith, none, all, z, cut, end, at-K)

-- ---- all rows

-- the part of a unit that a row takes at most, in hundredths
abbrev pub percent : Row → ℕ
percent r = 100 / divisor r 1 + 1

takes : (w T D : ℕ) → 0 < w → w * T < D → 100 * T ≤ D * (100 / w + 1)
takes w T D h l =
    let q = 100 / w + 1 in
    let a : 100 * T ≤ w * q * T = mul-le-mul_right T (let g = lt-mul-div-succ 100 h in omega (arith, g)) in
    let b : q * (w * T) ≤ q * D = mul-le-mul_left q (omega arith) in
    omega (arith, a, b)

module _ (F : Formula) (p K : ℕ) (step : 0 < F.step) (first : (r : Row) → Memᴰ r F.rows → 0 < divisor r 1)
    (before : (r : Row) → Memᴰ r F.rows → charged_in F p r ≤ K) (room : over_rows percent F.rows < 100) where
  pub rest_below : RestBelowUnit is_charged F p K
  unfolding RestBelowUnit side_sum
  rest_below D count d whole side =
      let T : Row → ℕ = λ r. row_sum F side r (exact_times F p D r) (charged_in F p r) (K - charged_in F p r + count) in
      let is = sym (over_add (λ r. row_sum F side r (uncharged_times is_charged F p D r) 0 K) (λ r. row_sum F side r (exact_times F p D r) K count) F.rows)
      ∙ over_ext _ T F.rows (λ r m. one_range F p r step D side K count (before r m)) in
      let parts = over_le (λ r. 100 * T r) (λ r. D * percent r) F.rows
      (λ r m. takes (divisor r 1) (T r) D (first r m) (row_below F p r step D side _ d)) in
      let e₁ = over_mul 100 T F.rows in
      let e₂ = over_mul D percent F.rows in
      let h = mul-le-mul_left D room in
      subst (λ (x : ℕ). x < D) (sym is) (lt_of_mul-lt-mul_left 100 (omega (arith, parts, e₁, e₂, h, d)))
