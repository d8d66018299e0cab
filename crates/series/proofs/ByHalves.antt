-- Working a range of terms by halves gives its signed sum, as first-to-last order does: a range has the sum of its two parts, wherever it
-- is cut.
-- Assumes nothing.
use Rattle.std.proofs.Common.{◌≡◌, ℕ, zero, suc, ◌+◌, ◌-◌, ◌/◌, ◌%◌, ◌^◌, ◌<◌, ◌≤◌, Bool, true, false, cond, not, leb, sym, refl, ap, ◌∙◌, ap₂, add-zero, add_comm, pow-suc, zero-add, add-one, arith, leb-true}
use Rattle.std.proofs.lemmas.Grind.{common_steps}
use lib.IntN.{sub_ℕ}
use Rattle.algebra.specs.Sum.{sum}
use Rattle.algebra.specs.Whole.{residue}
use Rattle.algebra.proofs.Cong.{of_eq, of-%}
use Rattle.series.specs.Series.{Formula, Row, modulus, is_added, on_side, size, row_sum, range_sum}
use Rattle.series.specs.Results.{signed_by}
use Rattle.series.specs.Halves.{signed_size, first_to_last, one_or_none, by_halves, SameSum}
use Rattle.series.proofs.RangeSums.{residue_of, empty, split}

-- a number taken from 0
pub negative : (v t : ℕ) → t < modulus → (t + v) % modulus ≡ 0 → t ≡ residue modulus (sub_ℕ 0 v)
negative v t h z = residue_of modulus 0 v t h (of-% modulus (v + t) 0 (ap (λ (n : ℕ). n % modulus) (add_comm v t) ∙ z))

module _ (F : Formula) (p : ℕ) (r : Row) where
  -- ---- one term

  size_lt : (k : ℕ) → size F p r k < modulus
  unfolding size
  size_lt k = grind (arith, common_steps)

  -- it is the sum of a range
  one : (k : ℕ) → signed_size F p r k ≡ range_sum F p r k 1
  unfolding signed_size range_sum row_sum sum on_side
  one k = ap (λ (n : ℕ). signed_size F p r n) (sym (add-zero k)) ∙ go (is_added F r (k + 0))
    where
      q : ℕ
      q = size F p r (k + 0)

      go : (b : Bool) → cond b q (residue modulus (sub_ℕ 0 q)) ≡ residue modulus (sub_ℕ (0 + cond b q 0) (0 + cond (not b) q 0))
      go true = residue_of modulus (0 + q) 0 q (size_lt (k + 0)) (of_eq refl)
      go false = ap (λ (n : ℕ). residue modulus (sub_ℕ 0 n)) (sym (zero-add q))

  -- from its size with its sign
  pub one_signed : (k v t : ℕ) → v ≡ size F p r k → t ≡ signed_by (is_added F r k) v → t ≡ range_sum F p r k 1
  unfolding signed_size
  one_signed k v t e s = grind (arith, common_steps, one)

  -- ---- first to last

  in_order_lem : (first count : ℕ) → first_to_last F p r first count ≡ range_sum F p r first count
  unfolding first_to_last
  in_order_lem first zero = empty F p r first
  in_order_lem first (suc count) =
      ap₂ (λ (x y : ℕ). (x + y) % modulus) (in_order_lem first count) (one (first + count))
      ∙ split F p r first count 1 ∙ ap (range_sum F p r first) (add-one count)

  -- ---- by halves

  few : (first count : ℕ) → count ≤ 1 → one_or_none F p r first count ≡ range_sum F p r first count
  unfolding one_or_none
  few first zero h = empty F p r first
  few first (suc zero) h = one first
  few first (suc (suc n)) h = absurd (omega arith)

  pub halved : (first count : ℕ)
      → (range_sum F p r first (count / 2) + range_sum F p r (first + count / 2) (count - count / 2)) % modulus ≡ range_sum F p r first count
  halved first count =
      let all : count / 2 + (count - count / 2) ≡ count = omega arith in
      split F p r first (count / 2) (count - count / 2) ∙ ap (range_sum F p r first) all

  by_halves_lem : (depth first count : ℕ) → count ≤ 2 ^ depth → by_halves F p r depth first count ≡ range_sum F p r first count
  unfolding by_halves
  by_halves_lem zero first count h = few first count h
  by_halves_lem (suc depth) first count h =
      go (leb count 1) refl
      (λ l. by_halves_lem depth first (count / 2) l)
      (λ l. by_halves_lem depth (first + count / 2) (count - count / 2) l)
    where
      go : (b : Bool) → leb count 1 ≡ b
          → (count / 2 ≤ 2 ^ depth → by_halves F p r depth first (count / 2) ≡ range_sum F p r first (count / 2))
          → (count - count / 2 ≤ 2 ^ depth
          → by_halves F p r depth (first + count / 2) (count - count / 2) ≡ range_sum F p r (first + count / 2) (count - count / 2))
          → cond b (one_or_none F p r first count)
          ((by_halves F p r depth first (count / 2) + by_halves F p r depth (first + count / 2) (count - count / 2)) % modulus)
          ≡ range_sum F p r first count
      go true e lower upper = few first count (leb-true count 1 e)
      go false e lower upper =
          ap₂ (λ (x y : ℕ). (x + y) % modulus) (lower (omega (arith, pow-suc 2 depth))) (upper (omega (arith, pow-suc 2 depth)))
          ∙ halved first count

pub same_sum : SameSum
same_sum = record {
  by_halves = λ F p r first count depth h. by_halves_lem F p r depth first count h ∙ sym (in_order_lem F p r first count);
  in_order = λ F p r first count. in_order_lem F p r first count;
}
