-- A range of terms cut in the middle, and each part of it again, until no part has more than one term. Document 02, slip 3.
use Rattle.std.specs.Prelude.{◌≡◌, ℕ, zero, suc, ◌+◌, ◌-◌, ◌/◌, ◌%◌, ◌^◌, ◌≤◌, cond, nat_le}
use Rattle.std.proofs.Math.IntN.{sub_ℕ}
use Rattle.algebra.specs.Whole.{residue}
use Rattle.series.specs.Series.{Formula, Row, modulus, is_added, size, range_sum}

-- term k with its sign, modulo 2 ^ 128
unfoldable pub signed_size : Formula → ℕ → Row → ℕ → ℕ
signed_size F p r k = cond (is_added F r k) (size F p r k) (residue modulus (sub_ℕ 0 (size F p r k)))

-- `count` terms from `first` on, first to last: each is added to the sum of those before it
unfoldable pub first_to_last : Formula → ℕ → Row → ℕ → ℕ → ℕ
first_to_last F p r first zero = 0
first_to_last F p r first (suc count) = (first_to_last F p r first count + signed_size F p r (first + count)) % modulus

-- the same terms by halves, with up to `depth` cuts one inside the other; one term or none is cut no further
unfoldable pub one_or_none : Formula → ℕ → Row → ℕ → ℕ → ℕ
one_or_none F p r first zero = 0
one_or_none F p r first (suc n) = signed_size F p r first

unfoldable pub by_halves : Formula → ℕ → Row → ℕ → ℕ → ℕ → ℕ
by_halves F p r zero first count = one_or_none F p r first count
by_halves F p r (suc depth) first count =
    cond (nat_le count 1) (one_or_none F p r first count)
    ((by_halves F p r depth first (count / 2) + by_halves F p r depth (first + count / 2) (count - count / 2)) % modulus)

-- The law, for every formula, row and range: adding by halves comes to the same as adding from the first term to the last, and both to the
-- range's signed sum. Up to 2 ^ depth terms take no more than `depth` cuts one inside the other.
pub record SameSum : Type 0 where
  pub by_halves : (F : Formula) (p : ℕ) (r : Row) (first count depth : ℕ) → count ≤ 2 ^ depth
      → by_halves F p r depth first count ≡ first_to_last F p r first count
  pub in_order : (F : Formula) (p : ℕ) (r : Row) (first count : ℕ) → first_to_last F p r first count ≡ range_sum F p r first count
