-- A formula as a value: its rows, the terms of a row, their sizes and the sums of a range of them. Document 01, "The rows".
use Rattle.std.specs.Prelude.{ℕ, ◌+◌, ◌-◌, ◌*◌, ◌/◌, ◌%◌, ◌^◌, Bool, true, cond, not, List, [], ◌∷◌, length, ◌==◌, nat_le, slice_index_or}
use Rattle.std.proofs.Math.IntN.{sub_ℕ}
use Rattle.algebra.specs.Sum.{sum}
use Rattle.algebra.specs.Whole.{residue}

-- One row: m, j, 128 + l (which is never below 0), and whether its sign is +.
pub record Row : Type 0 where
  pub m : ℕ
  pub j : ℕ
  pub lead : ℕ
  pub added : Bool

-- A formula: its rows, by how much E falls from one term to the next, whether the signs alternate, and the last position of its runs.
pub record Formula : Type 0 where
  pub rows : List Row
  pub step : ℕ
  pub alternates : Bool
  pub last : ℕ

abbrev pub row : ℕ → ℕ → ℕ → Bool → Row
row m j lead added = record { m = m; j = j; lead = lead; added = added }

-- how many rows there are, and row r (counted from 0)
abbrev pub row_count : Formula → ℕ
row_count F = length F.rows

abbrev pub row_at : Formula → ℕ → Row
row_at F r = slice_index_or F.rows r (row 1 1 0 true)

-- ---- the numbers of a term

-- n: position p counts from 1, so p - 1 digits stand before it
abbrev pub skipped : ℕ → ℕ
skipped p = p - 1

-- N of term k
abbrev pub divisor : Row → ℕ → ℕ
divisor r k = r.m * k + r.j

-- E of term k is `rise` less `fall`: 4 n + l + 128 less step * k. It may be below 0.
abbrev pub rise : ℕ → Row → ℕ
rise p r = 4 * skipped p + r.lead

abbrev pub fall : Formula → ℕ → ℕ
fall F k = F.step * k

-- whether term k is added: the row's sign for even k, the opposite for odd k where signs alternate
unfoldable pub is_added : Formula → Row → ℕ → Bool
is_added F r k = cond F.alternates (cond (k % 2 == 0) r.added (not r.added)) r.added

-- the modulus of every sum
abbrev pub modulus : ℕ
modulus = 2 ^ 128

-- q, the size of term k: floor (2 ^ E / N) modulo 2 ^ 128 if E is at least 0, else 0
unfoldable pub size : Formula → ℕ → Row → ℕ → ℕ
size F p r k = cond (nat_le (fall F k) (rise p r)) (2 ^ (rise p r - fall F k) / divisor r k % modulus) 0

-- K, the number of terms taken in every row at position p
unfoldable pub term_count : Formula → ℕ → ℕ
term_count F p = (4 * skipped p + 130) / F.step + 1

-- ---- signed sums: a signed sum is the sum of the added terms less that of the subtracted ones

pub data Side : Type 0 where
  plus : Side
  minus : Side

unfoldable pub on_side : Formula → Side → Row → ℕ → Bool
on_side F plus r k = is_added F r k
on_side F minus r k = not (is_added F r k)

-- of the values v k of the row's terms k = first, .., first + count - 1, the sum of those on one side
unfoldable pub row_sum : Formula → Side → Row → (ℕ → ℕ) → ℕ → ℕ → ℕ
row_sum F side r v first count = sum (λ k. cond (on_side F side r k) (v k) 0) first count

-- the same over every row
unfoldable pub over_rows : (Row → ℕ) → List Row → ℕ
over_rows f [] = 0
over_rows f (r ∷ rs) = f r + over_rows f rs

unfoldable pub side_sum : Formula → Side → (Row → ℕ → ℕ) → ℕ → ℕ → ℕ
side_sum F side v first count = over_rows (λ r. row_sum F side r (v r) first count) F.rows

-- the signed sum of the sizes of `count` terms of a row from `first` on, modulo 2 ^ 128
unfoldable pub range_sum : Formula → ℕ → Row → ℕ → ℕ → ℕ
range_sum F p r first count =
    residue modulus (sub_ℕ (row_sum F plus r (size F p r) first count) (row_sum F minus r (size F p r) first count))

-- the signed sum of the sizes of the first K terms of every row, modulo 2 ^ 128
unfoldable pub sizes_sum : Formula → ℕ → ℕ → ℕ
sizes_sum F p K = residue modulus (sub_ℕ (side_sum F plus (size F p) 0 K) (side_sum F minus (size F p) 0 K))
