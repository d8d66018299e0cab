-- The ledger's bytes, and what the refusal table sees of a ledger. Document 01, "The ledger"; document 02, slip 1.
use Rattle.std.specs.Prelude.{◌≡◌, Bool, false, not, ◌&&◌, ◌||◌, List, ◌++◌, ℕ, ◌+◌, ◌*◌, ◌/◌, ◌%◌, ◌^◌, ◌<◌, ltb, eqb, length, get_or, take, drop, set, replicate}
use Rattle.algebra.specs.Sum.{sum}
use Rattle.algebra.specs.Test.{all_below}
use Rattle.words.specs.Bytes.{bytes_of, field}
use Rattle.series.specs.Series.{modulus}
use Rattle.run.specs.Run.{Limits, in_range, is_ticket}

-- What the refusal table asks of a ledger: whether it has its size and is in order, its run, and which tickets are marked.
pub record View : Type 0 where
  pub sized : Bool
  pub ordered : Bool
  pub p : ℕ
  pub C : ℕ
  pub marked : ℕ → ℕ → Bool

-- ---- where things stand: p in 8 bytes, C in 2, 6 zero bytes, then for each row a sum of 16 bytes, then for each row 32 bytes of marks

abbrev pub ledger_size : Limits → ℕ
ledger_size lim = 16 + 48 * lim.rows

-- where a row's sum stands
abbrev pub sum_at : ℕ → ℕ
sum_at row = 16 + 16 * row

-- where the marks begin: past the last row's sum
abbrev pub marks_at : Limits → ℕ
marks_at lim = sum_at lim.rows

-- where the byte of a block's mark stands
abbrev pub mark_at : Limits → ℕ → ℕ → ℕ
mark_at lim row block = marks_at lim + (32 * row + block / 8)

abbrev pub head : ℕ → ℕ → List ℕ
head p C = bytes_of 8 p ++ bytes_of 2 C ++ replicate 6 0

-- ---- what the bytes say

unfoldable pub pos_in : List ℕ → ℕ
pos_in s = field s 0 8

unfoldable pub blocks_in : List ℕ → ℕ
blocks_in s = field s 8 2

-- the sum of a row
unfoldable pub row_sum_in : List ℕ → ℕ → ℕ
row_sum_in s row = field s (sum_at row) 16

-- the total of the rows' sums, modulo 2 ^ 128
unfoldable pub total_of : Limits → (ℕ → ℕ) → ℕ
total_of lim sums = sum sums 0 lim.rows % modulus

abbrev pub total_in : Limits → List ℕ → ℕ
total_in lim s = total_of lim (row_sum_in s)

-- block i of a row is bit i mod 8, bit 0 the lowest, of the row's byte floor (i / 8)
unfoldable pub bit_in : Limits → List ℕ → ℕ → ℕ → Bool
bit_in lim s row block = eqb (get_or s (mark_at lim row block) 0 / 2 ^ (block % 8) % 2) 1

-- the ticket is one of the ledger's run, and its bit is set
unfoldable pub mark_in : Limits → List ℕ → ℕ → ℕ → Bool
mark_in lim s row block = is_ticket lim (blocks_in s) row block && bit_in lim s row block

-- p and C are in range, the 6 bytes are zero, and no bit at C or above is set
unfoldable pub in_order : Limits → List ℕ → Bool
in_order lim s =
    in_range lim (pos_in s) (blocks_in s) && eqb (field s 10 6) 0
    && all_below lim.rows (λ row. all_below 256 (λ block. ltb block (blocks_in s) || not (bit_in lim s row block)))

unfoldable pub view_of : Limits → List ℕ → View
view_of lim s = record {
  sized = eqb (length s) (ledger_size lim);
  ordered = in_order lim s;
  p = pos_in s;
  C = blocks_in s;
  marked = mark_in lim s;
}

-- ---- what is written

-- a fresh ledger
unfoldable pub fresh : Limits → ℕ → ℕ → List ℕ
fresh lim p C = head p C ++ replicate (48 * lim.rows) 0

-- the bytes with x added to the sum of a row, modulo 2 ^ 128
unfoldable pub add_to : List ℕ → ℕ → ℕ → List ℕ
add_to s row x = take (sum_at row) s ++ bytes_of 16 ((row_sum_in s row + x) % modulus) ++ drop (sum_at row + 16) s

-- the bytes with the bit of a row and block, which is not set, set
unfoldable pub mark : Limits → List ℕ → ℕ → ℕ → List ℕ
mark lim s row block = let at = mark_at lim row block in set s at (get_or s at 0 + 2 ^ (block % 8))

-- a ticket entered with its sum
unfoldable pub enter : Limits → List ℕ → ℕ → ℕ → ℕ → List ℕ
enter lim s row block x = mark lim (add_to s row x) row block

-- what has been tested before a ticket is entered: its row and block have a place in the ledger, whatever its C, and its bit is not set
pub record Enterable (lim : Limits) (s : List ℕ) (row block : ℕ) : Type 0 where
  pub sized : length s ≡ ledger_size lim
  pub row_in : row < lim.rows
  pub block_in : block < 256
  pub new : bit_in lim s row block ≡ false
