-- The book beside the ledger of a run: it keeps the sum of every marked ticket. What the refusal table sees of a ledger and a book together.
-- Document 02, slip 9. (The term is document 02's own.)
use Rattle.std.specs.Prelude.{◌≡◌, Bool, true, ◌&&◌, ◌||◌, List, ◌++◌, ℕ, ◌+◌, ◌*◌, ◌-◌, ◌%◌, ◌^◌, ◌<◌, eqb, length, get_or, take, drop, set}
use Rattle.algebra.specs.Sum.{sum}
use Rattle.algebra.specs.Test.{all_below}
use Rattle.words.specs.Bytes.{bytes_of, field}
use Rattle.series.specs.Series.{modulus}
use Rattle.run.specs.Run.{Entry, Limits}
use Rattle.ledger.specs.Ledger.{View, ledger_size, mark_at, pos_in, blocks_in, row_sum_in, bit_in, mark_in, in_order, add_to}

-- ---- where things stand: 16 bytes for each of 256 blocks, row after row

abbrev pub book_size : Limits → ℕ
book_size lim = 4096 * lim.rows

-- where the sum of a ticket stands
abbrev pub kept_at : ℕ → ℕ → ℕ
kept_at row block = 16 * (256 * row + block)

-- ---- what the bytes say

-- the sum that is kept for a ticket
unfoldable pub kept_in : List ℕ → ℕ → ℕ → ℕ
kept_in book row block = field book (kept_at row block) 16

-- the sums kept in a row add up to the row's sum, modulo 2 ^ 128
unfoldable pub adds_up : List ℕ → List ℕ → ℕ → Bool
adds_up ledger book row = eqb (sum (kept_in book row) 0 256 % modulus) (row_sum_in ledger row)

-- every place of a row is zero whose mark is not set: in a ledger that is in order, blocks at C and above are among them
unfoldable pub zero_elsewhere : Limits → List ℕ → List ℕ → ℕ → Bool
zero_elsewhere lim ledger book row = all_below 256 (λ block. bit_in lim ledger row block || eqb (kept_in book row block) 0)

-- the ledger is in order, and so is every row of the book beside it
unfoldable pub in_order_with : Limits → List ℕ → List ℕ → Bool
in_order_with lim ledger book =
    in_order lim ledger && all_below lim.rows (λ row. adds_up ledger book row && zero_elsewhere lim ledger book row)

-- what is seen of a ledger and a book together: sizes and order are those of both
unfoldable pub view_with : Limits → List ℕ → List ℕ → View
view_with lim ledger book = record {
  sized = eqb (length ledger) (ledger_size lim) && eqb (length book) (book_size lim);
  ordered = in_order_with lim ledger book;
  p = pos_in ledger;
  C = blocks_in ledger;
  marked = mark_in lim ledger;
}

-- ---- what is written

-- the book with x in the place of a ticket
unfoldable pub keep : List ℕ → ℕ → ℕ → ℕ → List ℕ
keep book row block x = take (kept_at row block) book ++ bytes_of 16 x ++ drop (kept_at row block + 16) book

-- one entry of a sheet
abbrev pub keep_entry : List ℕ → Entry → List ℕ
keep_entry book t = keep book t.row t.block t.sum

-- what takes x out, modulo 2 ^ 128, where it is added
unfoldable pub opposite : ℕ → ℕ
opposite x = modulus - x % modulus

-- the bytes of a ledger with the bit of a row and block, which is set, cleared
unfoldable pub unmark : Limits → List ℕ → ℕ → ℕ → List ℕ
unmark lim s row block = let at = mark_at lim row block in set s at (get_or s at 0 - 2 ^ (block % 8))

-- a ticket taken out of a ledger with its sum x: that is taken out of the sum of its row, modulo 2 ^ 128
unfoldable pub remove : Limits → List ℕ → ℕ → ℕ → ℕ → List ℕ
remove lim s row block x = unmark lim (add_to s row (opposite x)) row block

-- what has been tested before a ticket is taken out: its row and block have a place in the ledger, whatever its C, and its bit is set
pub record Removable (lim : Limits) (s : List ℕ) (row block : ℕ) : Type 0 where
  pub sized : length s ≡ ledger_size lim
  pub row_in : row < lim.rows
  pub block_in : block < 256
  pub there : bit_in lim s row block ≡ true
