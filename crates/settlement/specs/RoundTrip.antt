-- Demand 2, second sentence: a sheet written reads back as the same tickets and sums, and one accepted with right sums is byte for
-- byte the one written. Both are about the calls' own definitions.
use Rattle.std.specs.Prelude.{◌≡◌, ℕ, ◌*◌, ◌/◌, ◌^◌, ◌≤◌, ◌<◌, pos, length, take, drop}
use mathlib.Core.List.{List, Memᴰ}
use Rattle.words.specs.Bytes.{AllBytes}
use Rattle.series.specs.Series.{Formula, row_count}
use Rattle.run.specs.Run.{Entry, Limits, limits_of, ticket_sum}
use Rattle.run.specs.Call.{answered, bytes_left}
use Rattle.sheet.specs.Sheet.{sheet_length, sheet_pos, sheet_blocks, entries, bodies_of, list_of, listed}
use Rattle.sheet.specs.Calls.{over, write_call, read_call}
use Rattle.posting.specs.Calls.{sheet_post_call}
use Rattle.booking.specs.Calls.{book_sheet_post_call}

-- rows fit a byte, and positions 8 bytes
pub record Fits (F : Formula) : Type 0 where
  pub few : row_count F < 256
  pub near : F.last < 2 ^ 64

-- A sheet is accepted where a call takes it: the reader with some outputs, or a post on some ledger, without a book or by some book.
pub data Accepted (lim : Limits) (s : List ℕ) : Type 0 where
  by_reading : (list sums : List ℕ) (e : ℕ) → answered (read_call lim s list sums) ≡ pos e → Accepted lim s
  by_posting : (ledger : List ℕ) → answered (sheet_post_call lim ledger s) ≡ pos 0 → Accepted lim s
  by_booking : (ledger book : List ℕ) → answered (book_sheet_post_call lim ledger book s) ≡ pos 0 → Accepted lim s

-- each sum is its ticket's
unfoldable pub RightSums : Formula → List ℕ → Type 0
RightSums F s =
    (t : Entry) → Memᴰ t (entries s) → t.sum ≡ ticket_sum F (sheet_pos s) (sheet_blocks s) t.row t.block

-- The reader takes the sheet s and gives back the list, the sums, p and C.
pub record ReadsBack (F : Formula) (p C : ℕ) (list s list' sums' : List ℕ) : Type 0 where
  pub count : answered (read_call (limits_of F) s list' sums') ≡ pos (length list / 2)
  pub list_is : bytes_left (read_call (limits_of F) s list' sums') 0 ≡ over list list'
  pub sums_are : bytes_left (read_call (limits_of F) s list' sums') 1 ≡ over (bodies_of (listed F p C list)) sums'
  pub pos_is : sheet_pos s ≡ p
  pub blocks_are : sheet_blocks s ≡ C

-- The writer answered n: it wrote n bytes and left those past them as found. The n bytes are accepted, with right sums, and the reader takes
-- them back with any two outputs that have the room.
pub record Written (F : Formula) (p C : ℕ) (list out : List ℕ) (n : ℕ) : Type 0 where
  pub length_is : n ≡ sheet_length (length list / 2)
  pub rest : drop n (bytes_left (write_call F p C list out) 0) ≡ drop n out
  pub accepted : Accepted (limits_of F) (take n (bytes_left (write_call F p C list out) 0))
  pub right : RightSums F (take n (bytes_left (write_call F p C list out) 0))
  pub reads_back : (list' sums' : List ℕ) → length list ≤ length list' → 8 * length list ≤ length sums'
      → ReadsBack F p C list (take n (bytes_left (write_call F p C list out) 0)) list' sums'

abbrev pub WrittenReadsBack : Formula → Type 0
WrittenReadsBack F = (p C : ℕ) (list out : List ℕ) → AllBytes list → (n : ℕ) → answered (write_call F p C list out) ≡ pos n → Written F p C list out n

-- An accepted sheet with right sums is byte for byte the one that the writer writes of its p, C and list, where the output has the room.
abbrev pub AcceptedIsWritten : Formula → Type 0
AcceptedIsWritten F =
    (s out : List ℕ) → AllBytes s → Accepted (limits_of F) s → RightSums F s → length s ≤ length out
    → (answered (write_call F (sheet_pos s) (sheet_blocks s) (list_of (entries s)) out) ≡ pos (length s))
    × (bytes_left (write_call F (sheet_pos s) (sheet_blocks s) (list_of (entries s)) out) 0 ≡ over s out)
