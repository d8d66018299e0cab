-- What is promised of standing sheets, whatever was posted and withdrawn before: that there is one, that it depends on run, tickets and kept sums alone,
-- that posting it brings ledger and book back, and that it is read, and with right sums written, as any other sheet. Document 02, slip 10.
use Rattle.std.specs.Prelude.{◌≡◌, Bool, true, false, ℕ, ◌*◌, ◌≤◌, ◌<◌, pos, neg_ℤ, length, take}
use mathlib.Core.List.{List, [], ◌∷◌, ◌++◌, Memᴰ}
use Rattle.algebra.specs.Machine.{answers}
use Rattle.words.specs.Bytes.{AllBytes}
use Rattle.series.specs.Series.{Formula}
use Rattle.run.specs.Run.{Entry, Limits, limits_of, in_range, ticket_sum}
use Rattle.run.specs.Call.{Call, answered, bytes_left}
use Rattle.sheet.specs.Sheet.{sheet_most, sheet_pos, sheet_blocks, entries, ascending, sheet_of, list_of, bodies_of}
use Rattle.sheet.specs.Calls.{over, write_call, read_call}
use Rattle.ledger.specs.Plain.{encode}
use Rattle.posting.specs.Posts.{sheet, contains}
use Rattle.book.specs.Book.{view_with}
use Rattle.book.specs.Kept.{Keeping, encode_book, decode_with, Sound}
use Rattle.booking.specs.Calls.{book_sheet_post_call}
use Rattle.booking.specs.Bookings.{Booking, posting, Pair, pair, on_pairs, fresh_pair, pair_after, booking_answers, keeping_after}
use Rattle.standing.specs.Standing.{standing, standing_sheet, standing_call}

-- ---- by the plain ledger that keeps its sums

-- the tickets that stand in it, and their sheet
abbrev pub standing_of : Limits → Keeping → List Entry
standing_of lim k = standing lim k.plain.tickets k.kept

abbrev pub sheet_of_kept : Limits → Keeping → List ℕ
sheet_of_kept lim k = sheet_of k.plain.p k.plain.C (standing_of lim k)

-- A ledger and a book hold it: theirs are its bytes, and it is one of a run.
abbrev pub Holding : Limits → Pair → Keeping → Type 0
Holding lim s k = (s ≡ pair (encode lim k.plain) (encode_book lim k.kept)) × Sound lim k

-- Two of the same run, with the same tickets and the same sums kept. Nothing is said of the sums of rows.
pub record Alike (k l : Keeping) : Type 0 where
  pub same_p : k.plain.p ≡ l.plain.p
  pub same_c : k.plain.C ≡ l.plain.C
  pub same_tickets : (row block : ℕ) → k.plain.tickets row block ≡ l.plain.tickets row block
  pub same_kept : (row block : ℕ) → k.kept row block ≡ l.kept row block

-- ---- the call

-- on a ledger and a book, with some bytes lent for the sheet
abbrev pub call_for : Limits → Pair → List ℕ → Call
call_for lim s out = standing_call lim s.ledger s.book out

-- It gives the sheet b: an output that is long enough gets it, with its length as the answer and the bytes past it as found; a shorter one is refused
-- with 1, and stays.
pub record Gives (lim : Limits) (s : Pair) (b : List ℕ) : Type 0 where
  pub with_room : (out : List ℕ) → length b ≤ length out → (answered (call_for lim s out) ≡ pos (length b)) × (bytes_left (call_for lim s out) 0 ≡ over b out)
  pub too_short : (out : List ℕ) → length out < length b → (answered (call_for lim s out) ≡ neg_ℤ (pos 1)) × (bytes_left (call_for lim s out) 0 ≡ out)

-- On two ledgers with their books it gives the same: outputs of one length are answered alike, and any two that get a sheet get the same answer and the
-- same bytes up to it, whatever they held.
pub record GivesAlike (lim : Limits) (s t : Pair) : Type 0 where
  pub answers : (out out' : List ℕ) → length out ≡ length out' → answered (call_for lim s out) ≡ answered (call_for lim t out')
  pub bytes : (out out' : List ℕ) (n n' : ℕ) → answered (call_for lim s out) ≡ pos n → answered (call_for lim t out') ≡ pos n'
      → (n ≡ n') × (take n (bytes_left (call_for lim s out) 0) ≡ take n (bytes_left (call_for lim t out') 0))

-- ---- the sheet

-- These tickets are those of a set, in the order of sheets, with these sums.
pub record AreAll (set : ℕ → ℕ → Bool) (sums : ℕ → ℕ → ℕ) (ts : List Entry) : Type 0 where
  pub ascend : ascending ts ≡ true
  pub have : (row block : ℕ) → contains ts row block ≡ set row block
  pub carry : (t : Entry) → Memᴰ t ts → t.sum ≡ sums t.row t.block

-- The reader takes the sheet b, with any two outputs that have the room, and gives these tickets and sums; p and C are those of its head.
pub record ReadsAs (lim : Limits) (p C : ℕ) (ts : List Entry) (b : List ℕ) : Type 0 where
  pub count : (list sums : List ℕ) → 2 * length ts ≤ length list → 16 * length ts ≤ length sums → answered (read_call lim b list sums) ≡ pos (length ts)
  pub list_is : (list sums : List ℕ) → 2 * length ts ≤ length list → 16 * length ts ≤ length sums → bytes_left (read_call lim b list sums) 0 ≡ over (list_of ts) list
  pub sums_are : (list sums : List ℕ) → 2 * length ts ≤ length list → 16 * length ts ≤ length sums → bytes_left (read_call lim b list sums) 1 ≡ over (bodies_of ts) sums
  pub pos_is : sheet_pos b ≡ p
  pub blocks_are : sheet_blocks b ≡ C
  pub entries_are : entries b ≡ ts

-- Posted by the book onto a fresh ledger and a book that is all zero, the sheet b is taken and leaves s, ledger and book, byte for byte.
pub record BringsBack (lim : Limits) (p C : ℕ) (s : Pair) (b : List ℕ) : Type 0 where
  pub taken : answered (book_sheet_post_call lim (fresh_pair lim p C).ledger (fresh_pair lim p C).book b) ≡ pos 0
  pub ledger : bytes_left (book_sheet_post_call lim (fresh_pair lim p C).ledger (fresh_pair lim p C).book b) 0 ≡ s.ledger
  pub book : bytes_left (book_sheet_post_call lim (fresh_pair lim p C).ledger (fresh_pair lim p C).book b) 1 ≡ s.book

-- What the standing sheet of a ledger and a book is that hold the plain ledger k.
pub record Stands (lim : Limits) (s : Pair) (k : Keeping) : Type 0 where
  -- by the bytes and by the plain ledger it is the same
  pub same_sheet : standing_sheet lim s.ledger s.book ≡ sheet_of_kept lim k
  pub gives : Gives lim s (sheet_of_kept lim k)
  pub short : length (sheet_of_kept lim k) ≤ sheet_most lim
  pub are_all : AreAll k.plain.tickets k.kept (standing_of lim k)
  pub reads_as : ReadsAs lim k.plain.p k.plain.C (standing_of lim k) (sheet_of_kept lim k)
  pub brings_back : BringsBack lim k.plain.p k.plain.C s (sheet_of_kept lim k)
  -- where nothing is marked it is the sheet of no tickets
  pub none : ((row block : ℕ) → k.plain.tickets row block ≡ false)
      → (sheet_of_kept lim k ≡ sheet_of k.plain.p k.plain.C []) × (length (sheet_of_kept lim k) ≡ 16)

-- every kept sum is its ticket's
abbrev pub AllRight : Formula → Keeping → Type 0
AllRight F k = (row block : ℕ) → k.plain.tickets row block ≡ true → k.kept row block ≡ ticket_sum F k.plain.p k.plain.C row block

-- ---- all of it, for the runs of a formula

pub record Standings (F : Formula) : Type 0 where
  -- a ledger and a book that have their sizes and are in order together hold a plain ledger, and so do those that any posts and withdrawals leave
  pub in_order : (ledger book : List ℕ) → AllBytes ledger → AllBytes book → (view_with (limits_of F) ledger book).sized ≡ true
      → (view_with (limits_of F) ledger book).ordered ≡ true → Holding (limits_of F) (pair ledger book) (decode_with (limits_of F) ledger book)
  pub after : (p C : ℕ) → in_range (limits_of F) p C ≡ true → (bookings : List Booking)
      → Holding (limits_of F) (pair_after (limits_of F) p C bookings) (keeping_after (limits_of F) p C bookings)
  -- these have a standing sheet
  pub stands : (s : Pair) (k : Keeping) → Holding (limits_of F) s k → Stands (limits_of F) s k
  -- the same run, tickets and kept sums: ledger and book are the same bytes, and the call gives the same
  pub same_bytes : (s t : Pair) (k l : Keeping) → Holding (limits_of F) s k → Holding (limits_of F) t l → Alike k l → s ≡ t
  pub gives_alike : (s t : Pair) (k l : Keeping) → Holding (limits_of F) s k → Holding (limits_of F) t l → Alike k l → GivesAlike (limits_of F) s t
  -- right sums: answer and bytes are those of the writer, of that list and with the same output
  pub as_written : (s : Pair) (k : Keeping) → Holding (limits_of F) s k → AllRight F k → (out : List ℕ)
      → (answered (call_for (limits_of F) s out) ≡ answered (write_call F k.plain.p k.plain.C (list_of (standing_of (limits_of F) k)) out))
      × (bytes_left (call_for (limits_of F) s out) 0 ≡ bytes_left (write_call F k.plain.p k.plain.C (list_of (standing_of (limits_of F) k)) out) 0)
  -- a run that was moved goes on as the run that it was moved from, whatever is posted and withdrawn then
  pub goes_on : (p C : ℕ) → in_range (limits_of F) p C ≡ true → (bookings later : List Booking)
      → (pair_after (limits_of F) p C (posting (sheet (sheet_of_kept (limits_of F) (keeping_after (limits_of F) p C bookings))) ∷ later)
      ≡ pair_after (limits_of F) p C (bookings ++ later))
      × (booking_answers (limits_of F) p C (posting (sheet (sheet_of_kept (limits_of F) (keeping_after (limits_of F) p C bookings))) ∷ later)
      ≡ pos 0 ∷ answers (on_pairs (limits_of F)) (pair_after (limits_of F) p C bookings) later)
