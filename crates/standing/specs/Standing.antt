-- The sheet of all tickets that stand in a run: its marked tickets, in the order of sheets, with the sums that the book keeps. The tests, the answer, and
-- the bytes that the call leaves. Document 02, slip 10.
use Rattle.std.specs.Prelude.{refl, Bool, cond, ◌&&◌, List, [], ◌∷◌, ◌++◌, ℕ, zero, suc, ◌*◌, ◌/◌, ◌%◌, leb, length}
use Rattle.run.specs.Refusal.{Test}
use Rattle.run.specs.Run.{Entry, Limits}
use Rattle.run.specs.Call.{Call, slice}
use Rattle.run.specs.Tests.{of_sizes}
use Rattle.sheet.specs.Sheet.{sheet_length, sheet_of}
use Rattle.sheet.specs.Calls.{over}
use Rattle.ledger.specs.Ledger.{pos_in, blocks_in, bit_in}
use Rattle.ledger.specs.Marks.{marks_from}
use Rattle.ledger.specs.Calls.{of_order}
use Rattle.book.specs.Book.{kept_in, view_with}

-- ---- which tickets stand: `set` says which are in, `sums` what is kept for each

-- the ticket at place i: places are 256 * row + block, which sheets ascend by
unfoldable pub ticket_at : (ℕ → ℕ → ℕ) → ℕ → Entry
ticket_at sums i = record { row = i / 256; block = i % 256; sum = sums (i / 256) (i % 256) }

-- those of the n places from place i on that are in
unfoldable pub standing_from : (ℕ → ℕ → Bool) → (ℕ → ℕ → ℕ) → ℕ → ℕ → List Entry
standing_from set sums i zero = []
standing_from set sums i (suc n) = cond (set (i / 256) (i % 256)) (ticket_at sums i ∷ []) [] ++ standing_from set sums (suc i) n

-- those of all places
abbrev pub standing : Limits → (ℕ → ℕ → Bool) → (ℕ → ℕ → ℕ) → List Entry
standing lim set sums = standing_from set sums 0 (256 * lim.rows)

-- ---- by the bytes

-- every set bit counts, also at C and above
abbrev pub set_bits : Limits → List ℕ → ℕ
set_bits lim ledger = marks_from lim ledger 0 256 lim.rows

abbrev pub standing_in : Limits → List ℕ → List ℕ → List Entry
standing_in lim ledger book = standing lim (bit_in lim ledger) (kept_in book)

unfoldable pub standing_sheet : Limits → List ℕ → List ℕ → List ℕ
standing_sheet lim ledger book = sheet_of (pos_in ledger) (blocks_in ledger) (standing_in lim ledger book)

-- ---- the call

-- sizes: of ledger and book, and of an output that has 16 bytes and 20 for each set bit
unfoldable pub standing_tests : Limits → List ℕ → List ℕ → List ℕ → List Test
standing_tests lim ledger book out =
    of_sizes ((view_with lim ledger book).sized && leb (sheet_length (set_bits lim ledger)) (length out)) ++ of_order (view_with lim ledger book)

unfoldable pub standing_call : Limits → List ℕ → List ℕ → List ℕ → Call
unfolding standing_tests
standing_call lim ledger book out = record {
  tests = standing_tests lim ledger book out;
  in_order = refl;
  value = sheet_length (set_bits lim ledger);
  slices = slice out (over (standing_sheet lim ledger book) out) ∷ [];
}
