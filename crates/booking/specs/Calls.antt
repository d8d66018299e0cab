-- Posting a ticket or a sheet by the book, and withdrawing a ticket: the tests, the answer, and the ledger and the book that each call leaves.
-- Document 02, slip 9.
use Rattle.std.specs.Prelude.{◌≡◌, refl, Bool, true, ℕ, length}
use mathlib.Core.List.{List, [], ◌∷◌, ◌++◌, foldl}
use Rattle.words.specs.Bytes.{value_of}
use Rattle.run.specs.Refusal.{Test, ◌unless◌}
use Rattle.run.specs.Call.{Call, slice}
use Rattle.run.specs.Run.{Limits}
use Rattle.run.specs.Tests.{of_sizes, of_ticket}
use Rattle.sheet.specs.Sheet.{sheet_length, sheet_count, entries, all_tickets}
use Rattle.ledger.specs.Ledger.{View, enter}
use Rattle.ledger.specs.Calls.{of_order, of_same_run, post_tests}
use Rattle.posting.specs.Calls.{sheet_tests, enter_entry}
use Rattle.book.specs.Book.{book_size, kept_in, view_with, keep, keep_entry, remove}

-- ---- posting: the tests are those of posting without a book, by what is seen of ledger and book together

unfoldable pub book_post_call : Limits → List ℕ → List ℕ → ℕ → ℕ → ℕ → ℕ → List ℕ → Call
unfolding post_tests
book_post_call lim ledger book p C row block sum = record {
  tests = post_tests lim (view_with lim ledger book) p C row block sum;
  in_order = refl;
  value = 0;
  slices = slice ledger (enter lim ledger row block (value_of sum)) ∷ slice book (keep book row block (value_of sum)) ∷ [];
}

-- all tickets of a sheet in order, or none
unfoldable pub book_sheet_post_call : Limits → List ℕ → List ℕ → List ℕ → Call
unfolding sheet_tests
book_sheet_post_call lim ledger book s = record {
  tests = sheet_tests lim (view_with lim ledger book) s;
  in_order = refl;
  value = 0;
  slices = slice ledger (foldl (enter_entry lim) ledger (entries s)) ∷ slice book (foldl keep_entry book (entries s)) ∷ [];
}

-- ---- withdrawing a ticket

-- the ticket to withdraw is marked
abbrev pub of_posted : Bool → List Test
of_posted marked = (13 unless marked) ∷ []

-- what is asked of one ticket, a ledger and a book by any call: `v` is what is seen of ledger and book
abbrev pub entry_tests : Limits → View → ℕ → ℕ → ℕ → ℕ → List Test
entry_tests lim v p C row block = of_sizes v.sized ++ of_ticket lim p C row block ++ of_order v ++ of_same_run v p C

unfoldable pub withdraw_tests : Limits → View → ℕ → ℕ → ℕ → ℕ → List Test
withdraw_tests lim v p C row block = entry_tests lim v p C row block ++ of_posted (v.marked row block)

unfoldable pub withdraw_call : Limits → List ℕ → List ℕ → ℕ → ℕ → ℕ → ℕ → Call
unfolding withdraw_tests
withdraw_call lim ledger book p C row block = record {
  tests = withdraw_tests lim (view_with lim ledger book) p C row block;
  in_order = refl;
  value = 0;
  slices = slice ledger (remove lim ledger row block (kept_in book row block)) ∷ slice book (keep book row block 0) ∷ [];
}

-- ---- as the code goes about it

-- what has been tested before a sheet's sums are kept: its rows and blocks have a place in the book
pub record AllKeepable (lim : Limits) (book s : List ℕ) : Type 0 where
  pub whole : length s ≡ sheet_length (sheet_count s)
  pub sized : length book ≡ book_size lim
  pub placed : all_tickets lim 256 (entries s) ≡ true
