-- Posting a sheet: the tests, the answer, and the ledger that the call leaves.
use Rattle.std.specs.Prelude.{◌≡◌, refl, Bool, true, not, ◌&&◌, ℕ, length}
use mathlib.Core.List.{List, [], ◌∷◌, ◌++◌, foldl}
use Rattle.run.specs.Refusal.{Test}
use Rattle.run.specs.Call.{Call, slice}
use Rattle.run.specs.Run.{Entry, Limits}
use Rattle.run.specs.Tests.{of_sizes}
use Rattle.sheet.specs.Sheet.{sheet_length, sheet_pos, sheet_blocks, sheet_count, entries, every, all_tickets, ascending}
use Rattle.sheet.specs.Tests.{sheet_sized, of_sheet}
use Rattle.ledger.specs.Ledger.{View, view_of, ledger_size, bit_in, enter}
use Rattle.ledger.specs.Calls.{of_ledger, of_marks}

-- what is asked of a sheet and of the ledger that it is posted to, once both have their sizes: `v` is what is seen of the ledger
abbrev pub of_posting : Limits → View → List ℕ → List Test
of_posting lim v s =
    of_sheet lim s ++ of_ledger v (sheet_pos s) (sheet_blocks s) ++ of_marks (every (λ t. not (v.marked t.row t.block)) (entries s))

unfoldable pub sheet_tests : Limits → View → List ℕ → List Test
sheet_tests lim v s = of_sizes (v.sized && sheet_sized lim s) ++ of_posting lim v s

-- one entry of a sheet put into a ledger
abbrev pub enter_entry : Limits → List ℕ → Entry → List ℕ
enter_entry lim s t = enter lim s t.row t.block t.sum

-- all of its tickets in order, or none
unfoldable pub sheet_post_call : Limits → List ℕ → List ℕ → Call
unfolding sheet_tests
sheet_post_call lim ledger s = record {
  tests = sheet_tests lim (view_of lim ledger) s;
  in_order = refl;
  value = 0;
  slices = slice ledger (foldl (enter_entry lim) ledger (entries s)) ∷ [];
}

-- ---- as the code goes about it

-- the bit of a ticket is not set
abbrev pub unset : Limits → List ℕ → Entry → Bool
unset lim ledger t = not (bit_in lim ledger t.row t.block)

-- what has been tested before a sheet's tickets are entered: their rows and blocks have a place in the ledger, whatever its C
pub record AllEnterable (lim : Limits) (ledger s : List ℕ) : Type 0 where
  pub whole : length s ≡ sheet_length (sheet_count s)
  pub ascends : ascending (entries s) ≡ true
  pub sized : length ledger ≡ ledger_size lim
  pub placed : all_tickets lim 256 (entries s) ≡ true
  pub new : every (unset lim ledger) (entries s) ≡ true
