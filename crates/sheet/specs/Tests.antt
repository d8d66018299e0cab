-- What is asked of a sheet's bytes, and of a list: their sizes, and then run, form and tickets.
use Rattle.std.specs.Prelude.{Bool, ◌&&◌, List, ◌++◌, ℕ, ◌%◌, leb, eqb, length}
use Rattle.series.specs.Series.{Formula}
use Rattle.run.specs.Refusal.{Test}
use Rattle.run.specs.Run.{Limits, limits_of}
use Rattle.run.specs.Tests.{of_run, of_form, of_tickets}
use Rattle.sheet.specs.Sheet.{sheet_most, list_most, sheet_pos, sheet_blocks, entries, all_tickets, ascending, well_formed, listed}

-- ---- a sheet

unfoldable pub sheet_sized : Limits → List ℕ → Bool
sheet_sized lim s = leb 16 (length s) && leb (length s) (sheet_most lim)

abbrev pub of_sheet : Limits → List ℕ → List Test
of_sheet lim s =
    of_run lim (sheet_pos s) (sheet_blocks s) ++ of_form (well_formed s) ++ of_tickets (all_tickets lim (sheet_blocks s) (entries s))

-- ---- a list, for the run p, C

unfoldable pub list_sized : Limits → List ℕ → Bool
list_sized lim list = eqb (length list % 2) 0 && leb (length list) (list_most lim)

abbrev pub of_list : Formula → ℕ → ℕ → List ℕ → List Test
of_list F p C list =
    of_run (limits_of F) p C ++ of_form (ascending (listed F p C list)) ++ of_tickets (all_tickets (limits_of F) C (listed F p C list))
