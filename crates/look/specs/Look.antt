-- A look at a sheet before it is posted: it is refused as posting would be; otherwise its answer and its total are those of a copy of the ledger
-- with the sheet posted onto it. Document 02, slip 6.
use Rattle.std.specs.Prelude.{refl, cond, ◌&&◌, List, [], ◌∷◌, ◌++◌, ℕ, eqb, length}
use Rattle.algebra.specs.Sum.{sum}
use Rattle.words.specs.Bytes.{bytes_of}
use Rattle.run.specs.Refusal.{Test}
use Rattle.run.specs.Call.{Call, slice, bytes_left}
use Rattle.run.specs.Run.{Limits}
use Rattle.run.specs.Tests.{of_sizes}
use Rattle.sheet.specs.Tests.{sheet_sized}
use Rattle.ledger.specs.Ledger.{View, view_of, total_in}
use Rattle.posting.specs.Calls.{of_posting, sheet_post_call}

-- how many tickets of a run are not marked, by what is seen of its ledger
unfoldable pub unmarked_of : Limits → View → ℕ
unmarked_of lim v = sum (λ row. sum (λ block. cond (v.marked row block) 0 1) 0 v.C) 0 lim.rows

abbrev pub unmarked_in : Limits → List ℕ → ℕ
unmarked_in lim s = unmarked_of lim (view_of lim s)

-- the tests of posting the sheet, and the size of the total among the sizes
unfoldable pub look_tests : Limits → View → List ℕ → List ℕ → List Test
look_tests lim v s total = of_sizes (eqb (length total) 16 && (v.sized && sheet_sized lim s)) ++ of_posting lim v s

-- the number of unmarked tickets that would remain, and the total that the row sums would have
unfoldable pub look_call : Limits → List ℕ → List ℕ → List ℕ → Call
unfolding look_tests
look_call lim ledger s total = record {
  tests = look_tests lim (view_of lim ledger) s total;
  in_order = refl;
  value = unmarked_in lim (bytes_left (sheet_post_call lim ledger s) 0);
  slices = slice total (bytes_of 16 (total_in lim (bytes_left (sheet_post_call lim ledger s) 0))) ∷ [];
}
