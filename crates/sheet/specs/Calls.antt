-- Writing and reading a sheet: the tests, the answer, and the bytes that each call leaves in each buffer.
use Rattle.std.specs.Prelude.{refl, ◌&&◌, List, [], ◌∷◌, ◌++◌, ℕ, ◌*◌, ◌/◌, leb, length, drop}
use Rattle.series.specs.Series.{Formula}
use Rattle.run.specs.Refusal.{Test}
use Rattle.run.specs.Call.{Call, slice}
use Rattle.run.specs.Run.{Limits, limits_of}
use Rattle.run.specs.Tests.{of_sizes}
use Rattle.sheet.specs.Sheet.{sheet_length, sheet_count, entries, bodies_of, sheet_of, list_of, listed}
use Rattle.sheet.specs.Tests.{sheet_sized, of_sheet, list_sized, of_list}

-- bytes written to the front of an output, what is past them left as found
abbrev pub over : List ℕ → List ℕ → List ℕ
over s out = s ++ drop (length s) out

-- ---- writing: e is half the list's length

unfoldable pub write_tests : Formula → ℕ → ℕ → List ℕ → List ℕ → List Test
write_tests F p C list out = of_sizes (list_sized (limits_of F) list && leb (sheet_length (length list / 2)) (length out)) ++ of_list F p C list

unfoldable pub write_call : Formula → ℕ → ℕ → List ℕ → List ℕ → Call
unfolding write_tests
write_call F p C list out = record {
  tests = write_tests F p C list out;
  in_order = refl;
  value = sheet_length (length list / 2);
  slices = slice out (over (sheet_of p C (listed F p C list)) out) ∷ [];
}

-- ---- reading: a list of the tickets and their sums, to two outputs

unfoldable pub read_tests : Limits → List ℕ → List ℕ → List ℕ → List Test
read_tests lim s list sums =
    of_sizes (sheet_sized lim s && (leb (2 * sheet_count s) (length list) && leb (16 * sheet_count s) (length sums))) ++ of_sheet lim s

unfoldable pub read_call : Limits → List ℕ → List ℕ → List ℕ → Call
unfolding read_tests
read_call lim s list sums = record {
  tests = read_tests lim s list sums;
  in_order = refl;
  value = sheet_count s;
  slices = slice list (over (list_of (entries s)) list) ∷ slice sums (over (bodies_of (entries s)) sums) ∷ [];
}
