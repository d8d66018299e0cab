-- Working a ticket, whole or one half of it: what the call answers, and what it leaves in the bytes lent for the sum and for the squarings. The
-- three calls are refused alike, so that they have one list of tests and one answer. A quote gives the squarings alone, and is refused as
-- working is (document 02, slip 7).
use Rattle.std.specs.Prelude.{refl, Bool, ◌&&◌, List, [], ◌∷◌, ◌++◌, ℕ, eqb, length}
use Rattle.words.specs.Bytes.{bytes_of}
use Rattle.series.specs.Series.{Formula}
use Rattle.run.specs.Refusal.{Test}
use Rattle.run.specs.Call.{Call, slice}
use Rattle.run.specs.Run.{limits_of}
use Rattle.run.specs.Tests.{of_sizes, of_ticket}
use Rattle.ticket.specs.Parts.{part_sum, part_squarings}
use Rattle.ticket.specs.declared.Part.{Part}

-- a slice for a sum or for squarings has its size
unfoldable pub is_sized : List ℕ → Bool
is_sized s = eqb (length s) 16

-- the tests of working and of quoting, where `sized` says that each slice lent has its size
unfoldable pub part_tests : Formula → ℕ → ℕ → ℕ → ℕ → Bool → List Test
part_tests F p C row block sized = of_sizes sized ++ of_ticket (limits_of F) p C row block

unfoldable pub both_sized : List ℕ → List ℕ → Bool
both_sized out squarings = is_sized out && is_sized squarings

unfoldable pub work_call : Formula → Part → ℕ → ℕ → ℕ → ℕ → List ℕ → List ℕ → Call
unfolding part_tests
work_call F part p C row block out squarings = record {
  tests = part_tests F p C row block (both_sized out squarings);
  in_order = refl;
  value = 0;
  slices = slice out (bytes_of 16 (part_sum F part p C row block)) ∷ slice squarings (bytes_of 16 (part_squarings F part p C row block)) ∷ [];
}

unfoldable pub quote_call : Formula → Part → ℕ → ℕ → ℕ → ℕ → List ℕ → Call
unfolding part_tests
quote_call F part p C row block squarings = record {
  tests = part_tests F p C row block (is_sized squarings);
  in_order = refl;
  value = 0;
  slices = slice squarings (bytes_of 16 (part_squarings F part p C row block)) ∷ [];
}
