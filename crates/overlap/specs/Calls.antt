-- The calls of two digit strings: the refusals, the part that is handed out, and where it lies. Document 02, slip 8.
use Rattle.std.specs.Prelude.{◌≡◌, refl, Bool, false, cond, ◌&&◌, List, [], ◌∷◌, ◌++◌, ℕ, ◌+◌, ◌≤◌, eqb, length, drop}
use Rattle.std.specs.Borrow.{Bor}
use Rattle.words.specs.Bytes.{bytes_of}
use Rattle.run.specs.Refusal.{Test, ◌unless◌, refusal}
use Rattle.run.specs.Call.{Call, slice}
use Rattle.run.specs.Tests.{of_sizes}
use Rattle.overlap.specs.Strings.{Laid, laid, in_form, share, agree, second_further, skipped}

-- both are in form, they share a position, and they agree at every one
unfoldable pub overlap_tests : Laid → Laid → List Test
overlap_tests a b = (10 unless (in_form a && in_form b)) ∷ (11 unless share a b) ∷ (12 unless agree a b) ∷ []

-- 0, or the refusal
unfoldable pub overlap_call : Laid → Laid → Call
unfolding overlap_tests
overlap_call a b = record {
  tests = overlap_tests a b;
  in_order = refl;
  value = 0;
  slices = [];
}

-- ---- the part, as a slice of one of the two

-- A part of one of two strings: whether it is of the second, and how many digits stand before it. It reaches to that string's end.
pub record Place : Type 0 where
  pub second : Bool
  pub at : ℕ

abbrev pub place : Bool → ℕ → Place
place second at = record { second = second; at = at }

-- the stretch of the string that reaches further; where the strings are refused, the empty part at the end of the first
unfoldable pub part_place : Laid → Laid → Place
part_place a b = cond (eqb (refusal (overlap_tests a b)) 0) (place (second_further a b) (skipped a b)) (place false (length a.digits))

-- the digits at a place
abbrev pub digits_of : Laid → Laid → Place → List ℕ
digits_of a b w = drop w.at (cond w.second b.digits a.digits)

abbrev pub part_of : Laid → Laid → List ℕ
part_of a b = digits_of a b (part_place a b)

-- r is what is left of the slice s behind `at` bytes, in the memory of s itself: the same block, `at` bytes further on
pub record IsRest (s : Bor (List ℕ)) (at : ℕ) (r : Bor (List ℕ)) : Type 0 where
  pub within : at ≤ length s.now
  pub block : r.ref_ptr.0 ≡ s.ref_ptr.0
  pub offset : r.ref_ptr.1 ≡ s.ref_ptr.1 + at
  pub bytes : r.now ≡ drop at s.now

-- r is the part of two slices, whose first digits have the positions p and q
abbrev pub IsPart : Bor (List ℕ) → ℕ → Bor (List ℕ) → ℕ → Bor (List ℕ) → Type 0
IsPart first p second q r =
    let w = part_place (laid first.now p) (laid second.now q) in
    IsRest (cond w.second second first) w.at r

-- ---- its place, written out

-- which string (0 the first, 1 the second), the offset in it, the length: 8 bytes each
unfoldable pub place_bytes : Place → ℕ → List ℕ
place_bytes w len = bytes_of 8 (cond w.second 1 0) ++ bytes_of 8 w.at ++ bytes_of 8 len

-- the tests of the strings, and before them the size of the place
unfoldable pub overlap_part_tests : Laid → Laid → List ℕ → List Test
overlap_part_tests a b out = of_sizes (eqb (length out) 24) ++ overlap_tests a b

unfoldable pub overlap_part_call : Laid → Laid → List ℕ → Call
unfolding overlap_tests overlap_part_tests
overlap_part_call a b out = record {
  tests = overlap_part_tests a b out;
  in_order = refl;
  value = 0;
  slices = slice out (place_bytes (part_place a b) (length (part_of a b))) ∷ [];
}
