-- Reading a sheet: the tests in their order, and the two outputs written where none applies.
-- Assumes nothing.
use mathlib.Core.Path.{◌≡◌, refl, sym, ap, ap₂, ◌∙◌}
use mathlib.Core.Bool.{Bool, true, false, ◌&&◌}
use mathlib.Core.List.{List, [], ◌∷◌, ◌++◌}
use Prim.Native.Nat.{ℕ, ◌+◌, ◌*◌, ◌<◌, ◌≤◌}
use native.Mathlib.Omega.{arith}
use borrow.Author.Tests.{leb-true, le-leb, lt-leb}
use lib.Dec.{leb}
use lib.IntN.{pos, negsuc}
use lib.ListN.{length}
use Rattle.algebra.proofs.Booleans.{and_left, and_right, and_both, left_fails, right_fails}
use Rattle.run.specs.Refusal.{tested}
use Rattle.run.specs.Run.{Entry, Limits}
use Rattle.run.specs.Tests.{of_sizes}
use Rattle.std.specs.Prelude.{Ok, Err, ⊤}
use Rattle.run.specs.Answers.{Answer, answer_of, Verdict, verdict_of}
use Rattle.run.specs.declared.Refusal.{Refusal}
use Rattle.run.specs.Call.{Call, answered, refused_by, Does}
use Rattle.run.proofs.Testing.{Left, here, past, none_left, part_here, part_past, passed}
use Rattle.run.proofs.Calls.{was_worked, works, turned_down}
use Rattle.sheet.specs.Sheet.{sheet_count, entries_from, entries, list_of, bodies_of}
use Rattle.sheet.specs.Tests.{sheet_sized, of_sheet}
use Rattle.sheet.specs.Calls.{over, read_tests, read_call}
use Rattle.sheet.proofs.Form.{formed_length, sheet_passed}

module _ (lim : Limits) (s list sums : List ℕ) where
  abbrev this : Call
  this = read_call lim s list sums

  -- ---- the tests

  abbrev rooms : Bool
  rooms = leb (2 * sheet_count s) (length list) && leb (16 * sheet_count s) (length sums)

  all_tests : Left this (of_sizes (sheet_sized lim s && rooms) ++ of_sheet lim s)
  unfolding read_call read_tests refused_by
  all_tests = record { decide = refl }

  module _ (b : Bool) (sized : b ≡ sheet_sized lim s) where
    pub other_size : b ≡ false → negsuc 0 ≡ answered this
    other_size f = here all_tests (left_fails _ rooms (sym sized ∙ f))

    module _ (e : ℕ) (counted : e ≡ sheet_count s) where
      pub list_short : length list < 2 * e → negsuc 0 ≡ answered this
      list_short h =
          here all_tests (right_fails (sheet_sized lim s) _ (left_fails (leb (2 * sheet_count s) (length list)) _ (lt-leb _ _ (rw counted at h))))

      pub sums_short : length sums < 16 * e → negsuc 0 ≡ answered this
      sums_short h =
          here all_tests (right_fails (sheet_sized lim s) _ (right_fails (leb (2 * sheet_count s) (length list)) _ (lt-leb _ _ (rw counted at h))))

      module _ (t : b ≡ true) (room : 2 * e ≤ length list) (more : 16 * e ≤ length sums) (a : Verdict) (made : verdict_of a ≡ tested (of_sheet lim s)) where
        from_sheet : Left this (of_sheet lim s ++ [])
        from_sheet =
            past all_tests (and_both (sheet_sized lim s) _ (sym sized ∙ t)
            (and_both (leb (2 * sheet_count s) (length list)) _ (le-leb _ _ (rw counted at room)) (le-leb _ _ (rw counted at more))))

        pub read_refused : (r : Refusal) → a ≡ Err r → answer_of (Err r) ≡ answered this
        read_refused = part_here _ a made [] from_sheet

        pub read_accepted : (v : ⊤) → a ≡ Ok v → pos e ≡ answered this
        unfolding read_call
        read_accepted v f = ap pos counted ∙ none_left (part_past _ a made [] from_sheet refl v f)

  -- ---- after the tests, by what they answered

  module _ (a : Answer) (made : answer_of a ≡ answered this) where
    module _ (v : ℕ) (f : a ≡ Ok v) where
      no_number : (refused_by this ≡ 0) × (v ≡ sheet_count s)
      unfolding read_call
      no_number = was_worked this a made v f

      -- what is known of the buffers
      pub readable : (v ≡ sheet_count s) × (16 + 20 * v ≤ length s) × (2 * v ≤ length list) × (16 * v ≤ length sums)
      unfolding read_call read_tests refused_by
      readable =
          let sizes = passed 0 _ _ no_number.0 in
          let room = and_right (sheet_sized lim s) rooms sizes.0 in
          let list-room = leb-true (2 * sheet_count s) (length list) (and_left _ (leb (16 * sheet_count s) (length sums)) room) in
          let sums-room = leb-true (16 * sheet_count s) (length sums) (and_right (leb (2 * sheet_count s) (length list)) _ room) in
          let long = formed_length s (sheet_passed lim s [] sizes.1).0.well_formed in
          let count = no_number.1 in
          (count, omega (arith, long, count), omega (arith, list-room, count), omega (arith, sums-room, count))

      pub read_done : (l m : List ℕ) → l ≡ over (list_of (entries_from s 0 v)) list → m ≡ over (bodies_of (entries_from s 0 v)) sums
          → Does this (pos v) (l ∷ m ∷ [])
      unfolding read_call entries
      read_done l m el em =
          let all = ap (entries_from s 0) no_number.1 in
          let d = works this a made v f in
          (d.0, ap₂ (λ (x y : List ℕ). x ∷ y ∷ []) (el ∙ ap (λ (ts : List Entry). over (list_of ts) list) all) (em ∙ ap (λ (ts : List Entry). over (bodies_of ts) sums) all) ∙ d.1)

    pub not_read : (r : Refusal) → a ≡ Err r → Does this (answer_of (Err r)) (list ∷ sums ∷ [])
    unfolding read_call
    not_read r f = turned_down this a made r f
