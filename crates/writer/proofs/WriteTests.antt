-- Writing a sheet: the tests in their order, and the sheet written where none applies.
-- Assumes nothing.
use mathlib.Core.Path.{◌≡◌, refl, sym, ap, ap₂, ◌∙◌}
use mathlib.Core.Bool.{Bool, true, false, ◌&&◌}
use mathlib.Core.List.{List, ◌++◌, [], ◌∷◌}
use Prim.Native.Nat.{ℕ, ◌+◌, ◌*◌, ◌/◌, ◌<◌, ◌≤◌}
use native.Mathlib.Omega.{arith}
use borrow.Author.Tests.{le-leb, lt-leb}
use lib.Dec.{leb}
use lib.IntN.{pos, negsuc}
use lib.ListN.{length, take, drop, length-append}
use Rattle.algebra.proofs.Booleans.{and_both, left_fails, right_fails}
use Rattle.words.specs.Bytes.{bytes_of}
use Rattle.words.proofs.Bytes.{write_next}
use Rattle.series.specs.Series.{Formula}
use Rattle.run.specs.Refusal.{tested}
use Rattle.run.specs.Run.{Entry, limits_of}
use Rattle.run.specs.Tests.{of_sizes}
use Rattle.std.specs.Prelude.{Ok, Err, ⊤}
use Rattle.run.specs.Answers.{Answer, answer_of, Verdict, verdict_of}
use Rattle.run.specs.declared.Refusal.{Refusal}
use Rattle.run.specs.Call.{Call, answered, refused_by, Does}
use Rattle.run.proofs.Testing.{Left, here, past, none_left, part_here, part_past}
use Rattle.run.proofs.Calls.{was_worked, works, turned_down}
use Rattle.sheet.specs.Sheet.{sheet_length, contents_of, bodies_of, sheet_of, listed}
use Rattle.sheet.specs.Tests.{list_sized, of_list}
use Rattle.sheet.specs.Calls.{over, write_tests, write_call}
use Rattle.sheet.proofs.Many.{count_listed}
use Rattle.sheet.proofs.Sheets.{length_contents, length_sheet}
use Rattle.sheet.proofs.Form.{Writable, writable}

-- head, contents and bodies, written one after the other, are the sheet
parts : (p C e : ℕ) (ts : List Entry) (out o₁ o₂ o₃ : List ℕ) → length ts ≡ e
    → o₁ ≡ bytes_of 8 p ++ bytes_of 2 C ++ bytes_of 2 e ++ bytes_of 4 0 ++ drop 16 out
    → o₂ ≡ take 16 o₁ ++ contents_of ts ++ drop (16 + 4 * e) o₁ → o₃ ≡ take (16 + 4 * e) o₂ ++ bodies_of ts ++ drop (16 + 20 * e) o₂
    → o₃ ≡ over (sheet_of p C ts) out
unfolding sheet_of bytes_of
parts p C e ts out o₁ o₂ o₃ count e₁ e₂ e₃ =
    let head = bytes_of 8 p ++ bytes_of 2 C ++ bytes_of 2 e ++ bytes_of 4 0 in
    let d₂ = e₂ ∙ write_next head out o₁ (contents_of ts) 16 (4 * e) refl e₁ in
    let long : length (head ++ contents_of ts) ≡ 16 + 4 * e = length-append head (contents_of ts) ∙ ap (λ (n : ℕ). 16 + n) (length_contents ts ∙ ap (λ (n : ℕ). 4 * n) count) in
    let end : 16 + 20 * e ≡ 16 + 4 * e + 16 * e = omega arith in
    e₃ ∙ ap (λ (n : ℕ). take (16 + 4 * e) o₂ ++ bodies_of ts ++ drop n o₂) end
    ∙ write_next (head ++ contents_of ts) out o₂ (bodies_of ts) (16 + 4 * e) (16 * e) long d₂
    ∙ ap₂ (λ (k n : ℕ). bytes_of 8 p ++ bytes_of 2 C ++ bytes_of 2 k ++ bytes_of 4 0 ++ contents_of ts ++ bodies_of ts ++ drop n out) (sym count)
    (sym end ∙ ap (λ (n : ℕ). 16 + 20 * n) (sym count) ∙ sym (length_sheet p C ts))

module _ (F : Formula) (p C : ℕ) (list out : List ℕ) where
  abbrev this : Call
  this = write_call F p C list out

  -- ---- the tests

  abbrev room : Bool
  room = leb (sheet_length (length list / 2)) (length out)

  all_tests : Left this (of_sizes (list_sized (limits_of F) list && room) ++ of_list F p C list)
  unfolding write_call write_tests refused_by
  all_tests = record { decide = refl }

  module _ (b : Bool) (sized : b ≡ list_sized (limits_of F) list) where
    pub other_size : b ≡ false → negsuc 0 ≡ answered this
    other_size f = here all_tests (left_fails _ room (sym sized ∙ f))

    pub no_room : length out < 16 + 20 * (length list / 2) → negsuc 0 ≡ answered this
    no_room h = here all_tests (right_fails (list_sized (limits_of F) list) room (lt-leb _ _ h))

    module _ (t : b ≡ true) (h : 16 + 20 * (length list / 2) ≤ length out) (a : Verdict) (made : verdict_of a ≡ tested (of_list F p C list)) where
      from_list : Left this (of_list F p C list ++ [])
      from_list = past all_tests (and_both (list_sized (limits_of F) list) room (sym sized ∙ t) (le-leb _ _ h))

      pub list_refused : (r : Refusal) → a ≡ Err r → answer_of (Err r) ≡ answered this
      list_refused = part_here _ a made [] from_list

      pub accepted : (v : ⊤) → a ≡ Ok v → pos (16 + 20 * (length list / 2)) ≡ answered this
      unfolding write_call
      accepted v f = none_left (part_past _ a made [] from_list refl v f)

  -- ---- after the tests, by what they answered

  module _ (a : Answer) (made : answer_of a ≡ answered this) where
    pub none_applied : (v : ℕ) → a ≡ Ok v → Writable F p C list out
    none_applied v f = writable F p C list out (was_worked this a made v f).0

    pub written : (v : ℕ) (o₁ o₂ o₃ : List ℕ) → a ≡ Ok v
        → o₁ ≡ bytes_of 8 p ++ bytes_of 2 C ++ bytes_of 2 (length list / 2) ++ bytes_of 4 0 ++ drop 16 out
        → o₂ ≡ take 16 o₁ ++ contents_of (listed F p C list) ++ drop (16 + 4 * (length list / 2)) o₁
        → o₃ ≡ take (16 + 4 * (length list / 2)) o₂ ++ bodies_of (listed F p C list) ++ drop (16 + 20 * (length list / 2)) o₂
        → Does this (pos v) (o₃ ∷ [])
    unfolding write_call
    written v o₁ o₂ o₃ f e₁ e₂ e₃ =
        let d = works this a made v f in
        (d.0, ap (λ (b : List ℕ). b ∷ []) (parts p C _ (listed F p C list) out o₁ o₂ o₃ (count_listed F p C list) e₁ e₂ e₃) ∙ d.1)

    pub not_written : (r : Refusal) → a ≡ Err r → Does this (answer_of (Err r)) (out ∷ [])
    unfolding write_call
    not_written r f = turned_down this a made r f
