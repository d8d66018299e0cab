-- The calls by the ways through their code: the three tests, the part that is handed out, and its place in bytes.
-- Assumes nothing.
use mathlib.Core.Path.{◌≡◌, refl, sym, ap, subst, ◌∙◌}
use mathlib.Core.Bool.{Bool, true, false, cond, ◌&&◌}
use mathlib.Core.List.{List, [], ◌∷◌, ◌++◌}
use Prim.Native.Nat.{ℕ, ◌-◌, ◌^◌, ◌<◌, ◌≤◌}
use native.Mathlib.Omega.{arith}
use borrow.Author.Tests.{eq-eqb, ne_eqb}
use lib.IntN.{ℤ, pos, negsuc}
use lib.ListN.{length, drop, length-drop}
use denote.Ref.{Bor}
use borrow.Rule.Slice.Shared.{by_byte}
use borrow.Rule.Slice.PartAt.{sl_partˢ}
use borrow.Author.Rules.{part_to_end}
use Rattle.algebra.proofs.Booleans.{and_left, and_right, and_both}
use Rattle.words.specs.Bytes.{bytes_of}
use Rattle.run.specs.Refusal.{refusal, answer}
use Rattle.run.specs.Call.{answered, refused_by, all_left, Does}
use Rattle.std.specs.Prelude.{Ok, Err, is_err}
use Rattle.std.proofs.lemmas.Bool.{false≢true, true≢false}
use Rattle.run.specs.Answers.{Answer, answer_of}
use Rattle.run.specs.declared.Refusal.{Refusal}
use Rattle.run.proofs.Answering.{was_number}
use Rattle.run.proofs.Testing.{Left, here, past, none_left}
use Rattle.run.proofs.Calls.{refuses, finishes, was_worked}
use Rattle.overlap.specs.Strings.{Laid, laid, end, in_form, first_shared, share, agree, second_further, further, skipped}
use Rattle.overlap.specs.Calls.{overlap_tests, overlap_call, Place, place, part_place, digits_of, part_of, IsRest, IsPart, place_bytes, overlap_part_tests, overlap_part_call}
use Rattle.overlap.specs.Overlaps.{refused_with}
use Rattle.overlap.proofs.Strings.{held, short, numbers}
use Rattle.overlap.proofs.Parts.{place_taken, place_refused, there}

-- ---- the tests, one after another

module _ (a b : Laid) where
  all_left_lem : Left (overlap_call a b) (overlap_tests a b)
  unfolding overlap_call refused_by
  all_left_lem = record { decide = refl }

  pub not_formed : (in_form a && in_form b) ≡ false → negsuc 9 ≡ answered (overlap_call a b)
  unfolding overlap_tests
  not_formed e = here all_left_lem e

  module _ (formed : (in_form a && in_form b) ≡ true) where
    pub not_shared : share a b ≡ false → negsuc 10 ≡ answered (overlap_call a b)
    unfolding overlap_tests
    not_shared e = here (past all_left_lem formed) e

    module _ (shared : share a b ≡ true) where
      pub not_agreed : agree a b ≡ false → negsuc 11 ≡ answered (overlap_call a b)
      unfolding overlap_tests
      not_agreed e = here (past (past all_left_lem formed) shared) e

      pub agreed : agree a b ≡ true → pos 0 ≡ answered (overlap_call a b)
      unfolding overlap_tests overlap_call
      agreed e = none_left (past (past (past all_left_lem formed) shared) e)

  -- the call without a place writes nothing
  pub answers_alone : (z : ℤ) → z ≡ answered (overlap_call a b) → Does (overlap_call a b) z []
  unfolding overlap_call all_left
  answers_alone z e = (e, refl)

  -- ---- what the answer of these tests tells

  module _ (t : Answer) (tested : answer_of t ≡ answered (overlap_call a b)) where
    pub not_refused : (v : ℕ) → t ≡ Ok v → refused_with a b ≡ 0
    not_refused v f = (was_worked (overlap_call a b) t tested v f).0

    pub some_refused : (r : Refusal) → t ≡ Err r → refused_with a b ≡ 0 → ⊥
    unfolding answered
    some_refused r f e = let n = was_number r (refused_with a b) _ (sym (ap answer_of f) ∙ tested) in omega (arith, n.1, e)

-- and by whether it is a refusal
module _ (a b : Laid) where
  pub none_refused : (t : Answer) → answer_of t ≡ answered (overlap_call a b) → is_err t ≡ false → refused_with a b ≡ 0
  none_refused (Ok v) tested f = not_refused a b (Ok v) tested v refl
  none_refused (Err r) tested f = absurd (true≢false f)

  pub one_refused : (t : Answer) → answer_of t ≡ answered (overlap_call a b) → is_err t ≡ true → refused_with a b ≡ 0 → ⊥
  one_refused (Ok v) tested f = absurd (false≢true f)
  one_refused (Err r) tested f = some_refused a b (Err r) tested r refl

-- ---- words hold what is reckoned with

pub formed_fit : (a b : Laid) → (in_form a && in_form b) ≡ true → (end a < 2 ^ 64) × (end b < 2 ^ 64)
formed_fit a b e =
    let x = short a (and_left (in_form a) _ e) in
    let y = short b (and_right (in_form a) _ e) in
    (omega arith, omega arith)

module _ (a b : Laid) (e : refused_with a b ≡ 0) where
  pub ends_fit : (end a < 2 ^ 64) × (end b < 2 ^ 64)
  ends_fit = let f = ((numbers a b).none.0 e).0 in formed_fit a b (and_both _ _ f.0 f.1)

  -- the first shared position lies in both
  pub record Inside (n : ℕ) : Type 0 where
    pub after_first : a.from ≤ n
    pub after_second : b.from ≤ n
    pub in_first : n - a.from ≤ length a.digits
    pub in_second : n - b.from ≤ length b.digits

  pub inside : (n : ℕ) → n ≡ first_shared a b → Inside n
  inside n q =
      let x = held a _ (there a b e).0 in
      let y = held b _ (there a b e).1 in
      record { after_first = omega (arith, q, x); after_second = omega (arith, q, y); in_first = omega (arith, q, x); in_second = omega (arith, q, y) }

-- ---- the part as a slice

-- what the code makes of a slice and a place in it
pub rest_of : (s : Bor (List ℕ)) (at : ℕ) → at ≤ length s.now → IsRest s at (sl_partˢ s (by_byte at s.ref_ptr.1) at (length s.now))
rest_of s at h = record { within = h; block = refl; offset = omega arith; bytes = part_to_end s.now at }

module _ (first second r : Bor (List ℕ)) (p q : ℕ) where
  abbrev one : Laid
  one = laid first.now p

  abbrev other : Laid
  other = laid second.now q

  at_place : (w : Place) → part_place one other ≡ w → IsRest (cond w.second second first) w.at r → IsPart first p second q r
  at_place w e h = subst (λ (v : Place). IsRest (cond v.second second first) v.at r) (sym e) h

  module _ (e : refused_with one other ≡ 0) (n : ℕ) (m : n ≡ first_shared one other) where
    pub of_second : second_further one other ≡ true → IsRest second (n - q) r → IsPart first p second q r
    unfolding skipped further
    of_second t h = at_place (place true (n - q)) (place_taken one other e ∙ rw (t, sym m) refl) h

    pub of_first : second_further one other ≡ false → IsRest first (n - p) r → IsPart first p second q r
    unfolding skipped further
    of_first t h = at_place (place false (n - p)) (place_taken one other e ∙ rw (t, sym m) refl) h

  pub of_none : (refused_with one other ≡ 0 → ⊥) → IsRest first (length first.now) r → IsPart first p second q r
  of_none f h = at_place (place false (length first.now)) (place_refused one other f) h

  -- ---- and what it tells

  module _ (h : IsPart first p second q r) where
    pub part_digits : r.now ≡ part_of one other
    part_digits = go (part_place one other) h
      where
        go : (w : Place) → IsRest (cond w.second second first) w.at r → r.now ≡ digits_of one other w
        go w k = k.bytes ∙ pick w.second
          where
            pick : (t : Bool) → drop w.at (cond t second first).now ≡ drop w.at (cond t second.now first.now)
            pick true = refl
            pick false = refl

    module _ (e : refused_with one other ≡ 0) (t : Bool) (f : second_further one other ≡ t) where
      which : (part_place one other).second ≡ t
      which = ap (λ (w : Place). w.second) (place_taken one other e) ∙ f

      whose : IsRest (cond t second first) (part_place one other).at r
      whose = subst (λ (s : Bool). IsRest (cond s second first) (part_place one other).at r) which h

      pub part_within : length r.now ≤ length (cond t second first).now
      part_within = let l = ap length whose.bytes ∙ length-drop (part_place one other).at (cond t second first).now in omega (arith, l)

      -- its offset is what its length leaves
      offset_is : (part_place one other).at ≡ length (cond t second first).now - length r.now
      offset_is =
          let l = ap length whose.bytes ∙ length-drop (part_place one other).at (cond t second first).now in
          let w = whose.within in
          omega (arith, l, w)

      pub place_is : place_bytes (part_place one other) (length (part_of one other))
          ≡ bytes_of 8 (cond t 1 0) ++ bytes_of 8 (length (cond t second first).now - length r.now) ++ bytes_of 8 (length r.now)
      unfolding place_bytes
      place_is = ap (place_bytes (part_place one other)) (sym (ap length part_digits)) ∙ rw (which, offset_is) refl

-- ---- the call with a place

module _ (a b : Laid) (out : List ℕ) where
  size_differs : (length out ≡ 24 → ⊥) → refused_by (overlap_part_call a b out) ≡ 1
  unfolding overlap_part_call overlap_part_tests refused_by refusal
  size_differs h = rw (ne_eqb (length out) 24 h) refl

  pub other_size : (length out ≡ 24 → ⊥) → Does (overlap_part_call a b out) (negsuc 0) (out ∷ [])
  unfolding overlap_part_call
  other_size h = refuses (overlap_part_call a b out) 0 (size_differs h)

  module _ (room : length out ≡ 24) where
    same_number : refused_by (overlap_part_call a b out) ≡ refused_with a b
    unfolding overlap_part_call overlap_call overlap_part_tests refused_by refusal
    same_number = rw (eq-eqb (length out) 24 room) refl

    pub same_answer : answered (overlap_part_call a b out) ≡ answered (overlap_call a b)
    unfolding overlap_part_call overlap_call answered
    same_answer = ap (λ (n : ℕ). answer n 0) same_number

    pub written : refused_with a b ≡ 0 → (new : List ℕ) → new ≡ place_bytes (part_place a b) (length (part_of a b))
        → Does (overlap_part_call a b out) (pos 0) (new ∷ [])
    unfolding overlap_part_call
    written e new q =
        let d = finishes (overlap_part_call a b out) (same_number ∙ e) in
        (d.0, ap (λ (l : List ℕ). l ∷ []) q ∙ d.1)

    pub not_written : (t : Answer) → answer_of t ≡ answered (overlap_call a b) → (r : Refusal) → t ≡ Err r
        → Does (overlap_part_call a b out) (answer_of (Err r)) (out ∷ [])
    unfolding overlap_part_call answered
    not_written t tested r f =
        let n = was_number r (refused_with a b) _ (sym (ap answer_of f) ∙ tested) in
        let d = refuses (overlap_part_call a b out) n.0 (same_number ∙ n.1) in
        (sym n.2 ∙ d.0, d.1)
