-- All that is promised of two strings laid over each other: the numbers and the parts, the bytes that name a part, and the figures.
-- Assumes nothing.
use mathlib.Core.Path.{◌≡◌, refl, sym, ap, subst, ◌∙◌}
use mathlib.Core.Bool.{Bool, true, false, cond}
use mathlib.Core.List.{List, [], ◌++◌}
use Prim.Native.Nat.{ℕ, ◌+◌, ◌^◌, ◌<◌, ◌≤◌}
use native.Mathlib.Omega.{arith}
use lib.Dec.{eqb}
use lib.ListN.{length, length-drop}
use denote.Ref.{Bor}
use Rattle.algebra.specs.Test.{all_below}
use Rattle.words.specs.Bytes.{bytes_of, field}
use Rattle.words.proofs.Bytes.{field_written}
use Rattle.digits.specs.Digits.{hex_digit, is_digit, hex_text}
use Rattle.digits.proofs.Characters.{characters}
use Rattle.run.specs.Refusal.{refusal}
use Rattle.run.specs.Call.{refused_by}
use Rattle.run.proofs.Calls.{leaves}
use Rattle.overlap.specs.Strings.{laid, holds, digit_at, all_digits, in_form, later, share, same_at, agree, further, skipped}
use Rattle.overlap.specs.Calls.{overlap_tests, overlap_call, Place, part_place, IsRest, place_bytes, overlap_part_call}
use Rattle.overlap.specs.Overlaps.{Names, NamesThePart, AllHold, figures, Overlaps}
use Rattle.overlap.proofs.Strings.{numbers, short}
use Rattle.overlap.proofs.Parts.{handed, swapped, over_itself}
use Rattle.overlap.proofs.Placed.{part_digits, other_size, same_answer, written}

-- the three numbers of a place read back
module _ (w : Place) (len : ℕ) where
  which_read : (t : Bool) → w.second ≡ t → field (place_bytes w len) 0 8 ≡ cond t 1 0
  unfolding place_bytes bytes_of
  which_read t e = field_written [] (bytes_of 8 w.at ++ bytes_of 8 len) 0 8 (cond w.second 1 0) refl (small w.second) ∙ ap (λ (s : Bool). cond s 1 0) e
    where
      small : (s : Bool) → cond s 1 0 < 256 ^ 8
      small true = omega arith
      small false = omega arith

  offset_read : w.at < 256 ^ 8 → field (place_bytes w len) 8 8 ≡ w.at
  unfolding place_bytes bytes_of
  offset_read h = field_written (bytes_of 8 (cond w.second 1 0)) (bytes_of 8 len) 8 8 w.at refl h

  size_read : len < 256 ^ 8 → field (place_bytes w len) 16 8 ≡ len
  unfolding place_bytes bytes_of
  size_read h = field_written (bytes_of 8 (cond w.second 1 0) ++ bytes_of 8 w.at) [] 16 8 len refl h

-- so they name the part
module _ (first second r : Bor (List ℕ)) (w : Place) (part : IsRest (cond w.second second first) w.at r) where
  named : length first.now ≤ 30 → length second.now ≤ 30 → Names (place_bytes w (length r.now)) first second r
  named few more = go w.second refl
    where
      go : (t : Bool) → w.second ≡ t → Names (place_bytes w (length r.now)) first second r
      go t e =
          let k : IsRest (cond t second first) w.at r = subst (λ (s : Bool). IsRest (cond s second first) w.at r) e part in
          let short : length (cond t second first).now ≤ 30 = pick t in
          let within = k.within in
          let long = ap length k.bytes ∙ length-drop w.at (cond t second first).now in
          let which = which_read w (length r.now) t e in
          let offset = offset_read w (length r.now) (omega arith) in
          record {
            which = rw which (one_or_none_lem t);
            block = rw which (k.block ∙ same_block t);
            offset = rw (which, offset) (k.offset ∙ same_offset t);
            size = sym (size_read w (length r.now) (omega (arith, long)));
          }
        where
          pick : (s : Bool) → length (cond s second first).now ≤ 30
          pick true = more
          pick false = few

          one_or_none_lem : (s : Bool) → cond s 1 0 ≤ 1
          one_or_none_lem true = omega arith
          one_or_none_lem false = omega arith

          same_block : (s : Bool) → (cond s second first).ref_ptr.0 ≡ (cond (eqb (cond s 1 0) 1) second first).ref_ptr.0
          same_block true = refl
          same_block false = refl

          same_offset : (s : Bool) → (cond s second first).ref_ptr.1 + w.at ≡ (cond (eqb (cond s 1 0) 1) second first).ref_ptr.1 + w.at
          same_offset true = refl
          same_offset false = refl

names_the_part : NamesThePart
names_the_part first second r p q out part room e =
    let a = laid first.now p in
    let b = laid second.now q in
    let f = ((numbers a b).none.0 e).0 in
    let digits = part_digits first second r p q part in
    let left = leaves (overlap_part_call a b out) (written a b out room e _ refl).1 0 in
    subst (λ (s : List ℕ). Names s first second r) (ap (place_bytes (part_place a b)) (ap length digits) ∙ left)
    (named first second r (part_place a b) part (short a f.0).few (short b f.1).few)

figures_hold : AllHold figures
unfolding AllHold overlap_call refused_by refusal overlap_tests part_place in_form all_digits is_digit share holds agree all_below same_at digit_at later skipped further hex_text hex_digit
figures_hold =
    ((refl, refl), ((refl, refl), ((refl, refl), ((refl, refl), ((refl, refl), ((refl, refl), ((refl, refl), ((refl, refl), ((refl, refl), ((refl, refl), ((refl, refl), ((refl, refl), ((refl, refl), ((refl, refl), tt))))))))))))))

pub overlaps : Overlaps
overlaps = record {
  characters = characters;
  numbers = numbers;
  handed = handed;
  swapped = swapped;
  over_itself = over_itself;
  returns_the_part = part_digits;
  with_place = λ a b out. record { same_answer = same_answer a b out; other_size = λ h. sym (other_size a b out h).0 };
  names_the_part = names_the_part;
  figures_hold = figures_hold;
}
