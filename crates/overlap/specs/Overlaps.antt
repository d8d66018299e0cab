-- What holds of two digit strings laid over each other, whatever strings and positions. Document 02, slip 8.
use Rattle.std.specs.Prelude.{◌≡◌, true, false, not, cond, List, [], ◌∷◌, ◌↔◌, ◌⊎◌, ℕ, ◌+◌, ◌^◌, ◌<◌, ◌≤◌, eqb, pos, neg_ℤ, length}
use Rattle.std.specs.Borrow.{Bor}
use Rattle.words.specs.Bytes.{field}
use Rattle.digits.specs.Digits.{hex_digit, is_digit, hex_text}
use Rattle.run.specs.Call.{refused_by, answered, bytes_left}
use Rattle.overlap.specs.Strings.{Laid, laid, end, holds, digit_at, in_form, first_shared, further, stretch}
use Rattle.overlap.specs.Calls.{overlap_call, Place, place, part_place, part_of, IsPart, overlap_part_call}

-- the number that refuses them, 0 where nothing does
abbrev pub refused_with : Laid → Laid → ℕ
refused_with a b = refused_by (overlap_call a b)

abbrev pub BothInForm : Laid → Laid → Type 0
BothInForm a b = (in_form a ≡ true) × (in_form b ≡ true)

-- both hold position n
abbrev pub Shared : Laid → Laid → ℕ → Type 0
Shared a b n = (holds a n ≡ true) × (holds b n ≡ true)

-- Each number exactly when, and no other.
pub record Numbers (a b : Laid) : Type 0 where
  pub ten : (refused_with a b ≡ 10) ↔ (BothInForm a b → ⊥)
  pub eleven : (refused_with a b ≡ 11) ↔ (BothInForm a b × ((n : ℕ) → Shared a b n → ⊥))
  pub twelve : (refused_with a b ≡ 12) ↔ (BothInForm a b × ((n : ℕ) × Shared a b n × (digit_at a n ≡ digit_at b n → ⊥)))
  pub none : (refused_with a b ≡ 0) ↔ (BothInForm a b × ((n : ℕ) × Shared a b n) × ((n : ℕ) → Shared a b n → digit_at a n ≡ digit_at b n))
  pub no_other : (refused_with a b ≡ 0) ⊎ ((refused_with a b ≡ 10) ⊎ ((refused_with a b ≡ 11) ⊎ (refused_with a b ≡ 12)))

-- The part: empty exactly where the strings are refused.
pub record Handed (a b : Laid) : Type 0 where
  pub empty : (part_of a b ≡ []) ↔ (refused_with a b ≡ 0 → ⊥)
  -- otherwise it is the stretch from the first position that both hold to the further end
  pub part : refused_with a b ≡ 0 → part_of a b ≡ stretch a b
  pub held : refused_with a b ≡ 0 → Shared a b (first_shared a b)
  pub first : (n : ℕ) → Shared a b n → first_shared a b ≤ n
  pub to_the_end : refused_with a b ≡ 0 → end (laid (part_of a b) (first_shared a b)) ≡ end (further a b)
  pub furthest : (end a ≤ end (further a b)) × (end b ≤ end (further a b))
  -- its digits are those of its string, and of both strings wherever both hold
  pub of_its_string : refused_with a b ≡ 0 → (n : ℕ) → first_shared a b ≤ n → digit_at (laid (part_of a b) (first_shared a b)) n ≡ digit_at (further a b) n
  pub of_both : refused_with a b ≡ 0 → (n : ℕ) → Shared a b n
      → (digit_at (laid (part_of a b) (first_shared a b)) n ≡ digit_at a n) × (digit_at (laid (part_of a b) (first_shared a b)) n ≡ digit_at b n)

-- The strings swapped: the same number and the same digits, of the same string unless both end together.
pub record Swapped (a b : Laid) : Type 0 where
  pub same_number : refused_with b a ≡ refused_with a b
  pub same_digits : part_of b a ≡ part_of a b
  pub same_string : refused_with a b ≡ 0 → (end a ≡ end b → ⊥) → part_place b a ≡ place (not (part_place a b).second) (part_place a b).at
  pub ending_together : end a ≡ end b → (part_place a b).second ≡ false

-- A string over itself: the whole of the first.
pub record OverItself (a : Laid) : Type 0 where
  pub taken : refused_with a a ≡ 0
  pub whole : part_place a a ≡ place false 0
  pub digits : part_of a a ≡ a.digits

-- what the function that hands out a part returns is this part
abbrev pub ReturnsThePart : Type 0
ReturnsThePart =
    (first second r : Bor (List ℕ)) (p q : ℕ) → IsPart first p second q r → r.now ≡ part_of (laid first.now p) (laid second.now q)

-- ---- to C

-- The 24 bytes s name the part r of two slices: which of them, the offset in it, the length.
pub record Names (s : List ℕ) (first second r : Bor (List ℕ)) : Type 0 where
  pub which : field s 0 8 ≤ 1
  pub block : r.ref_ptr.0 ≡ (cond (eqb (field s 0 8) 1) second first).ref_ptr.0
  pub offset : r.ref_ptr.1 ≡ (cond (eqb (field s 0 8) 1) second first).ref_ptr.1 + field s 8 8
  pub size : length r.now ≡ field s 16 8

pub record WithPlace (a b : Laid) (out : List ℕ) : Type 0 where
  -- with 24 bytes the answer of the call without them, else 1
  pub same_answer : length out ≡ 24 → answered (overlap_part_call a b out) ≡ answered (overlap_call a b)
  pub other_size : (length out ≡ 24 → ⊥) → answered (overlap_part_call a b out) ≡ neg_ℤ (pos 1)

-- the bytes written name the part that is handed out
abbrev pub NamesThePart : Type 0
NamesThePart =
    (first second r : Bor (List ℕ)) (p q : ℕ) (out : List ℕ) → IsPart first p second q r → length out ≡ 24
    → refused_with (laid first.now p) (laid second.now q) ≡ 0
    → Names (bytes_left (overlap_part_call (laid first.now p) (laid second.now q) out) 0) first second r

-- ---- figures: pi has the digits 243F6A8885A3 from position 1 on

-- the lowest d hexadecimal digits of x, as a string at position p
abbrev pub string : ℕ → ℕ → ℕ → Laid
string d x p = laid (hex_text d x) p

-- Two strings, the number that refuses them, and the part handed out.
pub record Figure : Type 0 where
  pub first : Laid
  pub second : Laid
  pub number : ℕ
  pub part : Place

abbrev pub over : Laid → Laid → ℕ → Place → Figure
over a b number part = record { first = a; second = b; number = number; part = part }

abbrev pub Holds : Figure → Type 0
Holds f = (refused_with f.first f.second ≡ f.number) × (part_place f.first f.second ≡ f.part)

unfoldable pub AllHold : List Figure → Type 0
AllHold [] = Unit
AllHold (f ∷ fs) = Holds f × AllHold fs

abbrev pub figures : List Figure
figures =
    -- the second reaches further, the first does, both end together
    over (string 8 0x243F6A88 1) (string 8 0x3F6A8885 3) 0 (place true 0)
    ∷ over (string 8 0x3F6A8885 3) (string 8 0x243F6A88 1) 0 (place false 0)
    ∷ over (string 8 0x243F6A88 1) (string 4 0x6A88 5) 0 (place false 4)
    ∷ over (string 4 0x6A88 5) (string 8 0x243F6A88 1) 0 (place false 0)
    -- one within the other; one shared position
    ∷ over (string 8 0x243F6A88 1) (string 2 0xF6 4) 0 (place false 3)
    ∷ over (string 2 0x24 1) (string 2 0x43 2) 0 (place true 0)
    -- the last position, and a string that reaches past it
    ∷ over (string 30 0 (2 ^ 60)) (string 30 0 (2 ^ 60)) 0 (place false 0)
    -- one begins where the other ends; a digit differs; thirty-one digits, a small letter, no digit, positions out of range
    ∷ over (string 2 0x24 1) (string 2 0x3F 3) 11 (place false 2)
    ∷ over (string 4 0x243F 1) (string 4 0x3E6A 3) 12 (place false 4)
    ∷ over (string 31 0 1) (string 1 0 1) 10 (place false 31)
    ∷ over (laid (102 ∷ []) 4) (string 1 0xF 4) 10 (place false 1)
    ∷ over (string 1 2 1) (laid [] 1) 10 (place false 1)
    ∷ over (string 1 2 0) (string 1 2 1) 10 (place false 1)
    ∷ over (string 1 2 (2 ^ 60)) (string 1 2 (2 ^ 60 + 1)) 10 (place false 1) ∷ []

-- ---- all of it

pub record Overlaps : Type 0 where
  -- the characters that are taken are those that closings are written with
  pub characters : (c : ℕ) → (is_digit c ≡ true) ↔ ((v : ℕ) × (v < 16) × (hex_digit v ≡ c))
  pub numbers : (a b : Laid) → Numbers a b
  pub handed : (a b : Laid) → Handed a b
  pub swapped : (a b : Laid) → Swapped a b
  pub over_itself : (a : Laid) → in_form a ≡ true → OverItself a
  pub returns_the_part : ReturnsThePart
  pub with_place : (a b : Laid) (out : List ℕ) → WithPlace a b out
  pub names_the_part : NamesThePart
  pub figures_hold : AllHold figures
