-- A call as a value: its tests, the value that it answers, and the slices lent to be written. What comes of a call is defined here, once for
-- every call: so a refused one changes no byte. Document 01, "Refusal table" and demand 1.
use Rattle.std.specs.Prelude.{◌≡◌, true, cond, List, [], ◌∷◌, ℕ, ◌≤◌, eqb, ℤ, pos, neg_ℤ, get_or}
use Rattle.run.specs.Refusal.{Test, last_number, numbered, refusal, answer}

-- A slice lent to be written: as it was, and what it becomes where nothing is refused.
pub record Slice : Type 0 where
  pub was : List ℕ
  pub becomes : List ℕ

abbrev pub slice : List ℕ → List ℕ → Slice
slice was becomes = record { was = was; becomes = becomes }

-- The numbers of a call's tests ascend and are numbers of the table: that is computed where the call is defined.
pub record Call : Type 0 where
  pub tests : List Test
  pub in_order : numbered tests ≡ true
  pub value : ℕ
  pub slices : List Slice

-- ---- what comes of a call

-- the number that it is refused by, 0 where it is not
unfoldable pub refused_by : Call → ℕ
refused_by c = refusal c.tests

-- the answer to C
unfoldable pub answered : Call → ℤ
answered c = answer (refused_by c) c.value

-- the bytes of every slice: as they were, as they become where nothing is refused, and as the call leaves them
abbrev pub each_was : List Slice → List (List ℕ)
each_was [] = []
each_was (s ∷ ss) = s.was ∷ each_was ss

abbrev pub each_becomes : List Slice → List (List ℕ)
each_becomes [] = []
each_becomes (s ∷ ss) = s.becomes ∷ each_becomes ss

abbrev pub each_left : ℕ → List Slice → List (List ℕ)
each_left n [] = []
each_left n (s ∷ ss) = cond (eqb n 0) s.becomes s.was ∷ each_left n ss

unfoldable pub all_left : Call → List (List ℕ)
all_left c = each_left (refused_by c) c.slices

-- those of slice i alone, counted from 0
abbrev pub bytes_left : Call → ℕ → List ℕ
bytes_left c i = get_or (all_left c) i []

-- What a function did is what the call is: it answered r, and these are then the bytes of every slice lent to be written.
abbrev pub Does : Call → ℤ → List (List ℕ) → Type 0
Does c r after = (r ≡ answered c) × (after ≡ all_left c)

-- ---- demand 1

-- Worked, or refused by a number of the table; and then no byte is changed.
pub record WorkedOrRefused (c : Call) : Type 0 where
  pub in_table : refused_by c ≤ last_number
  pub worked : refused_by c ≡ 0 → answered c ≡ pos c.value
  pub refused : (refused_by c ≡ 0 → ⊥) → (answered c ≡ neg_ℤ (pos (refused_by c))) × (all_left c ≡ each_was c.slices)
