-- The refusal table: numbered conditions, of which the smallest that applies is given. Document 01, "Refusal table"; document 02 adds numbers to it.
use Rattle.std.specs.Prelude.{◌≡◌, Bool, true, not, cond, ◌&&◌, ℕ, zero, suc, ◌≤◌, leb, ltb, ℤ, pos, negsuc}
use mathlib.Core.List.{List, [], ◌∷◌, Memᴰ}

-- the last number of the table
abbrev pub last_number : ℕ
last_number = 13

-- A condition with its number.
pub record Test : Type 0 where
  pub number : ℕ
  pub applies : Bool

abbrev pub ◌⇐◌ : ℕ → Bool → Test
n ⇐ b = record { number = n; applies = b }

-- the same by what has to hold
abbrev pub ◌unless◌ : ℕ → Bool → Test
n unless b = n ⇐ not b

infix 20 ◌⇐◌
infix 20 ◌unless◌
-- the number of the first test that applies, or 0 where none does: each call lists its tests with the smallest number first
unfoldable pub refusal : List Test → ℕ
refusal [] = 0
refusal (t ∷ ts) = cond t.applies t.number (refusal ts)

-- ---- "the smallest number that applies, and only where its condition holds"

-- the numbers ascend strictly, each above n
abbrev pub ascend_above : ℕ → List Test → Bool
ascend_above n [] = true
ascend_above n (t ∷ ts) = ltb n t.number && ascend_above t.number ts

-- the numbers are at most n
abbrev pub up_to : ℕ → List Test → Bool
up_to n [] = true
up_to n (t ∷ ts) = leb t.number n && up_to n ts

-- the rule of a list of tests: its numbers ascend strictly from 1 on, and are numbers of the table
abbrev pub numbered : List Test → Bool
numbered ts = ascend_above 0 ts && up_to last_number ts

-- n is the number of a test in the list whose condition holds
pub record Applies (ts : List Test) (n : ℕ) : Type 0 where
  pub test : Test
  pub listed : Memᴰ test ts
  pub number_is : test.number ≡ n
  pub holds : test.applies ≡ true

-- n is the smallest number that applies, or 0 exactly where none does
pub record Smallest (ts : List Test) (n : ℕ) : Type 0 where
  pub applies : (n ≡ 0 → ⊥) → Applies ts n
  pub least : (m : ℕ) → Applies ts m → n ≤ m
  pub none : n ≡ 0 → (m : ℕ) → Applies ts m → ⊥
  pub only_none : ((m : ℕ) → Applies ts m → ⊥) → n ≡ 0

-- what a call answers to C: a refusal's number negated, else the call's value
unfoldable pub answer : ℕ → ℕ → ℤ
answer zero value = pos value
answer (suc n) value = negsuc n

-- what is answered where tests are all that is made
abbrev pub tested : List Test → ℤ
tested ts = answer (refusal ts) 0
