-- The marked figures of document 01 that are theorems about the definitions, in one statement over the list of them, with a, b and the closings
-- as document 02, slip 5, has them; and the like of check runs, which no document gives.
use Rattle.std.specs.Prelude.{Bool, true, false, cond, ◌≡◌, List, [], ◌∷◌, ◌++◌, ℕ, ◌-◌, ◌^◌, ◌<◌, eqb, ℤ, pos, neg_ℤ, get_or, take, replicate}
use Rattle.series.specs.Series.{Formula, row_count, plus, minus, row_at, size, is_added, term_count, modulus}
use Rattle.series.specs.Bellard.{bellard}
use Rattle.series.specs.Check.{check}
use Rattle.interval.specs.Interval.{is_charged, charges}
use Rattle.run.specs.Run.{limits_of}
use Rattle.run.specs.Call.{answered, bytes_left}
use Rattle.ledger.specs.Ledger.{total_of}
use Rattle.ledger.specs.Plain.{full_ledger}
use Rattle.closing.specs.Closing.{close_call}
use Rattle.settlement.specs.Settlement.{ClosesWith}
use Rattle.settlement.specs.EveryTerm.{answer_before, bytes_before}

-- A figure, with what the document gives for it.
pub data Figure : Type 0 where
  -- the size of term k of a row at position p
  size_of : ℕ → ℕ → ℕ → ℕ → Figure
  -- the same, with the sign: added or subtracted
  signed_size_of : ℕ → ℕ → ℕ → Bool → ℕ → Figure
  -- K at position p
  count_at : ℕ → ℕ → Figure
  -- a and b at position p
  charges_at : ℕ → ℕ → ℕ → Figure
  -- what closing answers, and what 32 zero bytes become: p = 1, C = 1, all marked, with sums of the rows, any at all, that have this total
  closing_of : ℕ → ℤ → List ℕ → Figure
  -- the same while every term was charged
  closed_before : ℕ → ℤ → List ℕ → Figure

unfoldable pub Holds : Formula → Figure → Type 0
Holds F (size_of p row k q) = size F p (row_at F row) k ≡ q
Holds F (signed_size_of p row k added q) = (size F p (row_at F row) k ≡ q) × (is_added F (row_at F row) k ≡ added)
Holds F (count_at p K) = term_count F p ≡ K
Holds F (charges_at p a b) = (charges is_charged F plus p (term_count F p) ≡ a) × (charges is_charged F minus p (term_count F p) ≡ b)
Holds F (closing_of total a digits) =
    (sums : ℕ → ℕ) → ((row : ℕ) → sums row < modulus) → total_of (limits_of F) sums ≡ total
    → (answered (close_call F (full_ledger (limits_of F) sums) (replicate 32 0)) ≡ a)
    × (bytes_left (close_call F (full_ledger (limits_of F) sums) (replicate 32 0)) 0 ≡ digits)
Holds F (closed_before total a digits) =
    (sums : ℕ → ℕ) → ((row : ℕ) → sums row < modulus) → total_of (limits_of F) sums ≡ total
    → (answer_before F (full_ledger (limits_of F) sums) (replicate 32 0) ≡ a)
    × (bytes_before F (full_ledger (limits_of F) sums) (replicate 32 0) ≡ digits)

unfoldable pub AllHold : Formula → List Figure → Type 0
AllHold F [] = Unit {0}
AllHold F (f ∷ fs) = Holds F f × AllHold F fs

abbrev pub figures : List Figure
figures =
    size_of 1 0 0 (2 ^ 127) ∷ size_of 1 2 0 0 ∷ size_of 1 3 0 0x55555555555555555555555555555555
    ∷ size_of 1 4 0 0x3333333333333333333333333333333 ∷ size_of 3 4 0 0x33333333333333333333333333333333
    ∷ signed_size_of 1 2 11 false 9446 ∷ signed_size_of 1 2 12 true 8 ∷ size_of 1 2 13 0
    ∷ count_at 3 14 ∷ count_at 4 15 ∷ count_at (2 ^ 60) 461168601842738804
    ∷ charges_at 1 44 48
    ∷ closing_of 48 (neg_ℤ (pos 9)) (replicate 32 0) ∷ closing_of 49 (pos 30) (replicate 30 48 ++ 0 ∷ 0 ∷ [])
    ∷ closing_of (2 ^ 128 - 46) (pos 30) (replicate 30 70 ++ 0 ∷ 0 ∷ []) ∷ closing_of (2 ^ 128 - 45) (neg_ℤ (pos 9)) (replicate 32 0) ∷ []

-- Document 01's own marked closings, by the rule before slip 5; and a ledger that has a digit more since.
abbrev pub figures_before : List Figure
figures_before =
    closed_before 49 (neg_ℤ (pos 9)) (replicate 32 0) ∷ closed_before 50 (pos 30) (replicate 30 48 ++ 0 ∷ 0 ∷ [])
    ∷ closed_before (2 ^ 128 - 51) (pos 30) (replicate 30 70 ++ 0 ∷ 0 ∷ []) ∷ closed_before (2 ^ 128 - 50) (neg_ℤ (pos 9)) (replicate 32 0)
    ∷ closed_before 305 (pos 29) (replicate 29 48 ++ 0 ∷ 0 ∷ 0 ∷ []) ∷ closing_of 305 (pos 30) (replicate 29 48 ++ 49 ∷ 0 ∷ 0 ∷ []) ∷ []

-- Check runs: the first terms of the four rows at position 1, a term with odd k that keeps its row's sign, the last terms whose size is not 0,
-- K at the first and the last position, a and b at the first, and the closings at their edges.
abbrev pub check_figures : List Figure
check_figures =
    signed_size_of 1 0 0 true 0 ∷ signed_size_of 1 1 0 false (2 ^ 127) ∷ signed_size_of 1 2 0 false 0x33333333333333333333333333333333
    ∷ signed_size_of 1 3 0 false 0x2aaaaaaaaaaaaaaaaaaaaaaaaaaaaaaa ∷ signed_size_of 1 0 1 true 0x71c71c71c71c71c71c71c71c71c71c7 ∷ signed_size_of 1 1 1 false 0x2aaaaaaaaaaaaaaaaaaaaaaaaaaaaaa
    ∷ size_of 1 1 30 2 ∷ size_of 1 1 31 0 ∷ count_at 1 33 ∷ count_at (2 ^ 59) 576460752303423520
    ∷ charges_at 1 33 97
    ∷ closing_of 97 (neg_ℤ (pos 9)) (replicate 32 0) ∷ closing_of 98 (pos 30) (replicate 30 48 ++ 0 ∷ 0 ∷ [])
    ∷ closing_of (2 ^ 128 - 35) (pos 30) (replicate 30 70 ++ 0 ∷ 0 ∷ []) ∷ closing_of (2 ^ 128 - 34) (neg_ℤ (pos 9)) (replicate 32 0) ∷ []

-- A check ledger that was refused, and one that has a digit more.
abbrev pub check_figures_before : List Figure
check_figures_before =
    closed_before 99 (neg_ℤ (pos 9)) (replicate 32 0) ∷ closed_before 355 (pos 29) (replicate 29 48 ++ 0 ∷ 0 ∷ 0 ∷ [])
    ∷ closing_of 355 (pos 30) (replicate 29 48 ++ 49 ∷ 0 ∷ 0 ∷ []) ∷ []

-- 243F6A8885A308D313198A2E037073, the first thirty hexadecimal digits of pi after the point
abbrev pub first_digits : List ℕ
first_digits =
    50 ∷ 52 ∷ 51 ∷ 70 ∷ 54 ∷ 65 ∷ 56 ∷ 56 ∷ 56 ∷ 53 ∷ 65 ∷ 51 ∷ 48 ∷ 56 ∷ 68 ∷ 51 ∷ 49 ∷ 51 ∷ 49 ∷ 57 ∷ 56 ∷ 65 ∷ 50 ∷ 69 ∷ 48 ∷ 51 ∷ 55 ∷ 48 ∷ 55
    ∷ 51 ∷ []

-- At position 1 every list that fills the run closes with these: with all thirty by Bellard's formula, with twenty-nine by the check runs'.
pub record FirstDigits : Type 0 where
  pub by_bellard : ClosesWith bellard 1 30 first_digits
  pub by_check : ClosesWith check 1 29 (take 29 first_digits)

-- ---- sums with a given total, so that each of these closings is of some ledger

-- all of it in one row
unfoldable pub in_row : ℕ → ℕ → ℕ → ℕ
in_row row total r = cond (eqb row r) total 0

pub record Spreads : Type 0 where
  pub one_row : (F : Formula) (row total : ℕ) → row < row_count F → total < modulus → total_of (limits_of F) (in_row row total) ≡ total
  -- past 2 ^ 128 once, and as often as there are rows to pass it: six times, and in a check run three
  pub once : total_of (limits_of bellard) (λ row. get_or ((2 ^ 128 - 1) ∷ 0 ∷ 0 ∷ 0 ∷ 0 ∷ 0 ∷ 51 ∷ []) row 0) ≡ 50
  pub six_times : total_of (limits_of bellard) (λ row. 2 ^ 128 - 1) ≡ 2 ^ 128 - 7
  pub check_once : total_of (limits_of check) (λ row. get_or ((2 ^ 128 - 1) ∷ 0 ∷ 0 ∷ 99 ∷ []) row 0) ≡ 98
  pub three_times : total_of (limits_of check) (λ row. 2 ^ 128 - 1) ≡ 2 ^ 128 - 4
