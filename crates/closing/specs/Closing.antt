-- Closing a ledger: the refusals, the answer, and what the call leaves in the 32 bytes lent for the digits. Document 01, "Closing";
-- document 02, slips 1 and 5.
use Rattle.std.specs.Prelude.{◌≡◌, refl, true, ◌&&◌, List, [], ◌∷◌, ◌++◌, ℕ, eqb, ℤ, length, drop}
use Rattle.algebra.specs.Whole.{quotient}
use Rattle.algebra.specs.Test.{all_below}
use Rattle.series.specs.Series.{Formula, row_count, term_count}
use Rattle.digits.specs.Digits.{unit_at, settled, low_digits}
use Rattle.interval.specs.Interval.{Rule, is_charged, low, high}
use Rattle.run.specs.Refusal.{◌⇐◌, ◌unless◌}
use Rattle.run.specs.Call.{Call, slice}
use Rattle.run.specs.Run.{Limits, limits_of}
use Rattle.run.specs.Tests.{of_sizes}
use Rattle.ledger.specs.Ledger.{View, view_of, total_in, in_order, ledger_size}
use Rattle.ledger.specs.Calls.{of_order}

-- ---- by a rule of charging: low and high of a run at position p with a total

abbrev pub low_of : Rule → Formula → ℕ → ℕ → ℤ
low_of R F p total = low R F p (term_count F p) total

abbrev pub high_of : Rule → Formula → ℕ → ℕ → ℤ
high_of R F p total = high R F p (term_count F p) total

-- d, or 0 where there is none
unfoldable pub settled_at : Rule → Formula → ℕ → ℕ → ℕ
settled_at R F p total = settled (low_of R F p total) (high_of R F p total)

-- the digits: the lowest d of the quotient
unfoldable pub digits_at : Rule → Formula → ℕ → ℕ → ℕ → List ℕ
digits_at R F p total d = low_digits d (quotient (low_of R F p total) (unit_at d))

-- ---- by what is seen of the ledger, and by its total

unfoldable pub close_by : Rule → Formula → View → ℕ → List ℕ → Call
close_by R F v total digits =
    let d = settled_at R F v.p total in
    record {
      tests =
          of_sizes (v.sized && eqb (length digits) 32) ++ of_order v
          ++ (8 unless all_below (row_count F) (λ row. all_below v.C (λ block. v.marked row block))) ∷ (9 ⇐ eqb d 0) ∷ [];
      in_order = refl;
      value = d;
      slices = slice digits (digits_at R F v.p total d ++ drop d digits) ∷ [];
    }

-- ---- the call: a ledger's bytes are closed by the total of their rows' sums and the rule in force

abbrev pub close_call : Formula → List ℕ → List ℕ → Call
close_call F s digits = close_by is_charged F (view_of (limits_of F) s) (total_in (limits_of F) s) digits

-- the ledger has its size and is in order: what closing has tested before it looks at the run
pub record Ordered (lim : Limits) (s : List ℕ) : Type 0 where
  pub sized : length s ≡ ledger_size lim
  pub ordered : in_order lim s ≡ true
