-- What demand 3 gives at a position that can be worked out: every list that fills the run closes with known digits. At position 1 these
-- are the first hexadecimal digits of pi, thirty by Bellard's formula, and twenty-nine of them by the check runs'.
-- Assumes nothing.
use mathlib.Core.Path.{◌≡◌, refl, ap, ◌∙◌, subst}
use mathlib.Core.List.{List, ◌++◌}
use Prim.Native.Nat.{ℕ, ◌<◌}
use native.Mathlib.Nat.{le_refl}
use native.Mathlib.Omega.{arith}
use lib.IntN.{ℤ, pos}
use lib.ListN.{take, drop}
use Rattle.algebra.specs.Sum.{sum}
use Rattle.algebra.specs.Whole.{residue, sameℤ}
use Rattle.series.specs.Series.{Formula, size, is_added, term_count, on_side, row_sum, over_rows, side_sum, sizes_sum}
use Rattle.series.specs.Fitting.{Position}
use Rattle.series.specs.Names.{formula_of}
use Rattle.series.specs.declared.Series.{Series}
use Rattle.series.specs.declared.Series.TheVariants.{Bellard, Check}
use Rattle.digits.specs.Digits.{Greatest, settled_up_to, settled, hex_digit, hex_text, low_digits}
use Rattle.digits.proofs.Settled.{settled_greatest}
use Rattle.interval.specs.Interval.{is_charged, charges, low, high}
use Rattle.interval.proofs.Denominator.{whole_exists}
use Rattle.interval.proofs.AnyRows.{any_rows}
use Rattle.run.specs.Run.{limits_of}
use Rattle.run.proofs.Range.{range_of, position}
use Rattle.run.specs.Call.{answered, bytes_left}
use Rattle.posting.specs.Posts.{ledger_after}
use Rattle.closing.specs.Closing.{low_of, high_of, settled_at, digits_at, close_call}
use Rattle.settlement.specs.Settlement.{Closed, ClosesWith, final_total}
use Rattle.settlement.specs.Figures.{first_digits, FirstDigits}
use Rattle.settlement.specs.Runs.{Asked}
use Rattle.settlement.proofs.Partition.{all_tickets_lem}
use Rattle.settlement.proofs.Runs.{every_formula, asked}

module _ (F : Formula) (premises : Asked F) (p d : ℕ) (digits : List ℕ) (some : 0 < d)
    (count_is : settled_at is_charged F p (sizes_sum F p (term_count F p)) ≡ d)
    (digits_are : digits_at is_charged F p (sizes_sum F p (term_count F p)) d ≡ digits) where
  K : ℕ
  K = term_count F p

  lo : ℤ
  lo = low_of is_charged F p (sizes_sum F p K)

  hi : ℤ
  hi = high_of is_charged F p (sizes_sum F p K)

  greatest : Greatest lo hi d
  unfolding settled_at lo hi K
  greatest = subst (Greatest lo hi) count_is (settled_greatest lo hi (omega (arith, some, count_is)))

  -- the digits of the exact sum at length K, and so at every length
  exact_digits : Position F p → (s out : List ℕ) → Closed F p lo hi s out → (answered (close_call F s out) ≡ pos d) × (bytes_left (close_call F s out) 0 ≡ digits ++ drop d out)
  unfolding digits_at lo hi K
  exact_digits at s out c =
      let w = whole_exists F p K premises.positive in
      let r = c.settled d greatest in (
        r.0,
        r.1 w.0 K w.1 (le_refl K) w.2
            ∙ ap (λ (l : List ℕ). l ++ drop d out)
            ((any_rows is_charged F p K premises.positive (premises.rest p at)).digits d greatest.settles w.0 K w.1 (le_refl K) w.2 ∙ digits_are),
      )

  pub closes_with : ClosesWith F p d digits
  unfolding lo hi K
  closes_with C range posts f out room =
      let s = (every_formula F premises).demand3 p C range posts in
      let r = range_of (limits_of F) p C range in
      let e : final_total F p C posts ≡ sizes_sum F p K = s.total f ∙ all_tickets_lem F p C r.c_low in
      exact_digits (position F p C range) (ledger_after (limits_of F) p C posts) out
      (subst (λ (t : ℕ). Closed F p (low_of is_charged F p t) (high_of is_charged F p t) (ledger_after (limits_of F) p C posts) out) e (s.closing f out room))

-- at position 1, worked out by antt from the rows of either formula
at_1 : (f : Series) (d : ℕ) (digits : List ℕ) → 0 < d → settled_at is_charged (formula_of f) 1 (sizes_sum (formula_of f) 1 (term_count (formula_of f) 1)) ≡ d
    → digits_at is_charged (formula_of f) 1 (sizes_sum (formula_of f) 1 (term_count (formula_of f) 1)) d ≡ digits → ClosesWith (formula_of f) 1 d digits
at_1 f d digits = closes_with (formula_of f) (asked f) 1 d digits

pub first_digits_lem : FirstDigits
unfolding settled_at digits_at sizes_sum size term_count settled settled_up_to low high sameℤ charges side_sum over_rows row_sum sum on_side is_added is_charged residue low_digits hex_text hex_digit
first_digits_lem = record {
  by_bellard = at_1 Bellard 30 first_digits (omega arith) refl refl;
  by_check = at_1 Check 29 (take 29 first_digits) (omega arith) refl refl;
}
