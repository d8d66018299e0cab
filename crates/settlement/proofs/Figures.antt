-- The marked figures, those of the rule before and those of check runs hold, each by computation.
-- Assumes nothing.
use mathlib.Core.Path.{◌≡◌, refl, sym, ap, ◌∙◌}
use mathlib.Core.Bool.{Bool, cond}
use mathlib.Core.List.{List}
use Prim.Native.Nat.{ℕ, ◌+◌, ◌%◌, ◌<◌}
use native.Mathlib.Nat.{zero-add, mod-eq_of_lt}
use borrow.Author.Tests.{eq-eqb, ne_eqb}
use lib.IntN.{ℤ}
use lib.ListN.{replicate}
use Rattle.algebra.specs.Sum.{sum}
use Rattle.algebra.proofs.Sums.{sum_zero, sum_bump}
use Rattle.algebra.specs.Test.{all_below}
use Rattle.algebra.specs.Whole.{residue, sameℤ}
use Rattle.series.specs.Series.{Formula, size, is_added, row_count, term_count, on_side, row_sum, over_rows, side_sum, modulus}
use Rattle.series.specs.Bellard.{bellard}
use Rattle.series.specs.Check.{check}
use Rattle.series.specs.Names.{formula_of}
use Rattle.series.specs.declared.Series.{Series}
use Rattle.series.specs.declared.Series.TheVariants.{Bellard, Check}
use Rattle.digits.specs.Digits.{settled_up_to, settled, hex_digit, hex_text, low_digits}
use Rattle.interval.specs.Interval.{Rule, is_charged, every_term, charges, low, high}
use Rattle.run.specs.Refusal.{refusal, answer}
use Rattle.run.specs.Run.{limits_of, is_ticket}
use Rattle.run.specs.Call.{answered, bytes_left, refused_by, all_left}
use Rattle.ledger.specs.Ledger.{view_of, total_of, total_in}
use Rattle.ledger.specs.Plain.{Plain, plain_view, full_plain, full_ledger}
use Rattle.closing.specs.Closing.{settled_at, digits_at, close_by}
use Rattle.closing.proofs.Encoded.{good_full, answer_by, bytes_by}
use Rattle.settlement.specs.Figures.{figures, figures_before, check_figures, check_figures_before, Holds, AllHold, in_row, Spreads}

-- the closing of a full ledger is by the total of its sums
module _ (f : Series) (sums : ℕ → ℕ) (fit : (row : ℕ) → sums row < modulus) where
  abbrev full : Plain
  full = full_plain (limits_of (formula_of f)) sums

  abbrev ledger : List ℕ
  ledger = full_ledger (limits_of (formula_of f)) sums

  full_closing : (R : Rule) (total : ℕ) (a : ℤ) (digits : List ℕ) → total_of (limits_of (formula_of f)) sums ≡ total
      → answered (close_by R (formula_of f) (plain_view full) total (replicate 32 0)) ≡ a
      → bytes_left (close_by R (formula_of f) (plain_view full) total (replicate 32 0)) 0 ≡ digits
      → (answered (close_by R (formula_of f) (view_of (limits_of (formula_of f)) ledger) (total_in (limits_of (formula_of f)) ledger) (replicate 32 0)) ≡ a)
      × (bytes_left (close_by R (formula_of f) (view_of (limits_of (formula_of f)) ledger) (total_in (limits_of (formula_of f)) ledger) (replicate 32 0)) 0 ≡ digits)
  unfolding full_ledger
  full_closing R total a digits e k g = (
    answer_by (formula_of f) full (good_full f sums fit) (replicate 32 0) R
        ∙ ap (λ (n : ℕ). answered (close_by R (formula_of f) (plain_view full) n (replicate 32 0))) e ∙ k,
    bytes_by (formula_of f) full (good_full f sums fit) (replicate 32 0) R
        ∙ ap (λ (n : ℕ). bytes_left (close_by R (formula_of f) (plain_view full) n (replicate 32 0)) 0) e ∙ g,
  )

pub figures_hold : AllHold bellard figures
unfolding AllHold Holds plain_view size term_count close_by answered all_left refused_by refusal answer settled_at digits_at settled settled_up_to low high sameℤ all_below is_ticket charges side_sum over_rows row_sum sum on_side is_added is_charged low_digits hex_text hex_digit residue
figures_hold =
    (refl, (refl, (refl, (refl, (refl, ((refl, refl), ((refl, refl), (refl, (refl, (refl, (refl, ((refl, refl), (λ sums fit e. full_closing Bellard sums fit is_charged _ _ _ e refl refl, (λ sums fit e. full_closing Bellard sums fit is_charged _ _ _ e refl refl, (λ sums fit e. full_closing Bellard sums fit is_charged _ _ _ e refl refl, (λ sums fit e. full_closing Bellard sums fit is_charged _ _ _ e refl refl, tt))))))))))))))))

pub figures_before_hold : AllHold bellard figures_before
unfolding AllHold Holds plain_view term_count close_by answered all_left refused_by refusal answer settled_at digits_at settled settled_up_to low high sameℤ all_below is_ticket charges side_sum over_rows row_sum sum on_side is_added is_charged every_term low_digits hex_text hex_digit residue
figures_before_hold =
    (λ sums fit e. full_closing Bellard sums fit every_term _ _ _ e refl refl, (λ sums fit e. full_closing Bellard sums fit every_term _ _ _ e refl refl, (λ sums fit e. full_closing Bellard sums fit every_term _ _ _ e refl refl, (λ sums fit e. full_closing Bellard sums fit every_term _ _ _ e refl refl, (λ sums fit e. full_closing Bellard sums fit every_term _ _ _ e refl refl, (λ sums fit e. full_closing Bellard sums fit is_charged _ _ _ e refl refl, tt))))))

pub check_figures_before_hold : AllHold check check_figures_before
unfolding AllHold Holds plain_view term_count close_by answered all_left refused_by refusal answer settled_at digits_at settled settled_up_to low high sameℤ all_below is_ticket charges side_sum over_rows row_sum sum on_side is_added is_charged every_term low_digits hex_text hex_digit residue
check_figures_before_hold =
    (λ sums fit e. full_closing Check sums fit every_term _ _ _ e refl refl, (λ sums fit e. full_closing Check sums fit every_term _ _ _ e refl refl, (λ sums fit e. full_closing Check sums fit is_charged _ _ _ e refl refl, tt)))

pub check_figures_hold : AllHold check check_figures
unfolding AllHold Holds plain_view size term_count close_by answered all_left refused_by refusal answer settled_at digits_at settled settled_up_to low high sameℤ all_below is_ticket charges side_sum over_rows row_sum sum on_side is_added is_charged low_digits hex_text hex_digit residue
check_figures_hold =
    ((refl, refl), ((refl, refl), ((refl, refl), ((refl, refl), ((refl, refl), ((refl, refl), (refl, (refl, (refl, (refl, ((refl, refl), (λ sums fit e. full_closing Check sums fit is_charged _ _ _ e refl refl, (λ sums fit e. full_closing Check sums fit is_charged _ _ _ e refl refl, (λ sums fit e. full_closing Check sums fit is_charged _ _ _ e refl refl, (λ sums fit e. full_closing Check sums fit is_charged _ _ _ e refl refl, tt)))))))))))))))

-- ---- sums with a given total

one_row : (F : Formula) (row total : ℕ) → row < row_count F → total < modulus → total_of (limits_of F) (in_row row total) ≡ total
unfolding total_of in_row
one_row F row total h l =
    let none = sum_zero (λ r. 0) 0 (row_count F) (λ r. refl) in
    let grown : sum (in_row row total) 0 (row_count F) ≡ sum (λ r. 0) 0 (row_count F) + total =
    sum_bump (λ r. 0) (in_row row total) (row_count F) row total h (ap (λ (b : Bool). cond b total 0) (eq-eqb row row refl) ∙ sym (zero-add total))
    (λ i ne. sym (ap (λ (b : Bool). cond b total 0) (ne_eqb row i (λ e. ne (sym e))))) in
    ap (λ (n : ℕ). n % modulus) (grown ∙ ap (λ (n : ℕ). n + total) none ∙ zero-add total) ∙ mod-eq_of_lt l

pub spreads : Spreads
unfolding total_of sum
spreads = record { one_row = one_row; once = refl; six_times = refl; check_once = refl; three_times = refl }
