-- The lines that documents 01 and 02 give hold. A full ledger's line is by the total of its sums alone; then each by computation.
-- Assumes nothing.
use mathlib.Core.Path.{◌≡◌, refl, sym, ap, ap₂, ◌∙◌}
use mathlib.Core.List.{List, []}
use Prim.Native.Nat.{ℕ, ◌<◌}
use native.Mathlib.Omega.{arith}
use lib.IntN.{ℤ}
use lib.ListN.{length, replicate}
use Rattle.algebra.specs.Sum.{sum}
use Rattle.algebra.specs.Test.{all_below}
use Rattle.algebra.specs.Whole.{residue, sameℤ}
use Rattle.series.specs.Series.{is_added, term_count, on_side, row_sum, over_rows, side_sum, modulus}
use Rattle.series.specs.Bellard.{bellard}
use Rattle.series.specs.declared.Series.TheVariants.{Bellard}
use Rattle.digits.specs.Digits.{settled_up_to, settled, hex_digit, hex_text, low_digits}
use Rattle.interval.specs.Interval.{is_charged, charges, low, high}
use Rattle.run.specs.Refusal.{refusal, answer}
use Rattle.run.specs.Run.{limits_of, is_ticket}
use Rattle.run.specs.Call.{answered, bytes_left, refused_by, all_left}
use Rattle.ledger.specs.Ledger.{total_of, pos_in}
use Rattle.ledger.specs.Plain.{plain_view, full_plain, full_ledger}
use Rattle.ledger.proofs.Image.{pos_encode}
use Rattle.closing.specs.Closing.{settled_at, digits_at, close_by, close_call}
use Rattle.closing.proofs.Closing.{ledger_size_lem}
use Rattle.closing.proofs.Encoded.{good_full, answer_encoded, bytes_encoded}
use Rattle.closing_line.specs.Decimal.{decimal_within}
use Rattle.closing_line.specs.Line.{finished_line, refused_line, line_of, printed_line}
use Rattle.closing_line.specs.Figures.{refused_one, Figures}

full_line : (sums : ℕ → ℕ) → ((row : ℕ) → sums row < modulus) → (total : ℕ) → total_of (limits_of bellard) sums ≡ total
    → printed_line bellard (full_ledger (limits_of bellard) sums)
    ≡ line_of (answered (close_by is_charged bellard (plain_view (full_plain (limits_of bellard) sums)) total (replicate 32 0))) 1
    (bytes_left (close_by is_charged bellard (plain_view (full_plain (limits_of bellard) sums)) total (replicate 32 0)) 0)
unfolding printed_line full_ledger
full_line sums fit total e =
    let s = full_plain (limits_of bellard) sums in
    let good = good_full Bellard sums fit in
    ap₂ (λ (a : ℤ) (n : ℕ). line_of a n (bytes_left (close_call bellard (full_ledger (limits_of bellard) sums) (replicate 32 0)) 0))
    (answer_encoded bellard s good (replicate 32 0)) (pos_encode (limits_of bellard) s good)
    ∙ ap (line_of (answered (close_by is_charged bellard (plain_view s) (total_of (limits_of bellard) sums) (replicate 32 0))) 1) (bytes_encoded bellard s good (replicate 32 0))
    ∙ ap (λ (t : ℕ). line_of (answered (close_by is_charged bellard (plain_view s) t (replicate 32 0))) 1 (bytes_left (close_by is_charged bellard (plain_view s) t (replicate 32 0)) 0)) e

-- a ledger of another size
other_size : (s : List ℕ) → (length s ≡ 352 → ⊥) → printed_line bellard s ≡ refused_one
unfolding printed_line line_of refused_line decimal_within
other_size s h =
    ap (λ (a : ℤ). line_of a (pos_in s) (bytes_left (close_call bellard s (replicate 32 0)) 0)) (sym (ledger_size_lem bellard s (replicate 32 0) h))

pub figures_hold : Figures
unfolding line_of finished_line refused_line decimal_within plain_view term_count close_by answered all_left refused_by refusal answer settled_at digits_at settled settled_up_to low high sameℤ all_below is_ticket charges side_sum over_rows row_sum sum on_side is_added is_charged low_digits hex_text hex_digit residue
figures_hold = record {
  fifty = λ sums fit e. full_line sums fit 50 e;
  forty_eight = λ sums fit e. full_line sums fit 48 e;
  no_byte = other_size [] (λ e. omega (arith, e));
  old_size = λ s h. other_size s (λ e. omega (arith, e, h));
  last_position = refl;
}
