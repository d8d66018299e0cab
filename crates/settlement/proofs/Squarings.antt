-- The squarings of a ticket and of its halves, for any formula in which E falls and no E - 64 has more than 63 bits: each follows the law of a
-- range of terms. A quote and working have one list of tests.
-- Assumes nothing.
use mathlib.Core.Path.{◌≡◌, refl, sym, ap, ap₂, ◌∙◌}
use mathlib.Core.Bool.{Bool, true, false, ◌&&◌}
use mathlib.Core.Logic.{◌⊎◌, ⊎_elim}
use mathlib.Core.List.{List}
use Prim.Native.Nat.{ℕ, ◌+◌, ◌*◌, ◌^◌, ◌≤◌, ◌<◌}
use native.Mathlib.Nat.{div-le_self, lt_trans}
use native.Mathlib.Omega.{arith}
use borrow.Author.Tests.{eq-eqb, ne_eqb}
use lib.Dec.{eqb, lit<}
use lib.IntN.{pos, neg_ℤ}
use lib.ListN.{length}
use Rattle.algebra.specs.Bits.{bits_in, bit_length}
use Rattle.algebra.specs.Sum.{sum}
use Rattle.algebra.proofs.Sums.{sum_split}
use Rattle.words.specs.Bytes.{value_of}
use Rattle.words.proofs.Bytes.{value_bytes}
use Rattle.series.specs.Series.{Formula, row_at, term_count, skipped, modulus}
use Rattle.series.specs.Squarings.{squarings, range_squarings, reaching, cut_at, of_length, by_lengths, SameSquarings}
use Rattle.series.specs.Bellard.{bellard}
use Rattle.series.specs.Check.{check}
use Rattle.series.specs.Names.{formula_of}
use Rattle.series.specs.declared.Series.{Series}
use Rattle.series.specs.declared.Series.TheVariants.{Bellard, Check}
use Rattle.series.proofs.FewRows.{near_positions}
use Rattle.series.proofs.Numbers.{step_positive}
use Rattle.series.proofs.Numbers as numbers
use Rattle.series.proofs.Table.{fitting}
use Rattle.series.proofs.ByLengths.{squarings_agree}
use Rattle.run.specs.Run.{limits_of, in_range, is_ticket, bound}
use Rattle.run.specs.Refusal.{refusal}
use Rattle.run.specs.Call.{refused_by, answered, all_left, bytes_left}
use Rattle.run.proofs.Calls.{leaves, refuses}
use Rattle.run.proofs.Range.{range_of, ticket_row, ticket_block}
use Rattle.ticket.specs.Parts.{part_first, part_end, part_count, part_squarings}
use Rattle.ticket.specs.Work.{part_tests, is_sized, both_sized, work_call, quote_call}
use Rattle.ticket.specs.declared.Part.{Part}
use Rattle.ticket.specs.declared.Part.TheVariants.{Whole, Lower, Upper}
use Rattle.ticket.proofs.Parts.{ordered, meet}
use Rattle.settlement.specs.Squarings.{Countable, Squarings, SquaringsAre, AllSquaringsAre, squaring_figures, check_squaring_figures}
use Rattle.settlement.proofs.Halves.{taken, wrote}
use Rattle.settlement.proofs.Partition.{all_blocks}

module _ (F : Formula) (near : F.last < 2 ^ 64) (c : Countable F) (p C row block : ℕ) where
  module _ (r : in_range (limits_of F) p C ≡ true) (t : is_ticket (limits_of F) C row block ≡ true) where
    agree : SameSquarings F p (row_at F row)
    agree = squarings_agree F p (row_at F row) c.falls (c.short p row (range_of _ p C r).p_high (ticket_row _ C row block t))

    at_most : (part : Part) → part_squarings F part p C row block ≤ 62 * part_count F part p C block
    unfolding part_squarings
    at_most part = agree.at_most (part_first F part p C block) (part_count F part p C block)

    by_lengths_lem : (part : Part)
        → by_lengths F p (row_at F row) (part_first F part p C block) (part_end F part p C block) ≡ part_squarings F part p C row block
    unfolding part_squarings
    by_lengths_lem part = agree.by_lengths _ _ (ordered F p C block r (ticket_block _ C row block t) part).0

    halves : part_squarings F Lower p C row block + part_squarings F Upper p C row block ≡ part_squarings F Whole p C row block
    unfolding part_squarings range_squarings
    halves =
        let m = meet F p C block r (ticket_block _ C row block t) in
        let f = squarings F p (row_at F row) in
        let lower = part_count F Lower p C block in
        let upper = part_count F Upper p C block in
        ap (λ (n : ℕ). sum f (part_first F Lower p C block) lower + sum f n upper) (sym m.0)
        ∙ sym (sum_split f (part_first F Lower p C block) lower upper) ∙ ap₂ (sum f) m.1 m.2

    -- the count fits 16 bytes
    few_terms : term_count F p < 2 ^ 70
    unfolding term_count
    few_terms = omega (arith, div-le_self (4 * skipped p + 130) F.step, near, (range_of _ p C r).p_high)

    fits : (part : Part) → part_squarings F part p C row block < modulus
    fits part =
        let o = (ordered F p C block r (ticket_block _ C row block t) part).1 in
        let small : part_squarings F part p C row block < 2 ^ 80 = omega (arith, at_most part, o, few_terms) in
        lt_trans small (lit< tt)

  counted : (part : Part) (out count : List ℕ) → answered (work_call F part p C row block out count) ≡ pos 0
      → value_of (bytes_left (work_call F part p C row block out count) 1) ≡ part_squarings F part p C row block
  counted part out count a =
      let k = taken F p C row block part out count a in
      ap value_of (sym (wrote F p C row block part out count a).1) ∙ value_bytes 16 (part_squarings F part p C row block) (fits k.0 k.1 part)

module _ (F : Formula) (part : Part) (p C row block : ℕ) (out count : List ℕ) where
  -- one of the two sizes is wrong
  unsized : (length out ≡ 16 → ⊥) ⊎ (length count ≡ 16 → ⊥) → both_sized out count ≡ false
  unfolding both_sized is_sized
  unsized h = ⊎_elim (λ f. rw (ne_eqb (length out) 16 f) refl) (λ f. rw (ne_eqb (length count) 16 f) (and_false (eqb (length out) 16))) h
    where
      and_false : (b : Bool) → (b && false) ≡ false
      and_false true = refl
      and_false false = refl

  wrong_size_lem : (length out ≡ 16 → ⊥) ⊎ (length count ≡ 16 → ⊥) → (answered (work_call F part p C row block out count) ≡ neg_ℤ (pos 1))
      × (bytes_left (work_call F part p C row block out count) 0 ≡ out) × (bytes_left (work_call F part p C row block out count) 1 ≡ count)
  unfolding work_call part_tests refused_by refusal
  wrong_size_lem h = let w = work_call F part p C row block out count in let r = refuses w 0 (rw (unsized h) refl) in (sym r.0, sym (leaves w r.1 0), sym (leaves w r.1 1))

  -- a quote has the tests of working but for the sum's size
  one_size : length out ≡ 16 → is_sized count ≡ both_sized out count
  unfolding both_sized is_sized
  one_size h = rw (eq-eqb (length out) 16 h) refl

  quoted : length out ≡ 16 → (answered (quote_call F part p C row block count) ≡ answered (work_call F part p C row block out count))
      × (bytes_left (quote_call F part p C row block count) 0 ≡ bytes_left (work_call F part p C row block out count) 1)
  unfolding quote_call work_call part_tests refused_by answered all_left
  quoted h = rw (one_size h) (refl, refl)

blocks : (F : Formula) (p C row : ℕ) → in_range (limits_of F) p C ≡ true
    → sum (part_squarings F Whole p C row) 0 C ≡ range_squarings F p (row_at F row) 0 (term_count F p)
unfolding part_squarings range_squarings part_first part_end
blocks F p C row r = all_blocks (squarings F p (row_at F row)) (term_count F p) C (range_of _ p C r).c_low

pub squarings_hold : (F : Formula) → F.last < 2 ^ 64 → Countable F → Squarings F
squarings_hold F near c = record {
  counted = λ part p C row block out count. counted F near c p C row block part out count;
  wrong_size = λ part p C row block out count. wrong_size_lem F part p C row block out count;
  at_most = λ part p C row block r t. at_most F near c p C row block r t part;
  halves = λ p C row block r t. halves F near c p C row block r t;
  blocks = blocks F;
  quoted = λ part p C row block out count. quoted F part p C row block out count;
  by_lengths = λ part p C row block r t. by_lengths_lem F near c p C row block r t part;
}

pub countable : (f : Series) → Countable (formula_of f)
countable f = record { falls = step_positive f; short = λ p row h l. numbers.short f p _ h (fitting f row l) }

-- ---- the figures: of a term by computing, of a row by its bit lengths

module _ (f : Series) (p row n : ℕ) (r : in_range (limits_of (formula_of f)) p 1 ≡ true) (t : is_ticket (limits_of (formula_of f)) 1 row 0 ≡ true) where
  of_row_lem : by_lengths (formula_of f) p (row_at (formula_of f) row) (part_first (formula_of f) Whole p 1 0) (part_end (formula_of f) Whole p 1 0) ≡ n
      → part_squarings (formula_of f) Whole p 1 row 0 ≡ n
  of_row_lem e = sym (by_lengths_lem (formula_of f) (near_positions f) (countable f) p 1 row 0 r t Whole) ∙ e

pub squaring_figures_hold : AllSquaringsAre bellard squaring_figures × AllSquaringsAre check check_squaring_figures
unfolding AllSquaringsAre SquaringsAre squarings bit_length bits_in by_lengths of_length cut_at reaching sum part_first part_end bound term_count in_range is_ticket
squaring_figures_hold = (
  (refl, (refl, (refl, (refl, (refl, (of_row_lem Bellard 1 2 6 refl refl refl, (of_row_lem Bellard (2 ^ 60) 0 _ refl refl refl, (of_row_lem Bellard (2 ^ 60) 2 _ refl refl refl, tt)))))))),
  (refl, (refl, (refl, (refl, (refl, (of_row_lem Check 1 0 6 refl refl refl, (of_row_lem Check (2 ^ 59) 0 _ refl refl refl, (of_row_lem Check (2 ^ 59) 1 _ refl refl refl, tt)))))))),
)
