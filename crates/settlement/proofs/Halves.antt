-- The halves of a ticket make the whole, for any formula: the ticket's range is cut in two. Each half has at most half of K terms, rounded up,
-- which says how many cuts one inside the other are enough: 58 for Bellard's formula, 59 for the check runs', and at the last position no fewer.
-- Assumes nothing.
use mathlib.Core.Path.{◌≡◌, sym, ap, ap₂, ◌∙◌}
use mathlib.Core.Bool.{true}
use mathlib.Core.List.{List, []}
use Prim.Native.Nat.{ℕ, ◌+◌, ◌*◌, ◌%◌, ◌^◌, ◌≤◌, ◌<◌}
use native.Mathlib.Nat.{pow-suc}
use native.Mathlib.Numerals.{add-one}
use native.Mathlib.Omega.{arith}
use lib.Dec.{lit<}
use lib.IntN.{pos}
use Rattle.words.specs.Bytes.{bytes_of, value_of}
use Rattle.words.proofs.Bytes.{value_bytes}
use Rattle.series.specs.Series.{Formula, Row, row_at, term_count, range_sum, modulus}
use Rattle.series.specs.Halves.{by_halves}
use Rattle.series.specs.Bellard.{bellard}
use Rattle.series.specs.Check.{check}
use Rattle.series.proofs.Numbers.{count_grows}
use Rattle.series.proofs.RangeSums.{range_sum_lt, split}
use Rattle.series.proofs.ByHalves.{same_sum}
use Rattle.run.specs.Run.{limits_of, in_range, is_ticket, bound}
use Rattle.run.proofs.Answering.{passes, not_refused}
use Rattle.run.proofs.Calls.{leaves, finishes}
use Rattle.run.proofs.Range.{range_of, ticket_block}
use Rattle.run.proofs.Testing.{ticket_passed}
use Rattle.run.specs.Call.{refused_by, answered, all_left, bytes_left}
use Rattle.ticket.specs.Parts.{cut, part_first, part_end, part_count, part_sum, part_squarings}
use Rattle.ticket.specs.Work.{part_tests, work_call}
use Rattle.ticket.specs.declared.Part.{Part}
use Rattle.ticket.specs.declared.Part.TheVariants.{Whole, Lower, Upper}
use Rattle.ticket.proofs.Parts.{rising, within, meet}
use Rattle.settlement.specs.Halves.{HalvesMakeWhole, HalvedWithin, Depths}

module _ (F : Formula) (p C row block : ℕ) where
  module _ (r : in_range (limits_of F) p C ≡ true) (t : is_ticket (limits_of F) C row block ≡ true) where
    sums : (part_sum F Lower p C row block + part_sum F Upper p C row block) % modulus ≡ part_sum F Whole p C row block
    unfolding part_sum
    sums =
        let m = meet F p C block r (ticket_block _ C row block t) in
        let lower = part_count F Lower p C block in
        let upper = part_count F Upper p C block in
        ap (λ (n : ℕ). (range_sum F p (row_at F row) (part_first F Lower p C block) lower + range_sum F p (row_at F row) n upper) % modulus) (sym m.0)
        ∙ split F p (row_at F row) (part_first F Lower p C block) lower upper ∙ ap₂ (range_sum F p (row_at F row)) m.1 m.2

    -- neither half has more terms than half of K, rounded up
    few : (depth : ℕ) → 0 < F.step → term_count F F.last ≤ 2 ^ (depth + 1)
        → (part_count F Lower p C block ≤ 2 ^ depth) × (part_count F Upper p C block ≤ 2 ^ depth)
    unfolding part_first part_end cut
    few depth s h =
        let b = ticket_block _ C row block t in
        let l = rising F p C block r b in
        let k = within F p C block r b in
        let g = count_grows F p F.last s (range_of _ p C r).p_high in
        let d : 2 ^ (depth + 1) ≡ 2 ^ depth * 2 = ap (λ (n : ℕ). 2 ^ n) (add-one depth) ∙ pow-suc 2 depth in
        (omega (arith, l, k, g, d, h), omega (arith, l, k, g, d, h))

  part_sum_lt : (part : Part) → part_sum F part p C row block < modulus
  unfolding part_sum
  part_sum_lt part = range_sum_lt F p _ _ _

  -- where a call answers 0, no test applied, and it was handed a ticket
  module _ (part : Part) (out squarings : List ℕ) (a : answered (work_call F part p C row block out squarings) ≡ pos 0) where
    none : refused_by (work_call F part p C row block out squarings) ≡ 0
    unfolding answered
    none = (not_refused _ _ _ a).0

    pub taken : (in_range (limits_of F) p C ≡ true) × (is_ticket (limits_of F) C row block ≡ true)
    unfolding work_call part_tests refused_by
    taken =
        let sizes = passes 0 _ _ none in
        let t = ticket_passed (limits_of F) p C row block [] sizes.1 in
        (t.0, t.1)

    -- it left the bytes of the part's sum, and of its squarings
    pub wrote : (bytes_of 16 (part_sum F part p C row block) ≡ bytes_left (work_call F part p C row block out squarings) 0)
        × (bytes_of 16 (part_squarings F part p C row block) ≡ bytes_left (work_call F part p C row block out squarings) 1)
    unfolding work_call all_left
    wrote = let w = work_call F part p C row block out squarings in let f = (finishes w none).1 in (leaves w f 0, leaves w f 1)

    sum_left : value_of (bytes_left (work_call F part p C row block out squarings) 0) ≡ part_sum F part p C row block
    sum_left = ap value_of (sym wrote.0) ∙ value_bytes 16 (part_sum F part p C row block) (part_sum_lt part)

  bytes : (lower upper whole l u w : List ℕ) → answered (work_call F Lower p C row block lower l) ≡ pos 0
      → answered (work_call F Upper p C row block upper u) ≡ pos 0 → answered (work_call F Whole p C row block whole w) ≡ pos 0
      → (value_of (bytes_left (work_call F Lower p C row block lower l) 0) + value_of (bytes_left (work_call F Upper p C row block upper u) 0)) % modulus
      ≡ value_of (bytes_left (work_call F Whole p C row block whole w) 0)
  bytes lower upper whole l u w a b c =
      let t = taken Lower lower l a in
      ap₂ (λ (x y : ℕ). (x + y) % modulus) (sum_left Lower lower l a) (sum_left Upper upper u b) ∙ sums t.0 t.1 ∙ sym (sum_left Whole whole w c)

pub halves_make_whole : (F : Formula) → HalvesMakeWhole F
halves_make_whole F = record { sums = sums F; bytes = bytes F }

-- for any formula, by the greatest number of terms
pub halved_within : (F : Formula) (depth : ℕ) → 0 < F.step → term_count F F.last ≤ 2 ^ (depth + 1) → HalvedWithin F depth
unfolding part_sum
halved_within F depth s h = record {
  lower = λ p C row block r t. by_halves_lem F p (row_at F row) _ _ depth (few F p C row block r t depth s h).0;
  upper = λ p C row block r t. by_halves_lem F p (row_at F row) _ _ depth (few F p C row block r t depth s h).1;
}
  where
    by_halves_lem : (F : Formula) (p : ℕ) (r : Row) (first count depth : ℕ) → count ≤ 2 ^ depth → by_halves F p r depth first count ≡ range_sum F p r first count
    by_halves_lem F p r first count depth h = same_sum.by_halves F p r first count depth h ∙ same_sum.in_order F p r first count

pub depths : Depths
unfolding cut bound term_count
depths = (
  record { enough = halved_within bellard _ (omega arith) (omega arith); not_less = lit< tt },
  record { enough = halved_within check _ (omega arith) (omega arith); not_less = lit< tt },
)
