-- The squarings that working a ticket, or one half of it, hands back, and quotes of them. Document 02, slip 7. Over the definitions that the
-- calls' contracts cite.
use Rattle.std.specs.Prelude.{◌≡◌, true, ◌⊎◌, List, [], ◌∷◌, ℕ, ◌+◌, ◌*◌, ◌^◌, ◌≤◌, ◌<◌, pos, neg_ℤ, length}
use Rattle.algebra.specs.Sum.{sum}
use Rattle.words.specs.Bytes.{value_of}
use Rattle.series.specs.Series.{Formula, row_count, row_at, term_count}
use Rattle.series.specs.Squarings.{squarings, range_squarings, by_lengths, Short}
use Rattle.run.specs.Run.{limits_of, in_range, is_ticket}
use Rattle.run.specs.Call.{answered, bytes_left}
use Rattle.ticket.specs.Parts.{part_first, part_end, part_count, part_squarings}
use Rattle.ticket.specs.Work.{work_call, quote_call}
use Rattle.ticket.specs.declared.Part.{Part}
use Rattle.ticket.specs.declared.Part.TheVariants.{Whole, Lower, Upper}

-- What the promises about squarings ask of a formula: E falls from each term to the next, and no E - 64 of its runs has more than 63 bits.
pub record Countable (F : Formula) : Type 0 where
  pub falls : 0 < F.step
  pub short : (p row : ℕ) → p ≤ F.last → row < row_count F → Short p (row_at F row)

pub record Squarings (F : Formula) : Type 0 where
  -- where working answers 0, the number in the squarings' bytes is the count over the part's terms
  pub counted : (part : Part) (p C row block : ℕ) (out count : List ℕ) → answered (work_call F part p C row block out count) ≡ pos 0
      → value_of (bytes_left (work_call F part p C row block out count) 1) ≡ part_squarings F part p C row block
  -- a wrong size of either slice is refusal 1, and neither is written
  pub wrong_size : (part : Part) (p C row block : ℕ) (out count : List ℕ) → (length out ≡ 16 → ⊥) ⊎ (length count ≡ 16 → ⊥)
      → (answered (work_call F part p C row block out count) ≡ neg_ℤ (pos 1))
      × (bytes_left (work_call F part p C row block out count) 0 ≡ out) × (bytes_left (work_call F part p C row block out count) 1 ≡ count)
  -- at most 62 for each term, and the halves make the whole
  pub at_most : (part : Part) (p C row block : ℕ) → in_range (limits_of F) p C ≡ true → is_ticket (limits_of F) C row block ≡ true
      → part_squarings F part p C row block ≤ 62 * part_count F part p C block
  pub halves : (p C row block : ℕ) → in_range (limits_of F) p C ≡ true → is_ticket (limits_of F) C row block ≡ true
      → part_squarings F Lower p C row block + part_squarings F Upper p C row block ≡ part_squarings F Whole p C row block
  -- so do all blocks of a row, however many: they take what the row's terms take
  pub blocks : (p C row : ℕ) → in_range (limits_of F) p C ≡ true
      → sum (part_squarings F Whole p C row) 0 C ≡ range_squarings F p (row_at F row) 0 (term_count F p)
  -- a quote is refused as working is that has 16 bytes for the sum, and gives the same figure
  pub quoted : (part : Part) (p C row block : ℕ) (out count : List ℕ) → length out ≡ 16
      → (answered (quote_call F part p C row block count) ≡ answered (work_call F part p C row block out count))
      × (bytes_left (quote_call F part p C row block count) 0 ≡ bytes_left (work_call F part p C row block out count) 1)
  -- the sum over bit lengths is the sum over terms
  pub by_lengths : (part : Part) (p C row block : ℕ) → in_range (limits_of F) p C ≡ true → is_ticket (limits_of F) C row block ≡ true
      → by_lengths F p (row_at F row) (part_first F part p C block) (part_end F part p C block) ≡ part_squarings F part p C row block

-- ---- figures, which no document gives

pub data SquaringFigure : Type 0 where
  -- the squarings of term k of a row at position p
  of_term : ℕ → ℕ → ℕ → ℕ → SquaringFigure
  -- of all terms of a row: the row's ticket where C is 1
  of_row : ℕ → ℕ → ℕ → SquaringFigure

unfoldable pub SquaringsAre : Formula → SquaringFigure → Type 0
SquaringsAre F (of_term p row k n) = squarings F p (row_at F row) k ≡ n
SquaringsAre F (of_row p row n) = part_squarings F Whole p 1 row 0 ≡ n

unfoldable pub AllSquaringsAre : Formula → List SquaringFigure → Type 0
AllSquaringsAre F [] = Unit {0}
AllSquaringsAre F (f ∷ fs) = SquaringsAre F f × AllSquaringsAre F fs

-- E of 127, 128, 191 and 192; the first term at the last position; rows at the last position, which take more than a word holds
abbrev pub squaring_figures : List SquaringFigure
squaring_figures =
    of_term 1 0 0 0 ∷ of_term 1 3 0 6 ∷ of_term 17 0 0 6 ∷ of_term 17 3 0 7 ∷ of_term (2 ^ 60) 2 0 62 ∷ of_row 1 2 6
    ∷ of_row (2 ^ 60) 0 27670116110564327790 ∷ of_row (2 ^ 60) 2 27670116110564327824 ∷ []

abbrev pub check_squaring_figures : List SquaringFigure
check_squaring_figures =
    of_term 1 1 0 0 ∷ of_term 1 2 0 6 ∷ of_term 17 1 0 6 ∷ of_term 17 2 0 7 ∷ of_term (2 ^ 59) 0 0 61 ∷ of_row 1 0 6
    ∷ of_row (2 ^ 59) 0 34011184385901986704 ∷ of_row (2 ^ 59) 1 34011184385901986643 ∷ []
