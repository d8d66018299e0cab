-- Which of a ticket's terms are worked: all of them, or those of one half. Document 02, slip 3. What they add up to, and the squarings that
-- they take (slip 7).
use Rattle.std.specs.Prelude.{ℕ, ◌+◌, ◌-◌, ◌/◌}
use Rattle.series.specs.Series.{Formula, row_at, term_count, range_sum}
use Rattle.series.specs.Squarings.{range_squarings}
use Rattle.run.specs.Run.{bound}
use Rattle.ticket.specs.declared.Part.{Part}
use Rattle.ticket.specs.declared.Part.TheVariants.{Whole, Lower, Upper}

-- where a ticket is cut in two: the lower half has its terms from the first up to, not including, this one; the upper half the others
unfoldable pub cut : Formula → ℕ → ℕ → ℕ → ℕ
cut F p C block = let K = term_count F p in (bound K C block + bound K C (block + 1)) / 2

-- the part's terms are those from `part_first` up to, not including, `part_end`
unfoldable pub part_first : Formula → Part → ℕ → ℕ → ℕ → ℕ
part_first F Whole p C block = bound (term_count F p) C block
part_first F Lower p C block = bound (term_count F p) C block
part_first F Upper p C block = cut F p C block

unfoldable pub part_end : Formula → Part → ℕ → ℕ → ℕ → ℕ
part_end F Whole p C block = bound (term_count F p) C (block + 1)
part_end F Lower p C block = cut F p C block
part_end F Upper p C block = bound (term_count F p) C (block + 1)

-- how many they are
abbrev pub part_count : Formula → Part → ℕ → ℕ → ℕ → ℕ
part_count F part p C block = part_end F part p C block - part_first F part p C block

-- their signed sum, modulo 2 ^ 128
unfoldable pub part_sum : Formula → Part → ℕ → ℕ → ℕ → ℕ → ℕ
part_sum F part p C row block = range_sum F p (row_at F row) (part_first F part p C block) (part_count F part p C block)

-- their squarings
unfoldable pub part_squarings : Formula → Part → ℕ → ℕ → ℕ → ℕ → ℕ
part_squarings F part p C row block = range_squarings F p (row_at F row) (part_first F part p C block) (part_count F part p C block)
