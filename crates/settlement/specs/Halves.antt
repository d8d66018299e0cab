-- The halves of a ticket: they make the whole, and how deep their cuts lie one inside the other. Document 02, slip 3. Over the definitions
-- that the calls' contracts cite.
use Rattle.std.specs.Prelude.{◌≡◌, true, List, ℕ, ◌+◌, ◌%◌, ◌^◌, ◌<◌, pos}
use Rattle.words.specs.Bytes.{value_of}
use Rattle.series.specs.Series.{Formula, row_at, modulus}
use Rattle.series.specs.Bellard.{bellard}
use Rattle.series.specs.Check.{check}
use Rattle.series.specs.Halves.{by_halves}
use Rattle.run.specs.Run.{limits_of, in_range, is_ticket}
use Rattle.run.specs.Call.{answered, bytes_left}
use Rattle.ticket.specs.Parts.{cut, part_first, part_count, part_sum}
use Rattle.ticket.specs.Work.{work_call}
use Rattle.ticket.specs.declared.Part.TheVariants.{Whole, Lower, Upper}

-- For every ticket, the sums of the two halves added modulo 2 ^ 128 are the ticket's: the sums themselves, and the numbers in the bytes that
-- the three calls leave where they answer 0.
pub record HalvesMakeWhole (F : Formula) : Type 0 where
  pub sums : (p C row block : ℕ) → in_range (limits_of F) p C ≡ true → is_ticket (limits_of F) C row block ≡ true
      → (part_sum F Lower p C row block + part_sum F Upper p C row block) % modulus ≡ part_sum F Whole p C row block
  pub bytes : (p C row block : ℕ) (lower upper whole l u w : List ℕ) → answered (work_call F Lower p C row block lower l) ≡ pos 0
      → answered (work_call F Upper p C row block upper u) ≡ pos 0 → answered (work_call F Whole p C row block whole w) ≡ pos 0
      → (value_of (bytes_left (work_call F Lower p C row block lower l) 0) + value_of (bytes_left (work_call F Upper p C row block upper u) 0)) % modulus
      ≡ value_of (bytes_left (work_call F Whole p C row block whole w) 0)

-- Each half of every ticket is had with no more than `depth` cuts one inside the other. This and what follows is about the definition `by_halves`,
-- which cuts where the code does; no contract can say how deep the code's own calls lie.
pub record HalvedWithin (F : Formula) (depth : ℕ) : Type 0 where
  pub lower : (p C row block : ℕ) → in_range (limits_of F) p C ≡ true → is_ticket (limits_of F) C row block ≡ true
      → by_halves F p (row_at F row) depth (part_first F Lower p C block) (part_count F Lower p C block) ≡ part_sum F Lower p C row block
  pub upper : (p C row block : ℕ) → in_range (limits_of F) p C ≡ true → is_ticket (limits_of F) C row block ≡ true
      → by_halves F p (row_at F row) depth (part_first F Upper p C block) (part_count F Upper p C block) ≡ part_sum F Upper p C row block

-- So many are enough, and at the last position with one block one less are not, since a half has more than 2 ^ less terms.
pub record Deepest (F : Formula) (less : ℕ) : Type 0 where
  pub enough : HalvedWithin F (less + 1)
  pub not_less : 2 ^ less < cut F F.last 1 0

-- 58 for Bellard's formula, 59 for the check runs'
abbrev pub Depths : Type 0
Depths = Deepest bellard 57 × Deepest check 58
