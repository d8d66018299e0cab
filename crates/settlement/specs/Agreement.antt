-- Demand 2, for a formula: the sum of a ticket; sheets written and read back; sheets accepted with right sums. Over the definitions that the calls'
-- contracts cite.
use Rattle.std.specs.Prelude.{◌≡◌, true, List, ℕ, ◌+◌, ◌-◌, ◌%◌, ◌<◌, pos, length}
use Rattle.words.specs.Bytes.{bytes_of}
use Rattle.series.specs.Series.{Formula, Side, plus, minus, row_at, row_sum, size, term_count, modulus}
use Rattle.run.specs.Run.{limits_of, in_range, is_ticket, bound, ticket_sum}
use Rattle.run.specs.Call.{answered, bytes_left}
use Rattle.ticket.specs.Work.{work_call}
use Rattle.settlement.specs.RoundTrip.{WrittenReadsBack, AcceptedIsWritten}
use Rattle.ticket.specs.declared.Part.TheVariants.{Whole}

-- the sizes of a ticket's terms on one side, added up: each is the exact term cut down to 128 fraction bits, modulo 2 ^ 128
unfoldable pub side_of : Formula → Side → ℕ → ℕ → ℕ → ℕ → ℕ
side_of F side p C row block =
    let K = term_count F p in
    row_sum F side (row_at F row) (size F p (row_at F row)) (bound K C block) (bound K C (block + 1) - bound K C block)

-- What working a ticket of a run gives, with 16 bytes lent for the sum and 16 for the squarings: answer 0, and in the sum's bytes the one number
-- below 2 ^ 128 that is the added terms less the subtracted ones modulo 2 ^ 128.
pub record WorkedRight (F : Formula) (p C row block : ℕ) (out squarings : List ℕ) : Type 0 where
  pub answers : answered (work_call F Whole p C row block out squarings) ≡ pos 0
  pub bytes_are : bytes_left (work_call F Whole p C row block out squarings) 0 ≡ bytes_of 16 (ticket_sum F p C row block)
  pub small : ticket_sum F p C row block < modulus
  pub signed : (ticket_sum F p C row block + side_of F minus p C row block) % modulus ≡ side_of F plus p C row block % modulus

-- Demand 2
pub record Demand2 (F : Formula) : Type 0 where
  pub works : (p C row block : ℕ) (out squarings : List ℕ) → length out ≡ 16 → length squarings ≡ 16 → in_range (limits_of F) p C ≡ true
      → is_ticket (limits_of F) C row block ≡ true → WorkedRight F p C row block out squarings
  -- a sheet written reads back as the same tickets and sums
  pub reads_back : WrittenReadsBack F
  -- one accepted with right sums is byte for byte the one written
  pub is_written : AcceptedIsWritten F
