-- The terms of a part of a ticket: the block's bounds rise and do not pass K, and the cut stands between them.
-- Assumes nothing.
use mathlib.Core.Path.{◌≡◌, refl}
use mathlib.Core.Bool.{true}
use Prim.Native.Nat.{ℕ, ◌+◌, ◌≤◌, ◌<◌}
use native.Mathlib.Omega.{arith}
use Rattle.series.specs.Series.{Formula, row_count, term_count}
use Rattle.series.specs.Fitting.{Position}
use Rattle.run.specs.Run.{limits_of, in_range, is_ticket, bound, ticket_sum}
use Rattle.run.proofs.Blocks.{bound_grows, bound_le}
use Rattle.run.proofs.Range.{range_of, ticket_row, ticket_block, position}
use Rattle.ticket.specs.Parts.{cut, part_first, part_end, part_count, part_sum}
use Rattle.ticket.specs.declared.Part.{Part}
use Rattle.ticket.specs.declared.Part.TheVariants.{Whole, Lower, Upper}

-- the whole ticket's sum is document 01's
pub whole_sum : (F : Formula) (p C row block : ℕ) → part_sum F Whole p C row block ≡ ticket_sum F p C row block
unfolding part_sum part_first part_end ticket_sum
whole_sum F p C row block = refl

module _ (F : Formula) (p C block : ℕ) (r : in_range (limits_of F) p C ≡ true) (h : block < C) where
  pub rising : bound (term_count F p) C block ≤ bound (term_count F p) C (block + 1)
  rising = bound_grows (term_count F p) C block (block + 1) (range_of _ p C r).c_low (omega arith)

  pub within : bound (term_count F p) C (block + 1) ≤ term_count F p
  within = bound_le (term_count F p) C (block + 1) (omega arith)

  pub ordered : (part : Part) → (part_first F part p C block ≤ part_end F part p C block) × (part_end F part p C block ≤ term_count F p)
  unfolding part_first part_end cut
  ordered Whole = (rising, within)
  ordered Lower = (omega (arith, rising), omega (arith, rising, within))
  ordered Upper = (omega (arith, rising), within)

  -- the lower half begins where the ticket does, and the upper half where the lower one ends
  pub meet : (part_first F Lower p C block + part_count F Lower p C block ≡ part_first F Upper p C block)
      × (part_first F Lower p C block ≡ part_first F Whole p C block)
      × (part_count F Lower p C block + part_count F Upper p C block ≡ part_count F Whole p C block)
  unfolding part_first part_end cut
  meet = (omega (arith, rising), refl, omega (arith, rising))

-- what working or quoting them asks
pub ranged : (F : Formula) (part : Part) (p C row block first end : ℕ) → in_range (limits_of F) p C ≡ true → is_ticket (limits_of F) C row block ≡ true
    → first ≡ part_first F part p C block → end ≡ part_end F part p C block
    → (first ≤ end) × (end ≤ term_count F p)
ranged F part p C row block first end r t f e =
    let o = ordered F p C block r (ticket_block _ C row block t) part in
    (rw (f, e) o.0, rw e o.1)
