-- `ticket::squarings` meets its contract, which is that of `series::squarings::range_squarings` over the part's terms.
-- Assumes nothing.
use mathlib.Core.Path.{◌≡◌}
use Prim.Native.Nat.{ℕ, ◌-◌}
use Rattle.series.specs.Series.{Formula, row_at}
use Rattle.series.specs.Squarings.{range_squarings}
use Rattle.run.proofs.Range.{ticket_block, ticket_row, position}
use Rattle.ticket.specs.Parts.{part_first, part_end, part_squarings}
use Rattle.ticket.specs.declared.Part.{Part}
use Rattle.ticket.proofs.Parts.{ranged}
use Rattle.ticket.proofs.squarings.Goals as goal

law : (F : Formula) (part : Part) (p C row block first end s : ℕ) → (first ≡ part_first F part p C block) × (end ≡ part_end F part p C block)
    → s ≡ range_squarings F p (row_at F row) first (end - first) → s ≡ part_squarings F part p C row block
unfolding part_squarings
law F part p C row block first end s e h = rw (e.0, e.1) at h

pub range_of-range-requires : goal.range_of-range-requires
range_of-range-requires c = (c.requires.0, ticket_block _ _ _ _ c.requires.1)

pub range_squarings-requires : goal.range_squarings-requires
range_squarings-requires c =
    ranged _ c.args.part _ _ _ _ _ _ c.requires.0 c.requires.1 c.range_of-range.ensures.0 c.range_of-range.ensures.1

pub returns : goal.returns
returns c = law _ _ _ _ _ _ _ _ _ c.range_of-range.ensures c.range_squarings.ensures
