-- `look::total_after` meets its contract: at each turn the sums of the tickets passed are added to the total of the row sums.
-- Assumes nothing.
use mathlib.Core.Path.{◌≡◌, ◌∙◌}
use native.Mathlib.Omega.{arith}
use Rattle.words.specs.Bytes.{AllBytes}
use Rattle.series.specs.Names.{formula_of}
use Rattle.series.proofs.FewRows.{few_rows, near_positions}
use Rattle.run.specs.Run.{limits_of}
use Rattle.ledger.proofs.RowSums.{total_held}
use Rattle.look.proofs.Posted.{is_taken, total_start, total_turn, total_left}
use Rattle.look.proofs.total_after.Goals as goal

pub invariant_of-count : goal.invariant_of-count
invariant_of-count c = let t = (is_taken _ _ _ c.requires).whole in record { head = omega (arith, t) }

pub invariant_of-entries : goal.invariant_of-entries
invariant_of-entries c = let t = (is_taken _ _ _ c.requires).whole in record { room = omega (arith, t, c.count-count.ensures.0) }

pub invariant_of-sums : goal.invariant_of-sums
invariant_of-sums c = record { sized = (is_taken _ _ _ c.requires).sized }

pub loop-i-init : goal.loop-i-init
loop-i-init c = total_start _ _ _ _ c.total-total.ensures

pub body-requires : goal.body-requires
body-requires c =
    let t = (is_taken _ _ _ c.requires).whole in
    (omega arith, omega (arith, t, c.count-count.ensures.0))

pub loop-i-preserved : goal.loop-i-preserved
loop-i-preserved c =
    total_turn _ _ _ _ _ _ _ c.loop-i.invariant c.body.ensures c.add-total.ensures

pub returns : goal.returns
unfolding AllBytes
returns c =
    let e : c.loop-i.i ≡ c.count-count.result = omega arith in
    total_left _ (near_positions c.args.f) c.args.ledger.now c.args.s.now (λ i. (c.type_inv.ledger i).fits) c.requires
    _ _ _ c.count-count.ensures.0
    (c.total-total.ensures ∙ total_held (limits_of (formula_of c.args.f)) c.args.ledger.now _ (few_rows c.args.f) c.sums.ensures)
    (rw e at c.loop-i.invariant)
