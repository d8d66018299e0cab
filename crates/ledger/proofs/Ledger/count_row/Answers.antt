-- `ledger::Ledger::count_row` meets its contract: at each turn the marks of the blocks passed are counted, of one block or of a byte's eight.
-- Assumes nothing.
use mathlib.Core.Path.{◌≡◌}
use Prim.Native.Nat.{◌+◌, ◌*◌, ◌/◌, ◌%◌}
use native.Mathlib.Omega.{arith}
use Rattle.ledger.proofs.Counting.{at_most_one, no_block, one_block, eight_blocks}
use Rattle.ledger.proofs.Ledger.count_row.Goals as goal

pub loop-block-init : goal.loop-block-init
loop-block-init c = (omega arith, omega arith, omega arith, no_block _ _ _ _)

pub loop-block-preserved-then-block-end : goal.loop-block-preserved-then-block-end
loop-block-preserved-then-block-end c =
    let few = c.ones-marks.ensures.few in
    let whole : c.loop-block.block % 8 ≡ 0 = omega arith in
    let at = c.start.result + 32 * c.args.row + c.loop-block.block / 8 in
    (omega arith, c.if-block-end.true, omega (arith, few), eight_blocks _ _ _ _ _ at _ _ c.loop-block.invariant.0 whole (omega (arith, c.start.ensures)) c.loop-block.invariant.3 c.ones-marks.ensures.counts)

pub loop-block-preserved : goal.loop-block-preserved
loop-block-preserved c =
    let few = at_most_one c.bit_set.result in
    let inv = c.loop-block.invariant in
    (omega arith, omega arith, omega (arith, few), one_block _ _ _ _ _ _ c.bit_set.result inv.0 inv.3 c.bit_set.ensures)
