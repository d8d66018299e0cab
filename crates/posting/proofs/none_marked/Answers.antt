-- `posting::none_marked` meets its contract: at each turn no entry passed has its bit set.
-- Assumes nothing.
use mathlib.Core.Path.{◌≡◌, sym, ◌∙◌}
use native.Mathlib.Omega.{arith}
use Rattle.algebra.proofs.Below.{below_none}
use Rattle.sheet.proofs.Each.{every_entries}
use Rattle.posting.proofs.Admitting.{mark_inside, one_marked, one_more}
use Rattle.posting.proofs.none_marked.Goals as goal

pub loop-i-init : goal.loop-i-init
loop-i-init c = below_none _

pub bit_set-requires : goal.bit_set-requires
bit_set-requires c =
    mark_inside _ c.args.ledger.now.bytes.now c.args.entries.now.bytes.now _ _ _ c.row.ensures.0 c.block.ensures.0 _ c.args.ledger.now.sized c.requires c.loop-i-test.true

pub returns-then-bit_set : goal.returns-then-bit_set
returns-then-bit_set c =
    one_marked _ _ _ _ _ _ c.row.ensures.0 c.block.ensures.0 _ c.bit_set.ensures _
    c.loop-i-test.true c.if-bit_set.true

pub loop-i-preserved : goal.loop-i-preserved
loop-i-preserved c = one_more _ _ _ _ _ _ c.row.ensures.0 c.block.ensures.0 _ c.bit_set.ensures c.if-bit_set.false
    c.loop-i.invariant

pub returns : goal.returns
returns c =
    let e : c.loop-i.i ≡ c.args.entries.now.count = omega arith in
    sym (every_entries _ _ _ ∙ rw e at c.loop-i.invariant)
