-- `posting::enter_all` meets its contract: after i turns the bytes with the sums held are the ledger with the first i tickets in it,
-- and no later one is marked.
-- Assumes nothing.
use mathlib.Core.Path.{◌≡◌}
use Prim.Native.Nat.{◌<◌}
use native.Mathlib.Omega.{arith}
use borrow.Author.Rules.{rules}
use lib.ListN.{length}
use Rattle.words.specs.Bytes.{AllBytes}
use Rattle.series.proofs.FewRows.{few_rows}
use Rattle.ledger.specs.RowSums.{value_at}
use Rattle.ledger.proofs.RowSums.{one_added}
use Rattle.posting.proofs.Admitting.{start, row_below, may_mark, turn, finish}
use Rattle.posting.proofs.enter_all.Goals as goal

pub loop-i-init : goal.loop-i-init
unfolding AllBytes
loop-i-init c =
    let given = c.requires in
    (search rules, start _ _ _ _ c.count-count.ensures.0 given.ascends given.sized given.placed given.new (search rules) _ c.sums-sums.ensures)

pub bounds-sums-row : goal.bounds-sums-row
bounds-sums-row c =
    let given = c.requires in
    let below = row_below _ _ c.args.ledger.now _ c.count-count.ensures.0 given.ascends given.sized given.placed given.new _ _ _ _ 0
    c.loop-i.invariant.1 c.loop-i.auto.ledger c.loop-i-test.true c.row-row.ensures.0 in
    omega (arith, below, few_rows c.args.f)

pub bounds-sums-row-in-loop-i : goal.bounds-sums-row-in-loop-i
bounds-sums-row-in-loop-i c = (let given = c.requires in let below = row_below _ _ c.args.ledger.now _ c.count-count.ensures.0 given.ascends given.sized given.placed given.new _ _ _ _ 0 c.loop-i.invariant.1 c.loop-i.auto.ledger c.loop-i-test.true c.row-row.ensures.0 in omega (arith, below, few_rows c.args.f))

pub set_bit-requires : goal.set_bit-requires
set_bit-requires c =
    let given = c.requires in
    may_mark _ _ _ _ c.count-count.ensures.0 given.ascends given.sized given.placed given.new _ _ _ _ _
    c.loop-i.invariant.1 c.loop-i.auto.ledger c.loop-i-test.true c.row-row.ensures.0 c.block.ensures.0

pub loop-i-preserved : goal.loop-i-preserved
unfolding value_at
loop-i-preserved c =
    let given = c.requires in
    let counted = c.count-count.ensures.0 in
    let small : c.row-row.result < 7 = (let given = c.requires in let below = row_below _ _ c.args.ledger.now _ c.count-count.ensures.0 given.ascends given.sized given.placed given.new _ _ _ _ 0 c.loop-i.invariant.1 c.loop-i.auto.ledger c.loop-i-test.true c.row-row.ensures.0 in omega (arith, below, few_rows c.args.f)) in
    let inside : c.row-row.result < length c.loop-i.sums = omega (arith, small, c.loop-i.invariant.0) in (
      search rules,
      turn _ _ _ _ counted given.ascends given.sized given.placed given.new _ (value_at c.loop-i.sums) _ _ _ c.loop-i.invariant.1 c.loop-i.auto.ledger
          c.loop-i-test.true c.row-row.ensures.0 c.block.ensures.0 _ _ _ c.body-sum.ensures
          (one_added c.loop-i.sums _ _ _ inside c.add.ensures) c.set_bit.ensures,
    )

pub returns : goal.returns
returns c =
    let given = c.requires in
    let e : c.loop-i.i ≡ c.count-count.result = omega arith in
    finish _ _ _ _ c.count-count.ensures.0 given.ascends given.sized given.placed given.new _ _ _ _ c.loop-i.invariant.1 e c.put.ensures
