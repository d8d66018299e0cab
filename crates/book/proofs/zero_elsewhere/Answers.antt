-- `book::zero_elsewhere` meets its contract: at each turn every place passed is zero whose bit is not set.
-- Assumes nothing.
use mathlib.Core.Path.{◌≡◌, sym}
use native.Mathlib.Omega.{arith}
use Rattle.algebra.proofs.Below.{below_none}
use Rattle.book.specs.Book.{zero_elsewhere}
use Rattle.book.proofs.Rows.{bit_next, zero_next, not_zero}
use Rattle.book.proofs.zero_elsewhere.Goals as goal
use Rattle.book.proofs.zero_elsewhere.Goals.{else-not-bit_set-via-then-not-bit_set+else-not-is_equal, else-not-bit_set-via-else-not-bit_set}

pub loop-block-init : goal.loop-block-init
loop-block-init c = below_none _

pub returns-then-not-is_equal : goal.returns-then-not-is_equal
returns-then-not-is_equal c =
    not_zero _ _ _ _ _ _ c.bit_set.ensures c.if-not-bit_set.true _ c.kept.ensures _ c.is_equal.ensures
    c.loop-block-test.true c.if-not-is_equal.true

pub loop-block-preserved : goal.loop-block-preserved
loop-block-preserved c =
    elim c.else-not-bit_set.branch [
      | else-not-bit_set-via-then-not-bit_set+else-not-is_equal w ↦
          zero_next _ _ _ _ _ _ c.bit_set.ensures w.if-not-bit_set.true _ w.kept.ensures _ w.is_equal.ensures w.if-not-is_equal.false
          c.loop-block.invariant
      | else-not-bit_set-via-else-not-bit_set w ↦
          bit_next _ _ _ _ _ _ c.bit_set.ensures w.if-not-bit_set.false c.loop-block.invariant
    ]

pub returns : goal.returns
unfolding zero_elsewhere
returns c =
    let e : c.loop-block.block ≡ 256 = omega arith in
    sym (rw e at c.loop-block.invariant)
