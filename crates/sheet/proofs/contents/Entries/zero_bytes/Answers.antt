-- `sheet::contents::Entries::zero_bytes` meets its contract: at each turn the zero byte of every entry passed is zero.
-- Assumes nothing.
use mathlib.Core.Path.{sym}
use borrow.Author.Tests.{eq-eqb, ne_eqb}
use Rattle.algebra.proofs.Below.{below_none, below_next, below_false}
use Rattle.sheet.proofs.contents.Entries.zero_bytes.Goals as goal

pub loop-i-init : goal.loop-i-init
loop-i-init c = below_none _

pub returns-then-self-i-ne0 : goal.returns-then-self-i-ne0
returns-then-self-i-ne0 c = sym (below_false _ _ _ c.loop-i-test.true (ne_eqb _ _ c.if-self-i-ne0.true))

pub loop-i-preserved : goal.loop-i-preserved
loop-i-preserved c = below_next _ _ c.loop-i.invariant (eq-eqb _ _ c.if-self-i-ne0.false)
