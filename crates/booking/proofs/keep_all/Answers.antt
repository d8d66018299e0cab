-- `booking::keep_all` meets its contract: after i turns the sums of the first i tickets are kept.
-- Assumes nothing.
use mathlib.Core.Path.{◌≡◌, refl, ap, ◌∙◌}
use mathlib.Core.List.{foldl}
use Prim.Native.Nat.{ℕ}
use native.Mathlib.Omega.{arith}
use Rattle.series.specs.Names.{formula_of}
use Rattle.run.specs.Run.{limits_of}
use Rattle.sheet.specs.Sheet.{entries_from, entries}
use Rattle.book.specs.Book.{keep_entry}
use Rattle.booking.proofs.SheetTesting.{inside, one_kept}
use Rattle.booking.proofs.keep_all.Goals as goal

pub loop-i-init : goal.loop-i-init
unfolding entries_from
loop-i-init c = refl

pub keep-requires : goal.keep-requires
keep-requires c =
    inside (limits_of (formula_of c.args.f)) c.args.s.now c.args.book.now _ c.count-count.ensures.0 c.loop-i.book _ _ _
    c.row-row.ensures.0 c.block-block.ensures.0 c.requires.sized c.requires.placed c.loop-i.auto.book c.loop-i-test.true

pub loop-i-preserved : goal.loop-i-preserved
loop-i-preserved c =
    one_kept (limits_of (formula_of c.args.f)) c.args.s.now c.args.book.now _ c.count-count.ensures.0 _ _ _ _
    c.row-row.ensures.0 c.block-block.ensures.0 _ _ c.body.ensures c.keep.ensures c.loop-i.invariant

pub returns : goal.returns
unfolding entries
returns c =
    let e : c.loop-i.i ≡ c.count-count.result = omega arith in
    c.loop-i.invariant ∙ ap (λ (n : ℕ). foldl keep_entry c.args.book.now (entries_from c.args.s.now 0 n)) (e ∙ c.count-count.ensures.0)
