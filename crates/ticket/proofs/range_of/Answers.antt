-- `ticket::range_of` meets its contract: the bounds are the block's, and the cut is half of their sum.
-- Assumes nothing.
use mathlib.Core.Path.{◌≡◌, ap, ap₂, ◌∙◌}
use Prim.Native.Nat.{ℕ, ◌+◌, ◌/◌, ◌≤◌}
use native.Mathlib.Omega.{arith}
use Rattle.series.specs.Series.{Formula, term_count}
use Rattle.series.proofs.Numbers.{count_small}
use Rattle.run.specs.Run.{bound}
use Rattle.run.proofs.Blocks.{bound_le, bounded}
use Rattle.run.proofs.Range.{range_of, position}
use Rattle.ticket.specs.Parts.{cut, part_first, part_end}
use Rattle.ticket.specs.declared.Part.{Part}
use Rattle.ticket.specs.declared.Part.TheVariants.{Whole, Lower, Upper}
use Rattle.ticket.proofs.range_of.Goals as goal

below : (K C i x : ℕ) → x ≡ bound K C i → i ≤ C → x ≤ K
below K C i x e h = rw e (bound_le K C i h)

module _ (F : Formula) (part : Part) (p C block K first end : ℕ) (k : K ≡ term_count F p) (a : first ≡ bound K C block) (b : end ≡ bound K C (block + 1)) where
  at_first : first ≡ bound (term_count F p) C block
  at_first = a ∙ ap (λ (n : ℕ). bound n C block) k

  at-end : end ≡ bound (term_count F p) C (block + 1)
  at-end = b ∙ ap (λ (n : ℕ). bound n C (block + 1)) k

  at_cut : (first + end) / 2 ≡ cut F p C block
  unfolding cut
  at_cut = ap₂ (λ (x y : ℕ). (x + y) / 2) at_first at-end

  whole : part ≡ Whole → (first ≡ part_first F part p C block) × (end ≡ part_end F part p C block)
  unfolding part_first part_end
  whole e = rw e (at_first, at-end)

  lower : part ≡ Lower → (first ≡ part_first F part p C block) × ((first + end) / 2 ≡ part_end F part p C block)
  unfolding part_first part_end
  lower e = rw e (at_first, at_cut)

  upper : part ≡ Upper → ((first + end) / 2 ≡ part_first F part p C block) × (end ≡ part_end F part p C block)
  unfolding part_first part_end
  upper e = rw e (at_cut, at-end)

pub term_count-count-requires : goal.term_count-count-requires
term_count-count-requires c = position _ _ c.args.t.run.c c.requires.0

pub bound-first-requires : goal.bound-first-requires
bound-first-requires c =
    bounded c.args.f _ _ _ _ _ c.requires.0 c.requires.1 c.term_count-count.ensures (omega arith)

pub bound-end-requires : goal.bound-end-requires
bound-end-requires c =
    bounded c.args.f _ _ _ _ _ c.requires.0 c.requires.1 c.term_count-count.ensures (omega arith)

pub overflow_add-cut : goal.overflow_add-cut
overflow_add-cut c =
    let a = below _ _ _ _ c.bound-first.ensures (omega (arith, c.requires.1)) in
    let b = below _ _ _ _ c.bound-end.ensures (omega (arith, c.requires.1)) in
    record { fits = omega (arith, a, b, c.term_count-count.ensures, count_small c.args.f _ (position _ _ _ c.requires.0)) }

pub returns-in-Whole : goal.returns-in-Whole
returns-in-Whole c =
    whole _ _ _ _ _ _ _ _ c.term_count-count.ensures c.bound-first.ensures c.bound-end.ensures c.in-Whole.is

pub returns-in-Lower : goal.returns-in-Lower
returns-in-Lower c =
    lower _ _ _ _ _ _ _ _ c.term_count-count.ensures c.bound-first.ensures c.bound-end.ensures c.in-Lower.is

pub returns-in-Upper : goal.returns-in-Upper
returns-in-Upper c =
    upper _ _ _ _ _ _ _ _ c.term_count-count.ensures c.bound-first.ensures c.bound-end.ensures c.in-Upper.is
