-- `sheet::layout::put_contents` meets its contract: after i turns the contents of i tickets stand over the output.
-- Assumes nothing.
use mathlib.Core.Path.{◌≡◌, refl, sym, ap, ◌∙◌}
use mathlib.Core.List.{List, ◌++◌}
use Prim.Native.Nat.{ℕ, ◌+◌, ◌*◌, ◌≤◌, ◌<◌}
use native.Mathlib.Omega.{arith}
use lib.ListN.{length, take, drop}
use Rattle.series.specs.Series.{Formula}
use Rattle.run.specs.Run.{Entry}
use Rattle.sheet.specs.Sheet.{line, contents_of, listed}
use Rattle.sheet.proofs.Over.{contents, start, turn, finish}
use Rattle.sheet.proofs.Each.{pair_row, pair_block, count, pair_at}
use Rattle.sheet.proofs.layout.put_contents.Invariants.{Written}
use Rattle.sheet.proofs.layout.put_contents.Goals as goal

module _ (list old : List ℕ) (e : ℕ) (size : length list ≡ 2 * e) where
  first : Written list old old 0
  first F p C = start contents (listed F p C list) old 16

  next : (l m : List ℕ) (i : ℕ) → 16 ≤ length old → i < e → Written list old l i
      → m ≡ take (16 + 4 * i) l ++ line (pair_row list i) (pair_block list i) ++ drop (16 + 4 * i + 4) l → Written list old m (i + 1)
  next l m i room h el em F p C =
      turn contents (listed F p C list) old 16 l m (line (pair_row list i) (pair_block list i)) i (16 + 4 * i) room (omega (arith, count F p C list e size)) refl
      (ap (λ (t : Entry). line t.row t.block) (sym (pair_at F p C list e size i h))) (el F p C) em

  last : (l : List ℕ) (i : ℕ) → i ≡ e → Written list old l i → (F : Formula) (p C : ℕ)
      → l ≡ take 16 old ++ contents_of (listed F p C list) ++ drop (16 + 4 * e) old
  last l i q el F p C =
      finish contents (listed F p C list) old 16 l i (count F p C list e size ∙ sym q) (el F p C)
      ∙ ap (λ (n : ℕ). take 16 old ++ contents_of (listed F p C list) ++ drop (16 + 4 * n) old) q

pub loop-i-init : goal.loop-i-init
loop-i-init c =
    first c.args.pairs.now.bytes.now c.args.out.now c.args.pairs.now.count c.args.pairs.now.even

pub loop-i-preserved : goal.loop-i-preserved
loop-i-preserved c = next c.args.pairs.now.bytes.now c.args.out.now c.args.pairs.now.count c.args.pairs.now.even _ _ _ (omega arith) c.loop-i-test.true
    c.loop-i.invariant (rw (c.row.ensures.0, c.block.ensures.0) at c.put_line.ensures)

pub returns : goal.returns
returns c =
    let e : c.loop-i.i ≡ c.args.pairs.now.count = omega arith in
    last c.args.pairs.now.bytes.now c.args.out.now c.args.pairs.now.count c.args.pairs.now.even _ _ e c.loop-i.invariant
