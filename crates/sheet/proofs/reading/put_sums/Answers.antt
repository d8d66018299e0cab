-- `sheet::reading::put_sums` meets its contract: after i turns the sums of i tickets stand over the output.
-- Assumes nothing.
use mathlib.Core.Path.{◌≡◌}
use native.Mathlib.Omega.{arith}
use Rattle.sheet.proofs.reading.put_sums.Invariants.{first, last, next}
use Rattle.sheet.proofs.reading.put_sums.Goals as goal

pub loop-i-init : goal.loop-i-init
loop-i-init c =
    let args = c.args in
    first args.entries.now.bytes.now args.sums.now args.entries.now.count

pub loop-i-preserved : goal.loop-i-preserved
loop-i-preserved c = next c.args.entries.now.bytes.now c.args.sums.now c.args.entries.now.count _ _ _ _ c.requires.0 c.loop-i-test.true c.body.ensures
    c.loop-i.invariant c.put_wide.ensures

pub returns : goal.returns
returns c =
    let args = c.args in
    let e : c.loop-i.i ≡ args.entries.now.count = omega arith in
    last args.entries.now.bytes.now args.sums.now args.entries.now.count _ _ e c.loop-i.invariant
