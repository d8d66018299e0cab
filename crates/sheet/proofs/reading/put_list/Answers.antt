-- `sheet::reading::put_list` meets its contract: after i turns the list of i tickets stands over the output.
-- Assumes nothing.
use mathlib.Core.Path.{◌≡◌}
use native.Mathlib.Omega.{arith}
use Rattle.sheet.proofs.reading.put_list.Invariants.{first, last, next}
use Rattle.sheet.proofs.reading.put_list.Goals as goal

pub loop-i-init : goal.loop-i-init
loop-i-init c =
    let args = c.args in
    first args.entries.now.bytes.now args.list.now args.entries.now.count

pub loop-i-preserved : goal.loop-i-preserved
loop-i-preserved c =
    let args = c.args in next args.entries.now.bytes.now args.list.now args.entries.now.count _ _ _ _ c.loop-i-test.true c.key.ensures c.loop-i.invariant c.put.ensures

pub returns : goal.returns
returns c =
    let args = c.args in
    let e : c.loop-i.i ≡ args.entries.now.count = omega arith in
    last args.entries.now.bytes.now args.list.now args.entries.now.count _ _ e c.loop-i.invariant
