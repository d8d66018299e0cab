-- `ledger::sums::put` meets its contract: after each turn the sums of the rows passed are in place.
-- Assumes nothing.
use mathlib.Core.Path.{◌≡◌}
use Prim.Native.Nat.{◌+◌, ◌≤◌}
use native.Mathlib.Omega.{arith}
use lib.ListN.{length}
use Rattle.series.specs.Names.{formula_of}
use Rattle.series.specs.Series.{row_count}
use Rattle.ledger.specs.Ledger.{sum_at}
use Rattle.ledger.specs.RowSums.{value_at, with_sums}
use Rattle.ledger.proofs.RowSums.{none_put, one_put}
use Rattle.ledger.proofs.sums.put.Goals as goal

pub loop-row-init : goal.loop-row-init
loop-row-init c = none_put _ _

pub loop-row-preserved : goal.loop-row-preserved
unfolding value_at
loop-row-preserved c =
    let room : sum_at c.loop-row.row + 16 ≤ length c.args.s.now = omega arith in
    one_put c.args.s.now _ _ (value_at c.args.sums) _ room c.loop-row.invariant c.put_wide.ensures

pub returns : goal.returns
unfolding with_sums
returns c =
    let e : c.loop-row.row ≡ row_count (formula_of c.args.f) = omega arith in
    rw e at c.loop-row.invariant
