-- `series::groups::exponents` meets its contract: the lanes below j have their E - 64.
-- Assumes nothing.
use Rattle.std.proofs.Common.{ℕ, ◌+◌, ◌-◌, ◌*◌, arith, length-set}
use Rattle.series.proofs.Lanes.{filled}
use Rattle.series.proofs.groups.exponents.Goals as goal

pub loop-j-preserved : goal.loop-j-preserved
loop-j-preserved c =
    let numbers = c.args.terms.now.numbers in
    let value = λ (i : ℕ). numbers.rise - numbers.step * (c.args.k + i) - 64 in
    (simp length-set c.loop-j.invariant.0, filled value _ _ (omega arith) c.loop-j.invariant.1)
