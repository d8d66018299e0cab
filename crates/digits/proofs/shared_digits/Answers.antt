-- `digits::shared_digits` meets its contract: before the first digit both quotients are 0.
-- Assumes nothing.
use Rattle.std.proofs.Common.{◌^◌, ◌<◌, rules}
use Rattle.words.proofs.Joined.{joined_lt}
use Rattle.digits.proofs.TopDigits.{share_none}
use Rattle.digits.proofs.shared_digits.Goals as goal

pub loop-d-init : goal.loop-d-init
loop-d-init c =
    let a = c.args in
    let h : (a.a.hi < 2 ^ 64) × (a.a.lo < 2 ^ 64) × (a.b.hi < 2 ^ 64) × (a.b.lo < 2 ^ 64) = search rules in
    share_none _ _ (joined_lt _ _ h.0 h.1) (joined_lt _ _ h.2 h.3)
