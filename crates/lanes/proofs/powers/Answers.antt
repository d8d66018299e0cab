-- `lanes::powers` meets its contract: each lane begins at the top bit of its exponent, which is at one place in all, and each turn takes a bit.
-- Assumes nothing.
use Rattle.std.proofs.Common.{sym, ◌∙◌}
use Rattle.montgomery.proofs.Standing.{begun}
use Rattle.lanes.proofs.powers.Goals as goal

pub loop-i-init : goal.loop-i-init
loop-i-init c = λ j h.
    let e = c.requires j h in
    rw (sym (c.numbers.ensures j h)) (begun _ _ _ _ e.0 (c.top-i.ensures ∙ sym e.1) (c.starts-x.ensures j h))
