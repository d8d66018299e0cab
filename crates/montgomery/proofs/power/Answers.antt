-- `montgomery::power` meets its contract: it begins at the top bit of e, and each turn takes a bit.
-- Assumes nothing.
use Rattle.montgomery.proofs.Standing.{begun}
use Rattle.montgomery.proofs.power.Goals as goal

pub loop-i-init : goal.loop-i-init
loop-i-init c = begun _ _ _ _ c.requires c.top-i.ensures c.start-x.ensures
