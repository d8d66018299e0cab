-- `montgomery::power` meets its contract: it begins at the top bit of e, and each turn takes a bit.
-- Assumes nothing.
use Rattle.montgomery.specs.Standing.{Standing}
use Rattle.montgomery.proofs.power.Given as goal

abbrev pub invariant-loop-i : goal.invariant-loop-i
invariant-loop-i l = Standing l.m.n l.e l.i l.x
