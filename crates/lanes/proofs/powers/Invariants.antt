-- `lanes::powers` meets its contract: each lane begins at the top bit of its exponent, which is at one place in all, and each turn takes a bit.
-- Assumes nothing.
use Rattle.montgomery.specs.Standing.{Standing}
use Rattle.lanes.specs.Lanes.{Each, at, modulus, lane}
use Rattle.lanes.proofs.powers.Given as goal

abbrev pub invariant-loop-i : goal.invariant-loop-i
invariant-loop-i l = Each (λ j. Standing (modulus l.m j).n (at l.e j) l.i (lane l.x j))
