-- `overlap::agree` meets its contract. The loop's invariant: the strings agree before position n.
-- Assumes nothing.
use Rattle.overlap.specs.Strings.{laid}
use Rattle.overlap.proofs.Strings.{AgreeTo}
use Rattle.overlap.proofs.agree.Given as goal

abbrev pub invariant-loop-n : goal.invariant-loop-n
invariant-loop-n l = AgreeTo (laid l.first.digits.now l.first.from) (laid l.second.digits.now l.second.from) l.n
