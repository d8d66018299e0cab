-- `digits::shared_digits` meets its contract. The loop's invariant: the numbers have the same quotient by 2 ^ (128 - 4 d).
-- Assumes nothing.
use Rattle.words.specs.Words.{joined}
use Rattle.digits.proofs.TopDigits.{Share}
use Rattle.digits.proofs.shared_digits.Given as goal

abbrev pub invariant-loop-d : goal.invariant-loop-d
invariant-loop-d l = Share (joined l.a.hi l.a.lo) (joined l.b.hi l.b.lo) l.d
