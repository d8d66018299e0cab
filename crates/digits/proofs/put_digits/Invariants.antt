-- `digits::put_digits` meets its contract. The loop's invariant: the first i characters are written.
-- Assumes nothing.
use Rattle.std.proofs.Common.{◌≡◌, ℕ, ◌/◌, ◌<◌, List, get_or}
use lib.IntN.{pos}
use Rattle.words.specs.Words.{joined}
use Rattle.digits.specs.Digits.{unit_at, low_digits}
use Rattle.digits.proofs.put_digits.Given as goal

abbrev pub text : ℕ → ℕ → ℕ → List ℕ
text hi lo d = low_digits d (pos (joined hi lo / unit_at d))

abbrev pub invariant-loop-i : goal.invariant-loop-i
invariant-loop-i l = (k : ℕ) → k < l.i → get_or l.byte-items k 0 ≡ get_or (text l.x.hi l.x.lo l.d) k 0
