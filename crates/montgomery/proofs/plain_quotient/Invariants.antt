-- `montgomery::plain_quotient` meets its contract: q and r are the quotient and the remainder of 2^counter.
-- Assumes nothing.
use Rattle.std.proofs.Common.{◌≡◌, ◌/◌, ◌%◌, ◌^◌}
use Rattle.words.specs.Words.{joined}
use Rattle.montgomery.proofs.plain_quotient.Given as goal

abbrev pub invariant-loop : goal.invariant-loop
invariant-loop l = (l.r ≡ 2 ^ l.counter % l.n) × (joined l.q.hi l.q.lo ≡ 2 ^ l.counter / l.n % 2 ^ 128)
