-- `posting::enter_all` meets its contract: after i turns the bytes with the sums held are the ledger with the first i tickets in it,
-- and no later one is marked.
-- Assumes nothing.
use mathlib.Core.Path.{◌≡◌}
use lib.ListN.{length}
use Rattle.series.specs.Names.{formula_of}
use Rattle.run.specs.Run.{limits_of}
use Rattle.ledger.specs.RowSums.{value_at}
use Rattle.posting.proofs.Admitting.{Entered}
use Rattle.posting.proofs.enter_all.Given as goal

abbrev pub invariant-loop-i : goal.invariant-loop-i
invariant-loop-i l =
    (length l.sums ≡ 7)
    × Entered (limits_of (formula_of l.f)) l.s l.initial.ledger l.count l.ledger (value_at l.sums) l.i
