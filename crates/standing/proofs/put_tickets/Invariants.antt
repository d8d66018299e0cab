-- `standing::put_tickets` meets its contract: at each turn the tickets of the places passed are laid over the output.
-- Assumes nothing.
use mathlib.Core.Path.{◌≡◌}
use Prim.Native.Nat.{◌*◌, ◌-◌, ◌≤◌}
use lib.ListN.{length}
use Rattle.series.specs.Names.{formula_of}
use Rattle.series.specs.Series.{row_count}
use Rattle.run.specs.Run.{limits_of}
use Rattle.standing.proofs.Writing.{Laid}
use Rattle.standing.proofs.put_tickets.Given as goal

abbrev pub invariant-loop-left : goal.invariant-loop-left
invariant-loop-left l =
    (l.place ≤ 256 * row_count (formula_of l.books.ledger.f)) × (length l.out ≡ length l.initial.out) × Laid (limits_of (formula_of l.books.ledger.f)) l.books.ledger.bytes.now l.books.book.now l.e l.initial.out l.place l.left l.out

abbrev pub decreases-loop-left : goal.decreases-loop-left
decreases-loop-left l = 256 * row_count (formula_of l.books.ledger.f) - l.place
