-- `ledger::Ledger::sums` meets its contract: after each turn the sums of the rows passed are in the array, and the rest of it is 0.
-- Assumes nothing.
use mathlib.Core.Path.{◌≡◌}
use Prim.Native.Nat.{ℕ}
use lib.ListN.{length}
use Rattle.ledger.specs.RowSums.{value_at, held_in}
use Rattle.ledger.proofs.Ledger.sums.Given as goal

abbrev pub invariant-loop-row : goal.invariant-loop-row
invariant-loop-row l = (length l.sums ≡ 7) × ((i : ℕ) → value_at l.sums i ≡ held_in l.row l.self.bytes.now i)
