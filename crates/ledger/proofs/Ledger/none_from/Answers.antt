-- `ledger::Ledger::none_from` meets its contract: the count is 0 where none is set.
-- Assumes nothing.
use mathlib.Core.Path.{ap, ◌∙◌}
use Prim.Native.Nat.{ℕ}
use lib.Dec.{eqb}
use Rattle.ledger.proofs.Counting.{none_counted}
use Rattle.ledger.proofs.Ledger.none_from.Goals as goal

pub returns : goal.returns
returns c = ap (λ (n : ℕ). eqb n 0) c.count.ensures ∙ none_counted _ _ _ c.requires
