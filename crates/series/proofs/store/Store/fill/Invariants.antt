-- `series::store::Store::fill` meets its contract: no term is held while the sizes below j are those of the group.
-- Assumes nothing.
use Rattle.std.proofs.Common.{◌≡◌, ℕ, ◌<◌}
use Rattle.lanes.specs.Lanes.{quotient}
use Rattle.series.proofs.store.Store.fill.Given as goal

abbrev pub invariant-loop-j : goal.invariant-loop-j
invariant-loop-j l =
    record {
      of : l.self.terms ≡ l.fn.self.terms;
      from : l.self.first ≡ l.k;
      none : l.self.held ≡ 0;
      copied : (i : ℕ) → i < l.j → quotient l.self.sizes i ≡ quotient l.sizes i;
    }
