-- Demand 1, for a formula: whatever numbers and bytes it is handed, every call comes back worked or with a refusal of the table, and a refused
-- call changes no byte that it may write; what it only reads stays by its contract. Over the calls that the contracts name.
use Rattle.std.specs.Prelude.{◌≡◌}
use Rattle.series.specs.Series.{Formula}
use Rattle.run.specs.Call.{each_was, WorkedOrRefused}
use Rattle.calls.specs.Request.{Request, call_of, lent_to_write}

-- Demand 1: what a call says that its slices were is what the caller lends
abbrev pub Demand1 : Formula → Type 0
Demand1 F = (q : Request) → WorkedOrRefused (call_of F q) × (each_was (call_of F q).slices ≡ lent_to_write q)
