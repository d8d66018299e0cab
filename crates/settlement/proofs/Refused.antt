-- Demand 1, for any formula: it holds of every call.
-- Assumes nothing.
use Rattle.series.specs.Series.{Formula}
use Rattle.run.proofs.Calls.{every_call}
use Rattle.calls.specs.Request.{call_of}
use Rattle.calls.proofs.Lent.{were_lent}
use Rattle.settlement.specs.Refused.{Demand1}

-- Demand 1
pub demand1 : (F : Formula) → Demand1 F
demand1 F q = (every_call (call_of F q), were_lent F q)
