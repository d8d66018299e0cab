-- `series::terms::terms_of` meets its contract: the terms of a row before K can be worked.
-- Assumes nothing.
use Rattle.series.proofs.Numbers.{workable}
use Rattle.series.proofs.Table.{fitting}
use Rattle.series.proofs.terms.terms_of.Goals as goal

pub invariant_of-result : goal.invariant_of-result
invariant_of-result c =
    record { workable = rw c.numbers_of.ensures (workable _ _ _ _ c.args.at.there.0 (fitting _ _ c.args.at.there.1) c.requires) }
