-- `closing::InOrder::total` meets its contract: past the rows the array holds zeros.
-- Assumes nothing.
use mathlib.Core.Path.{◌∙◌}
use Rattle.series.specs.Names.{formula_of}
use Rattle.series.proofs.FewRows.{few_rows}
use Rattle.run.specs.Run.{limits_of}
use Rattle.ledger.proofs.RowSums.{total_held}
use Rattle.closing.proofs.InOrder.total.Goals as goal

pub returns : goal.returns
returns c =
    c.total.ensures ∙ total_held (limits_of (formula_of c.args.self.now.ledger.f)) c.args.self.now.ledger.bytes.now _ (few_rows c.args.self.now.ledger.f) c.sums.ensures
