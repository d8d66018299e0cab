-- `ledger::open` meets its contract: one law for each way out.
-- Assumes nothing.
use mathlib.Core.Path.{sym, ◌∙◌}
use Rattle.ledger.proofs.Opening.{wrong_size_lem, out_of_range, opened}
use Rattle.ledger.proofs.open.Goals as goal

pub returns-then-ledger-ledger_size : goal.returns-then-ledger-ledger_size
returns-then-ledger-ledger_size c = wrong_size_lem _ _ _ _ (λ e. c.if-ledger-ledger_size.true (e ∙ sym c.ledger_size.ensures))

pub returns-then-not-in_range : goal.returns-then-not-in_range
returns-then-not-in_range c =
    out_of_range _ _ _ _ (c.if-ledger-ledger_size.false ∙ c.ledger_size.ensures) (sym c.in_range.ensures ∙ c.if-not-in_range.true)

pub returns : goal.returns
returns c =
    opened _ _ _ _ (c.if-ledger-ledger_size.false ∙ c.ledger_size.ensures) (sym c.in_range.ensures ∙ c.if-not-in_range.false)
    _ _ _ (c.fill.ensures.after (λ y e. e)) c.put.ensures c.put-2.ensures
