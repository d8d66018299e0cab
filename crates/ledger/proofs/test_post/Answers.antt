-- `ledger::test_post` meets its contract: one law for each way out.
-- Assumes nothing.
use mathlib.Core.Path.{sym, ◌∙◌}
use Rattle.std.proofs.lemmas.Result.{err_from_is_err_and}
use Rattle.ledger.proofs.Posting.{ledger_size_lem, sum_size, no_ticket, mark_inside, other_ledger, marked, admitted}
use Rattle.ledger.proofs.test_post.Goals as goal

pub returns-then-ledger-ledger_size : goal.returns-then-ledger-ledger_size
returns-then-ledger-ledger_size c = ledger_size_lem _ _ _ _ _ _ _ (λ e. c.if-ledger-ledger_size.true (e ∙ sym c.ledger_size.ensures))

pub returns-then-sum-ne16 : goal.returns-then-sum-ne16
returns-then-sum-ne16 c = sum_size _ _ _ _ _ _ _ c.if-sum-ne16.true

pub returns-in_err-test_ticket : goal.returns-in_err-test_ticket
returns-in_err-test_ticket c =
    let p = err_from_is_err_and c.from_residual.result c.from_residual.ensures.1 in
    rw (p.1, p.2) (
    no_ticket _ _ _ _ _ _ _ (c.if-ledger-ledger_size.false ∙ c.ledger_size.ensures) c.if-sum-ne16.false _ c.test_ticket.ensures _
    c.in_err-test_ticket.was)

pub returns-in_err-test_ledger : goal.returns-in_err-test_ledger
returns-in_err-test_ledger c =
    let p = err_from_is_err_and c.from_residual-in_err-test_ledger.result c.from_residual-in_err-test_ledger.ensures.1 in
    rw (p.1, p.2) (
    other_ledger _ _ _ _ _ _ _ (c.if-ledger-ledger_size.false ∙ c.ledger_size.ensures) c.if-sum-ne16.false _ c.test_ticket.ensures _
    c.in_ok-test_ticket.was _ c.test_ledger.ensures _ c.in_err-test_ledger.was)

pub bit_set-requires : goal.bit_set-requires
bit_set-requires c =
    mark_inside _ _ _ _ _ _ c.test_ticket.ensures _ c.in_ok-test_ticket.was _
    (c.if-ledger-ledger_size.false ∙ c.ledger_size.ensures)

pub returns-then-bit_set : goal.returns-then-bit_set
returns-then-bit_set c =
    marked _ _ _ _ _ _ _ (c.if-ledger-ledger_size.false ∙ c.ledger_size.ensures) c.if-sum-ne16.false _ c.test_ticket.ensures _
    c.in_ok-test_ticket.was _ c.test_ledger.ensures _ c.in_ok-test_ledger.was (sym c.bit_set.ensures ∙ c.if-bit_set.true)

pub returns : goal.returns
returns c =
    admitted _ _ _ _ _ _ _ (c.if-ledger-ledger_size.false ∙ c.ledger_size.ensures) c.if-sum-ne16.false _ c.test_ticket.ensures _
    c.in_ok-test_ticket.was _ c.test_ledger.ensures _ c.in_ok-test_ledger.was (sym c.bit_set.ensures ∙ c.if-bit_set.false)
