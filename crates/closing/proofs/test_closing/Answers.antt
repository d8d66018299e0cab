-- `closing::test_closing` meets its contract: one law for each way out.
-- Assumes nothing.
use mathlib.Core.Path.{sym, ap, ◌∙◌}
use native.Mathlib.Omega.{arith}
use lib.IntN.{pos}
use Rattle.run.specs.Run.{limits_of}
use Rattle.series.specs.Names.{formula_of}
use Rattle.ledger.specs.Ledger.{pos_in, total_in}
use Rattle.closing.proofs.Closing.{blocks_read, full_read, settled_few, ledger_size_lem, digits_size, out_of_order, unmarked, unsettled, closes}
use Rattle.closing.proofs.test_closing.Goals as goal

pub returns-then-ledger-ledger_size : goal.returns-then-ledger-ledger_size
returns-then-ledger-ledger_size c = ledger_size_lem _ _ _ (λ e. c.if-ledger-ledger_size.true (e ∙ sym c.ledger_size.ensures))

pub returns-then-digits-ne32 : goal.returns-then-digits-ne32
returns-then-digits-ne32 c = digits_size _ _ _ c.if-digits-ne32.true

pub returns-then-not-in_order : goal.returns-then-not-in_order
returns-then-not-in_order c =
    out_of_order _ _ _ (c.if-ledger-ledger_size.false ∙ c.ledger_size.ensures) c.if-digits-ne32.false
    (sym c.in_order.ensures ∙ c.if-not-in_order.true)

pub all_below-requires : goal.all_below-requires
all_below-requires c = blocks_read _ c.args.ledger.now _ (sym c.in_order.ensures ∙ c.if-not-in_order.false) c.run.ensures.1

pub returns-then-not-all_below : goal.returns-then-not-all_below
returns-then-not-all_below c =
    unmarked _ _ _ (c.if-ledger-ledger_size.false ∙ c.ledger_size.ensures) c.if-digits-ne32.false
    (sym c.in_order.ensures ∙ c.if-not-in_order.false)
    (sym (full_read (formula_of c.args.f) _ _ _ c.run.ensures.1 c.all_below.ensures) ∙ c.if-not-all_below.true)

pub returns-then-d-eq0 : goal.returns-then-d-eq0
returns-then-d-eq0 c =
    unsettled _ _ _ (c.if-ledger-ledger_size.false ∙ c.ledger_size.ensures) c.if-digits-ne32.false
    (sym c.in_order.ensures ∙ c.if-not-in_order.false)
    (sym (full_read (formula_of c.args.f) _ _ _ c.run.ensures.1 c.all_below.ensures) ∙ c.if-not-all_below.false)
    (sym c.settle-d.ensures ∙ c.if-d-eq0.true)

pub overflow_cast-result : goal.overflow_cast-result
overflow_cast-result c =
    let a = c.args in
    let few = settled_few (formula_of a.f) (pos_in a.ledger.now) (total_in (limits_of (formula_of a.f)) a.ledger.now) in
    record { fits = omega (arith, few, c.settle-d.ensures) }

pub returns : goal.returns
returns c =
    ap pos c.settle-d.ensures
    ∙ closes _ _ _ (c.if-ledger-ledger_size.false ∙ c.ledger_size.ensures) c.if-digits-ne32.false
    (sym c.in_order.ensures ∙ c.if-not-in_order.false)
    (sym (full_read (formula_of c.args.f) _ _ _ c.run.ensures.1 c.all_below.ensures) ∙ c.if-not-all_below.false)
    (λ z. c.if-d-eq0.false (c.settle-d.ensures ∙ z))
