-- `closing::close` meets its contract: the digits are written after all tests.
-- Assumes nothing.
use native.Mathlib.Omega.{arith}
use Rattle.series.specs.Names.{formula_of}
use Rattle.run.specs.Run.{limits_of}
use Rattle.ledger.specs.Ledger.{pos_in, total_in}
use Rattle.std.proofs.lemmas.Result.{err_from_is_err_and}
use Rattle.closing.proofs.Closing.{settled_few, tested, was_closed, not_closed, digits_written}
use Rattle.closing.proofs.close.Goals as goal

pub invariant_of-ledger : goal.invariant_of-ledger
invariant_of-ledger c = record { sized = (tested _ _ _ (was_closed _ _ _ _ _ c.test_closing.ensures c.in_ok-d.was).0).ordered.sized }

pub invariant_of-lower_end : goal.invariant_of-lower_end
invariant_of-lower_end c = record { ordered = (tested _ _ _ (was_closed _ _ _ _ _ c.test_closing.ensures c.in_ok-d.was).0).ordered }

pub lower_end-requires : goal.lower_end-requires
lower_end-requires c = (tested _ _ _ (was_closed _ _ _ _ _ c.test_closing.ensures c.in_ok-d.was).0).some

pub put_digits-requires : goal.put_digits-requires
put_digits-requires c =
    let a = c.args in
    let w = was_closed _ _ _ _ _ c.test_closing.ensures c.in_ok-d.was in
    let few = settled_few (formula_of a.f) (pos_in a.ledger.now) (total_in (limits_of (formula_of a.f)) a.ledger.now) in
    let room = (tested _ _ _ w.0).room in
    (omega (arith, w.1, few), omega (arith, w.1, few, room))

pub returns : goal.returns
returns c =
    digits_written _ _ _ _ _ c.test_closing.ensures c.in_ok-d.was _ _ c.put_digits.ensures c.lower_end.ensures

pub returns-in_err-d : goal.returns-in_err-d
returns-in_err-d c =
    let p = err_from_is_err_and c.from_residual.result c.from_residual.ensures.1 in
    rw (p.1, p.2) (not_closed _ _ _ _ _ c.test_closing.ensures c.in_err-d.was)
