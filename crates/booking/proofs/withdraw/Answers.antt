-- `booking::withdraw` meets its contract: where the ticket is taken out no test applied, and where one applies nothing is written.
-- Assumes nothing.
use Rattle.std.proofs.lemmas.Result.{err_from_is_err_and}
use Rattle.booking.proofs.Testing.{withdraw_known, withdrawn, not_withdrawn}
use Rattle.booking.proofs.withdraw.Goals as goal

pub kept-x-requires : goal.kept-x-requires
kept-x-requires c =
    (withdraw_known _ _ _ _ _ _ _ _ c.test_withdraw.ensures _ c.in_ok-test_withdraw.was).1

pub remove-requires : goal.remove-requires
remove-requires c =
    (withdraw_known _ _ _ _ _ _ _ _ c.test_withdraw.ensures _ c.in_ok-test_withdraw.was).0

pub keep-requires : goal.keep-requires
keep-requires c =
    (withdraw_known _ _ _ _ _ _ _ _ c.test_withdraw.ensures _ c.in_ok-test_withdraw.was).1

pub returns : goal.returns
returns c =
    withdrawn _ _ _ _ _ _ _ _ c.test_withdraw.ensures _ _ _ _ c.in_ok-test_withdraw.was c.kept-x.ensures
    c.remove.ensures c.keep.ensures

pub returns-in_err-test_withdraw : goal.returns-in_err-test_withdraw
returns-in_err-test_withdraw c =
    let p = err_from_is_err_and c.from_residual.result c.from_residual.ensures.1 in
    rw (p.1, p.2) (not_withdrawn _ _ _ _ _ _ _ _ c.test_withdraw.ensures _ c.in_err-test_withdraw.was)
