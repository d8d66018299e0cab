-- `look::look` meets its contract: the total is written after all tests.
-- Assumes nothing.
use native.Mathlib.Omega.{arith}
use Rattle.std.proofs.lemmas.Result.{err_from_is_err_and}
use Rattle.look.proofs.Looking.{has_room, takes, looked, not_looked}
use Rattle.look.proofs.look.Goals as goal

pub total_after-requires : goal.total_after-requires
total_after-requires c = takes _ _ _ _ _ c.test_look.ensures _ c.in_ok-rest.was

pub put_wide-requires : goal.put_wide-requires
put_wide-requires c =
    let room = has_room _ _ _ _ _ c.test_look.ensures _ c.in_ok-rest.was in
    omega (arith, room)

pub returns : goal.returns
returns c =
    looked _ _ _ _ _ c.test_look.ensures _ c.in_ok-rest.was _ _ c.total_after.ensures c.put_wide.ensures

pub returns-in_err-rest : goal.returns-in_err-rest
returns-in_err-rest c =
    let p = err_from_is_err_and c.from_residual.result c.from_residual.ensures.1 in
    rw (p.1, p.2) (not_looked _ _ _ _ _ c.test_look.ensures _ c.in_err-rest.was)
