-- `sheet::reading::read` meets its contract: where the outputs are written no test applied, and where one applies nothing is written.
-- Assumes nothing.
use native.Mathlib.Omega.{arith}
use Rattle.std.proofs.lemmas.Result.{err_from_is_err_and}
use Rattle.sheet.proofs.ReadTests.{readable, read_done, not_read}
use Rattle.sheet.proofs.reading.read.Goals as goal

pub invariant_of-entries : goal.invariant_of-entries
invariant_of-entries c =
    let h = readable _ _ _ _ _ c.test_read.ensures _ c.in_ok-e.was in
    omega (arith, h.1)

pub put_list-requires : goal.put_list-requires
put_list-requires c = (readable _ _ _ _ _ c.test_read.ensures _ c.in_ok-e.was).2

pub put_sums-requires : goal.put_sums-requires
put_sums-requires c =
    let h = readable _ _ _ _ _ c.test_read.ensures _ c.in_ok-e.was in
    (h.0, h.1, h.3)

pub returns : goal.returns
returns c =
    read_done _ _ _ _ _ c.test_read.ensures _ c.in_ok-e.was _ _ c.put_list.ensures c.put_sums.ensures

pub returns-in_err-e : goal.returns-in_err-e
returns-in_err-e c =
    let p = err_from_is_err_and c.from_residual.result c.from_residual.ensures.1 in
    rw (p.1, p.2) (not_read _ _ _ _ _ c.test_read.ensures _ c.in_err-e.was)
