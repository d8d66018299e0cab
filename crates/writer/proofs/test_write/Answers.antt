-- `writer::test_write` meets its contract: one law for each way out.
-- Assumes nothing.
use mathlib.Core.Path.{sym, ◌∙◌}
use native.Mathlib.Omega.{arith}
use Rattle.std.proofs.lemmas.Result.{err_from_is_err_and}
use Rattle.series.proofs.FewRows.{few_rows}
use Rattle.sheet.proofs.Form.{list_fits}
use Rattle.writer.proofs.WriteTests.{other_size, no_room, list_refused, accepted}
use Rattle.writer.proofs.test_write.Goals as goal

pub returns-then-not-sized : goal.returns-then-not-sized
returns-then-not-sized c = other_size _ _ _ _ _ _ c.sized.ensures c.if-not-sized.true

pub overflow_mul-size : goal.overflow_mul-size
overflow_mul-size c =
    let few = few_rows c.args.f in
    let h = (list_fits _ _ (sym c.sized.ensures ∙ c.if-not-sized.false)).1 in
    omega (arith, few, h)

pub overflow_add-size : goal.overflow_add-size
overflow_add-size c =
    let few = few_rows c.args.f in
    let h = (list_fits _ _ (sym c.sized.ensures ∙ c.if-not-sized.false)).1 in
    omega (arith, few, h)

pub returns-then-out-size : goal.returns-then-out-size
returns-then-out-size c = no_room _ _ _ _ _ _ c.sized.ensures c.if-out-size.true

pub overflow_cast-result : goal.overflow_cast-result
overflow_cast-result c =
    let few = few_rows c.args.f in
    let h = (list_fits _ _ (sym c.sized.ensures ∙ c.if-not-sized.false)).1 in
    omega (arith, few, h)

pub returns : goal.returns
returns c =
    accepted _ _ _ _ _ _ c.sized.ensures c.if-not-sized.false c.if-out-size.false _ c.test_list.ensures _
    c.in_ok-test_list.was

pub returns-in_err-test_list : goal.returns-in_err-test_list
returns-in_err-test_list c =
    let p = err_from_is_err_and c.from_residual.result c.from_residual.ensures.1 in
    rw (p.1, p.2) (
    list_refused _ _ _ _ _ _ c.sized.ensures c.if-not-sized.false c.if-out-size.false _ c.test_list.ensures _
    c.in_err-test_list.was)
