-- `overlap::overlap_part` meets its contract: the place is written after all tests.
-- Assumes nothing.
use mathlib.Core.Path.{sym, ◌∙◌}
use mathlib.Core.Bool.{true, false}
use Rattle.std.proofs.lemmas.Result.{err_from_is_err_and}
use Rattle.overlap.proofs.Placed.{not_refused, ends_fit, part_within, place_is, other_size, written, not_written}
use Rattle.overlap.proofs.overlap_part.Goals as goal

pub returns-then-out-ne24 : goal.returns-then-out-ne24
returns-then-out-ne24 c = other_size _ _ _ c.if-out-ne24.true

pub second_further-requires : goal.second_further-requires
second_further-requires c =
    ends_fit _ _ (not_refused _ _ _ c.test_overlap.ensures _ c.in_ok-test_overlap.was)

pub overflow_sub-second : goal.overflow_sub-second
overflow_sub-second c =
    let e = not_refused _ _ _ c.test_overlap.ensures _ c.in_ok-test_overlap.was in
    part_within _ _ _ _ _ c.part-handed.ensures e true (sym c.second_further.ensures ∙ c.if-second_further.true)

pub returns-then-second_further : goal.returns-then-second_further
returns-then-second_further c =
    let e = not_refused _ _ _ c.test_overlap.ensures _ c.in_ok-test_overlap.was in
    let f = sym c.second_further.ensures ∙ c.if-second_further.true in
    written _ _ _ c.if-out-ne24.false e _ (c.put_place.ensures ∙ sym (place_is _ _ _ _ _ c.part-handed.ensures e true f))

pub overflow_sub-first : goal.overflow_sub-first
overflow_sub-first c =
    let e = not_refused _ _ _ c.test_overlap.ensures _ c.in_ok-test_overlap.was in
    part_within _ _ _ _ _ c.part-handed.ensures e false (sym c.second_further.ensures ∙ c.if-second_further.false)

pub returns : goal.returns
returns c =
    let e = not_refused _ _ _ c.test_overlap.ensures _ c.in_ok-test_overlap.was in
    let f = sym c.second_further.ensures ∙ c.if-second_further.false in
    written _ _ _ c.if-out-ne24.false e _ (c.put_place-2.ensures ∙ sym (place_is _ _ _ _ _ c.part-handed.ensures e false f))

pub returns-in_err-test_overlap : goal.returns-in_err-test_overlap
returns-in_err-test_overlap c =
    let p = err_from_is_err_and c.from_residual.result c.from_residual.ensures.1 in
    rw (p.1, p.2) (not_written _ _ _ c.if-out-ne24.false _ c.test_overlap.ensures _ c.in_err-test_overlap.was)
