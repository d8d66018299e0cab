-- `overlap::part` meets its contract: the rest of one of the two slices.
-- Assumes nothing.
use mathlib.Core.Path.{sym, ◌∙◌}
use native.Mathlib.Omega.{arith}
use Rattle.overlap.proofs.Placed.{none_refused, one_refused, ends_fit, inside, rest_of, of_second, of_first, of_none}
use Rattle.overlap.proofs.part.Goals as goal

pub returns-then-is_err : goal.returns-then-is_err
returns-then-is_err c =
    of_none _ _ _ _ _ (one_refused _ _ _ c.test_overlap.ensures (sym c.is_err.ensures.value ∙ c.if-is_err.true)) (rest_of _ _ (omega arith))

pub second_further-requires : goal.second_further-requires
second_further-requires c =
    ends_fit _ _ (none_refused _ _ _ c.test_overlap.ensures (sym c.is_err.ensures.value ∙ c.if-is_err.false))

pub overflow_sub-at : goal.overflow_sub-at
overflow_sub-at c =
    (inside _ _ (none_refused _ _ _ c.test_overlap.ensures (sym c.is_err.ensures.value ∙ c.if-is_err.false)) _ c.later-n.ensures).after_second

pub slice_bounds-result-count-then-second_further : goal.slice_bounds-result-count-then-second_further
slice_bounds-result-count-then-second_further c =
    (inside _ _ (none_refused _ _ _ c.test_overlap.ensures (sym c.is_err.ensures.value ∙ c.if-is_err.false)) _ c.later-n.ensures).in_second

pub slice_bounds-result-start-then-second_further : goal.slice_bounds-result-start-then-second_further
slice_bounds-result-start-then-second_further c =
    (inside _ _ (none_refused _ _ _ c.test_overlap.ensures (sym c.is_err.ensures.value ∙ c.if-is_err.false)) _ c.later-n.ensures).in_second

pub overflow_sub-at-2 : goal.overflow_sub-at-2
overflow_sub-at-2 c =
    (inside _ _ (none_refused _ _ _ c.test_overlap.ensures (sym c.is_err.ensures.value ∙ c.if-is_err.false)) _ c.later-n.ensures).after_first

pub slice_bounds-result-count-2 : goal.slice_bounds-result-count-2
slice_bounds-result-count-2 c =
    (inside _ _ (none_refused _ _ _ c.test_overlap.ensures (sym c.is_err.ensures.value ∙ c.if-is_err.false)) _ c.later-n.ensures).in_first

pub slice_bounds-result-start-2 : goal.slice_bounds-result-start-2
slice_bounds-result-start-2 c =
    (inside _ _ (none_refused _ _ _ c.test_overlap.ensures (sym c.is_err.ensures.value ∙ c.if-is_err.false)) _ c.later-n.ensures).in_first

pub returns-then-second_further : goal.returns-then-second_further
returns-then-second_further c =
    let e = none_refused _ _ _ c.test_overlap.ensures (sym c.is_err.ensures.value ∙ c.if-is_err.false) in
    of_second _ _ _ _ _ e _ c.later-n.ensures (sym c.second_further.ensures ∙ c.if-second_further.true)
    (rest_of _ _ (inside _ _ e _ c.later-n.ensures).in_second)

pub returns : goal.returns
returns c =
    let e = none_refused _ _ _ c.test_overlap.ensures (sym c.is_err.ensures.value ∙ c.if-is_err.false) in
    of_first _ _ _ _ _ e _ c.later-n.ensures (sym c.second_further.ensures ∙ c.if-second_further.false)
    (rest_of _ _ (inside _ _ e _ c.later-n.ensures).in_first)
