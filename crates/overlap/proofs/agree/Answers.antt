-- `overlap::agree` meets its contract. The loop's invariant: the strings agree before position n.
-- Assumes nothing.
use mathlib.Core.Path.{sym, ◌∙◌}
use Rattle.overlap.proofs.Strings.{holds_at, agree_start, agree_next, agree_past, agree_stops, agree_all}
use Rattle.overlap.proofs.agree.Goals as goal
use Rattle.overlap.proofs.agree.Goals.{else-holds-via-then-holds+else-digit_at, else-holds-via-else-holds}

pub loop-n-init : goal.loop-n-init
loop-n-init c = agree_start _ _

pub digit_at-requires : goal.digit_at-requires
digit_at-requires c = holds_at _ _ c.loop-n.invariant.from c.loop-n-test.true

pub returns-then-digit_at : goal.returns-then-digit_at
returns-then-digit_at c =
    agree_stops _ _ _ c.loop-n.invariant c.loop-n-test.true (sym c.holds.ensures ∙ c.if-holds.true)
    (λ e. c.if-digit_at.true (c.digit_at.ensures ∙ e ∙ sym c.digit_at-then-holds.ensures))

pub loop-n-preserved : goal.loop-n-preserved
loop-n-preserved c =
    elim c.else-holds.branch [
      | else-holds-via-then-holds+else-digit_at w ↦
          agree_next _ _ _ c.loop-n.invariant (sym c.holds.ensures ∙ w.if-holds.true)
          (sym w.digit_at.ensures ∙ w.if-digit_at.false ∙ w.digit_at-then-holds.ensures)
      | else-holds-via-else-holds w ↦ agree_past _ _ _ c.loop-n.invariant (sym c.holds.ensures ∙ w.if-holds.false)
    ]

pub returns : goal.returns
returns c = agree_all _ _ _ c.loop-n.invariant c.loop-n-test.false
