-- `closing_line::put_line` meets its contract: the line by what closing answers.
-- Assumes nothing.
use mathlib.Core.Path.{◌∙◌}
use native.Mathlib.Omega.{arith}
use lib.ListN.{length-take}
use Rattle.run.proofs.Calls.{leaves}
use Rattle.closing_line.proofs.Lines.{within, finished_line_lem, refused_line_lem}
use Rattle.closing_line.proofs.put_line.Goals as goal

pub get-requires : goal.get-requires
get-requires c =
    (omega (arith, (within _ _ _ c.close.ensures.0 _ c.in-Ok.is).0), omega arith)

pub slice_bounds-digits-end : goal.slice_bounds-digits-end
slice_bounds-digits-end c =
    let short = (within _ _ _ c.close.ensures.0 _ c.in-Ok.is).1 in
    omega (arith, short)

pub slice_bounds-put_finished-end : goal.slice_bounds-put_finished-end
slice_bounds-put_finished-end c =
    let short = (within _ _ _ c.close.ensures.0 _ c.in-Ok.is).1 in
    simp length-take (omega (arith, short))

pub returns-in-Ok : goal.returns-in-Ok
returns-in-Ok c =
    record { counts = c.put_finished.ensures.counts; reads = c.put_finished.ensures.reads ∙ finished_line_lem _ _ _ c.close.ensures.0 _ _ _ c.in-Ok.is c.get.ensures (leaves _ c.close.ensures.1 0) }

pub returns-in-Err : goal.returns-in-Err
returns-in-Err c =
    record { counts = c.put_refused.ensures.counts; reads = c.put_refused.ensures.reads ∙ refused_line_lem _ _ _ c.close.ensures.0 _ _ c.in-Err.is c.number_of.ensures }
