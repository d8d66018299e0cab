-- `writer::put_bodies` meets its contract: after i turns the sums of i tickets stand over the output.
-- Assumes nothing.
use mathlib.Core.Path.{◌≡◌, ◌∙◌}
use native.Mathlib.Omega.{arith}
use Rattle.series.specs.Names.{formula_of}
use Rattle.ticket.proofs.Parts.{whole_sum}
use Rattle.writer.proofs.put_bodies.Invariants.{first, ticket-at, next, last}
use Rattle.writer.proofs.put_bodies.Goals as goal

pub loop-i-init : goal.loop-i-init
loop-i-init c =
    let args = c.args in
    first (formula_of args.f) args.run.p args.run.c args.pairs.now.bytes.now args.out.now args.pairs.now.count

pub sum-worked-requires : goal.sum-worked-requires
sum-worked-requires c =
    let args = c.args in (
      c.requires.1,
      rw (c.row.ensures.0, c.block.ensures.0) (ticket-at (formula_of args.f) args.run.p args.run.c args.pairs.now.bytes.now args.out.now
          args.pairs.now.count c.args.pairs.now.even _ c.requires.2 _ c.loop-i-test.true),
    )

pub loop-i-preserved : goal.loop-i-preserved
loop-i-preserved c =
    let args = c.args in next (formula_of args.f) args.run.p args.run.c args.pairs.now.bytes.now args.out.now args.pairs.now.count c.args.pairs.now.even _ _ _ _ c.requires.0
    c.loop-i-test.true (rw (c.row.ensures.0, c.block.ensures.0) at (c.sum-worked.ensures.0 ∙ whole_sum _ _ _ _ _)) c.loop-i.invariant c.put_body.ensures

pub returns : goal.returns
returns c =
    let args = c.args in
    let e : c.loop-i.i ≡ args.pairs.now.count = omega arith in
    last (formula_of args.f) args.run.p args.run.c args.pairs.now.bytes.now args.out.now args.pairs.now.count c.args.pairs.now.even _ _ e c.loop-i.invariant
