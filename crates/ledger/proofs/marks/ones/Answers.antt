-- `ledger::marks::ones` meets its contract: each bit is one step of the count, and none is left after eight.
-- Assumes nothing.
use Rattle.std.proofs.Common.{◌≡◌, ℕ, ◌/◌, ap, arith}
use lib.Count.{ones, ones_step}
use Rattle.algebra.specs.Sum.{sum}
use Rattle.ledger.proofs.marks.ones.Goals as goal

none : (b : ℕ) → b ≡ 0 → ones b ≡ 0
unfolding ones
none b e = ap ones e

pub returns : goal.returns
unfolding sum
returns c =
    let b = c.args.byte in
    let b2 = b / 2 / 2 in
    let b4 = b2 / 2 / 2 in
    let b6 = b4 / 2 / 2 in
    let end = none (b6 / 2 / 2) (omega arith) in
    let s0 = ones_step b in
    let s1 = ones_step (b / 2) in
    let s2 = ones_step b2 in
    let s3 = ones_step (b2 / 2) in
    let s4 = ones_step b4 in
    let s5 = ones_step (b4 / 2) in
    let s6 = ones_step b6 in
    let s7 = ones_step (b6 / 2) in
    record { counts = omega (arith, end, s0, s1, s2, s3, s4, s5, s6, s7); few = omega (arith, end, s0, s1, s2, s3, s4, s5, s6, s7) }
