-- `digits::put_digits` meets its contract. The loop's invariant: the first i characters are written.
-- Assumes nothing.
use Rattle.std.proofs.Common.{◌≢◌, ◌/◌, ◌<◌, ◌++◌, length, drop, sym, ap, ◌∙◌, arith, length-take, get_or-set_other, get_or-set_same, below_more}
use lib.IntN.{pos}
use lib.Seq.{ext_get_or}
use Rattle.words.specs.Words.{joined}
use Rattle.digits.specs.Digits.{unit_at, hex_digit}
use Rattle.digits.proofs.TopDigits.{length_low, text_digit}
use Rattle.digits.proofs.put_digits.Invariants.{text}
use Rattle.digits.proofs.put_digits.Goals as goal

pub loop-i-preserved : goal.loop-i-preserved
loop-i-preserved c =
    let a = c.args in
    let i = c.loop-i.i in
    let digit = text_digit (joined a.x.hi a.x.lo) a.d i c.requires.0 (omega (arith, length-take a.d a.out.now)) in
    below_more _ _
    (λ k h. let ne : k ≢ i = omega arith in rw get_or-set_other (c.loop-i.invariant k h))
    (let lt : i < length c.loop-i.byte-items = omega arith in rw get_or-set_same (c.hex_digit.ensures ∙ ap hex_digit c.digit_at.ensures ∙ sym digit))

pub returns : goal.returns
returns c =
    let a = c.args in
    let size = length_low a.d (pos (joined a.x.hi a.x.lo / unit_at a.d)) in
    ap (λ t. t ++ drop a.d a.out.now) (ext_get_or 0 _ (text a.x.hi a.x.lo a.d) (omega (arith, size, length-take a.d a.out.now)) (λ k h. c.loop-i.invariant k (omega (arith, length-take a.d a.out.now))))
