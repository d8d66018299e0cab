-- `series::terms::range_sum` meets its contract: the sum and the squarings are those of the terms passed.
-- Assumes nothing.
use Rattle.std.proofs.Common.{◌≡◌, ◌-◌, ◌^◌, ◌<◌, arith}
use Rattle.series.proofs.Numbers.{short, count_small}
use Rattle.series.proofs.Table.{fitting}
use Rattle.series.proofs.RangeSquarings.{exact}
use Rattle.series.proofs.terms.range_sum.Goals as goal

pub returns : goal.returns
returns c =
    let a = c.args in
    let all : c.loop-k.k ≡ a.end = omega arith in
    let few : a.end - a.first < 2 ^ 63 = omega (arith, count_small a.at.f a.at.p a.at.there.0) in
    let worked = rw all at (c.loop-k.invariant.2 _ _ _ c.terms_of-terms.ensures.0) in
    (worked.0, exact _ _ _ a.first _ _ (short _ _ _ a.at.there.0.high (fitting _ _ a.at.there.1)) few worked.1)
