-- `series::squarings::range_squarings` meets its contract. The loop's invariant: the squarings are those of the bit lengths passed, and `cut` is
-- where the next ones end.
-- Assumes nothing.
use Rattle.std.proofs.Common.{◌≡◌, ℕ, ◌+◌, ◌-◌, ◌*◌, ◌%◌, ◌^◌, ◌<◌, ◌≤◌, refl, ap, ◌∙◌, arith}
use Rattle.algebra.proofs.Sums.{range_next}
use Rattle.series.specs.Series.{Formula, Row, modulus, row_at}
use Rattle.series.specs.Squarings.{cut_at, of_length, by_lengths}
use Rattle.series.specs.Names.{formula_of}
use Rattle.series.proofs.Numbers.{step_positive, short, count_small}
use Rattle.series.proofs.Table.{fitting}
use Rattle.series.proofs.RangeSquarings.{exact}
use Rattle.series.proofs.ByLengths.{by_lengths_lem, falling}
use Rattle.series.proofs.squarings.range_squarings.Invariants.{passed}
use Rattle.series.proofs.squarings.range_squarings.Goals as goal

module _ (F : Formula) (p : ℕ) (r : Row) (first end b : ℕ) (l : 6 ≤ b) where
  -- one bit length more
  added : (cut next s t product : ℕ) → cut ≡ cut_at F p r first end b → next ≡ cut_at F p r first end (b + 1)
      → s ≡ passed F p r first end b % modulus → product ≡ b * (cut - next) → t ≡ (s + product) % modulus
      → t ≡ passed F p r first end (b + 1) % modulus
  unfolding of_length
  added cut next s t product e n is product_is =
      range_next modulus (λ i. i * of_length F p r first end i) 6 b s t product l is (product_is ∙ rw (e, n) refl)

in_all : (F : Formula) (p : ℕ) (r : Row) (first end : ℕ) → passed F p r first end 63 ≡ by_lengths F p r first end
unfolding by_lengths
in_all F p r first end = refl

pub overflow_sub-cut : goal.overflow_sub-cut
overflow_sub-cut c =
    let at = c.args.at in
    let next = c.cut_at-next.ensures _ _ _ c.numbers_of-numbers.ensures in
    rw (next, c.loop-b.invariant.1) (falling _ _ _ (step_positive at.f) c.args.first c.args.end c.requires.0 c.loop-b.b)

pub loop-b-preserved : goal.loop-b-preserved
loop-b-preserved c =
    let known = c.loop-b.invariant in
    let next = c.cut_at-next.ensures _ _ _ c.numbers_of-numbers.ensures in
    (added _ _ _ _ _ _ (omega arith) _ _ _ _ _ known.1 next known.0 c.mul.ensures c.add-squarings.ensures, next)

pub returns : goal.returns
returns c =
    let a = c.args in
    let at = a.at in
    let F = formula_of at.f in
    let r = row_at F at.row in
    let all : c.loop-b.b ≡ 63 = omega arith in
    let few : a.end - a.first < 2 ^ 63 = omega (arith, count_small at.f at.p at.there.0) in
    let h = short at.f at.p r at.there.0.high (fitting at.f at.row at.there.1) in
    exact F at.p r a.first _ _ h few
    ((rw all at c.loop-b.invariant).0
    ∙ ap (λ (n : ℕ). n % modulus) (in_all F at.p r a.first a.end ∙ by_lengths_lem F at.p r (step_positive at.f) a.first a.end c.requires.0 h))
