-- `series::groups::group_sum` meets its contract: every other term has the sign of the first, and the rest that of the second.
-- Assumes nothing.
use Rattle.std.proofs.Common.{◌≡◌, ℕ, ◌+◌, ◌*◌, ◌%◌, ◌<◌, List, refl, ap, ◌∙◌, ap₂, arith}
use Rattle.algebra.specs.Sum.{sum}
use Rattle.algebra.proofs.Sums.{sum_ext, sum_from}
use Rattle.montgomery.specs.declared.Quotient.{Quotient}
use Rattle.lanes.specs.Lanes.{quotient}
use Rattle.series.specs.Series.{Formula, Row, modulus, size}
use Rattle.series.specs.Squarings.{squarings, range_squarings}
use Rattle.series.specs.Names.{numbers_of}
use Rattle.series.specs.Results.{SizeOf}
use Rattle.series.specs.Groups.{every_other}
use Rattle.series.specs.declared.terms.Numbers.{Numbers}
use Rattle.series.proofs.EveryOther.{others, alternating}
use Rattle.series.proofs.groups.group_sum.Goals as goal

module _ (n : Numbers) (k : ℕ) (q : List Quotient) (each : (j : ℕ) → j < 8 → SizeOf n (k + j) (quotient q j)) (F : Formula) (p : ℕ) (r : Row) (e : n ≡ numbers_of F p r) where
  -- the sizes that were added up are those of the terms
  sizes-of : (first j x : ℕ) → first < 2 → j ≡ k + first → x ≡ sum (every_other q first) 0 4 % modulus → x ≡ others F p r k 4 j % modulus
  sizes-of first j x h t s =
      s ∙ ap (λ (v : ℕ). v % modulus)
      (sum_ext (every_other q first) (λ i. size F p r (j + 2 * i)) 0 4
      (λ i l u. let at : k + (2 * i + first) ≡ j + 2 * i = omega (arith, t) in (each (2 * i + first) (omega arith) F p r e).0 ∙ ap (size F p r) at))

  counts_of : (x : ℕ) → x ≡ sum (λ j. (quotient q j).squarings) 0 8 % modulus → x ≡ range_squarings F p r k 8 % modulus
  unfolding range_squarings
  counts_of x s =
      s ∙ ap (λ (v : ℕ). v % modulus)
      (sum_ext (λ j. (quotient q j).squarings) (λ j. squarings F p r (k + j)) 0 8 (λ j l u. (each j (omega arith) F p r e).1)
      ∙ sum_from (squarings F p r) k 8)

pub returns : goal.returns
returns c F p r n =
    let k = c.args.k in
    let q = c.sizes-q.result in (
      alternating F p r k 4 _ _ _
          (sizes-of _ k q c.sizes-q.ensures F p r n 0 k _ (omega arith) (omega arith) c.every_other.ensures)
          (sizes-of _ k q c.sizes-q.ensures F p r n 1 (k + 1) _ (omega arith) refl c.every_other-2.ensures)
          (c.add.ensures ∙ ap₂ (λ (x y : ℕ). (x + y) % modulus) (c.signed-even.ensures F p r n) (c.signed-odd.ensures F p r n)),
      counts_of _ k q c.sizes-q.ensures F p r n _ c.squarings_of.ensures,
    )
