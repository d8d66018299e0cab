-- The rule of the tables of rows, proved over all rows of a formula by one test that antt computes, and given at each row: what
-- the code's arithmetic needs of a row's numbers.
-- Assumes nothing.
use Rattle.std.proofs.Common.{rules, ◌≡◌, ℕ, suc, ◌%◌, ◌^◌, ◌<◌, Bool, true, ◌&&◌, eqb, ltb, leb, List, [], ◌∷◌, length, get_or, sym, refl, subst, arith}
use mathlib.Core.List.{Memᴰ}
use Rattle.algebra.specs.Test.{all_below}
use Rattle.algebra.proofs.Below.{all_at}
use Rattle.series.specs.Series.{Formula, Row, row, row_count, row_at, divisor, term_count}
use Rattle.series.specs.Fitting.{Fitting}
use Rattle.series.specs.Names.{formula_of}
use Rattle.series.specs.declared.Series.{Series}
use Rattle.series.specs.declared.Series.TheVariants.{Bellard, Check}

odd : Row → Bool
odd r = eqb (r.m % 2) 0 && eqb (r.j % 2) 1

small : Formula → Row → Bool
small F r = leb r.lead 130 && ltb (divisor r (term_count F F.last)) (2 ^ 63)

fits : Formula → Row → Bool
fits F r = odd r && small F r

test : (f : Series) → all_below (row_count (formula_of f)) (λ i. fits (formula_of f) (row_at (formula_of f) i)) ≡ true
unfolding all_below fits odd small term_count
test Bellard = refl
test Check = refl

rule : (F : Formula) (r : Row) → fits F r ≡ true → Fitting F r
unfolding fits odd small
rule F r e = search rules

-- a row of a list has a number in it
numbered : (rs : List Row) (z r : Row) → Memᴰ r rs → (i : ℕ) × (i < length rs) × (get_or rs i z ≡ r)
numbered [] z r m = elim m [ ]
numbered (x ∷ rs) z r (Memᴰ.head e) = (0, omega arith, sym e)
numbered (x ∷ rs) z r (Memᴰ.tail m) = let n = numbered rs z r m in (suc n.0, omega (arith, n.1), n.2)

pub fitting : (f : Series) (i : ℕ) → i < row_count (formula_of f) → Fitting (formula_of f) (row_at (formula_of f) i)
fitting f i h = rule (formula_of f) (row_at (formula_of f) i) (all_at (row_count (formula_of f)) (λ n. fits (formula_of f) (row_at (formula_of f) n)) (test f) i h)

-- the same for a row of the list
pub fitting_row : (f : Series) (r : Row) → Memᴰ r (formula_of f).rows → Fitting (formula_of f) r
fitting_row f r m =
    let n = numbered (formula_of f).rows (row 1 1 0 true) r m in
    subst (Fitting (formula_of f)) n.2 (fitting f n.0 n.1)
