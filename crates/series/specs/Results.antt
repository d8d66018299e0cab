-- What working terms by a row's numbers gives: it is right for every formula, position and row that has these numbers.
use Rattle.std.specs.Prelude.{◌≡◌, ℕ, ◌%◌, Bool, cond}
use Rattle.std.proofs.Math.IntN.{sub_ℕ}
use Rattle.algebra.specs.Whole.{residue}
use Rattle.words.specs.Words.{joined}
use Rattle.montgomery.specs.declared.Quotient.{Quotient}
use Rattle.series.specs.Series.{Formula, Row, is_added, modulus, size, range_sum}
use Rattle.series.specs.Squarings.{squarings, range_squarings}
use Rattle.series.specs.Names.{numbers_of}
use Rattle.series.specs.declared.terms.Numbers.{Numbers}
use Rattle.series.specs.declared.terms.Worked.{Worked}

-- a number as an added term's, or as a subtracted one's, modulo 2 ^ 128
abbrev pub signed_by : Bool → ℕ → ℕ
signed_by added v = cond added v (residue modulus (sub_ℕ 0 v))

-- s is v with the sign of term k
abbrev pub SignedAs : Numbers → ℕ → ℕ → ℕ → Type 0
SignedAs n k v s = (F : Formula) (p : ℕ) (r : Row) → n ≡ numbers_of F p r → s ≡ signed_by (is_added F r k) v

-- q is the size of term k, and the squarings that it takes
abbrev pub SizeOf : Numbers → ℕ → Quotient → Type 0
SizeOf n k q =
    (F : Formula) (p : ℕ) (r : Row) → n ≡ numbers_of F p r
    → (joined q.value.hi q.value.lo ≡ size F p r k) × (q.squarings ≡ squarings F p r k)

-- s is the signed sum of `count` terms from `first` on, and the squarings that they take, both modulo 2 ^ 128
abbrev pub SumOf : Numbers → ℕ → ℕ → Worked → Type 0
SumOf n first count s =
    (F : Formula) (p : ℕ) (r : Row) → n ≡ numbers_of F p r
    → (joined s.sum.hi s.sum.lo ≡ range_sum F p r first count)
    × (joined s.squarings.hi s.squarings.lo ≡ range_squarings F p r first count % modulus)
