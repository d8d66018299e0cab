-- The signed sum of a range of terms, and of the range after it: as a loop meets it that adds modulo 2 ^ 128.
-- Assumes nothing.
use Rattle.std.proofs.Common.{◌≡◌, ℕ, ◌+◌, ◌-◌, ◌%◌, ◌<◌, ◌≤◌, sym, refl, ap, ◌∙◌, ap₂, mod-lt, arith, lit<}
use lib.IntN.{sub_ℕ}
use Rattle.algebra.specs.Sum.{sum}
use Rattle.algebra.specs.Whole.{residue}
use Rattle.algebra.proofs.Cong.{Mod, of_eq, refl_mod, symm, trans}
use Rattle.algebra.proofs.Cong as cong
use Rattle.algebra.proofs.Integers.{diff_sub, residue_is, residue_lt, same_residue, turns, back}
use Rattle.series.specs.Series.{Formula, Row, plus, minus, row_sum, range_sum, size, modulus}
use Rattle.series.proofs.Sides.{row_split}

-- ---- a residue of a - b, as the number that b added to gives a

pub residue_sum : (m a b : ℕ) → 0 < m → Mod m (b + residue m (sub_ℕ a b)) a
residue_sum m a b h =
    let e = residue_is m (sub_ℕ a b) h (diff_sub a b) in
    record { k = back m (sub_ℕ a b); j = turns m (sub_ℕ a b); eq = omega (arith, e) }

pub residue_of : (m a b r : ℕ) → r < m → Mod m (b + r) a → r ≡ residue m (sub_ℕ a b)
residue_of m a b r h p =
    let e = trans p (symm (residue_sum m a b (omega arith))) in
    same_residue m r (residue m (sub_ℕ a b)) e.k e.j h (residue_lt m (sub_ℕ a b) (omega arith)) (omega (arith, e.eq))

-- two differences
residue_both : (m a b a' b' : ℕ) → 0 < m → (residue m (sub_ℕ a b) + residue m (sub_ℕ a' b')) % m ≡ residue m (sub_ℕ (a + a') (b + b'))
residue_both m a b a' b' h =
    let x = residue m (sub_ℕ a b) in
    let y = residue m (sub_ℕ a' b') in
    residue_of m (a + a') (b + b') ((x + y) % m) (mod-lt (x + y) h)
    (trans (cong.plus (refl_mod (b + b')) (cong.rem m (x + y)))
    (trans (of_eq {b = b + x + (b' + y)} (omega arith)) (cong.plus (residue_sum m a b h) (residue_sum m a' b' h))))

-- ---- a row's terms

pub range_sum_lt : (F : Formula) (p : ℕ) (r : Row) (first count : ℕ) → range_sum F p r first count < modulus
unfolding range_sum
range_sum_lt F p r first count = residue_lt modulus _ (lit< tt)

-- a range and the one after it
pub split : (F : Formula) (p : ℕ) (r : Row) (first c d : ℕ)
    → (range_sum F p r first c + range_sum F p r (first + c) d) % modulus ≡ range_sum F p r first (c + d)
unfolding range_sum
split F p r first c d =
    residue_both modulus (row_sum F plus r (size F p r) first c) (row_sum F minus r (size F p r) first c)
    (row_sum F plus r (size F p r) (first + c) d) (row_sum F minus r (size F p r) (first + c) d) (lit< tt)
    ∙ sym (ap₂ (λ (x y : ℕ). residue modulus (sub_ℕ x y)) (row_split F plus r (size F p r) first c d) (row_split F minus r (size F p r) first c d))

module _ (F : Formula) (p : ℕ) (r : Row) (first : ℕ) where
  pub empty : 0 ≡ range_sum F p r first 0
  unfolding range_sum row_sum sum residue
  empty = refl

  pub none : 0 ≡ range_sum F p r first (first - first)
  none = grind (arith, empty)

  -- the terms from k on, after those from `first` up to it
  pub and_part : (k d s q t : ℕ) → first ≤ k → s ≡ range_sum F p r first (k - first) → q ≡ range_sum F p r k d → t ≡ (s + q) % modulus
      → t ≡ range_sum F p r first (k + d - first)
  and_part k d s q t l is q-is e =
      let from : first + (k - first) ≡ k = omega arith in
      let all : k - first + d ≡ k + d - first = omega arith in
      e ∙ ap₂ (λ (x y : ℕ). (x + y) % modulus) is (q-is ∙ ap (λ (n : ℕ). range_sum F p r n d) (sym from)) ∙ split F p r first (k - first) d ∙ ap (range_sum F p r first) all
