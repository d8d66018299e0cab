-- The blocks of a row hold each of the terms 0 to K - 1 exactly once, so that the tickets' sums add up to the sum of all sizes.
-- Assumes nothing.
use mathlib.Core.Path.{◌≡◌, refl, sym, ap, ◌∙◌, subst}
use mathlib.Core.Bool.{Bool, true, false, cond}
use mathlib.Core.Logic.{◌⊎◌, inl, inr, ⊎_elim}
use Prim.Native.Nat.{ℕ, zero, suc, ◌+◌, ◌*◌, ◌-◌, ◌/◌, ◌%◌, ◌≤◌, ◌<◌}
use native.Mathlib.Nat.{zero-add, zero-mul, zero-div, mul-div_right, mod-add-div, mod-lt}
use native.Mathlib.Numerals.{add-one}
use native.Mathlib.Omega.{arith}
use borrow.Author.Tests.{ltb-true, ltb-false}
use lib.Dec.{ltb}
use lib.IntN.{sub_ℕ}
use lib.Pow.{pow_pos}
use Rattle.algebra.specs.Sum.{sum}
use Rattle.algebra.specs.Whole.{residue}
use Rattle.algebra.proofs.Booleans.{below_or}
use Rattle.algebra.proofs.Sums.{sum_split}
use Rattle.algebra.proofs.Integers.{diff_sub, residue_is, residue_lt, same_residue, turns, back}
use Rattle.series.specs.Series.{Row, Formula, Side, plus, minus, modulus, row, row_at, row_count, term_count, size, on_side, row_sum, side_sum, range_sum, sizes_sum}
use Rattle.series.proofs.Sides.{by_number}
use Rattle.run.specs.Run.{bound, ticket_sum}
use Rattle.run.proofs.Blocks.{bound_grows}
use Rattle.settlement.specs.Settlement.{all_sums}

bound_zero : (K C : ℕ) → bound K C 0 ≡ 0
unfolding bound
bound_zero K C = ap (λ (n : ℕ). n / C) (zero-mul K) ∙ zero-div C

bound_all : (K C : ℕ) → 0 < C → bound K C C ≡ K
unfolding bound
bound_all K C h = mul-div_right K h

-- ---- each term stands in exactly one block

-- block i holds term k
abbrev pub Holds : ℕ → ℕ → ℕ → ℕ → Type 0
Holds K C i k = (bound K C i ≤ k) × (k < bound K C (i + 1))

-- the last of n blocks that starts at or before k, where block n starts after it
find : (K C n k : ℕ) → k < bound K C n → (i : ℕ) × (i < n) × Holds K C i k
find K C zero k h = absurd (let z = bound_zero K C in omega (arith, z))
find K C (suc n) k h = go (ltb k (bound K C n)) refl (find K C n k)
  where
    go : (b : Bool) → ltb k (bound K C n) ≡ b → (k < bound K C n → (i : ℕ) × (i < n) × Holds K C i k) → (i : ℕ) × (i < suc n) × Holds K C i k
    go true e ih = let r = ih (ltb-true k (bound K C n) e) in (r.0, omega (arith, r.1), r.2)
    go false e ih =
        (n, omega arith, (ltb-false k (bound K C n) e, subst (λ (m : ℕ). k < bound K C m) (sym (add-one n)) h))

pub block_exists : (K C k : ℕ) → 0 < C → k < K → (i : ℕ) × (i < C) × Holds K C i k
block_exists K C k c h = find K C C k (subst (λ (m : ℕ). k < m) (sym (bound_all K C c)) h)

-- a block after one that holds k starts past k
no_later : (K C i j k : ℕ) → 0 < C → Holds K C i k → Holds K C j k → i < j → ⊥
no_later K C i j k c h l m =
    let a = bound_grows K C (i + 1) j c (omega arith) in
    let h₁ = h.1 in
    let l₀ = l.0 in
    omega (arith, a, h₁, l₀)

pub block_unique : (K C i j k : ℕ) → 0 < C → Holds K C i k → Holds K C j k → i ≡ j
block_unique K C i j k c h l =
    ⊎_elim (λ m. absurd (no_later K C i j k c h l m)) (λ q. ⊎_elim (λ m. absurd (no_later K C j i k c l h m)) (λ r. r) (either q)) (split i j)
  where
    split : (i j : ℕ) → (i < j) ⊎ (j ≤ i)
    split i j = go (ltb i j) refl
      where
        go : (b : Bool) → ltb i j ≡ b → (i < j) ⊎ (j ≤ i)
        go true e = inl (ltb-true i j e)
        go false e = inr (ltb-false i j e)

    either : j ≤ i → (j < i) ⊎ (i ≡ j)
    either q = ⊎_elim (λ m. inl m) (λ e. inr (sym e)) (below_or j i (omega arith))

-- the blocks of a row, one after the other
module _ (f : ℕ → ℕ) (b : ℕ → ℕ) (first : b 0 ≡ 0) (mono : (i : ℕ) → b i ≤ b (i + 1)) where
  telescope : (C : ℕ) → sum (λ i. sum f (b i) (b (i + 1) - b i)) 0 C ≡ sum f 0 (b C)
  unfolding sum
  telescope zero = sym (ap (sum f 0) first)
  telescope (suc C) =
      let m = mono C in
      let e : b C + (b (C + 1) - b C) ≡ b (suc C) = (let e₁ : b (C + 1) ≡ b (suc C) = ap b (add-one C) in omega (arith, e₁)) in
      let cut = sum_split f 0 (b C) (b (C + 1) - b C) in
      let z = ap (λ (n : ℕ). sum f n (b (C + 1) - b C)) (zero-add (b C)) in
      let y = ap (λ (n : ℕ). sum f (b n) (b (n + 1) - b n)) (zero-add C) in
      let h = telescope C in
      let g = ap (sum f 0) e in
      omega (arith, cut, z, y, h, g)

pub all_blocks : (f : ℕ → ℕ) (K C : ℕ) → 0 < C → sum (λ i. sum f (bound K C i) (bound K C (i + 1) - bound K C i)) 0 C ≡ sum f 0 K
all_blocks f K C h =
    telescope f (bound K C) (bound_zero K C) (λ i. bound_grows K C i (i + 1) h (omega arith)) C ∙ ap (sum f 0) (bound_all K C h)

-- equations between sums, from one for each number
sum_eq : (m : ℕ) (f g h a b : ℕ → ℕ) → ((i : ℕ) → f i + m * a i ≡ g i + h i + m * b i)
    → (C : ℕ) → sum f 0 C + m * sum a 0 C ≡ sum g 0 C + sum h 0 C + m * sum b 0 C
unfolding sum
sum_eq m f g h a b e zero = omega arith
sum_eq m f g h a b e (suc C) = let x = sum_eq m f g h a b e C in let y = e (0 + C) in omega (arith, x, y)

-- a residue, from an equation up to multiples of m
residue_from : (m P M T u v : ℕ) → 0 < m → P + m * v ≡ M + T + m * u → T % m ≡ residue m (sub_ℕ P M)
residue_from m P M T u v h e =
    let q = sub_ℕ P M in
    let r = residue_is m q h (diff_sub P M) in
    let d = mod-add-div T m in
    same_residue m (T % m) (residue m q) (T / m + u + turns m q) (back m q + v) (mod-lt T h) (residue_lt m q h)
    (omega (arith, e, r, d))

module _ (F : Formula) (p C : ℕ) (h : 0 < C) where
  -- one side of a block, and the whole numbers of 2 ^ 128 by which its sum differs
  part : Side → Row → ℕ → ℕ
  part side r i =
      row_sum F side r (size F p r) (bound (term_count F p) C i) (bound (term_count F p) C (i + 1) - bound (term_count F p) C i)

  over : Row → ℕ → ℕ
  over r i = turns modulus (sub_ℕ (part plus r i) (part minus r i))

  under : Row → ℕ → ℕ
  under r i = back modulus (sub_ℕ (part plus r i) (part minus r i))

  sums : Row → ℕ → ℕ
  sums r i = residue modulus (sub_ℕ (part plus r i) (part minus r i))

  whole_row : (side : Side) (r : Row) → sum (part side r) 0 C ≡ row_sum F side r (size F p r) 0 (term_count F p)
  unfolding part row_sum
  whole_row side r = all_blocks (λ k. cond (on_side F side r k) (size F p r k) 0) (term_count F p) C h

  row_eq : (r : Row) → row_sum F plus r (size F p r) 0 (term_count F p) + modulus * sum (over r) 0 C
      ≡ row_sum F minus r (size F p r) 0 (term_count F p) + sum (sums r) 0 C + modulus * sum (under r) 0 C
  unfolding over under sums
  row_eq r =
      rw (← whole_row plus r, ← whole_row minus r)
      (sum_eq modulus (part plus r) (part minus r) (sums r) (over r) (under r)
      (λ i. residue_is modulus (sub_ℕ (part plus r i) (part minus r i)) (pow_pos 128) (diff_sub (part plus r i) (part minus r i))) C)

  -- the sums of all tickets add up to the sum of all sizes
  pub all_tickets_lem : all_sums F p C ≡ sizes_sum F p (term_count F p)
  unfolding all_sums sizes_sum side_sum ticket_sum range_sum part over under sums
  all_tickets_lem =
      let K = term_count F p in
      let e = sum_eq modulus (λ n. row_sum F plus (row_at F n) (size F p (row_at F n)) 0 K)
      (λ n. row_sum F minus (row_at F n) (size F p (row_at F n)) 0 K)
      (λ n. sum (sums (row_at F n)) 0 C) (λ n. sum (over (row_at F n)) 0 C) (λ n. sum (under (row_at F n)) 0 C) (λ n. row_eq (row_at F n)) (row_count F) in
      let e' = rw (
        by_number (λ r. row_sum F plus r (size F p r) 0 K) F.rows (row 1 1 0 true),
        by_number (λ r. row_sum F minus r (size F p r) 0 K) F.rows (row 1 1 0 true),
      ) at e in
      residue_from modulus _ _ _ _ _ (pow_pos 128) e'
