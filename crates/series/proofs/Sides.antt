-- The side of a term, and laws of the sums of a side: over a range of a row's terms, and over every row. Each follows the law of plain
-- sums.
-- Assumes nothing.
use Rattle.std.proofs.Common.{◌≡◌, ℕ, suc, ◌+◌, ◌*◌, ◌%◌, ◌<◌, ◌≤◌, Bool, true, false, cond, not, eqb, List, [], ◌∷◌, length, get_or, sym, refl, ap, ◌∙◌, ap₂, le_refl, mul-zero, arith}
use mathlib.Core.List.{Memᴰ}
use Rattle.algebra.specs.Sum.{sum}
use Rattle.algebra.proofs.Sums.{sum_le, sum_ext, sum_zero, sum_add, sum_mul, sum_split, sum_none, sum_next, sum_shift}
use Rattle.series.specs.Series.{Row, Formula, Side, is_added, row_sum, over_rows, side_sum, on_side}

-- the sign of a term depends on k being even or odd alone
pub same_sign : (F : Formula) (r : Row) (j k : ℕ) → j % 2 ≡ k % 2 → is_added F r j ≡ is_added F r k
unfolding is_added
same_sign F r j k e = ap (λ (x : ℕ). cond F.alternates (cond (eqb x 0) r.added (not r.added)) r.added) e

-- ---- a term that counts only on its side

cond_le : (b : Bool) {x y : ℕ} → x ≤ y → cond b x 0 ≤ cond b y 0
cond_le true h = h
cond_le false h = le_refl 0

pub cond_none : (b : Bool) → ◌≡◌ {A = ℕ} (cond b 0 0) 0
cond_none true = refl
cond_none false = refl

pub cond_add : (b : Bool) (x y : ℕ) → cond b (x + y) 0 ≡ cond b x 0 + cond b y 0
cond_add true x y = refl
cond_add false x y = refl

cond_mul : (b : Bool) (d x : ℕ) → cond b (d * x) 0 ≡ d * cond b x 0
cond_mul true d x = refl
cond_mul false d x = sym (mul-zero d)

-- ---- a row

module _ (F : Formula) (side : Side) where
  row_le : (r : Row) (v w : ℕ → ℕ) (first count : ℕ) → ((k : ℕ) → first ≤ k → k < first + count → v k ≤ w k)
      → row_sum F side r v first count ≤ row_sum F side r w first count
  unfolding row_sum
  row_le r v w first count h = sum_le _ _ first count (λ k l u. cond_le (on_side F side r k) (h k l u))

  pub row_ext : (r : Row) (v w : ℕ → ℕ) (first count : ℕ) → ((k : ℕ) → first ≤ k → k < first + count → v k ≡ w k)
      → row_sum F side r v first count ≡ row_sum F side r w first count
  unfolding row_sum
  row_ext r v w first count h = sum_ext _ _ first count (λ k l u. ap (λ (x : ℕ). cond (on_side F side r k) x 0) (h k l u))

  pub row_none : (r : Row) (first count : ℕ) → row_sum F side r (λ k. 0) first count ≡ 0
  unfolding row_sum
  row_none r first count = sum_zero _ first count (λ k. cond_none (on_side F side r k))

  row_add : (r : Row) (v w : ℕ → ℕ) (first count : ℕ)
      → row_sum F side r (λ k. v k + w k) first count ≡ row_sum F side r v first count + row_sum F side r w first count
  unfolding row_sum
  row_add r v w first count =
      sum_ext _ _ first count (λ k l u. cond_add (on_side F side r k) (v k) (w k)) ∙ sum_add _ _ first count

  row_mul : (r : Row) (d : ℕ) (v : ℕ → ℕ) (first count : ℕ)
      → row_sum F side r (λ k. d * v k) first count ≡ d * row_sum F side r v first count
  unfolding row_sum
  row_mul r d v first count =
      sum_ext _ _ first count (λ k l u. cond_mul (on_side F side r k) d (v k)) ∙ sum_mul d _ first count

  pub row_split : (r : Row) (v : ℕ → ℕ) (first c d : ℕ)
      → row_sum F side r v first (c + d) ≡ row_sum F side r v first c + row_sum F side r v (first + c) d
  unfolding row_sum
  row_split r v first c d = sum_split _ first c d

-- ---- every row

pub over_le : (f g : Row → ℕ) (rs : List Row) → ((r : Row) → Memᴰ r rs → f r ≤ g r) → over_rows f rs ≤ over_rows g rs
unfolding over_rows
over_le f g [] h = le_refl 0
over_le f g (r ∷ rs) h =
    let a = h r (Memᴰ.head refl) in
    let b = over_le f g rs (λ x m. h x (Memᴰ.tail m)) in
    omega arith

pub over_ext : (f g : Row → ℕ) (rs : List Row) → ((r : Row) → Memᴰ r rs → f r ≡ g r) → over_rows f rs ≡ over_rows g rs
unfolding over_rows
over_ext f g [] h = refl
over_ext f g (r ∷ rs) h = ap₂ ◌+◌ (h r (Memᴰ.head refl)) (over_ext f g rs (λ x m. h x (Memᴰ.tail m)))

pub over_add : (f g : Row → ℕ) (rs : List Row) → over_rows (λ r. f r + g r) rs ≡ over_rows f rs + over_rows g rs
unfolding over_rows
over_add f g [] = refl
over_add f g (r ∷ rs) = let a = over_add f g rs in omega arith

pub over_mul : (d : ℕ) (f : Row → ℕ) (rs : List Row) → over_rows (λ r. d * f r) rs ≡ d * over_rows f rs
unfolding over_rows
over_mul d f [] = sym (mul-zero d)
over_mul d f (r ∷ rs) = let a = over_mul d f rs in omega arith

module _ (F : Formula) (side : Side) where
  pub side_le : (v w : Row → ℕ → ℕ) (first count : ℕ)
      → ((r : Row) → Memᴰ r F.rows → (k : ℕ) → first ≤ k → k < first + count → v r k ≤ w r k)
      → side_sum F side v first count ≤ side_sum F side w first count
  unfolding side_sum
  side_le v w first count h = over_le _ _ F.rows (λ r m. row_le F side r (v r) (w r) first count (h r m))

  pub side_add : (v w : Row → ℕ → ℕ) (first count : ℕ)
      → side_sum F side (λ r k. v r k + w r k) first count ≡ side_sum F side v first count + side_sum F side w first count
  unfolding side_sum
  side_add v w first count = over_ext _ _ F.rows (λ r m. row_add F side r (v r) (w r) first count) ∙ over_add _ _ F.rows

  pub side_mul : (d : ℕ) (v : Row → ℕ → ℕ) (first count : ℕ)
      → side_sum F side (λ r k. d * v r k) first count ≡ d * side_sum F side v first count
  unfolding side_sum
  side_mul d v first count = over_ext _ _ F.rows (λ r m. row_mul F side r d (v r) first count) ∙ over_mul d _ F.rows

  pub side_split : (v : Row → ℕ → ℕ) (first c d : ℕ)
      → side_sum F side v first (c + d) ≡ side_sum F side v first c + side_sum F side v (first + c) d
  unfolding side_sum
  side_split v first c d = over_ext _ _ F.rows (λ r m. row_split F side r (v r) first c d) ∙ over_add _ _ F.rows

-- rows by their numbers are the table's rows
pub by_number : (f : Row → ℕ) (rs : List Row) (z : Row) → sum (λ n. f (get_or rs n z)) 0 (length rs) ≡ over_rows f rs
unfolding over_rows
by_number f [] z = sum_none (λ n. f (get_or [] n z)) 0
by_number f (r ∷ rs) z =
    let g : ℕ → ℕ = λ n. f (get_or (r ∷ rs) n z) in
    let one : sum g 0 1 ≡ f r = (let e = sum_next g 0 0 in let n = sum_none g 0 in omega (arith, e, n)) in
    let q : suc (length rs) ≡ 1 + length rs = omega arith in
    ap (sum g 0) q ∙ sum_split g 0 1 (length rs)
    ∙ ap₂ ◌+◌ one (sum_shift g (λ n. f (get_or rs n z)) (length rs) (λ n. refl) ∙ by_number f rs z)
