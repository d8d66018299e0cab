-- 2 ^ (step * L) times the product of all N up to L is above 0 and makes each exact term whole: there is such a D at every length.
-- Assumes nothing.
use mathlib.Core.Path.{◌≡◌, refl, sym, ap, ◌∙◌}
use mathlib.Core.List.{List, [], ◌∷◌, Memᴰ}
use mathlib.Core.Bool.{Bool, true, false}
use borrow.Author.Tests.{ltb-true, ltb-false}
use lib.Dec.{ltb}
use Prim.Native.Nat.{ℕ, zero, suc, ◌+◌, ◌*◌, ◌-◌, ◌%◌, ◌^◌, ◌<◌}
use native.Mathlib.Nat.{mul-mod_right, not-suc-le-zero, mul-pos, mul_assoc, mul_comm, mul-add}
use native.Mathlib.Omega.{arith}
use lib.Pow.{pow-add, pow_pos}
use Rattle.series.specs.Series.{Row, Formula, divisor, rise, fall}
use Rattle.interval.specs.Exact.{MakesWhole}
use Rattle.interval.specs.Interval.{Positive}

product : Row → ℕ → ℕ
product r zero = 1
product r (suc L) = product r L * divisor r L

products : List Row → ℕ → ℕ
products [] L = 1
products (r ∷ rs) L = product r L * products rs L

denominator : Formula → ℕ → ℕ
denominator F L = 2 ^ (F.step * L) * products F.rows L

in_product : (r : Row) (L k : ℕ) → k < L → (c : ℕ) × (product r L ≡ divisor r k * c)
unfolding product
in_product r zero k h = absurd (not-suc-le-zero h)
in_product r (suc L) k h = go (ltb k L) refl (in_product r L k)
  where
    go : (b : Bool) → ltb k L ≡ b → (k < L → (c : ℕ) × (product r L ≡ divisor r k * c)) → (c : ℕ) × (product r L * divisor r L ≡ divisor r k * c)
    go true e ih =
        let i = ih (ltb-true k L e) in
        (i.0 * divisor r L, ap (λ (n : ℕ). n * divisor r L) i.1 ∙ mul_assoc (divisor r k) i.0 (divisor r L))
    go false e ih =
        let l = ltb-false k L e in
        let q : L ≡ k = omega arith in
        (product r L, ap (λ (n : ℕ). product r L * divisor r n) q ∙ mul_comm (product r L) (divisor r k))

in_products : (rs : List Row) (L : ℕ) (r : Row) → Memᴰ r rs → (c : ℕ) × (products rs L ≡ product r L * c)
unfolding products
in_products [] L r m = elim m [ ]
in_products (x ∷ rs) L r (Memᴰ.head e) = (products rs L, ap (λ (y : Row). product y L * products rs L) (sym e))
in_products (x ∷ rs) L r (Memᴰ.tail m) =
    let i = in_products rs L r m in
    (product x L * i.0, ap (λ (n : ℕ). product x L * n) i.1 ∙ (let j = i.0 in omega arith))

regroup : (A a b P q N c d R : ℕ) → A ≡ a * b → P ≡ q * d → q ≡ N * c → A * P * R ≡ N * a * (b * c * d * R)
regroup A a b P q N c d R e f g = rw (e, f, g) (omega arith)

makes_whole : (F : Formula) (p L : ℕ) → MakesWhole F p L (denominator F L)
unfolding MakesWhole denominator
makes_whole F p L r m k h =
    let i = in_products F.rows L r m in
    let j = in_product r L k h in
    let st = F.step in
    let e : st * L ≡ st * k + st * (L - k) = (let q : L ≡ k + (L - k) = omega arith in ap (λ (n : ℕ). st * n) q ∙ mul-add st k (L - k)) in
    let f : 2 ^ (st * L) ≡ 2 ^ (st * k) * 2 ^ (st * (L - k)) = ap (λ (n : ℕ). 2 ^ n) e ∙ pow-add 2 (st * k) (st * (L - k)) in
    ap (λ (n : ℕ). n % (divisor r k * 2 ^ fall F k))
    (regroup (2 ^ (st * L)) (2 ^ (st * k)) (2 ^ (st * (L - k))) (products F.rows L) (product r L) (divisor r k) j.0 i.0 (2 ^ rise p r) f i.1 j.1)
    ∙ mul-mod_right (divisor r k * 2 ^ fall F k) (2 ^ (st * (L - k)) * j.0 * i.0 * 2 ^ rise p r)

product_pos : (r : Row) (L : ℕ) → ((k : ℕ) → 0 < divisor r k) → 0 < product r L
unfolding product
product_pos r zero h = omega arith
product_pos r (suc L) h = mul-pos (product_pos r L h) (h L)

products_pos : (rs : List Row) (L : ℕ) → ((r : Row) → Memᴰ r rs → (k : ℕ) → 0 < divisor r k) → 0 < products rs L
unfolding products
products_pos [] L h = omega arith
products_pos (r ∷ rs) L h =
    mul-pos (product_pos r L (h r (Memᴰ.head refl))) (products_pos rs L (λ x m. h x (Memᴰ.tail m)))

denominator_pos : (F : Formula) (L : ℕ) → Positive F → 0 < denominator F L
unfolding denominator Positive
denominator_pos F L positive = mul-pos (pow_pos (F.step * L)) (products_pos F.rows L positive)

pub whole_exists : (F : Formula) (p L : ℕ) → Positive F → (D : ℕ) × (0 < D) × MakesWhole F p L D
whole_exists F p L positive = (denominator F L, denominator_pos F L positive, makes_whole F p L)
