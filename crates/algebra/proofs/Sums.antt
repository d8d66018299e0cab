-- Laws of finite sums.
-- Assumes nothing.
use mathlib.Core.Path.{◌≡◌, refl, sym, ap, ap₂, subst, ◌∙◌}
use mathlib.Core.Logic.{◌≢◌, ⊎_elim}
use Prim.Native.Nat.{ℕ, zero, suc, ◌+◌, ◌*◌, ◌-◌, ◌%◌, ◌≤◌, ◌<◌}
use native.Mathlib.Nat.{add-zero, add-suc, add_assoc, zero-add, le_refl, mul-zero, mod-add-mod, not-suc-le-zero}
use native.Mathlib.Numerals.{add-one}
use native.Mathlib.Omega.{arith}
use Rattle.algebra.specs.Sum.{sum}
use Rattle.algebra.proofs.Booleans.{below_or}
use Rattle.algebra.proofs.Cong.{Mod, rem, plus, of_eq, symm, trans, wrapped, to-%}

pub sum_le : (f g : ℕ → ℕ) (first count : ℕ) → ((k : ℕ) → first ≤ k → k < first + count → f k ≤ g k)
    → sum f first count ≤ sum g first count
unfolding sum
sum_le f g first zero h = le_refl 0
sum_le f g first (suc c) h =
    let a = sum_le f g first c (λ k l u. h k l (omega arith)) in
    let b = h (first + c) (omega arith) (omega arith) in
    omega arith

pub sum_ext : (f g : ℕ → ℕ) (first count : ℕ) → ((k : ℕ) → first ≤ k → k < first + count → f k ≡ g k)
    → sum f first count ≡ sum g first count
unfolding sum
sum_ext f g first zero h = refl
sum_ext f g first (suc c) h = ap₂ ◌+◌ (sum_ext f g first c (λ k l u. h k l (omega arith))) (h (first + c) (omega arith) (omega arith))

pub sum_add : (f g : ℕ → ℕ) (first count : ℕ) → sum (λ k. f k + g k) first count ≡ sum f first count + sum g first count
unfolding sum
sum_add f g first zero = refl
sum_add f g first (suc c) = let a = sum_add f g first c in omega arith

pub sum_mul : (d : ℕ) (f : ℕ → ℕ) (first count : ℕ) → sum (λ k. d * f k) first count ≡ d * sum f first count
unfolding sum
sum_mul d f first zero = sym (mul-zero d)
sum_mul d f first (suc c) = let a = sum_mul d f first c in omega arith

pub sum_split : (f : ℕ → ℕ) (first c d : ℕ) → sum f first (c + d) ≡ sum f first c + sum f (first + c) d
unfolding sum
sum_split f first c zero = ap (sum f first) (add-zero c) ∙ sym (add-zero _)
sum_split f first c (suc d) =
    ap (sum f first) (add-suc c d)
    ∙ ap₂ ◌+◌ (sum_split f first c d) (ap f (sym (add_assoc first c d)))
    ∙ add_assoc (sum f first c) (sum f (first + c) d) (f (first + c + d))

-- none, and one more, as a loop meets them
pub sum_none : (f : ℕ → ℕ) (first : ℕ) → sum f first 0 ≡ 0
unfolding sum
sum_none f first = refl

pub sum_next : (f : ℕ → ℕ) (first c : ℕ) → sum f first (c + 1) ≡ sum f first c + f (first + c)
unfolding sum
sum_next f first c = ap (sum f first) (add-one c)

-- the same values, counted from 0
pub sum_from : (f : ℕ → ℕ) (k c : ℕ) → sum (λ i. f (k + i)) 0 c ≡ sum f k c
unfolding sum
sum_from f k zero = refl
sum_from f k (suc c) = ap₂ ◌+◌ (sum_from f k c) (ap (λ (i : ℕ). f (k + i)) (zero-add c))

-- every other value, from the first on and from the second on
pub sum_pairs : (f : ℕ → ℕ) (k c : ℕ) → sum f k (2 * c) ≡ sum (λ i. f (k + 2 * i)) 0 c + sum (λ i. f (k + 1 + 2 * i)) 0 c
unfolding sum
sum_pairs f k zero = ap (sum f k) (mul-zero 2)
sum_pairs f k (suc c) =
    let two : 2 * suc c ≡ 2 * c + 1 + 1 = omega arith in
    let before = sum_pairs f k c in
    let one : f (k + 2 * c) ≡ f (k + 2 * (0 + c)) = ap f (omega arith) in
    let other : f (k + (2 * c + 1)) ≡ f (k + 1 + 2 * (0 + c)) = ap f (omega arith) in
    ap (sum f k) two ∙ sum_next f k (2 * c + 1) ∙ ap (λ (x : ℕ). x + f (k + (2 * c + 1))) (sum_next f k (2 * c)) ∙ omega (arith, before, one, other)

-- the same of a total that is reduced at each turn, from a on
pub total_next : (n : ℕ) (v : ℕ → ℕ) (a i t u : ℕ) → t ≡ (a + sum v 0 i) % n → u ≡ (t + v i) % n → u ≡ (a + sum v 0 (i + 1)) % n
total_next n v a i t u et eu =
    eu ∙ ap (λ (k : ℕ). (k + v i) % n) et ∙ mod-add-mod (a + sum v 0 i) n (v i)
    ∙ ap (λ (k : ℕ). k % n) (add_assoc a (sum v 0 i) (v i) ∙ ap (λ (k : ℕ). a + k) (sym (sum_next v 0 i ∙ ap (λ (k : ℕ). sum v 0 i + v k) (zero-add i))))

-- and of the sum from `first` up to, not including, k
pub range_next : (n : ℕ) (f : ℕ → ℕ) (first k s t x : ℕ) → first ≤ k → s ≡ sum f first (k - first) % n → x ≡ f k → t ≡ (s + x) % n
    → t ≡ sum f first (k + 1 - first) % n
range_next n f first k s t x l es ex et =
    let at : first + (k - first) ≡ k = omega arith in
    let after : k - first + 1 ≡ k + 1 - first = omega arith in
    et ∙ ap₂ (λ (i j : ℕ). (i + j) % n) es (ex ∙ ap f (sym at)) ∙ mod-add-mod (sum f first (k - first)) n (f (first + (k - first)))
    ∙ ap (λ (i : ℕ). i % n) (sym (sum_next f first (k - first)) ∙ ap (sum f first) after)

pub sum_zero : (f : ℕ → ℕ) (first count : ℕ) → ((k : ℕ) → f k ≡ 0) → sum f first count ≡ 0
unfolding sum
sum_zero f first zero h = refl
sum_zero f first (suc c) h = ap₂ ◌+◌ (sum_zero f first c h) (h (first + c))

-- nothing is added from c on
pub sum_up_to : (f : ℕ → ℕ) (c n : ℕ) → c ≤ n → ((k : ℕ) → c ≤ k → f k ≡ 0) → sum f 0 n ≡ sum f 0 c
sum_up_to f c n h z =
    let e : n ≡ c + (n - c) = omega arith in
    ap (sum f 0) e ∙ sum_split f 0 c (n - c)
    ∙ ap (λ (k : ℕ). sum f 0 c + k) (sum_ext f (λ i. 0) (0 + c) (n - c) (λ i l u. z i (omega arith)) ∙ sum_zero (λ i. 0) (0 + c) (n - c) (λ k. refl))
    ∙ add-zero (sum f 0 c)

-- every summand is x
pub sum_same : (f : ℕ → ℕ) (x first count : ℕ) → ((k : ℕ) → first ≤ k → k < first + count → f k ≡ x) → sum f first count ≡ x * count
unfolding sum
sum_same f x first zero h = sym (mul-zero x)
sum_same f x first (suc c) h =
    let a = sum_same f x first c (λ k l u. h k l (omega arith)) in
    let b = h (first + c) (omega arith) (omega arith) in
    omega arith

-- one summand grows by x
pub sum_bump : (g g' : ℕ → ℕ) (count j x : ℕ) → j < count → g' j ≡ g j + x → ((i : ℕ) → i ≢ j → g i ≡ g' i)
    → sum g' 0 count ≡ sum g 0 count + x
unfolding sum
sum_bump g g' zero j x h e o = absurd (not-suc-le-zero h)
sum_bump g g' (suc c) j x h e o = ⊎_elim
    (λ l. let a = sum_bump g g' c j x l e o in let b = o (0 + c) (λ q. omega (arith, q)) in omega (arith, a, b))
    (λ d. let a = sum_ext g g' 0 c (λ i l u. o i (λ q. omega (arith, q))) in
    let b = subst (λ (n : ℕ). g' n ≡ g n + x) (d ∙ sym (zero-add c)) e in omega (arith, a, b))
    (below_or j c h)

-- a sum from 1 on is one from 0 on of what stands one further
pub sum_shift : (g h : ℕ → ℕ) (count : ℕ) → ((n : ℕ) → g (suc n) ≡ h n) → sum g 1 count ≡ sum h 0 count
unfolding sum
sum_shift g h zero e = refl
sum_shift g h (suc c) e =
    let q : 1 + c ≡ suc c = omega arith in
    ap₂ ◌+◌ (sum_shift g h c e) (ap g q ∙ e c ∙ ap h (sym (zero-add c)))

-- remainders added up
pub sum_rem : (n : ℕ) (f : ℕ → ℕ) (first count : ℕ) → sum (λ k. f k % n) first count % n ≡ sum f first count % n
unfolding sum
sum_rem n f first count = to-% (go count)
  where
    go : (c : ℕ) → Mod n (sum (λ k. f k % n) first c) (sum f first c)
    go zero = of_eq refl
    go (suc c) = plus (go c) (rem n (f (first + c)))

-- one summand grows by x and is reduced: so does the sum
pub sum_bump_rem : (n : ℕ) (g g' : ℕ → ℕ) (count j x : ℕ) → j < count → g' j ≡ (g j + x) % n → ((i : ℕ) → i ≢ j → g i ≡ g' i)
    → sum g' 0 count % n ≡ (sum g 0 count % n + x) % n
unfolding sum
sum_bump_rem n g g' count j x h e o = to-% (trans (go count h) (symm (plus (rem n (sum g 0 count)) (of_eq {a = x} refl))))
  where
    go : (c : ℕ) → j < c → Mod n (sum g' 0 c) (sum g 0 c + x)
    go zero l = absurd (not-suc-le-zero l)
    go (suc c) l = ⊎_elim
        (λ k. trans (plus (go c k) (of_eq (sym (o (0 + c) (λ q. omega (arith, q)))))) (of_eq (omega arith)))
        (λ d. let a = sum_ext g g' 0 c (λ i m u. o i (λ q. omega (arith, q))) in
        let b = subst (λ (i : ℕ). g' i ≡ (g i + x) % n) (d ∙ sym (zero-add c)) e in
        trans (plus (of_eq (sym a)) (wrapped n b)) (of_eq (omega arith)))
        (below_or j c l)
