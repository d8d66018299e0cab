-- A test over all numbers below a bound: made from its cases, read at a number, and as a loop meets it.
-- Assumes nothing.
use mathlib.Core.Path.{◌≡◌, refl, sym, ap, subst, ◌∙◌}
use mathlib.Core.Bool.{Bool, true, false, ◌&&◌}
use mathlib.Core.Logic.{⊎_elim}
use Prim.Native.Nat.{ℕ, zero, suc, ◌+◌, ◌<◌}
use native.Mathlib.Nat.{not-suc-le-zero}
use native.Mathlib.Numerals.{add-one}
use native.Mathlib.Omega.{arith}
use Rattle.algebra.specs.Test.{all_below}
use Rattle.algebra.proofs.Booleans.{and_left, and_right, and_both, and_false, not_both, below_or}

pub all_true : (n : ℕ) (f : ℕ → Bool) → ((i : ℕ) → i < n → f i ≡ true) → all_below n f ≡ true
unfolding all_below
all_true zero f h = refl
all_true (suc n) f h = and_both (f n) (all_below n f) (h n (omega arith)) (all_true n f (λ i l. h i (omega arith)))

pub all_at : (n : ℕ) (f : ℕ → Bool) → all_below n f ≡ true → (k : ℕ) → k < n → f k ≡ true
unfolding all_below
all_at zero f t k h = absurd (not-suc-le-zero h)
all_at (suc n) f t k h =
    ⊎_elim (λ l. all_at n f (and_right (f n) (all_below n f) t) k l)
    (λ e. subst (λ (m : ℕ). f m ≡ true) (sym e) (and_left (f n) (all_below n f) t)) (below_or k n h)

pub all_ext : (n : ℕ) (f g : ℕ → Bool) → ((i : ℕ) → i < n → f i ≡ g i) → all_below n f ≡ all_below n g
unfolding all_below
all_ext zero f g h = refl
all_ext (suc n) f g h = rw (h n (omega arith), all_ext n f g (λ i l. h i (omega arith))) refl

-- a number that fails
pub below_false : (n : ℕ) (f : ℕ → Bool) (i : ℕ) → i < n → f i ≡ false → all_below n f ≡ false
unfolding all_below
below_false zero f i h e = absurd (not-suc-le-zero h)
below_false (suc n) f i h e = ⊎_elim
    (λ l. ap (λ (b : Bool). f n && b) (below_false n f i l e) ∙ and_false (f n))
    (λ q. ap (λ (k : ℕ). f k && all_below n f) (sym q) ∙ ap (λ (b : Bool). b && all_below n f) e)
    (below_or i n h)

-- one that fails is found where they do not all hold
pub fails_at : (n : ℕ) (f : ℕ → Bool) → all_below n f ≡ false → (i : ℕ) × (i < n) × (f i ≡ false)
unfolding all_below
fails_at zero f e = absurd (not_both true refl e)
fails_at (suc n) f e = go (f n) refl (λ t. fails_at n f t) e
  where
    go : (b : Bool) → f n ≡ b → (all_below n f ≡ false → (i : ℕ) × (i < n) × (f i ≡ false)) → (b && all_below n f) ≡ false
        → (i : ℕ) × (i < suc n) × (f i ≡ false)
    go true q below t = let i = below t in let h = i.1 in (i.0, omega arith, i.2)
    go false q below t = (n, omega arith, q)

-- the start of a loop, and one turn of it
pub below_none : (f : ℕ → Bool) → all_below 0 f ≡ true
unfolding all_below
below_none f = refl

pub below_next : (n : ℕ) (f : ℕ → Bool) → all_below n f ≡ true → f n ≡ true → all_below (n + 1) f ≡ true
unfolding all_below
below_next n f h e = rw (add-one n) (rw (h, e) refl)

and_swap : (a b c : Bool) → (a && (b && c)) ≡ (b && (a && c))
and_swap true b c = refl
and_swap false true c = refl
and_swap false false c = refl

-- from the front, as a test over a list goes
pub below_front : (n : ℕ) (f : ℕ → Bool) → all_below (suc n) f ≡ (f 0 && all_below n (λ i. f (suc i)))
unfolding all_below
below_front zero f = refl
below_front (suc n) f = ap (λ (b : Bool). f (suc n) && b) (below_front n f) ∙ and_swap (f (suc n)) (f 0) (all_below n (λ i. f (suc i)))
