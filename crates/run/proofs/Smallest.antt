-- Of tests whose numbers ascend, the first that applies has the smallest number of all that apply.
-- Assumes nothing.
use mathlib.Core.Path.{◌≡◌, refl, sym, ap, ◌∙◌, subst}
use mathlib.Core.Bool.{Bool, true, false, cond}
use mathlib.Core.List.Memᴰ
use mathlib.Core.List.{List, [], ◌∷◌, Memᴰ}
use Prim.Native.Nat.{ℕ, ◌≤◌, ◌<◌}
use native.Mathlib.Omega.{arith}
use borrow.Author.Tests.{ltb-true}
use lib.Dec.{ltb}
use Rattle.algebra.proofs.Booleans.{and_left, and_right, not_both}
use Rattle.run.specs.Refusal.{Test, refusal, ascend_above, Applies, Smallest}

-- every number of a list that ascends above n is above n
above : (n : ℕ) (ts : List Test) → ascend_above n ts ≡ true → (t : Test) → Memᴰ t ts → n < t.number
above n [] a t m = absurd (Memᴰ.not-nil m)
above n (u ∷ ts) a t (Memᴰ.head e) =
    subst (λ (x : Test). n < x.number) (sym e) (ltb-true _ _ (and_left (ltb n u.number) _ a))
above n (u ∷ ts) a t (Memᴰ.tail m) =
    let h = ltb-true n u.number (and_left (ltb n u.number) _ a) in
    let l = above u.number ts (and_right (ltb n u.number) _ a) t m in
    omega (arith, h, l)

-- the first test applies, or one further on does
pub here : (t : Test) (ts : List Test) → t.applies ≡ true → Applies (t ∷ ts) t.number
here t ts e = record { test = t; listed = Memᴰ.head refl; number_is = refl; holds = e }

pub later : {t : Test} {ts : List Test} {n : ℕ} → Applies ts n → Applies (t ∷ ts) n
later a = record { test = a.test; listed = Memᴰ.tail a.listed; number_is = a.number_is; holds = a.holds }

-- the first test, or one after it
applies_cases : (t : Test) (ts : List Test) (m : ℕ) (P : Type 0) → (t.number ≡ m → t.applies ≡ true → P) → (Applies ts m → P)
    → Applies (t ∷ ts) m → P
applies_cases t ts m P f g a = go a.test a.listed a.number_is a.holds
  where
    go : (u : Test) → Memᴰ u (t ∷ ts) → u.number ≡ m → u.applies ≡ true → P
    go u (Memᴰ.head e) n h = f (sym (ap (λ (x : Test). x.number) e) ∙ n) (sym (ap (λ (x : Test). x.applies) e) ∙ h)
    go u (Memᴰ.tail l) n h = g (record { test = u; listed = l; number_is = n; holds = h })

number_above : (n : ℕ) (ts : List Test) → ascend_above n ts ≡ true → (m : ℕ) → Applies ts m → n < m
number_above n ts a m x = subst (λ (k : ℕ). n < k) x.number_is (above n ts a x.test x.listed)

from : (n : ℕ) (ts : List Test) → ascend_above n ts ≡ true → Smallest ts (refusal ts)
unfolding refusal
from n [] a = record {
  applies = λ f. absurd (f refl);
  least = λ m x. omega arith;
  none = λ e m x. absurd (Memᴰ.not-nil x.listed);
  only_none = λ f. refl;
}
from n (t ∷ ts) a = go t.applies refl (from t.number ts rest)
  where
    rest : ascend_above t.number ts ≡ true
    rest = and_right (ltb n t.number) _ a

    first : n < t.number
    first = ltb-true _ _ (and_left (ltb n t.number) _ a)

    go : (b : Bool) → t.applies ≡ b → Smallest ts (refusal ts) → Smallest (t ∷ ts) (cond b t.number (refusal ts))
    go true e s = record {
      applies = λ f. here t ts e;
      least = λ m. applies_cases t ts m (t.number ≤ m) (λ q h. omega arith) (λ x. let l = number_above t.number ts rest m x in omega arith);
      none = λ z m x. let l = first in omega (arith, z, l);
      only_none = λ f. absurd (f t.number (here t ts e));
    }
    go false e s = record {
      applies = λ f. later (s.applies f);
      least = λ m. applies_cases t ts m (refusal ts ≤ m) (λ q h. absurd (not_both t.applies h e)) (s.least m);
      none = λ z m. applies_cases t ts m ⊥ (λ q h. not_both t.applies h e) (s.none z m);
      only_none = λ f. s.only_none (λ m x. f m (later x));
    }

pub smallest : (ts : List Test) → ascend_above 0 ts ≡ true → Smallest ts (refusal ts)
smallest ts a = from 0 ts a
