-- Laws of tests.
-- Assumes nothing.
use mathlib.Core.Path.{◌≡◌, refl, sym, subst}
use mathlib.Core.Bool.{Bool, true, false, ◌&&◌}
use mathlib.Core.Logic.{◌⊎◌, inl, inr}
use Prim.Native.Nat.{ℕ, suc, ◌<◌}
use native.Mathlib.Omega.{arith}
use borrow.Author.Tests.{ltb-true, ltb-false, eqb-true, eqb-false, eq-eqb}
use lib.Dec.{ltb, eqb}

pub and_left : (a b : Bool) → (a && b) ≡ true → a ≡ true
and_left true b e = refl
and_left false b e = e

pub and_right : (a b : Bool) → (a && b) ≡ true → b ≡ true
and_right true b e = e
and_right false b e = cc

pub and_both : (a b : Bool) → a ≡ true → b ≡ true → (a && b) ≡ true
and_both a b e f = rw (e, f)

pub and_false : (a : Bool) → (a && false) ≡ false
and_false true = refl
and_false false = refl

-- the first of two decides where the second holds, and the second where the first does
pub and_first : (a b : Bool) → b ≡ true → (a && b) ≡ a
and_first true b e = e
and_first false b e = refl

pub and_second : (a b : Bool) → a ≡ true → b ≡ (a && b)
and_second a b e = rw e refl

-- one of two that fails
pub left_fails : (a b : Bool) → a ≡ false → (a && b) ≡ false
left_fails a b e = rw e refl

pub right_fails : (a b : Bool) → b ≡ false → (a && b) ≡ false
right_fails a b e = rw e (and_false a)

-- true and false are not equal
pub not_both : (b : Bool) → b ≡ true → b ≡ false → ⊥
not_both b e f = let z : ◌≡◌ {A = ℕ} 0 1 = cc in omega arith

-- `imp a b`: where a holds, b does
abbrev pub imp : Bool → Bool → Bool
imp true b = b
imp false b = true

pub imp_at : (a b : Bool) → imp a b ≡ true → a ≡ true → b ≡ true
imp_at true b t h = t
imp_at false b t h = cc

-- i below n + 1 is below n, or n
pub below_or : (i n : ℕ) → i < suc n → (i < n) ⊎ (i ≡ n)
below_or i n h = go (ltb i n) refl
  where
    go : (b : Bool) → ltb i n ≡ b → (i < n) ⊎ (i ≡ n)
    go true e = inl (ltb-true i n e)
    go false e = inr (let l = ltb-false i n e in omega arith)

-- two numbers beside two others: the same, or not both the same
pub same_pair : (a b : ℕ) → (eqb a a && eqb b b) ≡ true
same_pair a b = rw (eq-eqb a a refl, eq-eqb b b refl) refl

pub other_pair : (a b x y : ℕ) → ((x ≡ a) × (y ≡ b) → ⊥) → (eqb a x && eqb b y) ≡ false
other_pair a b x y ne = go (eqb a x) refl (eqb b y) refl
  where
    go : (m : Bool) → eqb a x ≡ m → (n : Bool) → eqb b y ≡ n → (m && n) ≡ false
    go true e true f = absurd (ne (sym (eqb-true a x e), sym (eqb-true b y f)))
    go true e false f = refl
    go false e n f = refl

pub at_or_else : (a b x y : ℕ) (P : ℕ → ℕ → Type 0) → P a b → (((x ≡ a) × (y ≡ b) → ⊥) → P x y) → P x y
at_or_else a b x y P here else = go (eqb a x) refl (eqb b y) refl
  where
    go : (m : Bool) → eqb a x ≡ m → (n : Bool) → eqb b y ≡ n → P x y
    go true e true f = subst (λ (u : ℕ). P u y) (eqb-true a x e) (subst (λ (v : ℕ). P a v) (eqb-true b y f) here)
    go true e false f = else (λ q. eqb-false b y f (sym q.1))
    go false e n f = else (λ q. eqb-false a x e (sym q.0))
