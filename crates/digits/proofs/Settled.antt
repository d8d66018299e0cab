-- The number of settled digits is the greatest that settles; fewer digits are settled too.
-- Assumes nothing.
use mathlib.Core.Path.{◌≡◌, refl, sym, ap, ◌∙◌, subst}
use mathlib.Core.Bool.{Bool, true, false, cond}
use mathlib.Core.Logic.{◌⊎◌, inl, inr, ⊎_elim}
use Prim.Native.Nat.{ℕ, zero, suc, ◌+◌, ◌*◌, ◌-◌, ◌^◌, ◌<◌, ◌≤◌}
use native.Mathlib.Nat.{div-div-eq-div-mul, le_of_suc-le-suc, lt_of_not-le, mul_comm, mul-suc, pow-suc, sub-zero}
use native.Mathlib.Omega.{arith}
use borrow.Author.Tests.{eqb-true, eq-eqb}
use lib.IntN.{ℤ, pos, negsuc}
use lib.Pow.{pow-add}
use Rattle.algebra.specs.Whole.{quotient, sameℤ}
use Rattle.algebra.proofs.Booleans.{not_both}
use Rattle.digits.specs.Digits.{unit_at, Settles, Greatest, NoneSettled, OneOutcome, settled_up_to, settled}

same_eq : (a b : ℤ) → sameℤ a b ≡ true → a ≡ b
unfolding sameℤ
same_eq (pos a) (pos b) e = ap pos (eqb-true a b e)
same_eq (pos a) (negsuc b) e = cc
same_eq (negsuc a) (pos b) e = cc
same_eq (negsuc a) (negsuc b) e = ap negsuc (eqb-true a b e)

eq_same : (a b : ℤ) → a ≡ b → sameℤ a b ≡ true
unfolding sameℤ
eq_same a b e = subst (λ (z : ℤ). sameℤ a z ≡ true) e (self a)
  where
    self : (a : ℤ) → sameℤ a a ≡ true
    self (pos a) = eq-eqb a a refl
    self (negsuc a) = eq-eqb a a refl

module _ (lo hi : ℤ) where
  Same : ℕ → Type 0
  Same d = quotient lo (unit_at d) ≡ quotient hi (unit_at d)

  -- what is found settles
  found : (n : ℕ) → n ≤ 32 → (settled_up_to lo hi n ≡ 0) ⊎ Settles lo hi (settled_up_to lo hi n)
  unfolding settled_up_to Settles
  found zero h = inl refl
  found (suc n) h = go (sameℤ (quotient lo (unit_at (suc n))) (quotient hi (unit_at (suc n)))) refl (found n (omega arith))
    where
      go : (b : Bool) → sameℤ (quotient lo (unit_at (suc n))) (quotient hi (unit_at (suc n))) ≡ b
          → ((settled_up_to lo hi n ≡ 0) ⊎ Settles lo hi (settled_up_to lo hi n))
          → (cond b (suc n) (settled_up_to lo hi n) ≡ 0) ⊎ Settles lo hi (cond b (suc n) (settled_up_to lo hi n))
      go true e r = inr (omega arith, h, same_eq _ _ e)
      go false e r = r

  -- and nothing above it does
  reaches : (n e : ℕ) → 1 ≤ e → e ≤ n → Same e → e ≤ settled_up_to lo hi n
  unfolding settled_up_to Same
  reaches zero e h l s = l
  reaches (suc n) e h l s = go (sameℤ (quotient lo (unit_at (suc n))) (quotient hi (unit_at (suc n)))) refl (λ k. reaches n e h k s)
    where
      go : (b : Bool) → sameℤ (quotient lo (unit_at (suc n))) (quotient hi (unit_at (suc n))) ≡ b → (e ≤ n → e ≤ settled_up_to lo hi n)
          → e ≤ cond b (suc n) (settled_up_to lo hi n)
      go true f r = l
      go false f r =
          r (le_of_suc-le-suc (lt_of_not-le (λ k.
          let q : e ≡ suc n = omega arith in not_both _ (eq_same _ _ (subst Same q s)) f)))

  pub at_most : (d : ℕ) → Settles lo hi d → d ≤ settled lo hi
  unfolding settled Settles Same
  at_most d s = reaches 32 d s.0 s.1 s.2

  pub greatest : (d : ℕ) → Greatest lo hi d → settled lo hi ≡ d
  unfolding settled Settles
  greatest d g =
      let l = at_most d g.settles in
      ⊎_elim (λ z. absurd (let h = g.settles.0 in omega (arith, z, l, h))) (λ r. let u = g.most _ r in omega (arith, l, u)) (found 32 (omega arith))

  pub settled_within : settled lo hi ≤ 32
  unfolding settled Settles
  settled_within = ⊎_elim (λ z. omega (arith, z)) (λ r. r.1) (found 32 (omega arith))

  pub settled_none : settled lo hi ≡ 0 → NoneSettled lo hi
  unfolding Settles
  settled_none z d s = let l = at_most d s in let h = s.0 in omega (arith, z, l, h)

  pub none_settled : NoneSettled lo hi → settled lo hi ≡ 0
  unfolding settled
  none_settled n = ⊎_elim (λ z. z) (λ r. absurd (n _ r)) (found 32 (omega arith))

  -- the number of settled digits, where there are any
  pub settled_greatest : 0 < settled lo hi → Greatest lo hi (settled lo hi)
  unfolding settled
  settled_greatest h = record { settles = ⊎_elim (λ z. absurd (omega (arith, z, h))) (λ r. r) (found 32 (omega arith)); most = at_most }

  pub one_outcome : OneOutcome lo hi
  one_outcome = record {
    either = go (settled lo hi) refl;
    not_both = λ d g n. n d g.settles;
    one_d = λ d e g h. sym (greatest d g) ∙ greatest e h;
  }
    where
      go : (n : ℕ) → settled lo hi ≡ n → ((d : ℕ) × Greatest lo hi d) ⊎ NoneSettled lo hi
      go zero e = inr (settled_none e)
      go (suc n) e = inl (settled lo hi, settled_greatest (omega (arith, e)))

-- ---- sharing at d gives sharing at every smaller d

-- a quotient of a quotient, both rounded down
twice : (z : ℤ) (v w : ℕ) → quotient (quotient z v) w ≡ quotient z (v * w)
twice (pos n) v w = ap pos (div-div-eq-div-mul n v w)
twice (negsuc n) v w = ap negsuc (div-div-eq-div-mul n v w)

pub sixteens : (c : ℕ) → 2 ^ (4 * c) ≡ 16 ^ c
sixteens zero = refl
sixteens (suc c) =
    ap (λ (n : ℕ). 2 ^ n) (mul-suc 4 c) ∙ pow-add 2 (4 * c) 4 ∙ ap (λ (n : ℕ). n * 16) (sixteens c) ∙ sym (pow-suc 16 c)

pub coarser : (e d : ℕ) → e ≤ d → d ≤ 32 → unit_at d * 16 ^ (d - e) ≡ unit_at e
coarser e d h l =
    let q : 128 - 4 * d + 4 * (d - e) ≡ 128 - 4 * e = omega arith in
    rw (← sixteens (d - e), ← pow-add 2 (128 - 4 * d) (4 * (d - e)), q) refl

pub fewer : (lo hi : ℤ) (d e : ℕ) → Settles lo hi d → 1 ≤ e → e ≤ d → Settles lo hi e
unfolding Settles
fewer lo hi d e s o h =
    let l = s.1 in (
      o,
      omega arith,
      subst (λ (u : ℕ). quotient lo u ≡ quotient hi u) (coarser e d h l)
          (sym (twice lo (unit_at d) (16 ^ (d - e))) ∙ ap (λ (z : ℤ). quotient z (16 ^ (d - e))) s.2 ∙ twice hi (unit_at d) (16 ^ (d - e))),
    )

-- 2 ^ 128 is 16 ^ d times 2 ^ (128 - 4 d)
pub split_modulus : (d : ℕ) → d ≤ 32 → 2 ^ 128 ≡ 16 ^ d * unit_at d
split_modulus d h = sym (mul_comm (16 ^ d) (unit_at d) ∙ (rw sub-zero at (coarser 0 d (omega arith) h)))
