-- What a string holds, what two strings share, and where they agree, as facts in place of tests; and the number that refuses them.
-- Assumes nothing.
use mathlib.Core.Path.{◌≡◌, refl, sym, ap, subst, ◌∙◌}
use mathlib.Core.Bool.{Bool, true, false, not, cond, ◌&&◌, ◌||◌}
use mathlib.Core.Logic.{◌↔◌, ◌⊎◌, inl, inr, ⊎_elim}
use Prim.Native.Nat.{ℕ, ◌+◌, ◌-◌, ◌^◌, ◌<◌, ◌≤◌}
use native.Mathlib.Omega.{arith}
use borrow.Author.Tests.{ltb-true, ltb-false, leb-true, lt-ltb, le-leb, eqb-true, eqb-false, eq-eqb, ne_eqb}
use lib.Dec.{leb, ltb}
use lib.ListN.{length}
use Rattle.algebra.specs.Test.{all_below}
use Rattle.algebra.proofs.Booleans.{and_left, and_right, and_both, not_both}
use Rattle.algebra.proofs.Below.{all_true, all_at, below_false, fails_at, below_none, below_next}
use Rattle.run.specs.Refusal.{refusal}
use Rattle.run.specs.Call.{refused_by}
use Rattle.overlap.specs.Strings.{Laid, end, holds, digit_at, in_form, later, first_shared, share, same_at, agree}
use Rattle.overlap.specs.Calls.{overlap_tests, overlap_call}
use Rattle.overlap.specs.Overlaps.{refused_with, BothInForm, Shared, Numbers}

-- ---- the later of two positions

pub record Later (m n k : ℕ) : Type 0 where
  pub left : m ≤ k
  pub right : n ≤ k
  pub one : (k ≡ m) ⊎ (k ≡ n)

pub is_later : (m n : ℕ) → Later m n (later m n)
unfolding later
is_later m n = go (ltb m n) refl
  where
    go : (b : Bool) → ltb m n ≡ b → Later m n (cond b n m)
    go true e = let h = ltb-true m n e in record { left = omega arith; right = omega arith; one = inr refl }
    go false e = let h = ltb-false m n e in record { left = omega arith; right = omega arith; one = inl refl }

-- ---- one string

pub held : (s : Laid) (n : ℕ) → holds s n ≡ true → (s.from ≤ n) × (n < end s)
unfolding holds
held s n e = (leb-true _ _ (and_left (leb s.from n) _ e), ltb-true _ _ (and_right (leb s.from n) _ e))

pub holds_at : (s : Laid) (n : ℕ) → s.from ≤ n → n < end s → holds s n ≡ true
unfolding holds
holds_at s n l h = and_both _ _ (le-leb _ _ l) (lt-ltb _ _ h)

-- what is asked of its length and position
pub record Short (s : Laid) : Type 0 where
  pub some : 1 ≤ length s.digits
  pub few : length s.digits ≤ 30
  pub near : s.from ≤ 2 ^ 60

pub short : (s : Laid) → in_form s ≡ true → Short s
unfolding in_form
short s e =
    let count = and_left (leb 1 (length s.digits) && leb (length s.digits) 30) _ e in
    let rest = and_right (leb 1 (length s.digits) && leb (length s.digits) 30) _ e in
    let from = and_left (leb 1 s.from && leb s.from (2 ^ 60)) _ rest in
    record {
      some = leb-true _ _ (and_left (leb 1 (length s.digits)) _ count);
      few = leb-true _ _ (and_right (leb 1 (length s.digits)) _ count);
      near = leb-true _ _ (and_right (leb 1 s.from) _ from);
    }

-- ---- two strings

-- where the second holds a position, and where the test fails
second_decides : (t u : Bool) → (not t || u) ≡ true → t ≡ true → u ≡ true
second_decides t u e h = sym (rw h refl) ∙ e

neither : (t u : Bool) → (not t || u) ≡ false → (t ≡ true) × (u ≡ false)
neither true u e = (refl, e)
neither false u e = absurd (not_both true refl e)

module _ (a b : Laid) where
  pub first_shared_lem : (n : ℕ) → Shared a b n → first_shared a b ≤ n
  first_shared_lem n h =
      let x = held a n h.0 in
      let y = held b n h.1 in
      ⊎_elim (λ e. omega (arith, e, x)) (λ e. omega (arith, e, y)) (is_later a.from b.from).one

  pub shared_there : share a b ≡ true → Shared a b (first_shared a b)
  unfolding share
  shared_there e = (and_left (holds a (first_shared a b)) _ e, and_right (holds a (first_shared a b)) _ e)

  pub share_some : (n : ℕ) → Shared a b n → share a b ≡ true
  unfolding share
  share_some n h =
      let x = held a n h.0 in
      let y = held b n h.1 in
      let l = is_later a.from b.from in
      let f = first_shared_lem n h in
      and_both _ _ (holds_at a _ l.left (omega (arith, x, f))) (holds_at b _ l.right (omega (arith, y, f)))

  pub same_digit : agree a b ≡ true → (n : ℕ) → Shared a b n → digit_at a n ≡ digit_at b n
  unfolding agree same_at
  same_digit e n h =
      let x = held a n h.0 in
      let at : a.from + (n - a.from) ≡ n = omega arith in
      let t = all_at (length a.digits) (λ i. not (holds b (a.from + i)) || same_at a b (a.from + i)) e (n - a.from) (omega arith) in
      eqb-true _ _ (second_decides _ _ (subst (λ (m : ℕ). (not (holds b m) || same_at a b m) ≡ true) at t) h.1)

  pub some_differ : agree a b ≡ false → (n : ℕ) × Shared a b n × (digit_at a n ≡ digit_at b n → ⊥)
  unfolding agree same_at
  some_differ e =
      let i = fails_at (length a.digits) (λ i. not (holds b (a.from + i)) || same_at a b (a.from + i)) e in
      let h = i.1 in
      let n = a.from + i.0 in
      let both = neither _ _ i.2 in
      (n, (holds_at a n (omega arith) (omega arith), both.0), eqb-false _ _ both.1)

-- ---- a loop over the positions of the first

module _ (a b : Laid) where
  -- the strings agree before position n
  pub record AgreeTo (n : ℕ) : Type 0 where
    pub from : a.from ≤ n
    pub so_far : all_below (n - a.from) (λ i. not (holds b (a.from + i)) || same_at a b (a.from + i)) ≡ true

  pub agree_start : AgreeTo a.from
  agree_start =
      let z : a.from - a.from ≡ 0 = omega arith in
      record { from = omega arith; so_far = rw z (below_none (λ i. not (holds b (a.from + i)) || same_at a b (a.from + i))) }

  module _ (n : ℕ) (k : AgreeTo n) where
    there : (t : Bool) → (not (holds b n) || same_at a b n) ≡ t
        → (not (holds b (a.from + (n - a.from))) || same_at a b (a.from + (n - a.from))) ≡ t
    there t e = let at : a.from + (n - a.from) ≡ n = omega arith in ap (λ (m : ℕ). not (holds b m) || same_at a b m) at ∙ e

    further_on : (not (holds b n) || same_at a b n) ≡ true → AgreeTo (n + 1)
    further_on e =
        let one : n + 1 - a.from ≡ n - a.from + 1 = omega arith in
        record { from = omega arith; so_far = rw one (below_next (n - a.from) _ k.so_far (there true e)) }

    pub agree_next : holds b n ≡ true → digit_at a n ≡ digit_at b n → AgreeTo (n + 1)
    unfolding same_at
    agree_next h e = further_on (rw (h, eq-eqb (digit_at a n) (digit_at b n) e) refl)

    pub agree_past : holds b n ≡ false → AgreeTo (n + 1)
    agree_past h = further_on (rw h refl)

    pub agree_stops : n < end a → holds b n ≡ true → (digit_at a n ≡ digit_at b n → ⊥) → false ≡ agree a b
    unfolding agree same_at
    agree_stops l h d =
        sym (below_false (length a.digits) _ (n - a.from) (omega arith) (there false (rw (h, ne_eqb (digit_at a n) (digit_at b n) d) refl)))

    pub agree_all : end a ≤ n → true ≡ agree a b
    unfolding agree
    agree_all h =
        sym (all_true (length a.digits) _ (λ i l. all_at (n - a.from) (λ i. not (holds b (a.from + i)) || same_at a b (a.from + i)) k.so_far i (omega arith)))

-- ---- the number

-- The three tests by turns, and the number that comes of them.
pub data Told (formed shared same : Bool) (n : ℕ) : Type 0 where
  bad : formed ≡ false → n ≡ 10 → Told formed shared same n
  apart : formed ≡ true → shared ≡ false → n ≡ 11 → Told formed shared same n
  different : formed ≡ true → shared ≡ true → same ≡ false → n ≡ 12 → Told formed shared same n
  over : formed ≡ true → shared ≡ true → same ≡ true → n ≡ 0 → Told formed shared same n

told : (formed shared same : Bool) → Told formed shared same (cond (not formed) 10 (cond (not shared) 11 (cond (not same) 12 0)))
told false shared same = bad refl refl
told true false same = apart refl refl refl
told true true false = different refl refl refl refl
told true true true = over refl refl refl refl

-- ways in which two sides of an equivalence both hold, or both fail
both_hold : {A B : Type 0} → A → B → A ↔ B
both_hold x y = (λ _. y, λ _. x)

both_fail : {A B : Type 0} → (A → ⊥) → (B → ⊥) → A ↔ B
both_fail f g = (λ x. absurd (f x), λ y. absurd (g y))

module _ (a b : Laid) where
  pub told_of : Told (in_form a && in_form b) (share a b) (agree a b) (refused_with a b)
  unfolding overlap_tests overlap_call refused_by refusal
  told_of = told (in_form a && in_form b) (share a b) (agree a b)

  formed : BothInForm a b → (in_form a && in_form b) ≡ false → ⊥
  formed h e = not_both _ (and_both _ _ h.0 h.1) e

  both : (in_form a && in_form b) ≡ true → BothInForm a b
  both e = (and_left (in_form a) _ e, and_right (in_form a) _ e)

  none_shared : share a b ≡ false → (n : ℕ) → Shared a b n → ⊥
  none_shared e n h = not_both _ (share_some a b n h) e

  numbered : Told (in_form a && in_form b) (share a b) (agree a b) (refused_with a b) → Numbers a b
  numbered (bad f e) = record {
    ten = both_hold e (λ h. formed h f);
    eleven = both_fail (λ q. omega (arith, q, e)) (λ h. formed h.0 f);
    twelve = both_fail (λ q. omega (arith, q, e)) (λ h. formed h.0 f);
    none = both_fail (λ q. omega (arith, q, e)) (λ h. formed h.0 f);
    no_other = inr (inl e);
  }
  numbered (apart f s e) = record {
    ten = both_fail (λ q. omega (arith, q, e)) (λ h. h (both f));
    eleven = both_hold e (both f, none_shared s);
    twelve = both_fail (λ q. omega (arith, q, e)) (λ h. none_shared s h.1.0 h.1.1);
    none = both_fail (λ q. omega (arith, q, e)) (λ h. none_shared s h.1.0 h.1.1);
    no_other = inr (inr (inl e));
  }
  numbered (different f s d e) =
      let n = some_differ a b d in
      record {
        ten = both_fail (λ q. omega (arith, q, e)) (λ h. h (both f));
        eleven = both_fail (λ q. omega (arith, q, e)) (λ h. h.1 n.0 n.1);
        twelve = both_hold e (both f, n);
        none = both_fail (λ q. omega (arith, q, e)) (λ h. n.2 (h.2 n.0 n.1));
        no_other = inr (inr (inr e));
      }
  numbered (over f s g e) = record {
    ten = both_fail (λ q. omega (arith, q, e)) (λ h. h (both f));
    eleven = both_fail (λ q. omega (arith, q, e)) (λ h. h.1 (first_shared a b) (shared_there a b s));
    twelve = both_fail (λ q. omega (arith, q, e)) (λ h. h.1.2 (same_digit a b g h.1.0 h.1.1));
    none = both_hold e (both f, (first_shared a b, shared_there a b s), same_digit a b g);
    no_other = inl e;
  }

  pub numbers : Numbers a b
  numbers = numbered told_of
