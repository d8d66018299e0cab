-- `closing::settled_digits` meets its contract: an end below 0 or at 2 ^ 128 or above parts from the other in the first digit, and
-- otherwise neither sum wraps.
-- Assumes nothing.
use mathlib.Core.Path.{◌≡◌, refl, sym, ◌∙◌}
use Prim.Native.Nat.{ℕ, ◌+◌, ◌-◌, ◌%◌, ◌^◌, ◌<◌, ◌≤◌}
use native.Mathlib.Omega.{arith}
use borrow.Author.Rules.{rules}
use borrow.Author.Tests.{ltb-true, ltb-false}
use lib.IntN.{pos, sub_ℕ}
use Rattle.algebra.proofs.Integers.{sub_pos}
use Rattle.words.specs.Words.{joined}
use Rattle.words.proofs.Joined.{joined_lt}
use Rattle.words.proofs.Order.{sub_exact, add_exact, add_over}
use Rattle.digits.specs.Digits.{settled}
use Rattle.digits.proofs.TopDigits.{negative_none, over_none}
use Rattle.closing.proofs.settled_digits.Goals as goal

-- where the lower end is not below 0, by the words of the sum s; M is 2 ^ 128
module _ (M T a b s : ℕ) (M-is : M ≡ 2 ^ 128) (T-in : T < M) (a_in : a + 1 < M) (from_low : b + 1 ≤ T) (s-is : s ≡ (T + (a + 1)) % M) where
  wraps : s < T → 0 ≡ settled (sub_ℕ T (b + 1)) (pos (T + a + 1))
  wraps h =
      let low-in : T - (b + 1) < M = omega arith in
      let high-out : M ≤ T + a + 1 = omega (arith, add_over M T (a + 1) s s-is h) in
      rw (sub_pos T (b + 1) from_low) (over_none _ _ (rw M-is at low-in) (rw M-is at high-out))

  fits : T ≤ s → (l d : ℕ) → l < M → (l + (b + 1)) % M ≡ T → d ≡ settled (pos l) (pos s) → d ≡ settled (sub_ℕ T (b + 1)) (pos (T + a + 1))
  fits h l d l-in e v =
      let l-is : l ≡ T - (b + 1) = sub_exact M T (b + 1) l T-in l-in from_low e in
      let s-exact : s ≡ T + a + 1 = omega (arith, add_exact M T (a + 1) s a_in s-is h) in
      rw (sub_pos T (b + 1) from_low, ← l-is, ← s-exact) v

pub returns-then-is_less : goal.returns-then-is_less
returns-then-is_less c =
    let a = c.args in
    let less = rw c.from-below.ensures at c.is_less.ensures in
    negative_none (joined a.total.hi a.total.lo) (a.b + 1) _ (ltb-true _ _ (sym less ∙ c.if-is_less.true))

pub returns-then-is_less-2 : goal.returns-then-is_less-2
returns-then-is_less-2 c =
    let a = c.args in
    let h : (a.total.hi < 2 ^ 64) × (a.total.lo < 2 ^ 64) × (a.a + 1 < 2 ^ 64) = search rules in
    let less = rw c.from-below.ensures at c.is_less.ensures in
    wraps (2 ^ 128) (joined a.total.hi a.total.lo) a.a a.b _ refl (joined_lt _ _ h.0 h.1)
    (omega (arith, h.2))
    (ltb-false _ _ (sym less ∙ c.if-is_less.false)) (rw c.from.ensures at c.add-high.ensures)
    (ltb-true _ _ (sym c.is_less-2.ensures ∙ c.if-is_less-2.true))

pub returns : goal.returns
returns c =
    let a = c.args in
    let h : (a.total.hi < 2 ^ 64) × (a.total.lo < 2 ^ 64) × (a.a + 1 < 2 ^ 64) = search rules in
    let l : (c.sub.result.hi < 2 ^ 64) × (c.sub.result.lo < 2 ^ 64) = search rules in
    let less = rw c.from-below.ensures at c.is_less.ensures in
    fits (2 ^ 128) (joined a.total.hi a.total.lo) a.a a.b _ refl (joined_lt _ _ h.0 h.1)
    (omega (arith, h.2))
    (ltb-false _ _ (sym less ∙ c.if-is_less.false)) (rw c.from.ensures at c.add-high.ensures)
    (ltb-false _ _ (sym c.is_less-2.ensures ∙ c.if-is_less-2.false)) _ _ (joined_lt _ _ l.0 l.1)
    (rw c.from-below.ensures at c.sub.ensures) c.shared_digits.ensures
