-- The characters that are taken for digits are those that digits are written with.
-- Assumes nothing.
use mathlib.Core.Path.{◌≡◌, refl, subst}
use mathlib.Core.Bool.{Bool, true, false, ◌&&◌, ◌||◌}
use mathlib.Core.Logic.{◌↔◌}
use Prim.Native.Nat.{ℕ, ◌-◌, ◌<◌, ◌≤◌}
use native.Mathlib.Omega.{arith}
use borrow.Author.Tests.{leb-true, lt-ltb, le-ltb}
use lib.Dec.{leb}
use Rattle.algebra.specs.Test.{all_below}
use Rattle.algebra.proofs.Booleans.{not_both}
use Rattle.algebra.proofs.Below.{all_at}
use Rattle.digits.specs.Digits.{hex_digit, is_digit}

module _ (c : ℕ) where
  abbrev Written : Type 0
  Written = (v : ℕ) × (v < 16) × (hex_digit v ≡ c)

  figure : 48 ≤ c → c ≤ 57 → Written
  unfolding hex_digit
  figure h l = (c - 48, omega arith, rw (lt-ltb (c - 48) 10 (omega arith)) (omega arith))

  letter : 65 ≤ c → c ≤ 70 → Written
  unfolding hex_digit
  letter h l = (c - 55, omega arith, rw (le-ltb (c - 55) 10 (omega arith)) (omega arith))

  read : is_digit c ≡ true → Written
  unfolding is_digit
  read e = go (leb 48 c) (leb c 57) (leb 65 c) (leb c 70) refl refl refl refl e
    where
      go : (p q r s : Bool) → leb 48 c ≡ p → leb c 57 ≡ q → leb 65 c ≡ r → leb c 70 ≡ s → ((p && q) || (r && s)) ≡ true → Written
      go true true r s x y z w t = figure (leb-true 48 c x) (leb-true c 57 y)
      go true false true true x y z w t = letter (leb-true 65 c z) (leb-true c 70 w)
      go true false true false x y z w t = absurd (not_both false t refl)
      go true false false s x y z w t = absurd (not_both false t refl)
      go false q true true x y z w t = letter (leb-true 65 c z) (leb-true c 70 w)
      go false q true false x y z w t = absurd (not_both false t refl)
      go false q false s x y z w t = absurd (not_both false t refl)

  -- a test of all sixteen
  pub characters : (is_digit c ≡ true) ↔ Written
  unfolding all_below is_digit hex_digit
  characters = (read, λ w. subst (λ (x : ℕ). is_digit x ≡ true) w.2 (all_at 16 (λ v. is_digit (hex_digit v)) refl w.0 w.1))
