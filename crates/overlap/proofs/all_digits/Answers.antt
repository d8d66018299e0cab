-- `overlap::all_digits` meets its contract. The loop's invariant: what is left of the string decides.
-- Assumes nothing.
use mathlib.Core.Path.{◌≡◌, refl, sym, ◌∙◌}
use mathlib.Core.Bool.{true, false}
use mathlib.Core.List.{List}
use Prim.Native.Nat.{ℕ, ◌+◌, ◌≤◌, ◌<◌}
use native.Mathlib.Numerals.{add-one}
use native.Mathlib.Omega.{arith}
use lib.ListN.{length, get_or, drop, drop_of_length-le}
use lib.Seq.{drop-cons}
use Rattle.digits.specs.Digits.{is_digit}
use Rattle.overlap.specs.Strings.{all_digits}
use Rattle.overlap.proofs.all_digits.Goals as goal

module _ (s : List ℕ) (i : ℕ) (e : all_digits (drop i s) ≡ all_digits s) where
  fails : i < length s → is_digit (get_or s i 0) ≡ false → false ≡ all_digits s
  unfolding all_digits
  fails h f = sym (rw (drop-cons s i 0 h, f) refl) ∙ e

  goes_on : i < length s → is_digit (get_or s i 0) ≡ true → all_digits (drop (i + 1) s) ≡ all_digits s
  unfolding all_digits
  goes_on h t = sym (rw (drop-cons s i 0 h, t, add-one i) refl) ∙ e

  all_passed : length s ≤ i → true ≡ all_digits s
  unfolding all_digits
  all_passed h = sym (rw (drop_of_length-le s {i = i} h) refl) ∙ e

pub returns-then-not-is_digit : goal.returns-then-not-is_digit
returns-then-not-is_digit c =
    fails _ _ c.loop-c.invariant (omega arith) (sym c.is_digit.ensures ∙ c.if-not-is_digit.true)

pub loop-c-preserved : goal.loop-c-preserved
loop-c-preserved c = goes_on _ _ c.loop-c.invariant (omega arith) (sym c.is_digit.ensures ∙ c.if-not-is_digit.false)

pub returns : goal.returns
returns c = all_passed c.args.s.now c.loop-c.c-index c.loop-c.invariant (omega arith)
