-- The decimal digits of a number, as `io::decimal` counts and writes them.
-- Assumes nothing.
use mathlib.Core.Path.{◌≡◌, refl, ap, ap₂, subst, ◌∙◌}
use mathlib.Core.List.{List, [], ◌∷◌, ◌++◌}
use Prim.Native.Nat.{ℕ, zero, suc, ◌+◌, ◌*◌, ◌-◌, ◌/◌, ◌%◌, ◌^◌, ◌<◌, ◌≤◌}
use native.Mathlib.Nat.{pow-zero, pow-suc, one-le-pow, pow-le-pow_right, lt_of_not-le, le_of_suc-le-suc}
use native.Mathlib.Numerals.{unary_clauses}
use native.Mathlib.Omega.{arith}
use borrow.Author.Tests.{lt-ltb, le-ltb}
use lib.Dec.{lit<}
use lib.ListN.{length, take, length-append}
use Rattle.io.specs.Digits.{last_digits, hex_digit_ascii, IsDigitCount}
use Rattle.closing_line.specs.Decimal.{decimal_within, decimal}
use Rattle.closing_line.specs.Line.{Added, word}

-- a digit's character
glyph_is : (n : ℕ) → hex_digit_ascii (n % 10) ≡ 48 + n % 10
glyph_is n = rw (lt-ltb (n % 10) 10 (omega arith)) refl

-- 20 digits hold every number of 64 bits
pub few_places : (k n : ℕ) → n < 2 ^ 64 → IsDigitCount 10 1 n k → k ≤ 20
few_places k n h f = le_of_suc-le-suc (lt_of_not-le more)
  where
    more : 21 ≤ k → ⊥
    more over =
        let l : 10 ^ (k - 1) ≤ n = f.2 (omega arith) in
        let m : 20 ≤ k - 1 = omega arith in
        let p : 10 ^ 20 ≤ 10 ^ (k - 1) = pow-le-pow_right (lit< tt) m in
        omega arith

-- the fewest digits that hold a number are its decimal ones
pub as_decimal : (places k n : ℕ) → k ≤ places → IsDigitCount 10 1 n k → last_digits 10 k n ≡ decimal_within places n
unfolding decimal_within
as_decimal zero k n h f = absurd (omega arith)
as_decimal (suc places) zero n h f = absurd (omega arith)
as_decimal (suc places) (suc zero) n h f =
    let l : n < 10 = omega (arith, pow-zero 10, pow-suc 10 0, f.1) in
    rw (lt-ltb n 10 l) (ap (λ (x : ℕ). x ∷ []) (glyph_is n))
as_decimal (suc places) (suc (suc k)) n h f =
    let p = pow-suc 10 k in
    let q = pow-suc 10 (suc k) in
    let o : 1 ≤ 10 ^ k = one-le-pow k 10 (lit< tt) in
    let g : 10 ^ k * 10 ≤ n = simp unary_clauses at (f.2 (omega arith)) in
    let l : 10 ≤ n = omega arith in
    let above : IsDigitCount 10 1 (n / 10) (suc k) = (omega arith, omega (arith, f.1), λ m. simp unary_clauses (omega arith)) in
    rw (le-ltb n 10 l)
    (ap₂ (λ (t : List ℕ) (x : ℕ). t ++ x ∷ []) (as_decimal places (suc k) (n / 10) (le_of_suc-le-suc h) above) (glyph_is n))

-- a number's digits, added to a buffer as a word
pub number_added : (x k end : ℕ) (text : List ℕ) {b a : List ℕ} {at n : ℕ} → x < 2 ^ 64 → IsDigitCount 10 1 x k → take k text ≡ last_digits 10 k x
    → k ≡ length (take k text) → Added b at (word (take k text) end) a n → (n ≤ at + 21) × Added b at (word (decimal x) end) a n
number_added x k end text {b} {a} {at} {n} h f e l p =
    let few = few_places k x h f in (
      omega (arith, p.ends, length-append (take k text) (end ∷ [])),
      subst (λ (t : List ℕ). Added b at (word t end) a n) (e ∙ as_decimal 20 k x few f) p,
    )
