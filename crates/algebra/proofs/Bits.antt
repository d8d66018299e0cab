-- The bit length of a number, by the powers of two that it lies between.
-- Assumes nothing.
use mathlib.Core.Path.{◌≡◌, refl, sym, ap, ◌∙◌}
use Prim.Native.Nat.{ℕ, zero, suc, ◌+◌, ◌*◌, ◌-◌, ◌/◌, ◌^◌, ◌≤◌, ◌<◌}
use native.Mathlib.Nat.{pow-suc}
use native.Mathlib.Numerals.{add-one}
use native.Mathlib.Omega.{arith}
use lib.Arith.{digits_div}
use lib.Pow.{pow_pos}
use Rattle.algebra.specs.Bits.{bits_in, bit_length}

-- halving takes one off j
bits_are : (d x j : ℕ) → j < d → 2 ^ j ≤ x → x < 2 ^ suc j → bits_in d x ≡ suc j
unfolding bits_in
bits_are zero x j h a b = absurd (omega arith)
bits_are (suc d) zero j h a b = absurd (omega (arith, pow_pos j))
bits_are (suc d) (suc x) zero h a b = ap suc (none d (suc x / 2) (omega (arith, pow-suc 2 zero)))
  where
    none : (d y : ℕ) → y ≡ 0 → bits_in d y ≡ 0
    none zero y e = refl
    none (suc d) zero e = refl
    none (suc d) (suc y) e = absurd (omega arith)
bits_are (suc d) (suc x) (suc j) h a b =
    ap suc (bits_are d (suc x / 2) j (omega arith) (omega (arith, pow-suc 2 j)) (omega (arith, pow-suc 2 (suc j))))

-- no more than j halvings leave nothing of a number below 2 ^ j
bits_below : (d x j : ℕ) → x < 2 ^ j → bits_in d x ≤ j
unfolding bits_in
bits_below zero x j h = omega arith
bits_below (suc d) zero j h = omega arith
bits_below (suc d) (suc x) zero h = absurd (omega arith)
bits_below (suc d) (suc x) (suc j) h = omega (arith, bits_below d (suc x / 2) j (omega (arith, pow-suc 2 j)))

-- j is below 2 ^ j
below_power : (j : ℕ) → j < 2 ^ j
below_power zero = omega arith
below_power (suc j) = omega (arith, pow-suc 2 j, below_power j)

pub length_is : (x j : ℕ) → 2 ^ j ≤ x → x < 2 ^ (j + 1) → bit_length x ≡ j + 1
unfolding bit_length
length_is x j a b = bits_are x x j (omega (arith, below_power j)) a (rw (add-one j) at b) ∙ sym (add-one j)

pub length_below : (x j : ℕ) → x < 2 ^ j → bit_length x ≤ j
unfolding bit_length
length_below x j h = bits_below x x j h

-- x lies between the powers of two that its length says
between : (d x : ℕ) → x ≤ d → 0 < x → (j : ℕ) × (bits_in d x ≡ suc j) × (2 ^ j ≤ x) × (x < 2 ^ suc j)
unfolding bits_in
between zero x h p = absurd (omega arith)
between (suc d) zero h p = absurd (omega arith)
between (suc d) (suc zero) h p = (0, ap suc (none d), omega arith, omega arith)
  where
    none : (d : ℕ) → bits_in d 0 ≡ 0
    none zero = refl
    none (suc d) = refl
between (suc d) (suc (suc x)) h p =
    let t = between d (suc (suc x) / 2) (omega arith) (omega arith) in
    (suc t.0, ap suc t.1, omega (arith, pow-suc 2 t.0, t.2), omega (arith, pow-suc 2 (suc t.0), t.3))

-- what is above the bits below the top one is 1
pub leading : (x : ℕ) → 0 < x → x / 2 ^ (bit_length x - 1) ≡ 1
unfolding bit_length
leading x p =
    let t = between x x (omega arith) p in
    let at : bits_in x x - 1 ≡ t.0 = omega (arith, t.1) in
    rw at (one t.0 t.2 t.3)
  where
    one : (j : ℕ) → 2 ^ j ≤ x → x < 2 ^ suc j → x / 2 ^ j ≡ 1
    one j a b =
        let rest : 1 * 2 ^ j + (x - 2 ^ j) ≡ x = omega arith in
        let small : x - 2 ^ j < 2 ^ j = omega (arith, pow-suc 2 j) in
        rw rest at (digits_div 1 small)

-- a number is below the power of two that its length says
pub below_length : (x : ℕ) → x < 2 ^ bit_length x
unfolding bit_length bits_in
below_length zero = omega arith
below_length (suc x) = let t = between (suc x) (suc x) (omega arith) (omega arith) in rw t.1 t.3

-- a smaller number has no more bits
pub length_mono : (x y : ℕ) → x ≤ y → bit_length x ≤ bit_length y
length_mono x y h = length_below x (bit_length y) (omega (arith, below_length y))
