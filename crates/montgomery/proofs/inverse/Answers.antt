-- `montgomery::inverse` meets its contract: the start is right modulo 2^5, tried at each odd number of 5 bits, and a step squares the modulus.
-- Assumes nothing.
use Rattle.std.proofs.Common.{◌≡◌, ℕ, ◌+◌, ◌*◌, ◌%◌, ◌^◌, Bool, true, eqb, refl, ap, ◌∙◌, arith, eq-eqb, eqb-true}
use lib.Bits.{bit_xor, xor_mod}
use Rattle.algebra.specs.Test.{all_below}
use Rattle.algebra.proofs.Below.{all_at}
use Rattle.algebra.proofs.Booleans.{imp, imp_at}
use Rattle.algebra.proofs.Cong.{Mod, to-%, of-%, rem, wrapped, of_eq, refl_mod, symm, trans, times, down}
use Rattle.algebra.proofs.Newton.{newton}
use Rattle.montgomery.proofs.inverse.Goals as goal

-- (3m) xor 2 inverts m modulo 2^5, if m is odd
right : ℕ → Bool
right m = imp (eqb (m % 2) 1) (eqb (m * bit_xor (3 * m % 32) 2 % 32) 1)

tried : all_below 32 right ≡ true
unfolding all_below right
tried = refl

start : (n t : ℕ) → n % 2 ≡ 1 → t ≡ 3 * n % 2 ^ 64 → Mod 32 (n * bit_xor t 2) 1
unfolding right
start n t o e =
    let m = n % 32 in
    let odd : m % 2 ≡ 1 = omega arith in
    let thrice : t % 32 ≡ 3 * m % 32 = to-% (trans (down 32 (2 ^ 59) (wrapped (2 ^ 64) e)) (times (refl_mod 3) (symm (rem 32 n)))) in
    let small : bit_xor t 2 % 2 ^ 5 ≡ bit_xor (3 * m % 32) 2 = xor_mod t 2 5 ∙ ap (λ x. bit_xor x 2) thrice in
    let one : m * bit_xor (3 * m % 32) 2 % 32 ≡ 1 = eqb-true _ _ (imp_at (eqb (m % 2) 1) _ (all_at 32 right tried m (omega arith)) (eq-eqb (m % 2) 1 odd)) in
    trans (times (symm (rem 32 n)) (trans (symm (rem 32 (bit_xor t 2))) (of_eq small))) (of-% 32 _ 1 one)

-- `refine`, from an inverse modulo m to one modulo m * m
step : (m d n x r : ℕ) → m * m * d ≡ 2 ^ 64 → Mod m (n * x) 1 → (r + x * (n * x)) % 2 ^ 64 ≡ 2 * x % 2 ^ 64 → Mod (m * m) (n * r) 1
step m d n x r e p q = newton n x r p (down (m * m) d (rw e (of-% (2 ^ 64) (r + x * (n * x)) (2 * x) q)))

law : (n t x₁ x₂ x₃ r : ℕ) → n % 2 ≡ 1 → t ≡ 3 * n % 2 ^ 64 →
    (x₁ + bit_xor t 2 * (n * bit_xor t 2)) % 2 ^ 64 ≡ 2 * bit_xor t 2 % 2 ^ 64 →
    (x₂ + x₁ * (n * x₁)) % 2 ^ 64 ≡ 2 * x₁ % 2 ^ 64 → (x₃ + x₂ * (n * x₂)) % 2 ^ 64 ≡ 2 * x₂ % 2 ^ 64 → (r + x₃ * (n * x₃)) % 2 ^ 64 ≡ 2 * x₃ % 2 ^ 64 →
    n * r % 2 ^ 64 ≡ 1
law n t x₁ x₂ x₃ r o e q₁ q₂ q₃ q₄ =
    let p₁ = step (2 ^ 5) (2 ^ 54) n (bit_xor t 2) x₁ refl (start n t o e) q₁ in
    let p₂ = step (2 ^ 10) (2 ^ 44) n x₁ x₂ refl p₁ q₂ in
    let p₃ = step (2 ^ 20) (2 ^ 24) n x₂ x₃ refl p₂ q₃ in
    to-% (step (2 ^ 32) 1 n x₃ r refl (down (2 ^ 32) (2 ^ 8) p₃) q₄)

pub returns : goal.returns
returns c =
    law _ _ _ _ _ _ c.requires c.wrapping_mul-x0.ensures
    c.refine-x1.ensures c.refine-x2.ensures c.refine-x3.ensures c.refine.ensures
