-- How the order of two numbers tells whether a sum or a difference modulo M wrapped.
-- Assumes nothing.
use Rattle.std.proofs.Common.{◌≡◌, ℕ, ◌+◌, ◌-◌, ◌%◌, ◌<◌, ◌≤◌, sym, ap, ◌∙◌, le_of_suc-le-suc, mod-lt, mod-eq_of_lt, lt_of_not-le, arith}
use Rattle.algebra.proofs.Cong.{Mod, is-%, less, of_eq, trans, wrapped}

-- a difference that does not wrap
pub sub_exact : (M T b r : ℕ) → T < M → r < M → b ≤ T → (r + b) % M ≡ T → r ≡ T - b
sub_exact M T b r h l k e =
    let back : T - b + b ≡ T = omega arith in
    let same : Mod M (T - b) r = less b (trans (of_eq back) (wrapped M (sym e))) in
    sym (is-% (omega arith) same ∙ mod-eq_of_lt l)

-- a sum that is not below what was added to did not wrap, and one that is did
pub add_exact : (M T a r : ℕ) → a < M → r ≡ (T + a) % M → T ≤ r → r ≡ T + a
add_exact M T a r l e k =
    let turned : a + T ≡ T + a = omega arith in
    let r-in : (T + a) % M < M = mod-lt (T + a) (omega arith) in
    let d = sub_exact M r T a (omega (arith, e, r-in)) l k (ap (λ (n : ℕ). n % M) turned ∙ sym e) in
    omega (arith, d)

pub add_over : (M T a r : ℕ) → r ≡ (T + a) % M → r < T → M ≤ T + a
add_over M T a r e k = le_of_suc-le-suc (lt_of_not-le (λ h. let m = mod-eq_of_lt h in omega (arith, e, m)))
