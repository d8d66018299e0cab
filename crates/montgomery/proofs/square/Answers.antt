-- `montgomery::square` meets its contract: the lower words of x * x and q * n cancel, so the upper words with the carry are their whole sum over 2^64.
-- Assumes nothing.
use Rattle.std.proofs.Common.{◌≡◌, ℕ, ◌+◌, ◌*◌, ◌/◌, ◌%◌, ◌^◌, ◌<◌, ◌≤◌, Bool, true, false, not, eqb, refl, ap, ◌∙◌, le_trans, le_of_eq, le_of_lt, mod-lt, mul-le-mul_left, div-add-mod', arith, rules, eqb-true}
use borrow.Author.Tests.{eqb-false, not-true, not-false}
use mir.Val.{bool_byte}
use Rattle.algebra.proofs.Cong.{Mod, to-%, rem, wrapped, refl_mod, trans, times, plus}
use Rattle.algebra.proofs.Montgomery.{upper_below}
use Rattle.montgomery.specs.Modulus.{Modulus}
use Rattle.montgomery.proofs.Negated.{opposite, upper}
use Rattle.montgomery.proofs.Reducing.{reduced}
use Rattle.montgomery.proofs.square.Goals as goal

-- whether the lower words carry
abbrev bit : ℕ → Bool
bit lo = not (eqb lo 0)

-- two words that are opposite add up to 0, if one is 0, and else to 2^64
carry : (lo l : ℕ) (t : Bool) → bit lo ≡ t → lo < 2 ^ 64 → l < 2 ^ 64 → (lo + l) % 2 ^ 64 ≡ 0 → lo + l ≡ bool_byte t * 2 ^ 64
carry lo l true e a b h = let p = eqb-false lo 0 (not-true (eqb lo 0) e) in omega (arith, p)
carry lo l false e a b h = let p = eqb-true lo 0 (not-false (eqb lo 0) e) in omega (arith, p)

-- the upper word of x * x, with the carry
first : (x n hi : ℕ) (t : Bool) → x < n → n < 2 ^ 63 → hi ≡ x * x / 2 ^ 64 → hi + bool_byte t ≤ n
first x n hi t h l e = each t
  where
    below : hi < n
    below = upper_below (2 ^ 64) n hi (x * x % 2 ^ 64) x (omega arith) (omega arith)
        (le_trans (le_of_eq (ap (λ y. y * 2 ^ 64 + x * x % 2 ^ 64) e ∙ div-add-mod' (x * x) (2 ^ 64))) (mul-le-mul_left x (le_of_lt h)))

    each : (t : Bool) → hi + bool_byte t ≤ n
    each true = omega (arith, below)
    each false = omega (arith, below)

-- with the upper word of q * n
both : (x n q hi h : ℕ) (t : Bool) → x < n → n < 2 ^ 63 → q < 2 ^ 64 → hi ≡ x * x / 2 ^ 64 → h ≡ q * n / 2 ^ 64 → hi + bool_byte t + h < 2 * n
both x n q hi h t l s k e f = omega (arith, first x n hi t l s e, second)
  where
    second : h < n
    second = rw f (upper (2 ^ 64) n q k (omega arith))

law : (x n μ lo hi q h r : ℕ) (t : Bool) → bit lo ≡ t → Modulus n μ → lo ≡ x * x % 2 ^ 64 → hi ≡ x * x / 2 ^ 64
    → q ≡ lo * μ % 2 ^ 64 → h ≡ q * n / 2 ^ 64 → r ≡ (hi + bool_byte t + h) % n → (r < n) × (r * 2 ^ 64 % n ≡ x * x % n)
law x n μ lo hi q h r t et m elo ehi eq eh er = (rw er (mod-lt _ m.positive), to-% (trans (times (wrapped n er) (refl_mod (2 ^ 64))) whole))
  where
    cancel : (lo + q * n % 2 ^ 64) % 2 ^ 64 ≡ 0
    cancel = to-% {b = 0} (trans (plus (refl_mod lo) (rem (2 ^ 64) (q * n))) (opposite (2 ^ 64) n μ m.negated lo q (wrapped (2 ^ 64) eq)))

    sum : lo + q * n % 2 ^ 64 ≡ bool_byte t * 2 ^ 64
    sum = carry lo (q * n % 2 ^ 64) t et (omega arith) (omega arith) cancel

    whole : Mod n ((hi + bool_byte t + h) * 2 ^ 64) (x * x)
    whole = record { k = 0; j = q; eq = omega (arith, sum, div-add-mod' (x * x) (2 ^ 64), div-add-mod' (q * n) (2 ^ 64)) }

pub returns : goal.returns
returns c =
    let m = c.args.m.valid.small in
    let k : (c.wrapping_mul-q.result < 2 ^ 64) × (c.wrapping_sub.result < 2 ^ 64) = search rules in
    law c.args.x.0 c.args.m.n c.args.m.mu _ _ _ _ _ _ refl c.args.m.valid
    c.wrapping_mul-lo.ensures c.mul_high-hi.ensures c.wrapping_mul-q.ensures c.mul_high.ensures
    (reduced _ _ _ (both _ _ _ _ _ (bit c.wrapping_mul-lo.result) c.requires m k.0 c.mul_high-hi.ensures c.mul_high.ensures) m k.1 c.wrapping_sub.ensures _ c.smaller.ensures)
