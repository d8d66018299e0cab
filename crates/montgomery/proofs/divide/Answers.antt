-- `montgomery::divide` meets its contract: q * n + r is a multiple of 2^128, and so is (t / n) * n + r, so q is t / n modulo 2^128, n having an inverse.
-- Assumes nothing.
use Rattle.std.proofs.Common.{◌≡◌, ℕ, zero, ◌+◌, ◌*◌, ◌/◌, ◌%◌, ◌^◌, ◌<◌, sym, ap, ◌∙◌, mod-lt, mul_comm, mul-pos, div-add-mod', arith, pow_pos, rules}
use lib.Arith.{digits_lt}
use Rattle.words.specs.Words.{joined}
use Rattle.algebra.proofs.Cong.{Mod, to-%, of-%, is-%, rem, wrapped, of_eq, refl_mod, symm, trans, plus, less, scaled, cancel}
use Rattle.montgomery.specs.Modulus.{Modulus}
use Rattle.montgomery.proofs.Negated.{opposite, wide_unit}
use Rattle.montgomery.proofs.divide.Goals as goal

module _ (W n μ : ℕ) (p : zero < W) (u : (n * μ + 1) % W ≡ 0) where
  -- q is t / n, where q * n + r is a multiple of W * W as t is
  quotient : (r q t : ℕ) → q < W * W → Mod (W * W) (q * n + r) 0 → t % (W * W) ≡ 0 % (W * W) → t % n ≡ r → q ≡ t / n % (W * W)
  quotient r q t l m z e =
      let i = wide_unit W n μ u p in
      let same : t / n * n + r ≡ t = ap (λ x. t / n * n + x) (sym e) ∙ div-add-mod' t n in
      is-% l (cancel n i.0 i.1 (less r (trans m (symm (trans (of_eq same) (of-% (W * W) t 0 z))))))

  -- remainder 0 gives 0
  nought : (r t : ℕ) → r ≡ 0 → t % (W * W) ≡ 0 % (W * W) → t % n ≡ r → 0 ≡ t / n % (W * W)
  nought r t e z g = quotient r 0 t (mul-pos p p) (of_eq (omega arith)) z g

  -- the lower words, l of lo * n and r, carry 1 into the upper ones, and those are opposite too
  whole : (r lo h l hi : ℕ) → h * W + l ≡ n * lo → l + r ≡ W → Mod W hi ((h + 1) * μ) → Mod (W * W) ((hi * W + lo) * n + r) 0
  whole r lo h l hi e f m =
      trans (of_eq {b = (h + 1 + hi * n) * W} (omega arith)) (trans (scaled W (opposite W n μ u (h + 1) hi m)) (of_eq (omega arith)))

-- two words that are opposite and not 0 add up to 2^64
carry : (l r : ℕ) → l < 2 ^ 64 → r < 2 ^ 64 → (r ≡ 0 → ⊥) → (r + l) % 2 ^ 64 ≡ 0 → l + r ≡ 2 ^ 64
carry l r a b d e = omega arith

law : (n μ r lo h hi : ℕ) → Modulus n μ → (r ≡ 0 → ⊥) → r < 2 ^ 64 → lo ≡ r * μ % 2 ^ 64 → h ≡ n * lo / 2 ^ 64
    → hi ≡ (h + 1) * μ % 2 ^ 64 → hi < 2 ^ 64 → lo < 2 ^ 64 → (t : ℕ) → t % 2 ^ 128 ≡ 0 → t % n ≡ r → joined hi lo ≡ t / n % 2 ^ 128
unfolding joined
law n μ r lo h hi m d l q e f a b t z g =
    quotient (2 ^ 64) n μ (pow_pos 64) m.negated r (hi * 2 ^ 64 + lo) t (digits_lt a b)
    (whole (2 ^ 64) n μ (pow_pos 64) m.negated r lo h (n * lo % 2 ^ 64) hi product sum (wrapped (2 ^ 64) f)) z g
  where
    product : h * 2 ^ 64 + n * lo % 2 ^ 64 ≡ n * lo
    product = ap (λ x. x * 2 ^ 64 + n * lo % 2 ^ 64) e ∙ div-add-mod' (n * lo) (2 ^ 64)

    both : (r + n * lo % 2 ^ 64) % 2 ^ 64 ≡ 0
    both =
        to-% {b = 0}
        (trans (plus (refl_mod r) (trans (rem (2 ^ 64) (n * lo)) (of_eq (mul_comm n lo)))) (opposite (2 ^ 64) n μ m.negated r lo (wrapped (2 ^ 64) q)))

    sum : n * lo % 2 ^ 64 + r ≡ 2 ^ 64
    sum = carry (n * lo % 2 ^ 64) r (mod-lt (n * lo) (pow_pos 64)) l d both

none : (n μ r : ℕ) → Modulus n μ → r ≡ 0 → (t : ℕ) → t % 2 ^ 128 ≡ 0 → t % n ≡ r → joined 0 0 ≡ t / n % 2 ^ 128
unfolding joined
none n μ r m e t z g = nought (2 ^ 64) n μ (pow_pos 64) m.negated r t e z g

pub returns-then-r-eq0 : goal.returns-then-r-eq0
returns-then-r-eq0 c = none _ _ _ c.args.m.valid c.if-r-eq0.true

pub returns : goal.returns
returns c =
    let h : (c.args.r.0 < 2 ^ 64) × (c.wrapping_mul.result < 2 ^ 64) × (c.wrapping_mul-lo.result < 2 ^ 64) = search rules in
    law _ _ _ _ _ _ c.args.m.valid c.if-r-eq0.false h.0 c.wrapping_mul-lo.ensures c.mul_high.ensures c.wrapping_mul.ensures h.1 h.2
