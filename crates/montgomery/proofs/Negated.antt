-- What mu = - 1 / n modulo W is good for: a multiple of n that is the opposite of a given number.
-- Assumes nothing.
use Rattle.std.proofs.Common.{◌≡◌, ℕ, zero, ◌+◌, ◌-◌, ◌*◌, ◌/◌, ◌%◌, ◌<◌, ap, le_of_eq, mul-pos, div-add-mod', arith}
use Rattle.algebra.proofs.Cong.{Mod, of_eq, refl_mod, trans, plus, times}
use Rattle.algebra.proofs.Montgomery.{upper_below}

module _ (W n μ : ℕ) (u : (n * μ + 1) % W ≡ 0) where
  -- W divides n * mu + 1, so it has an inverse modulo n
  pub unit : (i : ℕ) × Mod n (W * i) 1
  unit = ((n * μ + 1) / W, record { k = 0; j = μ; eq = omega (arith, div-add-mod' (n * μ + 1) W) })

  negated : Mod W (n * μ + 1) 0
  negated = record { k = 0; j = (n * μ + 1) / W; eq = omega (arith, div-add-mod' (n * μ + 1) W) }

  -- with q = a * mu, a + q * n is a multiple of W
  pub opposite : (a q : ℕ) → Mod W q (a * μ) → Mod W (a + q * n) 0
  opposite a q e =
      trans (plus (refl_mod a) (times e (refl_mod n)))
      (trans (of_eq {b = a * (n * μ + 1)} (omega arith)) (trans (times (refl_mod a) negated) (of_eq (omega arith))))

  -- n has an inverse modulo W * W: with n * mu = k * W - 1, n * mu * (k * W + 1) is -1
  pub wide_unit : zero < W → (i : ℕ) × Mod (W * W) (n * i) 1
  wide_unit h =
      let k = (n * μ + 1) / W in
      let v = W * W - 1 in
      let p = mul-pos h h in
      let next : v + 1 ≡ W * W = omega arith in
      let whole : k * W ≡ n * μ + 1 = omega (arith, div-add-mod' (n * μ + 1) W) in
      (μ * (k * W + 1) * v, record { k = 1; j = k * k * v; eq = by k v next whole })
    where
      by : (k v : ℕ) → v + 1 ≡ W * W → k * W ≡ n * μ + 1 → n * (μ * (k * W + 1) * v) + 1 * (W * W) ≡ 1 + k * k * v * (W * W)
      by k v next whole = omega (arith, ap (λ t. t * ((k * W + 1) * v)) whole)

-- the upper word of a product with n is below n
pub upper : (W n q : ℕ) → q < W → 0 < n → q * n / W < n
upper W n q a b = upper_below W n (q * n / W) (q * n % W) q a b (le_of_eq (div-add-mod' (q * n) W))
