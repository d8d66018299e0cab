-- The products of two words by their halves: each fits a word, and the columns with their carries make up the whole product.
-- Assumes nothing.
use Rattle.std.proofs.Common.{◌≡◌, ℕ, zero, ◌+◌, ◌*◌, ◌/◌, ◌%◌, ◌^◌, ◌<◌, ◌≤◌, sym, ap, ◌∙◌, ap₂, mod-lt, mul-le-mul, div-add-mod', arith}
use lib.Arith.{digits_lt, digits_div}
use Rattle.algebra.proofs.Cong.{Mod, rem, refl_mod, plus, scaled, trans, is-%}

-- each product of two halves is at most (2^32 - 1)^2
pub record Halves (a b : ℕ) : Type 0 where
  pub low : a % 2 ^ 32 * (b % 2 ^ 32) ≤ 0xffff_ffff * 0xffff_ffff
  pub left : a / 2 ^ 32 * (b % 2 ^ 32) ≤ 0xffff_ffff * 0xffff_ffff
  pub right : a % 2 ^ 32 * (b / 2 ^ 32) ≤ 0xffff_ffff * 0xffff_ffff
  pub high : a / 2 ^ 32 * (b / 2 ^ 32) ≤ 0xffff_ffff * 0xffff_ffff

product : {x y : ℕ} → x ≤ 0xffff_ffff → y ≤ 0xffff_ffff → x * y ≤ 0xffff_ffff * 0xffff_ffff
product h l = mul-le-mul h l

pub halves : (a b : ℕ) → a < 2 ^ 64 → b < 2 ^ 64 → Halves a b
halves a b h l =
    record {
      low = product (omega arith) (omega arith);
      left = product (omega arith) (omega arith);
      right = product (omega arith) (omega arith);
      high = product (omega arith) (omega arith);
    }

module _ (P a b : ℕ) where
  -- the column of the cross product with a's upper half, and the next one
  unfoldable pub middle : ℕ
  middle = a / P * (b % P) + a % P * (b % P) / P

  unfoldable pub next : ℕ
  unfolding middle
  next = middle % P + a % P * (b / P)

  columns : (a / P * (b / P) + middle / P + next / P) * (P * P) + (next % P * P + a % P * (b % P) % P) ≡ a * b
  unfolding next
  columns =
      omega (arith, ap₂ ◌*◌ (div-add-mod' a P) (div-add-mod' b P), div-add-mod' (a % P * (b % P)) P, ap (λ x. x * P) (div-add-mod' middle P), ap (λ x. x * P) (div-add-mod' next P))

  pub upper : zero < P → a / P * (b / P) + middle / P + next / P ≡ a * b / (P * P)
  upper h =
      sym (digits_div (a / P * (b / P) + middle / P + next / P) (digits_lt (mod-lt next h) (mod-lt (a % P * (b % P)) h)))
      ∙ ap (λ x. x / (P * P)) columns

  -- the lower two columns, with the cross products modulo P
  pub lower : zero < P →
      (a % P * (b % P) / P + a / P * (b % P) % P + a % P * (b / P) % P) % P * P + a % P * (b % P) % P ≡ a * b % (P * P)
  lower h =
      let w = a % P * (b % P) in
      let c = w / P + a / P * (b % P) % P + a % P * (b / P) % P in
      let cross : Mod P (c % P) (w / P + a / P * (b % P) + a % P * (b / P)) =
      trans (rem P c) (plus (plus (refl_mod (w / P)) (rem P (a / P * (b % P)))) (rem P (a % P * (b / P)))) in
      let whole : Mod (P * P) ((w / P + a / P * (b % P) + a % P * (b / P)) * P + w % P) (a * b) =
      record { k = a / P * (b / P); j = 0; eq = omega (arith, ap₂ ◌*◌ (div-add-mod' a P) (div-add-mod' b P), div-add-mod' w P) } in
      is-% (digits_lt (mod-lt c h) (mod-lt w h)) (trans (plus (scaled P cross) (refl_mod (w % P))) whole)
