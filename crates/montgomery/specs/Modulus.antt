-- A modulus for Montgomery's method with words of 64 bits.
use Rattle.std.specs.Prelude.{◌≡◌, ℕ, ◌+◌, ◌*◌, ◌%◌, ◌^◌, ◌<◌}

-- n leaves a bit of the word free, and mu is - 1 / n modulo 2^64 (so n is odd)
pub record Modulus (n mu : ℕ) : Type 0 where
  pub positive : 0 < n
  pub small : n < 2 ^ 63
  pub negated : (n * mu + 1) % 2 ^ 64 ≡ 0

-- the number below n that stands for y in Montgomery form
abbrev pub montgomery : ℕ → ℕ → ℕ
montgomery n y = 2 ^ 64 * y % n
