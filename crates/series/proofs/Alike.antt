-- The terms of a group are alike: none falls further than the last, and E - 64 has as many bits in each as in the first.
-- Assumes nothing.
use Rattle.std.proofs.Common.{◌≡◌, ℕ, ◌+◌, ◌-◌, ◌*◌, ◌<◌, ◌≤◌, mul-le-mul_left, arith}
use Rattle.std.proofs.lemmas.Grind.{common_steps}
use Rattle.algebra.specs.Bits.{bit_length}
use Rattle.algebra.proofs.Bits.{length_mono}
use Rattle.series.specs.Groups.{Group}
use Rattle.series.specs.declared.terms.Numbers.{Numbers}

module _ (n : Numbers) (k j : ℕ) (g : Group n k) (h : j < 8) where
  pub falls : n.step * (k + j) + 128 ≤ n.rise
  falls = grind arith

  pub same_length : bit_length (n.rise - n.step * (k + j) - 64) ≡ bit_length (n.rise - n.step * (k + 0) - 64)
  same_length = grind (arith, common_steps, length_mono, mul-le-mul_left)
