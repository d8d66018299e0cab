-- A number of two words: that of the code's struct; with the upper word 0 it is the lower one, and of any two below 2 ^ 128.
-- Assumes nothing.
use Rattle.std.proofs.Common.{◌≡◌, ℕ, ◌^◌, ◌<◌, refl, zero-add}
use lib.Arith.{digits_lt}
use Rattle.words.specs.Words.{joined}
use Rattle.words.specs.declared.Wide.{Wide}

abbrev pub value : Wide → ℕ
value x = joined x.hi x.lo

pub joined_zero : joined 0 0 ≡ 0
unfolding joined
joined_zero = refl

pub joined_low : (lo : ℕ) → joined 0 lo ≡ lo
unfolding joined
joined_low lo = zero-add lo

pub joined_lt : (hi lo : ℕ) → hi < 2 ^ 64 → lo < 2 ^ 64 → joined hi lo < 2 ^ 128
unfolding joined
joined_lt hi lo h l = digits_lt h l
