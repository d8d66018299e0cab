-- The squarings that terms take: of one term, of a range term by term, and of the same range by bit lengths. Document 02, slip 7.
use Rattle.std.specs.Prelude.{◌≡◌, ℕ, ◌+◌, ◌-◌, ◌*◌, ◌/◌, ◌^◌, ◌<◌, ◌≤◌, min, max, cond, nat_le}
use Rattle.algebra.specs.Bits.{bit_length}
use Rattle.algebra.specs.Sum.{sum}
use Rattle.series.specs.Series.{Formula, Row, rise, fall}

-- of term k: one less than the bit length of E - 64 if E is at least 128, else none
unfoldable pub squarings : Formula → ℕ → Row → ℕ → ℕ
squarings F p r k = cond (nat_le (fall F k + 128) (rise p r)) (bit_length (rise p r - fall F k - 64) - 1) 0

-- of `count` terms of a row from `first` on
unfoldable pub range_squarings : Formula → ℕ → Row → ℕ → ℕ → ℕ
range_squarings F p r first count = sum (squarings F p r) first count

-- ---- by bit lengths: the terms of one bit length follow one another, since E falls by one step from each term to the next

-- how many terms of a row, from term 0 on, have an E of at least `least`
unfoldable pub reaching : Formula → ℕ → Row → ℕ → ℕ
reaching F p r least = cond (nat_le least (rise p r)) ((rise p r - least) / F.step + 1) 0

-- of the terms from `first` up to, not including, `end`, those with an E - 64 of at least 2 ^ b are before this one
unfoldable pub cut_at : Formula → ℕ → Row → ℕ → ℕ → ℕ → ℕ
cut_at F p r first end b = min (max first (reaching F p r (64 + 2 ^ b))) end

-- how many of them have an E - 64 of bit length b + 1
unfoldable pub of_length : Formula → ℕ → Row → ℕ → ℕ → ℕ → ℕ
of_length F p r first end b = cut_at F p r first end b - cut_at F p r first end (b + 1)

-- b squarings for each of these; an E of 128 has b = 6, and none of a run has b above 62
unfoldable pub by_lengths : Formula → ℕ → Row → ℕ → ℕ → ℕ
by_lengths F p r first end = sum (λ b. b * of_length F p r first end b) 6 57

-- no E - 64 has more than 63 bits
abbrev pub Short : ℕ → Row → Type 0
Short p r = rise p r < 64 + 2 ^ 63

-- The law, for every formula in which E falls, every row and every range, where no E - 64 has more than 63 bits: the two sums are the same, and no
-- term takes more than 62.
pub record SameSquarings (F : Formula) (p : ℕ) (r : Row) : Type 0 where
  pub by_lengths : (first end : ℕ) → first ≤ end → by_lengths F p r first end ≡ range_squarings F p r first (end - first)
  pub at_most : (first count : ℕ) → range_squarings F p r first count ≤ 62 * count

abbrev pub SquaringsAgree : Type 0
SquaringsAgree = (F : Formula) (p : ℕ) (r : Row) → 0 < F.step → Short p r → SameSquarings F p r
