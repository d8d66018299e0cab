-- Lines that documents 01 and 02 give, and the longest position in decimal.
use Rattle.std.specs.Prelude.{◌≡◌, List, [], ◌∷◌, ◌++◌, ℕ, ◌^◌, ◌<◌, length, replicate}
use Rattle.series.specs.Series.{modulus}
use Rattle.series.specs.Bellard.{bellard}
use Rattle.run.specs.Run.{limits_of}
use Rattle.ledger.specs.Ledger.{total_of}
use Rattle.ledger.specs.Plain.{full_ledger}
use Rattle.closing_line.specs.Decimal.{decimal}
use Rattle.closing_line.specs.Line.{printed_line}

-- "refused 1"
abbrev pub refused_one : List ℕ
refused_one = 114 ∷ 101 ∷ 102 ∷ 117 ∷ 115 ∷ 101 ∷ 100 ∷ 32 ∷ 49 ∷ 10 ∷ []

pub record Figures : Type 0 where
  -- 1 30 000000000000000000000000000000: p = 1, C = 1, all marked, with sums of the rows, any at all, that have total 50
  pub fifty : (sums : ℕ → ℕ) → ((row : ℕ) → sums row < modulus) → total_of (limits_of bellard) sums ≡ 50
      → printed_line bellard (full_ledger (limits_of bellard) sums) ≡ 49 ∷ 32 ∷ 51 ∷ 48 ∷ 32 ∷ replicate 30 48 ++ 10 ∷ []
  -- refused 9: the same with total 48
  pub forty_eight : (sums : ℕ → ℕ) → ((row : ℕ) → sums row < modulus) → total_of (limits_of bellard) sums ≡ 48
      → printed_line bellard (full_ledger (limits_of bellard) sums) ≡ 114 ∷ 101 ∷ 102 ∷ 117 ∷ 115 ∷ 101 ∷ 100 ∷ 32 ∷ 57 ∷ 10 ∷ []
  pub no_byte : printed_line bellard [] ≡ refused_one
  -- a ledger of 256 bytes, as it was with one total
  pub old_size : (s : List ℕ) → length s ≡ 256 → printed_line bellard s ≡ refused_one
  -- 1152921504606846976
  pub last_position : decimal (2 ^ 60) ≡ 49 ∷ 49 ∷ 53 ∷ 50 ∷ 57 ∷ 50 ∷ 49 ∷ 53 ∷ 48 ∷ 52 ∷ 54 ∷ 48 ∷ 54 ∷ 56 ∷ 52 ∷ 54 ∷ 57 ∷ 55 ∷ 54 ∷ []
