-- Eight terms that follow one another, to be worked side by side.
use Rattle.std.specs.Prelude.{◌≡◌, ℕ, ◌+◌, ◌-◌, ◌*◌, ◌≤◌, List}
use Rattle.algebra.specs.Bits.{bit_length}
use Rattle.words.specs.Words.{joined}
use Rattle.montgomery.specs.declared.Quotient.{Quotient}
use Rattle.lanes.specs.Lanes.{quotient}
use Rattle.series.specs.declared.terms.Numbers.{Numbers}

-- the last of the eight terms from k on has an E of at least 128, and an E - 64 with as many bits as that of the first
pub record Group (n : Numbers) (k : ℕ) : Type 0 where
  pub worked : n.step * (k + 7) + 128 ≤ n.rise
  pub alike : bit_length (n.rise - n.step * k - 64) ≡ bit_length (n.rise - n.step * (k + 7) - 64)

-- the size in every other lane, from `first` on
abbrev pub every_other : List Quotient → ℕ → ℕ → ℕ
every_other q first i = let v = (quotient q (2 * i + first)).value in joined v.hi v.lo
