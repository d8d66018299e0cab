-- What makes the code's arithmetic on 64-bit words exact: a position in range, and a row whose numbers are odd and small enough.
use Rattle.std.specs.Prelude.{◌≡◌, ℕ, ◌+◌, ◌*◌, ◌%◌, ◌^◌, ◌<◌, ◌≤◌}
use Rattle.series.specs.Series.{Formula, Row, divisor, term_count}
use Rattle.series.specs.declared.terms.Numbers.{Numbers}

-- p is a position of the formula's runs
pub record Position (F : Formula) (p : ℕ) : Type 0 where
  pub low : 1 ≤ p
  pub high : p ≤ F.last

-- every N = m k + j of the row is odd, and below 2 ^ 63 in all runs; 4 n + 128 + l stays small
pub record Fitting (F : Formula) (r : Row) : Type 0 where
  pub m_even : r.m % 2 ≡ 0
  pub j_odd : r.j % 2 ≡ 1
  pub lead_small : r.lead ≤ 130
  pub divisor_small : divisor r (term_count F F.last) < 2 ^ 63

-- every term before `end` is worked in words: the multiples of the step fit, and each N is odd and below 2 ^ 63
pub record Workable (n : Numbers) (end : ℕ) : Type 0 where
  pub end_fits : end < 2 ^ 63
  pub fall_fits : (k : ℕ) → k < end → n.step * k < 2 ^ 63
  pub odd : (k : ℕ) → (n.m * k + n.j) % 2 ≡ 1
  pub small : (k : ℕ) → k < end → n.m * k + n.j < 2 ^ 63
