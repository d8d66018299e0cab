-- Closing by the rule in force beside closing by the rule before it, which charged every term: the interval is nowhere wider than it was, and no
-- ledger loses a digit. Document 02, slip 5.
use Rattle.std.specs.Prelude.{◌≡◌, List, ℕ, ◌≤◌, ℤ, pos, take, ◌≤ℤ◌}
use Rattle.series.specs.Series.{Formula, Side, term_count}
use Rattle.interval.specs.Interval.{is_charged, every_term, charges}
use Rattle.run.specs.Run.{limits_of}
use Rattle.run.specs.Call.{answered, bytes_left}
use Rattle.ledger.specs.Ledger.{view_of, total_in}
use Rattle.closing.specs.Closing.{low_of, high_of, close_by, close_call}

-- what closing a ledger's bytes answered, and left, while every term was charged
abbrev pub answer_before : Formula → List ℕ → List ℕ → ℤ
answer_before F s digits = answered (close_by every_term F (view_of (limits_of F) s) (total_in (limits_of F) s) digits)

abbrev pub bytes_before : Formula → List ℕ → List ℕ → List ℕ
bytes_before F s digits = bytes_left (close_by every_term F (view_of (limits_of F) s) (total_in (limits_of F) s) digits) 0

-- It closes with d digits or more, and the first d of them are those that it closed with before.
pub record Keeps (F : Formula) (s digits : List ℕ) (d : ℕ) : Type 0 where
  pub now : ℕ
  pub no_fewer : d ≤ now
  pub answers : answered (close_call F s digits) ≡ pos now
  pub same : take d (bytes_left (close_call F s digits) 0) ≡ take d (bytes_before F s digits)

pub record NoWider (F : Formula) : Type 0 where
  -- a and b are at most what they were, at every position
  pub counts : (p : ℕ) (side : Side) → charges is_charged F side p (term_count F p) ≤ charges every_term F side p (term_count F p)
  -- so, around every total, low is nowhere lower and high nowhere higher
  pub low : (p total : ℕ) → low_of every_term F p total ≤ℤ low_of is_charged F p total
  pub high : (p total : ℕ) → high_of is_charged F p total ≤ℤ high_of every_term F p total
  -- every ledger that closed with d digits keeps them
  pub keeps : (s digits : List ℕ) (d : ℕ) → answer_before F s digits ≡ pos d → Keeps F s digits d
