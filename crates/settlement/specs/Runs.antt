-- All that is promised of the runs of a formula, in one statement for every formula that meets what is asked of it; that Bellard's runs
-- and check runs are two instances of it; and what is promised of digits, which are of no formula. Documents 01 and 02, slips 4, 5, 7, 8, 9 and 10.
use Rattle.std.specs.Prelude.{List, ℕ, ◌<◌}
use Rattle.series.specs.Series.{Formula, term_count}
use Rattle.series.specs.Bellard.{bellard}
use Rattle.series.specs.Check.{check}
use Rattle.series.specs.Fitting.{Position}
use Rattle.interval.specs.Exact.{MakesWhole}
use Rattle.interval.specs.Interval.{is_charged, Positive, RestBelowUnit}
use Rattle.posting.specs.Posts.{Post}
use Rattle.standing.specs.Moving.{Standings}
use Rattle.overlap.specs.Overlaps.{Overlaps}
use Rattle.settlement.specs.Refused.{Demand1}
use Rattle.settlement.specs.Agreement.{Demand2}
use Rattle.settlement.specs.Settlement.{Filled, Demand3}
use Rattle.settlement.specs.OneTotal.{AsBefore}
use Rattle.settlement.specs.EveryTerm.{NoWider}
use Rattle.settlement.specs.Facts.{Facts}
use Rattle.settlement.specs.Looks.{Looks}
use Rattle.settlement.specs.Books.{Books}
use Rattle.settlement.specs.Squarings.{Countable, Squarings}
use Rattle.settlement.specs.RoundTrip.{Fits}

-- What is asked: rows fit a byte and positions 8 bytes, every N is at least 1, and at every position of a run the exact terms that are not
-- charged, together with all from K on, at every length add up to less than one unit on each side.
pub record Asked (F : Formula) : Type 0 where
  pub fits : Fits F
  pub positive : Positive F
  pub rest : (p : ℕ) → Position F p → RestBelowUnit is_charged F p (term_count F p)

-- What is promised: the three demands; the smallest number that applies, a sheet as its tickets one by one, too many tickets refused by 3 or
-- 4, the halves of a ticket; looks that equal posts onto a copy; ledgers with a book, from which tickets are withdrawn, and the sheet of all that
-- stands in them; squarings handed back and quoted, where E falls and stays short; digits as from a ledger with one total; no digit lost since every term was charged; and that what demand 3
-- supposes can be had.
pub record Promised (F : Formula) : Type 0 where
  pub demand1 : Demand1 F
  pub demand2 : Demand2 F
  pub demand3 : Demand3 F
  pub facts : Facts F
  pub looks : Looks F
  pub books : Books F
  pub standings : Standings F
  pub squarings : Countable F → Squarings F
  pub as_before : AsBefore F
  pub no_wider : NoWider F
  -- a list of posts that fills the run, and a D above 0 that makes the exact terms whole, at every length
  pub filled : (p C : ℕ) → (posts : List Post) × Filled F p C posts
  pub whole : (p L : ℕ) → (D : ℕ) × (0 < D) × MakesWhole F p L D

-- for any list of rows
abbrev pub EveryFormula : Type 0
EveryFormula = (F : Formula) → Asked F → Promised F

-- and for the two of the engine, with two strings of digits laid over each other
pub record Runs : Type 0 where
  pub bellard_asked : Asked bellard
  pub check_asked : Asked check
  pub bellard_runs : Promised bellard
  pub check_runs : Promised check
  pub bellard_squarings : Squarings bellard
  pub check_squarings : Squarings check
  pub overlaps : Overlaps
