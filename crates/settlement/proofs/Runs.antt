-- All that is promised of runs, for any formula that meets what is asked, and so for Bellard's runs and for check runs; and of digits.
-- Assumes nothing.
use native.Mathlib.Omega.{arith}
use Rattle.series.specs.Names.{formula_of}
use Rattle.series.specs.declared.Series.{Series}
use Rattle.series.specs.declared.Series.TheVariants.{Bellard, Check}
use Rattle.series.proofs.FewRows.{few_rows, near_positions}
use Rattle.interval.proofs.Denominator.{whole_exists}
use Rattle.interval.proofs.Premises.{positive, rest}
use Rattle.standing.proofs.Moving.{standings}
use Rattle.overlap.proofs.Overlaps.{overlaps}
use Rattle.settlement.specs.Runs.{Asked, EveryFormula, Runs}
use Rattle.settlement.specs.RoundTrip.{Fits}
use Rattle.settlement.proofs.Refused.{demand1}
use Rattle.settlement.proofs.Agreement.{demand2}
use Rattle.settlement.proofs.Theorem.{demand3}
use Rattle.settlement.proofs.Facts.{facts}
use Rattle.settlement.proofs.Looks.{looks_hold}
use Rattle.settlement.proofs.Books.{books_hold}
use Rattle.settlement.proofs.Squarings.{squarings_hold, countable}
use Rattle.settlement.proofs.OneTotal.{as_before}
use Rattle.settlement.proofs.EveryTerm.{no_wider}
use Rattle.settlement.proofs.Filler.{filled_exists}

pub every_formula : EveryFormula
every_formula F asked = record {
  demand1 = demand1 F;
  demand2 = demand2 F asked.fits;
  demand3 = demand3 F asked.fits.near asked.positive asked.rest;
  facts = facts F asked.fits.near;
  looks = looks_hold F asked.fits.near;
  books = books_hold F asked.fits.near asked.positive asked.rest;
  standings = standings F asked.fits.few asked.fits.near;
  squarings = squarings_hold F asked.fits.near;
  as_before = as_before F asked.fits.near;
  no_wider = no_wider F;
  filled = λ p C. filled_exists F p C;
  whole = λ p L. whole_exists F p L asked.positive;
}

fits : (f : Series) → Fits (formula_of f)
fits f = let h = few_rows f in record { few = omega (arith, h); near = near_positions f }

-- what is asked of a formula, by the name that the code has for it
pub asked : (f : Series) → Asked (formula_of f)
asked f = record { fits = fits f; positive = positive f; rest = λ p at. rest f p }

pub runs : Runs
runs = record {
  bellard_asked = asked Bellard;
  check_asked = asked Check;
  bellard_runs = every_formula _ (asked Bellard);
  check_runs = every_formula _ (asked Check);
  bellard_squarings = (every_formula _ (asked Bellard)).squarings (countable Bellard);
  check_squarings = (every_formula _ (asked Check)).squarings (countable Check);
  overlaps = overlaps;
}
