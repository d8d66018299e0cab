-- What the names, the rows and the numbers of the code stand for.
use Rattle.std.specs.Prelude.{ℕ}
use Rattle.series.specs.Series.{Formula, Row, row, rise, is_added}
use Rattle.series.specs.Bellard.{bellard}
use Rattle.series.specs.Check.{check}
use Rattle.series.specs.declared.Series.{Series}
use Rattle.series.specs.declared.Series.TheVariants.{Bellard, Check}
use Rattle.series.specs.declared.formula.Row as code
use Rattle.series.specs.declared.terms.Numbers.{Numbers}

-- the formula that a name stands for
abbrev pub formula_of : Series → Formula
formula_of Bellard = bellard
formula_of Check = check

-- the row that a value of the code's struct stands for
abbrev pub row_of : code.Row → Row
row_of r = row r.m r.j r.lead r.added

-- what the terms of a row at position p are worked by
abbrev pub numbers_of : Formula → ℕ → Row → Numbers
numbers_of F p r = record {
  rise = rise p r;
  step = F.step;
  m = r.m;
  j = r.j;
  even = is_added F r 0;
  odd = is_added F r 1;
}
