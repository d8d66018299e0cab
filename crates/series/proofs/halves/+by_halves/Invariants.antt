-- `series::halves::by_halves` ends: the measure is the number of terms, and both halves of two or more have fewer.
-- Assumes nothing.
use Rattle.series.proofs.halves.+by_halves.Given as goal

abbrev pub decreases-by_halves : goal.decreases-by_halves
decreases-by_halves l = l.count
