-- The general fact, for any list of rows.
-- Assumes nothing.
use Rattle.digits.proofs.Settled.{one_outcome}
use Rattle.interval.specs.AnyRows.{AnyRows}
use Rattle.interval.proofs.Settling.{lies_from, shared_digits}

pub any_rows : AnyRows
any_rows R F p K positive rest = record {
  near = lies_from R F p K positive rest;
  digits = shared_digits R F p K positive rest;
  outcome = one_outcome _ _;
}
