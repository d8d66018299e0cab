-- `sheet::lists::test_list` meets its contract: a list of an even length has two bytes for each ticket.
-- Assumes nothing.
use native.Mathlib.Omega.{arith}
use Rattle.sheet.proofs.Form.{list_fits}
use Rattle.sheet.proofs.lists.test_list.Goals as goal

pub invariant_of-pairs : goal.invariant_of-pairs
invariant_of-pairs c = record { even = omega (arith, (list_fits _ _ c.requires).0) }
