-- `overlap::Laid::digit_at` meets its contract: the position is one that the string holds.
-- Assumes nothing.
use mathlib.Core.Path.{refl}
use native.Mathlib.Omega.{arith}
use Rattle.overlap.specs.Strings.{digit_at}
use Rattle.overlap.proofs.Strings.{held}
use Rattle.overlap.proofs.Laid.digit_at.Goals as goal

pub overflow_sub-result : goal.overflow_sub-result
overflow_sub-result c = let h = held _ _ c.requires in omega arith

pub bounds-self-n : goal.bounds-self-n
bounds-self-n c = let h = held _ _ c.requires in omega arith

pub returns : goal.returns
unfolding digit_at
returns c = refl
