-- `overlap::all_digits` meets its contract. The loop's invariant: what is left of the string decides.
-- Assumes nothing.
use mathlib.Core.Path.{◌≡◌}
use lib.ListN.{drop}
use Rattle.overlap.specs.Strings.{all_digits}
use Rattle.overlap.proofs.all_digits.Given as goal

abbrev pub invariant-loop-c : goal.invariant-loop-c
invariant-loop-c l = all_digits (drop l.c-index l.s) ≡ all_digits l.s
