-- `booking::keep_all` meets its contract: after i turns the sums of the first i tickets are kept.
-- Assumes nothing.
use mathlib.Core.Path.{◌≡◌}
use mathlib.Core.List.{foldl}
use Rattle.sheet.specs.Sheet.{entries_from}
use Rattle.book.specs.Book.{keep_entry}
use Rattle.booking.proofs.keep_all.Given as goal

abbrev pub invariant-loop-i : goal.invariant-loop-i
invariant-loop-i l = l.book ≡ foldl keep_entry l.initial.book (entries_from l.s 0 l.i)
