-- The facts about every run, for any formula whose positions fit 8 bytes.
-- Assumes nothing.
use mathlib.Core.Path.{◌≡◌, ap}
use mathlib.Core.Bool.{Bool, false, not}
use mathlib.Core.Logic.{◌⊎◌, inl, inr, ⊎_elim}
use mathlib.Core.List.{List, ◌∷◌}
use Prim.Native.Nat.{◌^◌, ◌<◌}
use Rattle.series.specs.Series.{Formula}
use Rattle.run.specs.Refusal.{Test, ◌⇐◌}
use Rattle.run.specs.Run.{limits_of}
use Rattle.run.proofs.Smallest.{here, later}
use Rattle.run.proofs.Calls.{by_smallest}
use Rattle.sheet.specs.Calls.{write_call, read_call}
use Rattle.sheet.proofs.Many.{many_refused, many_listed}
use Rattle.posting.specs.Calls.{sheet_post_call}
use Rattle.posting.proofs.Singles.{sheet_as_singles}
use Rattle.booking.specs.Calls.{book_sheet_post_call}
use Rattle.look.specs.Look.{look_call}
use Rattle.calls.specs.Request.{call_of}
use Rattle.settlement.proofs.Halves.{halves_make_whole}
use Rattle.settlement.specs.Facts.{ThreeOrFour, TooMany, Facts}

-- in a call's list the conditions of 3 and 4 stand third and fourth
three_or_four : (t u : Test) (b c : Bool) (ts : List Test) → (b ≡ false) ⊎ (c ≡ false) → ThreeOrFour (t ∷ u ∷ (3 ⇐ not b) ∷ (4 ⇐ not c) ∷ ts)
three_or_four t u b c ts h =
    ⊎_elim (λ e. inl (later (later (here (3 ⇐ not b) _ (ap not e))))) (λ e. inr (later (later (later (here (4 ⇐ not c) ts (ap not e)))))) h

too_many : (F : Formula) → TooMany F
unfolding write_call read_call sheet_post_call book_sheet_post_call look_call
too_many F = record {
  written = λ p C list out h. three_or_four _ _ _ _ _ (many_listed F (limits_of F) p C list h);
  read = λ s list sums h. three_or_four _ _ _ _ _ (many_refused (limits_of F) s h);
  posted = λ ledger s h. three_or_four _ _ _ _ _ (many_refused (limits_of F) s h);
  posted_by_book = λ ledger book s h. three_or_four _ _ _ _ _ (many_refused (limits_of F) s h);
  looked_at = λ ledger s total h. three_or_four _ _ _ _ _ (many_refused (limits_of F) s h);
}

pub facts : (F : Formula) → F.last < 2 ^ 64 → Facts F
facts F fits = record {
  smallest = λ q. by_smallest (call_of F q);
  one_by_one = sheet_as_singles (limits_of F) fits;
  too_many = too_many F;
  halves = halves_make_whole F;
}
