-- How many tickets are unmarked: they are all of the run less the marked ones, which the bits of a ledger count; each ticket that goes into a
-- plain ledger makes them one less; and none is left where all are marked.
-- Assumes nothing.
use mathlib.Core.Path.{◌≡◌, refl, sym, ap, ◌∙◌}
use mathlib.Core.Bool.{Bool, true, false, cond}
use mathlib.Core.List.{List, [], ◌∷◌, foldl}
use Prim.Native.Nat.{ℕ, ◌+◌, ◌-◌}
use native.Mathlib.Omega.{arith}
use lib.Dec.{eqb}
use lib.ListN.{length}
use Rattle.algebra.specs.Sum.{sum}
use Rattle.algebra.specs.Test.{all_below}
use Rattle.algebra.proofs.Sums.{sum_ext, sum_bump}
use Rattle.run.specs.Run.{Entry, Limits, is_ticket}
use Rattle.run.proofs.Range.{ticket_row, ticket_block, is_ticket_lem}
use Rattle.ledger.specs.Ledger.{View, view_of, blocks_in}
use Rattle.ledger.specs.Marks.{row_marks, marks_from}
use Rattle.ledger.specs.Plain.{Plain, plain_view, admit, including}
use Rattle.ledger.proofs.Counting.{all_counted, none_lacking}
use Rattle.ledger.proofs.Image.{including_here, including_else}
use Rattle.ledger.proofs.Posting.{mark_is_bit}
use Rattle.posting.proofs.Simulation.{Ready}
use Rattle.look.specs.Look.{unmarked_of}
use Rattle.look.specs.AsPosting.{marks_of, AllLessMarks}

-- 1 for a ticket without a mark
abbrev lacking : Bool → ℕ
lacking b = cond b 0 1

module _ (lim : Limits) where
  pub all_less_marks : AllLessMarks lim
  unfolding unmarked_of marks_of
  all_less_marks v = all_counted v.marked lim.rows v.C

  pub none_left : (v : View) → eqb (unmarked_of lim v) 0 ≡ all_below lim.rows (λ row. all_below v.C (λ block. v.marked row block))
  unfolding unmarked_of
  none_left v = none_lacking v.marked lim.rows v.C

  -- ---- tickets go in

  unmarked_admit : (s : Plain) (t : Entry) → is_ticket lim s.C t.row t.block ≡ true → s.tickets t.row t.block ≡ false
      → unmarked_of lim (plain_view s) ≡ unmarked_of lim (plain_view (admit s t)) + 1
  unfolding unmarked_of plain_view admit
  unmarked_admit s t h new =
      let set = s.tickets in
      let more = including t set in
      sum_bump (λ row. sum (λ block. lacking (more row block)) 0 s.C) (λ row. sum (λ block. lacking (set row block)) 0 s.C) lim.rows t.row 1
      (ticket_row lim s.C t.row t.block h)
      (sum_bump (λ block. lacking (more t.row block)) (λ block. lacking (set t.row block)) s.C t.block 1
      (ticket_block lim s.C t.row t.block h)
      (rw (including_here t set, new) refl)
      (λ block ne. ap lacking (sym (including_else t set t.row block (λ q. ne q.1)))))
      (λ row ne. sum_ext _ _ 0 s.C (λ block l u. ap lacking (sym (including_else t set row block (λ q. ne q.0)))))

  pub unmarked_all : (s : Plain) (ts : List Entry) → Ready lim s ts
      → unmarked_of lim (plain_view s) ≡ unmarked_of lim (plain_view (foldl admit s ts)) + length ts
  unmarked_all s [] r = omega arith
  unmarked_all s (t ∷ ts) r =
      let here = unmarked_admit s t r.0 r.1 in
      let rest = unmarked_all (admit s t) ts r.2 in
      omega (arith, here, rest)

  -- ---- the bits of a ledger

  pub by_bits : (s : List ℕ) → marks_from lim s 0 (blocks_in s - 0) lim.rows ≡ marks_of lim (view_of lim s)
  unfolding marks_of view_of row_marks
  by_bits s =
      let z : blocks_in s - 0 ≡ blocks_in s = omega arith in
      ap (λ (n : ℕ). marks_from lim s 0 n lim.rows) z
      ∙ sum_ext _ _ 0 lim.rows (λ row l u. sum_ext _ _ 0 (blocks_in s)
      (λ block k h. ap (λ (b : Bool). cond b 1 0) (sym (mark_is_bit lim s (blocks_in s) row block refl (is_ticket_lem lim (blocks_in s) row block (omega arith) (omega arith))))))
