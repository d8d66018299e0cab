-- What is asked of a sheet, of a list and by the writer: what is known where it is passed.
-- Assumes nothing.
use mathlib.Core.Path.{◌≡◌, refl}
use mathlib.Core.Bool.{true, ◌&&◌}
use mathlib.Core.List.{List, [], ◌++◌}
use Prim.Native.Nat.{ℕ, ◌+◌, ◌*◌, ◌%◌, ◌≤◌, ◌/◌}
use borrow.Author.Tests.{eqb-true, eq-eqb, leb-true, le-leb}
use lib.Dec.{eqb, leb}
use lib.ListN.{length, get_or}
use Rattle.algebra.specs.Test.{all_below}
use Rattle.algebra.proofs.Booleans.{and_left, and_right}
use Rattle.words.specs.Bytes.{field}
use Rattle.series.specs.Series.{Formula}
use Rattle.run.specs.Refusal.{Test, refusal}
use Rattle.run.specs.Run.{Limits, limits_of, in_range}
use Rattle.run.specs.Call.{refused_by}
use Rattle.run.proofs.Testing.{passed}
use Rattle.sheet.specs.Sheet.{sheet_length, sheet_most, list_most, sheet_pos, sheet_blocks, sheet_count, entries, all_tickets, ascending, well_formed, listed}
use Rattle.sheet.specs.Tests.{sheet_sized, of_sheet, list_sized, of_list}
use Rattle.sheet.specs.Calls.{write_tests, write_call}

-- ---- sizes

pub sheet_fits : (lim : Limits) (s : List ℕ) → sheet_sized lim s ≡ true → (16 ≤ length s) × (length s ≤ sheet_most lim)
unfolding sheet_sized
sheet_fits lim s e = (leb-true _ _ (and_left (leb 16 (length s)) _ e), leb-true _ _ (and_right (leb 16 (length s)) _ e))

pub list_fits : (lim : Limits) (list : List ℕ) → list_sized lim list ≡ true → (length list % 2 ≡ 0) × (length list ≤ list_most lim)
unfolding list_sized
list_fits lim list e = (eqb-true _ _ (and_left (eqb (length list % 2) 0) _ e), leb-true _ _ (and_right (eqb (length list % 2) 0) _ e))

-- ---- the form of a sheet

pub formed : (s : List ℕ) → well_formed s ≡ true → ascending (entries s) ≡ true
unfolding well_formed
formed s h = and_right
    (eqb (length s) (sheet_length (sheet_count s)) && eqb (field s 12 4) 0 && all_below (sheet_count s) (λ i. eqb (get_or s (17 + 4 * i) 0) 0)) (ascending (entries s)) h

pub formed_length : (s : List ℕ) → well_formed s ≡ true → length s ≡ 16 + 20 * sheet_count s
unfolding well_formed
formed_length s h = eqb-true _ _ (and_left _ (eqb (field s 12 4) 0) (and_left _ (all_below (sheet_count s) (λ i. eqb (get_or s (17 + 4 * i) 0) 0)) (and_left _ (ascending (entries s)) h)))

-- ---- what is known where they are passed

pub record SheetPassed (lim : Limits) (s : List ℕ) : Type 0 where
  pub range : in_range lim (sheet_pos s) (sheet_blocks s) ≡ true
  pub well_formed : well_formed s ≡ true
  pub tickets : all_tickets lim (sheet_blocks s) (entries s) ≡ true

pub sheet_passed : (lim : Limits) (s : List ℕ) (ts : List Test) → refusal (of_sheet lim s ++ ts) ≡ 0 → SheetPassed lim s × (refusal ts ≡ 0)
sheet_passed lim s ts e =
    let run = passed 1 _ _ e in
    let form = passed 2 _ _ run.1 in
    let tickets = passed 3 _ ts form.1 in
    (record { range = run.0; well_formed = form.0; tickets = tickets.0 }, tickets.1)

pub record ListPassed (F : Formula) (p C : ℕ) (list : List ℕ) : Type 0 where
  pub range : in_range (limits_of F) p C ≡ true
  pub ascends : ascending (listed F p C list) ≡ true
  pub tickets : all_tickets (limits_of F) C (listed F p C list) ≡ true

pub list_passed : (F : Formula) (p C : ℕ) (list : List ℕ) → refusal (of_list F p C list) ≡ 0 → ListPassed F p C list
list_passed F p C list e =
    let run = passed 1 _ _ e in
    let form = passed 2 _ _ run.1 in
    record { range = run.0; ascends = form.0; tickets = (passed 3 _ [] form.1).0 }

pub record Writable (F : Formula) (p C : ℕ) (list out : List ℕ) : Type 0 where
  pub even : length list % 2 ≡ 0
  pub short : length list ≤ list_most (limits_of F)
  pub room : sheet_length (length list / 2) ≤ length out
  pub range : in_range (limits_of F) p C ≡ true
  pub ascends : ascending (listed F p C list) ≡ true
  pub tickets : all_tickets (limits_of F) C (listed F p C list) ≡ true

module _ (F : Formula) (p C : ℕ) (list out : List ℕ) where
  pub writable : refused_by (write_call F p C list out) ≡ 0 → Writable F p C list out
  unfolding write_call write_tests refused_by
  writable e =
      let sizes = passed 0 _ _ e in
      let fits = list_fits (limits_of F) list (and_left (list_sized (limits_of F) list) _ sizes.0) in
      let t = list_passed F p C list sizes.1 in
      record {
        even = fits.0;
        short = fits.1;
        room = leb-true _ _ (and_right (list_sized (limits_of F) list) _ sizes.0);
        range = t.range;
        ascends = t.ascends;
        tickets = t.tickets;
      }

  pub not_refused : Writable F p C list out → refused_by (write_call F p C list out) ≡ 0
  unfolding write_call write_tests list_sized refused_by refusal
  not_refused t =
      rw (
        eq-eqb (length list % 2) 0 t.even,
        le-leb (length list) (list_most (limits_of F)) t.short,
        le-leb (sheet_length (length list / 2)) (length out) t.room,
        t.range,
        t.ascends,
        t.tickets,
      ) refl
