-- A sheet made of ascending tickets of a run: it reads back as them, it passes all that is asked of a sheet, and the reader takes it.
-- Assumes nothing.
use mathlib.Core.Path.{◌≡◌, refl}
use mathlib.Core.Bool.{true}
use mathlib.Core.List.{List}
use Prim.Native.Nat.{ℕ, ◌*◌, ◌^◌, ◌<◌, ◌≤◌}
use native.Mathlib.Nat.{mul-le-mul_left}
use native.Mathlib.Omega.{arith}
use borrow.Author.Tests.{le-leb}
use lib.ListN.{length}
use Rattle.run.specs.Refusal.{refusal}
use Rattle.run.specs.Run.{Entry, Limits, in_range}
use Rattle.run.specs.Call.{refused_by}
use Rattle.run.proofs.Range.{range_of}
use Rattle.sheet.specs.Sheet.{sheet_most, sheet_pos, sheet_blocks, sheet_count, entries, all_tickets, ascending, sheet_of}
use Rattle.sheet.specs.Tests.{sheet_sized}
use Rattle.sheet.specs.Calls.{read_tests, read_call}
use Rattle.sheet.proofs.Form.{SheetPassed}
use Rattle.sheet.proofs.Many.{run_holds}
use Rattle.sheet.proofs.Sheets.{Fitting, pos_read, blocks_read, count_read, entries_read, length_sheet, written_formed}

-- what makes tickets those of a sheet: rows fit a byte and positions 8 bytes
pub record Sheetable (lim : Limits) (p C : ℕ) (ts : List Entry) : Type 0 where
  pub few_rows : lim.rows < 256
  pub near : lim.last < 2 ^ 64
  pub range : in_range lim p C ≡ true
  pub ascends : ascending ts ≡ true
  pub tickets : all_tickets lim C ts ≡ true
  pub fits : Fitting ts

module _ (lim : Limits) (p C : ℕ) (ts : List Entry) (t : Sheetable lim p C ts) where
  c_small : C ≤ 256
  c_small = (range_of lim p C t.range).c_high

  p_fits : p < 2 ^ 64
  p_fits = let h = (range_of lim p C t.range).p_high in let n = t.near in omega (arith, h, n)

  c_fits : C < 65536
  c_fits = let h = c_small in omega (arith, h)

  -- no more than 256 in each row
  few : length ts ≤ lim.rows * 256
  few = let h = run_holds lim C ts t.tickets t.ascends in let m = mul-le-mul_left lim.rows c_small in omega (arith, h, m)

  count_fits : length ts < 65536
  count_fits = let h = few in let n = t.few_rows in omega (arith, h, n)

  pub pos_is : sheet_pos (sheet_of p C ts) ≡ p
  pos_is = pos_read p C ts p_fits c_fits count_fits t.fits

  pub blocks_are : sheet_blocks (sheet_of p C ts) ≡ C
  blocks_are = blocks_read p C ts p_fits c_fits count_fits t.fits

  pub count_is : sheet_count (sheet_of p C ts) ≡ length ts
  count_is = count_read p C ts p_fits c_fits count_fits t.fits

  pub entries_are : entries (sheet_of p C ts) ≡ ts
  entries_are = entries_read p C ts p_fits c_fits count_fits t.fits

  pub short : length (sheet_of p C ts) ≤ sheet_most lim
  short = let h = few in let l = length_sheet p C ts in omega (arith, h, l)

  pub sized : sheet_sized lim (sheet_of p C ts) ≡ true
  unfolding sheet_sized
  sized =
      let l = length_sheet p C ts in
      rw (le-leb 16 (length (sheet_of p C ts)) (omega (arith, l)), le-leb (length (sheet_of p C ts)) (sheet_most lim) short) refl

  pub passes : SheetPassed lim (sheet_of p C ts)
  passes = record {
    range = rw (pos_is, blocks_are) t.range;
    well_formed = written_formed p C ts p_fits c_fits count_fits t.fits t.ascends;
    tickets = rw (blocks_are, entries_are) t.tickets;
  }

  -- with any two outputs that have the room
  pub reads : (list sums : List ℕ) → 2 * length ts ≤ length list → 16 * length ts ≤ length sums → refused_by (read_call lim (sheet_of p C ts) list sums) ≡ 0
  unfolding read_call read_tests refused_by refusal
  reads list sums a b =
      rw (
        sized,
        count_is,
        le-leb (2 * length ts) (length list) a,
        le-leb (16 * length ts) (length sums) b,
        passes.range,
        passes.well_formed,
        passes.tickets,
      ) refl
