-- What the writer writes, the reader takes and gives back; and an accepted sheet with right sums is what the writer writes.
-- Assumes nothing.
use mathlib.Core.Path.{◌≡◌, refl, sym, ap, ap₂, ◌∙◌, subst}
use mathlib.Core.Bool.{◌&&◌}
use mathlib.Core.List.{List, [], Memᴰ}
use Prim.Native.Nat.{ℕ, ◌+◌, ◌*◌, ◌/◌, ◌≤◌}
use native.Mathlib.Nat.{le_refl}
use native.Mathlib.Omega.{arith}
use borrow.Author.Tests.{eqb-true}
use lib.Dec.{eqb}
use lib.IntN.{pos}
use lib.ListN.{length, get_or, take, drop, replicate, length-replicate}
use lib.Seq.{take_at, drop_at}
use Rattle.algebra.specs.Test.{all_below}
use Rattle.algebra.proofs.Booleans.{and_left, and_right}
use Rattle.algebra.proofs.Below.{all_at}
use Rattle.words.specs.Bytes.{field, AllBytes}
use Rattle.series.specs.Series.{Formula}
use Rattle.run.specs.Refusal.{refusal, answer}
use Rattle.run.specs.Run.{Entry, Limits, limits_of, ticket_sum}
use Rattle.run.proofs.Answering as answering
use Rattle.run.proofs.Range.{range_of}
use Rattle.run.proofs.Testing.{passed}
use Rattle.run.specs.Call.{answered, bytes_left, refused_by, all_left}
use Rattle.sheet.specs.Sheet.{sheet_length, sheet_most, sheet_pos, sheet_blocks, sheet_count, entries, all_tickets, ascending, well_formed, sheet_of, list_of, listed}
use Rattle.sheet.specs.Tests.{sheet_sized}
use Rattle.sheet.specs.Calls.{over, read_tests, read_call, write_call}
use Rattle.sheet.proofs.Form.{formed, formed_length, sheet_fits, SheetPassed, sheet_passed, Writable, writable, not_refused}
use Rattle.sheet.proofs.Many.{count_entries, count_listed}
use Rattle.sheet.proofs.Sheets.{sheet_again, length_sheet, length_list, list_again, listed_again, fitting, listed_right}
use Rattle.sheet.proofs.Made.{Sheetable, pos_is, blocks_are, count_is, entries_are, reads}
use Rattle.ledger.specs.Ledger.{View, view_of}
use Rattle.posting.specs.Calls.{sheet_tests, sheet_post_call}
use Rattle.posting.proofs.Testing.{sheet_taken}
use Rattle.book.specs.Book.{view_with}
use Rattle.booking.specs.Calls.{book_sheet_post_call}
use Rattle.settlement.specs.RoundTrip.{Fits, ReadsBack, WrittenReadsBack, Accepted, by_reading, by_posting, by_booking, RightSums, AcceptedIsWritten}

-- ---- written, then read

module _ (F : Formula) (fits : Fits F) (p C : ℕ) (list out list' sums' : List ℕ) (bytes : AllBytes list) (t : Writable F p C list out)
    (room-list : length list ≤ length list') (room-sums : 8 * length list ≤ length sums') where
  ts : List Entry
  ts = listed F p C list

  count : length ts ≡ length list / 2
  unfolding ts
  count = count_listed F p C list

  made : Sheetable (limits_of F) p C ts
  unfolding ts
  made = record {
    few_rows = fits.few;
    near = fits.near;
    range = t.range;
    ascends = t.ascends;
    tickets = t.tickets;
    fits = fitting F p C list (range_of (limits_of F) p C t.range).c_high t.tickets;
  }

  read_all : refused_by (read_call (limits_of F) (sheet_of p C ts) list' sums') ≡ 0
  read_all =
      let n = count in
      let ev = t.even in
      reads (limits_of F) p C ts made list' sums' (omega (arith, n, ev)) (omega (arith, n, ev))

  reads_back : ReadsBack F p C list (sheet_of p C (listed F p C list)) list' sums'
  unfolding read_call answered all_left answer ts
  reads_back = record {
    count = rw (read_all, count_is (limits_of F) p C ts made) (ap pos count);
    list_is = rw (read_all, entries_are (limits_of F) p C ts made, list_again F p C list bytes t.even) refl;
    sums_are = rw (read_all, entries_are (limits_of F) p C ts made) refl;
    pos_is = pos_is (limits_of F) p C ts made;
    blocks_are = blocks_are (limits_of F) p C ts made;
  }

  sums_right : RightSums F (sheet_of p C (listed F p C list))
  unfolding RightSums ts
  sums_right t m =
      listed_right F p C list t (subst (Memᴰ t) (entries_are (limits_of F) p C ts made) m)
      ∙ sym (ap₂ (λ (x y : ℕ). ticket_sum F x y t.row t.block) reads_back.pos_is reads_back.blocks_are)

pub written_reads_back : (F : Formula) → Fits F → WrittenReadsBack F
unfolding write_call answered all_left
written_reads_back F fits p C list out bytes n e =
    let z = answering.not_refused (refused_by (write_call F p C list out)) (sheet_length (length list / 2)) n e in
    let s = sheet_of p C (listed F p C list) in
    let l : length s ≡ n = length_sheet p C (listed F p C list) ∙ ap sheet_length (count_listed F p C list) ∙ z.1 in
    let t = writable F p C list out z.0 in
    let bytes_are : bytes_left (write_call F p C list out) 0 ≡ over s out = rw z.0 refl in
    let sheet-is : s ≡ take n (bytes_left (write_call F p C list out) 0) = sym (ap (take n) bytes_are ∙ take_at s (drop (length s) out) n l) in
    let zeros : List ℕ = replicate (8 * length list) 0 in
    let room : 8 * length list ≤ length zeros = omega (arith, length-replicate {A = ℕ} (8 * length list) 0) in
    record {
      length_is = sym z.1;
      rest = ap (drop n) bytes_are ∙ drop_at s (drop (length s) out) n l ∙ ap (λ (k : ℕ). drop k out) l;
      accepted = subst (Accepted (limits_of F)) sheet-is
          (by_reading list zeros _ (reads_back F fits p C list out list zeros bytes t (le_refl (length list)) room).count);
      right = subst (RightSums F) sheet-is (sums_right F fits p C list out list zeros bytes t (le_refl (length list)) room);
      reads_back = λ list' sums' a b.
          subst (λ (x : List ℕ). ReadsBack F p C list x list' sums') sheet-is (reads_back F fits p C list out list' sums' bytes t a b);
    }

-- ---- accepted, then written

-- what the reader and a post have both tested: refusals 1 to 4 do not apply to the bytes of the sheet
record Passed (lim : Limits) (s : List ℕ) : Type 0 where
  short : length s ≤ sheet_most lim
  form : SheetPassed lim s

module _ (F : Formula) (fits : Fits F) (s out : List ℕ) (bytes : AllBytes s) (acc : Passed (limits_of F) s) (right : RightSums F s)
    (room : length s ≤ length out) where
  length_is : length s ≡ sheet_length (sheet_count s)
  length_is = formed_length s acc.form.well_formed

  again : sheet_of (sheet_pos s) (sheet_blocks s) (entries s) ≡ s
  unfolding well_formed
  again =
      let zeros = and_left _ (ascending (entries s)) acc.form.well_formed in
      let head = and_left _ (all_below (sheet_count s) (λ i. eqb (get_or s (17 + 4 * i) 0) 0)) zeros in
      let each = and_right (eqb (length s) (sheet_length (sheet_count s)) && eqb (field s 12 4) 0) _ zeros in
      sheet_again s bytes length_is (eqb-true _ _ (and_right (eqb (length s) (sheet_length (sheet_count s))) _ head))
      (λ j h. eqb-true _ _ (all_at (sheet_count s) _ each j h))

  listed_are : listed F (sheet_pos s) (sheet_blocks s) (list_of (entries s)) ≡ entries s
  unfolding RightSums
  listed_are =
      listed_again F (sheet_pos s) (sheet_blocks s) (entries s) fits.few
      (range_of (limits_of F) (sheet_pos s) (sheet_blocks s) acc.form.range).c_high acc.form.tickets right

  list_length : length (list_of (entries s)) ≡ 2 * sheet_count s
  unfolding entries
  list_length = length_list (entries s) ∙ ap (λ (n : ℕ). 2 * n) (count_entries s (sheet_count s) 0)

  half : length (list_of (entries s)) / 2 ≡ sheet_count s
  half = let h = list_length in omega (arith, h)

  taken : Writable F (sheet_pos s) (sheet_blocks s) (list_of (entries s)) out
  taken =
      let h = list_length in
      let l = length_is in
      let m = acc.short in
      record {
        even = omega (arith, h);
        short = omega (arith, h, l, m);
        room = rw half (omega (arith, l, room));
        range = acc.form.range;
        ascends = ap ascending listed_are ∙ formed s acc.form.well_formed;
        tickets = ap (all_tickets (limits_of F) (sheet_blocks s)) listed_are ∙ acc.form.tickets;
      }

  is_written : (answered (write_call F (sheet_pos s) (sheet_blocks s) (list_of (entries s)) out) ≡ pos (length s))
      × (bytes_left (write_call F (sheet_pos s) (sheet_blocks s) (list_of (entries s)) out) 0 ≡ over s out)
  unfolding write_call answered all_left answer
  is_written = (
    rw (not_refused F (sheet_pos s) (sheet_blocks s) (list_of (entries s)) out taken, half) (ap pos (sym length_is)),
    rw (not_refused F (sheet_pos s) (sheet_blocks s) (list_of (entries s)) out taken, listed_are, again) refl,
  )

-- ---- what the reader takes, and what a post takes

read_passed : (lim : Limits) (s list sums : List ℕ) → refused_by (read_call lim s list sums) ≡ 0 → Passed lim s
unfolding read_call read_tests refused_by
read_passed lim s list sums e =
    let sizes = passed 0 _ _ e in
    record { short = (sheet_fits lim s (and_left (sheet_sized lim s) _ sizes.0)).1; form = (sheet_passed lim s [] sizes.1).0 }

post_passed : (lim : Limits) (v : View) (s : List ℕ) → refusal (sheet_tests lim v s) ≡ 0 → Passed lim s
post_passed lim v s e = let t = sheet_taken lim v s e in record { short = (sheet_fits lim s t.sheet_sized).1; form = t.form }

was_passed : (lim : Limits) (s : List ℕ) → Accepted lim s → Passed lim s
unfolding read_call answered sheet_post_call book_sheet_post_call refused_by
was_passed lim s (by_reading list sums e a) = read_passed lim s list sums (answering.not_refused _ _ e a).0
was_passed lim s (by_posting ledger a) = post_passed lim (view_of lim ledger) s (answering.not_refused _ 0 0 a).0
was_passed lim s (by_booking ledger book a) = post_passed lim (view_with lim ledger book) s (answering.not_refused _ 0 0 a).0

pub accepted_is_written : (F : Formula) → Fits F → AcceptedIsWritten F
accepted_is_written F fits s out bytes acc right room = is_written F fits s out bytes (was_passed (limits_of F) s acc) right room
