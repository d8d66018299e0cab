-- What is promised of standing sheets. A ledger and a book that hold a plain ledger have its standing sheet; posting that puts the same tickets with the
-- same sums into an empty one, and two with the same tickets and sums have the same bytes.
-- Assumes nothing.
use mathlib.Core.Path.{◌≡◌, refl, sym, ap, ap₂, ◌∙◌, subst}
use mathlib.Core.Bool.{Bool, true, false, not, ◌&&◌}
use mathlib.Core.List.{List, [], ◌∷◌, ◌++◌, foldl, Memᴰ}
use Prim.Native.Nat.{ℕ, ◌*◌, ◌/◌, ◌^◌, ◌<◌, ◌≤◌}
use native.Mathlib.Omega.{arith}
use borrow.Author.Tests.{leb-true, leb-false, le-leb, lt-leb, eq-eqb}
use lib.Dec.{leb}
use lib.IntN.{ℤ, pos}
use lib.ListN.{length, take, drop}
use lib.Seq.{take_at}
use Rattle.algebra.specs.Machine.{leaves, answers}
use Rattle.algebra.proofs.Machines.{leaves_append}
use Rattle.algebra.proofs.Booleans.{not_both, right_fails}
use Rattle.series.specs.Series.{Formula, row_count, modulus}
use Rattle.run.specs.Refusal.{refusal, answer}
use Rattle.run.specs.Run.{Entry, Limits, limits_of, in_range}
use Rattle.run.specs.Tests.{of_sizes}
use Rattle.run.specs.Call.{answered, bytes_left, refused_by, all_left}
use Rattle.run.proofs.Answering as answering
use Rattle.run.proofs.Range.{range_of, ticket_row, ticket_low}
use Rattle.sheet.specs.Sheet.{sheet_length, entries, all_tickets, ascending, sheet_of, list_of, listed}
use Rattle.sheet.specs.Calls.{read_call, write_tests, write_call}
use Rattle.sheet.specs.Tests.{list_sized}
use Rattle.sheet.proofs.Form.{Writable, not_refused}
use Rattle.sheet.proofs.Sheets.{Fitting, length_sheet, length_list, listed_again}
use Rattle.sheet.proofs.Made.{Sheetable, pos_is, blocks_are, count_is, entries_are, short, sized, passes, reads}
use Rattle.ledger.specs.Ledger.{pos_in, blocks_in, bit_in}
use Rattle.ledger.specs.Plain.{plain_view, encode, opened}
use Rattle.ledger.specs.Calls.{of_order}
use Rattle.ledger.proofs.Image.{pos_encode, blocks_encode, bit_encode}
use Rattle.posting.specs.Posts.{sheet, post_entries}
use Rattle.posting.specs.Calls.{sheet_tests}
use Rattle.book.specs.Book.{kept_in, view_with}
use Rattle.book.specs.Kept.{Keeping, opened_keeping, admit_kept, encode_book, Sound}
use Rattle.book.proofs.Sound.{good_of, kept_there, view_with_lem}
use Rattle.booking.specs.Bookings.{Booking, posting, Pair, pair, booking_refusal, booking_answer, booking_bytes, taken, keep_answer, on_pairs, fresh_pair, pair_after, booking_answers, keeping_after}
use Rattle.booking.proofs.Simulation.{bytes_of_kept, Holds, one_booking, fresh_holds, after_fresh}
use Rattle.booking.proofs.Follows.{held, leaves_taken}
use Rattle.standing.specs.Standing.{set_bits, standing_in, standing_sheet, standing_tests, standing_call}
use Rattle.standing.specs.Moving.{standing_of, sheet_of_kept, Holding, Alike, call_for, Gives, GivesAlike, AreAll, ReadsAs, BringsBack, Stands, AllRight, Standings}
use Rattle.standing.proofs.Places.{every_member, all_standing, in_set, standing_ext, count_standing}
use Rattle.standing.proofs.Admitted.{run_after, put_back_in, same_ledger, same_book}

-- ---- in lists of tickets

-- each fits its bytes that is a member of the list
fit_members : (ts : List Entry) → ((t : Entry) → Memᴰ t ts → (t.block < 65536) × (t.sum < 2 ^ 128)) → Fitting ts
fit_members [] h = tt
fit_members (t ∷ ts) h =
    let here = h t (Memᴰ.head refl) in
    (here.0, here.1, fit_members ts (λ u m. h u (Memᴰ.tail m)))

-- no member, no list
no_members : (ts : List Entry) → ((t : Entry) → Memᴰ t ts → ⊥) → ts ≡ []
no_members [] h = refl
no_members (t ∷ ts) h = absurd (h t (Memᴰ.head refl))

module _ (F : Formula) (few_rows : row_count F < 256) (fits : F.last < 2 ^ 64) where
  abbrev lim : Limits
  lim = limits_of F

  -- ---- a plain ledger that keeps its sums

  module _ (k : Keeping) (o : Sound lim k) where
    abbrev ts : List Entry
    ts = standing_of lim k

    abbrev b : List ℕ
    b = sheet_of_kept lim k

    abbrev p : ℕ
    p = k.plain.p

    abbrev C : ℕ
    C = k.plain.C

    all : AreAll k.plain.tickets k.kept ts
    all =
        all_standing k.plain.tickets k.kept lim.rows (λ row block e.
        let t = o.tickets_in row block e in
        (ticket_row lim C row block t, ticket_low lim p C row block o.range t))

    there : (t : Entry) → Memᴰ t ts → k.plain.tickets t.row t.block ≡ true
    there = in_set k.plain.tickets k.kept (256 * lim.rows)

    made : Sheetable lim p C ts
    made = record {
      few_rows = few_rows;
      near = fits;
      range = o.range;
      ascends = all.ascend;
      tickets = every_member _ ts (λ t m. o.tickets_in t.row t.block (there t m));
      fits = fit_members ts (λ t m.
          let low = ticket_low lim p C t.row t.block o.range (o.tickets_in t.row t.block (there t m)) in
          (omega arith, subst (λ (n : ℕ). n < modulus) (sym (all.carry t m)) (o.kept_in t.row t.block)));
    }

    reads_as : ReadsAs lim p C ts b
    unfolding read_call answered all_left answer
    reads_as = record {
      count = λ list sums a c. rw (reads lim p C ts made list sums a c, count_is lim p C ts made) refl;
      list_is = λ list sums a c. rw (reads lim p C ts made list sums a c, entries_are lim p C ts made) refl;
      sums_are = λ list sums a c. rw (reads lim p C ts made list sums a c, entries_are lim p C ts made) refl;
      pos_is = pos_is lim p C ts made;
      blocks_are = blocks_are lim p C ts made;
      entries_are = entries_are lim p C ts made;
    }

    none : ((row block : ℕ) → k.plain.tickets row block ≡ false) → (b ≡ sheet_of p C []) × (length b ≡ 16)
    none off =
        let e = ap (sheet_of p C) (no_members ts (λ t m. not_both _ (there t m) (off t.row t.block))) in
        (e, ap length e ∙ length_sheet p C [])

    -- ---- posted onto what was opened

    abbrev again : Booking
    again = posting (sheet b)

    not_turned_away : booking_refusal lim (plain_view (opened_keeping p C).plain) again ≡ 0
    unfolding booking_refusal sheet_tests refusal plain_view opened_keeping opened
    not_turned_away =
        let g = passes lim p C ts made in
        rw (
          sized lim p C ts made,
          g.range,
          g.well_formed,
          g.tickets,
          eq-eqb _ _ (pos_is lim p C ts made),
          eq-eqb _ _ (blocks_are lim p C ts made),
          every_member (λ t. not false) (entries b) (λ t m. refl),
        ) refl

    held_again : Holds lim fits (booking_bytes lim (fresh_pair lim p C) again) (taken (opened_keeping p C) again)
    held_again = leaves_taken lim fits (fresh_pair lim p C) (opened_keeping p C) again (fresh_holds lim fits p C o.range) not_turned_away

    alike_again : Alike (taken (opened_keeping p C) again) k
    unfolding taken post_entries
    alike_again =
        subst (λ (l : List Entry). Alike (foldl admit_kept (opened_keeping p C) l) k) (sym (entries_are lim p C ts made)) (put_back_in lim k o ts all)

    bytes_again : booking_bytes lim (fresh_pair lim p C) again ≡ bytes_of_kept lim fits k
    bytes_again =
        held_again.0
        ∙ ap₂ pair (same_ledger lim (taken (opened_keeping p C) again) k held_again.1 o alike_again)
        (same_book lim (taken (opened_keeping p C) again) k held_again.1 o alike_again)

    answer_again : booking_answer lim (fresh_pair lim p C) again ≡ pos 0
    unfolding keep_answer answer
    answer_again =
        (one_booking lim fits (fresh_pair lim p C) (opened_keeping p C) again (fresh_holds lim fits p C o.range)).0 ∙ ap (λ (n : ℕ). answer n 0) not_turned_away

    -- ---- its bytes, and what the call gives of them

    module _ (s : Pair) (e : s ≡ bytes_of_kept lim fits k) where
      brings_back : BringsBack lim p C s b
      unfolding booking_answer booking_bytes
      brings_back = record {
        taken = answer_again;
        ledger = ap (λ (q : Pair). q.ledger) (bytes_again ∙ sym e);
        book = ap (λ (q : Pair). q.book) (bytes_again ∙ sym e);
      }

    abbrev ledger : List ℕ
    ledger = encode lim k.plain

    abbrev book : List ℕ
    book = encode_book lim k.kept

    seen : view_with lim ledger book ≡ plain_view k.plain
    seen = view_with_lem lim fits k o

    same_tickets : standing_in lim ledger book ≡ ts
    same_tickets =
        standing_ext (bit_in lim ledger) k.plain.tickets (kept_in book) k.kept lim.rows
        (λ row block h l. (bit_encode lim k.plain (good_of lim fits k o) row block h l, kept_there lim fits k o row block h l))

    same_sheet : standing_sheet lim ledger book ≡ b
    unfolding standing_sheet
    same_sheet =
        ap₂ (λ (q D : ℕ). sheet_of q D (standing_in lim ledger book)) (pos_encode lim k.plain (good_of lim fits k o)) (blocks_encode lim k.plain (good_of lim fits k o))
        ∙ ap (sheet_of p C) same_tickets

    bits : set_bits lim ledger ≡ length ts
    bits = sym (count_standing lim ledger book) ∙ ap length same_tickets

    long : length b ≡ sheet_length (length ts)
    long = length_sheet p C ts

    given : (out : List ℕ) → length b ≤ length out → refused_by (standing_call lim ledger book out) ≡ 0
    unfolding standing_call standing_tests refused_by refusal plain_view
    given out h = rw (seen, bits, le-leb (sheet_length (length ts)) (length out) (rw long at h)) refl

    not_given : (out : List ℕ) → length out < length b → refused_by (standing_call lim ledger book out) ≡ 1
    unfolding standing_call standing_tests refused_by refusal plain_view
    not_given out h = rw (seen, bits, lt-leb (sheet_length (length ts)) (length out) (rw long at h)) refl

    gives : Gives lim (bytes_of_kept lim fits k) b
    unfolding standing_call answered all_left answer
    gives = record {
      with_room = λ out h. (rw (given out h, bits) (ap pos (sym long)), rw (given out h, same_sheet) refl);
      too_short = λ out h. (rw (not_given out h) refl, rw (not_given out h) refl);
    }

    stands : Stands lim (bytes_of_kept lim fits k) k
    stands = record {
      same_sheet = same_sheet;
      gives = gives;
      short = short lim p C ts made;
      are_all = all;
      reads_as = reads_as;
      brings_back = brings_back (bytes_of_kept lim fits k) refl;
      none = none;
    }

    -- ---- with right sums

    module _ (right : AllRight F k) (out : List ℕ) where
      abbrev list : List ℕ
      list = list_of ts

      listed_are : listed F p C list ≡ ts
      listed_are =
          listed_again F p C ts few_rows (range_of lim p C o.range).c_high made.tickets
          (λ t m. all.carry t m ∙ right t.row t.block (there t m))

      half : length list / 2 ≡ length ts
      half = let h = length_list ts in omega (arith, h)

      writable : length b ≤ length out → Writable F p C list out
      writable room =
          let h = length_list ts in
          let l = long in
          let m = short lim p C ts made in
          record {
            even = omega (arith, h);
            short = omega (arith, h, l, m);
            room = rw half (omega (arith, l, room));
            range = o.range;
            ascends = ap ascending listed_are ∙ all.ascend;
            tickets = ap (all_tickets lim C) listed_are ∙ made.tickets;
          }

      not_writable : length out < length b → refused_by (write_call F p C list out) ≡ 1
      unfolding write_call write_tests refused_by refusal
      not_writable h = rw (half, right_fails (list_sized lim list) _ (lt-leb (sheet_length (length ts)) (length out) (rw long at h))) refl

      as_written : (answered (call_for lim (bytes_of_kept lim fits k) out) ≡ answered (write_call F p C list out))
          × (bytes_left (call_for lim (bytes_of_kept lim fits k) out) 0 ≡ bytes_left (write_call F p C list out) 0)
      unfolding write_call answered all_left answer
      as_written = go (leb (length b) (length out)) refl
        where
          go : (c : Bool) → leb (length b) (length out) ≡ c
              → (answered (call_for lim (bytes_of_kept lim fits k) out) ≡ answered (write_call F p C list out))
              × (bytes_left (call_for lim (bytes_of_kept lim fits k) out) 0 ≡ bytes_left (write_call F p C list out) 0)
          go true e =
              let room = leb-true (length b) (length out) e in
              let z = not_refused F p C list out (writable room) in
              let g = gives.with_room out room in
              (g.0 ∙ rw (z, half) (ap pos long), g.1 ∙ rw (z, listed_are) refl)
          go false e =
              let room = leb-false (length b) (length out) e in
              let z = not_writable room in
              let g = gives.too_short out room in
              (g.0 ∙ rw z refl, g.1 ∙ rw z refl)

  -- ---- the same run, tickets and kept sums

  same_bytes : (s t : Pair) (k l : Keeping) → Holding lim s k → Holding lim t l → Alike k l → s ≡ t
  same_bytes s t k l h i a =
      h.0 ∙ ap₂ pair (same_ledger lim k l h.1 i.1 a) (same_book lim k l h.1 i.1 a) ∙ sym i.0

  -- what the call gives of the same ledger and book, with any two outputs
  module _ (s : Pair) where
    by_length : (out out' : List ℕ) → length out ≡ length out' → answered (call_for lim s out) ≡ answered (call_for lim s out')
    unfolding standing_call standing_tests answered refused_by
    by_length out out' e =
        ap (λ (n : ℕ). answer (refusal (of_sizes ((view_with lim s.ledger s.book).sized && leb (sheet_length (set_bits lim s.ledger)) n) ++ of_order (view_with lim s.ledger s.book))) (sheet_length (set_bits lim s.ledger))) e

    worked : (out : List ℕ) (n : ℕ) → answered (call_for lim s out) ≡ pos n
        → (sheet_length (set_bits lim s.ledger) ≡ n) × (take n (bytes_left (call_for lim s out) 0) ≡ standing_sheet lim s.ledger s.book)
    unfolding standing_call answered all_left standing_sheet
    worked out n e =
        let z = answering.not_refused _ _ n e in
        let l = length_sheet (pos_in s.ledger) (blocks_in s.ledger) (standing_in lim s.ledger s.book) ∙ ap sheet_length (count_standing lim s.ledger s.book) ∙ z.1 in
        (z.1, ap (take n) (rw z.0 refl) ∙ take_at (standing_sheet lim s.ledger s.book) (drop (length (standing_sheet lim s.ledger s.book)) out) n l)

    gives_itself : GivesAlike lim s s
    gives_itself = record {
      answers = by_length;
      bytes = λ out out' n n' e e'.
          let w = worked out n e in
          let w' = worked out' n' e' in
          let q = sym w.0 ∙ w'.0 in
          (q, w.1 ∙ sym (ap (λ (m : ℕ). take m (bytes_left (call_for lim s out') 0)) q ∙ w'.1));
    }

  -- ---- a run that was moved goes on

  module _ (p C : ℕ) (range : in_range lim p C ≡ true) (bookings later : List Booking) where
    abbrev left : Keeping
    left = keeping_after lim p C bookings

    holds : Holds lim fits (pair_after lim p C bookings) left
    holds = (after_fresh lim fits p C range bookings).1

    abbrev moved : Booking
    moved = posting (sheet (sheet_of_kept lim left))

    -- the run of the list is that of what it leaves
    fresh_is : (P : Pair → Type 0) → P (fresh_pair lim left.plain.p left.plain.C) → P (fresh_pair lim p C)
    unfolding opened_keeping opened
    fresh_is P =
        let run = run_after lim (opened_keeping p C) bookings in
        subst P (ap₂ (fresh_pair lim) run.0 run.1)

    back : booking_bytes lim (fresh_pair lim p C) moved ≡ pair_after lim p C bookings
    back = fresh_is (λ s. booking_bytes lim s moved ≡ pair_after lim p C bookings) (bytes_again left holds.1 ∙ sym holds.0)

    goes_on : (pair_after lim p C (moved ∷ later) ≡ pair_after lim p C (bookings ++ later))
        × (booking_answers lim p C (moved ∷ later) ≡ pos 0 ∷ answers (on_pairs lim) (pair_after lim p C bookings) later)
    unfolding leaves answers
    goes_on = (
      ap (λ (q : Pair). leaves (on_pairs lim) q later) back ∙ sym (leaves_append (on_pairs lim) (fresh_pair lim p C) bookings later),
      ap₂ (λ (x : ℤ) (l : List ℤ). x ∷ l) (fresh_is (λ s. booking_answer lim s moved ≡ pos 0) (answer_again left holds.1))
          (ap (λ (q : Pair). answers (on_pairs lim) q later) back),
    )

  pub standings : Standings F
  standings = record {
    in_order = λ ledger book b c z o. held lim fits (pair ledger book) b c z o;
    after = λ p C range bookings. (after_fresh lim fits p C range bookings).1;
    stands = λ s k h. subst (λ (q : Pair). Stands lim q k) (sym h.0) (stands k h.1);
    same_bytes = same_bytes;
    gives_alike = λ s t k l h i a. subst (GivesAlike lim s) (same_bytes s t k l h i a) (gives_itself s);
    as_written = λ s k h right out.
        subst (λ (q : Pair). (answered (call_for lim q out) ≡ answered (write_call F k.plain.p k.plain.C (list_of (standing_of lim k)) out))
        × (bytes_left (call_for lim q out) 0 ≡ bytes_left (write_call F k.plain.p k.plain.C (list_of (standing_of lim k)) out) 0)) (sym h.0)
        (as_written k h.1 right out);
    goes_on = goes_on;
  }
