-- Demand 3 by the book, and what else holds of ledgers with a book, for any formula that demand 3 is shown for.
-- Assumes nothing.
use mathlib.Core.Path.{◌≡◌, refl, sym, ap, ◌∙◌, subst}
use mathlib.Core.Bool.{true, false, cond}
use mathlib.Core.List.{List, foldl}
use Prim.Native.Nat.{ℕ, ◌^◌, ◌<◌}
use native.Mathlib.Omega.{arith}
use lib.Dec.{eqb}
use lib.IntN.{pos, neg_ℤ}
use lib.ListN.{length}
use Rattle.algebra.specs.Machine.{leaves, answers}
use Rattle.algebra.specs.Test.{all_below}
use Rattle.algebra.proofs.Below.{below_false}
use Rattle.algebra.proofs.Booleans.{and_left}
use Rattle.words.specs.Bytes.{bytes_of, value_of, AllBytes}
use Rattle.series.specs.Series.{Formula, row_count, term_count}
use Rattle.series.specs.Bellard.{bellard}
use Rattle.series.specs.Fitting.{Position}
use Rattle.interval.specs.Interval.{is_charged, Positive, RestBelowUnit}
use Rattle.run.specs.Refusal.{refusal, answer}
use Rattle.run.specs.Run.{Limits, limits_of, in_range, is_ticket}
use Rattle.run.specs.Call.{answered, bytes_left, refused_by, all_left}
use Rattle.run.proofs.Range.{position, ticket_row, ticket_block}
use Rattle.ledger.specs.Ledger.{View, view_of, ledger_size, in_order, total_of, total_in}
use Rattle.ledger.specs.Plain.{Plain, plain_view, encode, opened, admit, including, adding}
use Rattle.ledger.specs.Calls.{post_tests}
use Rattle.ledger.proofs.Image.{Good}
use Rattle.sheet.specs.Sheet.{entries, contents_of, bodies_of, sheet_of}
use Rattle.posting.specs.Posts.{post_entries}
use Rattle.posting.specs.Calls.{sheet_tests, sheet_post_call, enter_entry}
use Rattle.book.specs.Book.{view_with, in_order_with}
use Rattle.book.specs.Kept.{opened_keeping, keeping, admit_kept, excluding, dismiss, release, decode_with}
use Rattle.book.proofs.Image.{excluding_here}
use Rattle.book.proofs.Sound.{good_of, holds_kept, sound_release}
use Rattle.booking.specs.Calls.{book_sheet_post_call, withdraw_tests, withdraw_call}
use Rattle.booking.specs.Bookings.{withdrawal, Pair, pair, booking_refusal, booking_answer, booking_bytes, taken, keep_answer, keep_next}
use Rattle.booking.proofs.Simulation.{after_fresh}
use Rattle.booking.proofs.Testing.{withdraw_taken}
use Rattle.booking.proofs.Follows.{held, by_none, plain_by_none, leaves_taken, follows}
use Rattle.standing.specs.Standing.{ticket_at, standing_from}
use Rattle.look.specs.Look.{unmarked_in}
use Rattle.look.specs.AsPosting.{AsPosting}
use Rattle.look.proofs.Looking.{looks_as_posted}
use Rattle.closing.specs.Closing.{close_by, close_call}
use Rattle.closing.proofs.Encoded.{answer_encoded, bytes_encoded}
use Rattle.settlement.specs.Books.{Demand3ByBook, Books, some_bookings, BookingsAnswered, RowsStand}
use Rattle.settlement.proofs.Theorem.{completed}
use Rattle.settlement.proofs.Filler.{filled_exists}
use Rattle.settlement.proofs.Offers.{all_in, rows_right, last_run, filled_offers, mended}

-- ---- demand 3

pub demand3_by_book : (F : Formula) → F.last < 2 ^ 64 → Positive F → ((p : ℕ) → Position F p → RestBelowUnit is_charged F p (term_count F p)) → Demand3ByBook F
demand3_by_book F fits above rest p C range bookings =
    let after = after_fresh (limits_of F) fits p C range bookings in
    let final = after.1.0 in
    record {
      answers = after.0;
      ledger = ap (λ (s : Pair). s.ledger) final;
      book = ap (λ (s : Pair). s.book) final;
      filled = λ f.
          let run = last_run F p C fits range bookings f in
          completed F fits above p C range (rest p (position F p C range)) _ (good_of (limits_of F) fits _ after.1.1) run.0 run.1
          (rows_right F p C fits range bookings f) (all_in F p C fits range bookings f) _ (ap (λ (s : Pair). s.ledger) final);
    }

-- ---- a closing after a withdrawal

-- of a plain ledger that lacks a ticket of its run
module _ (F : Formula) (s : Plain) (good : Good (limits_of F) s) (row block : ℕ) (one : is_ticket (limits_of F) s.C row block ≡ true)
    (lacks : s.tickets row block ≡ false) (out : List ℕ) (room : length out ≡ 32) where
  not_full : all_below (row_count F) (λ r. all_below s.C (λ b. s.tickets r b)) ≡ false
  not_full =
      below_false (row_count F) _ row (ticket_row (limits_of F) s.C row block one)
      (below_false s.C (λ b. s.tickets row b) block (ticket_block (limits_of F) s.C row block one) lacks)

  by_eight : refused_by (close_by is_charged F (plain_view s) (total_of (limits_of F) s.sums) out) ≡ 8
  unfolding close_by refused_by refusal plain_view
  by_eight = rw (room, not_full) refl

  refused_eight : (b : List ℕ) → b ≡ encode (limits_of F) s → (answered (close_call F b out) ≡ neg_ℤ (pos 8)) × (bytes_left (close_call F b out) 0 ≡ out)
  unfolding close_by answered all_left answer
  refused_eight b e =
      subst (λ (l : List ℕ). (answered (close_call F l out) ≡ neg_ℤ (pos 8)) × (bytes_left (close_call F l out) 0 ≡ out)) (sym e)
      (answer_encoded F s good out ∙ rw by_eight refl, bytes_encoded F s good out ∙ rw by_eight refl)

then_eight : (F : Formula) → F.last < 2 ^ 64 → (ledger book : List ℕ) → AllBytes ledger → AllBytes book → (p C row block : ℕ)
    → answered (withdraw_call (limits_of F) ledger book p C row block) ≡ pos 0 → (out : List ℕ) → length out ≡ 32
    → (answered (close_call F (bytes_left (withdraw_call (limits_of F) ledger book p C row block) 0) out) ≡ neg_ℤ (pos 8))
    × (bytes_left (close_call F (bytes_left (withdraw_call (limits_of F) ledger book p C row block) 0) out) 0 ≡ out)
unfolding booking_answer booking_bytes booking_refusal taken release dismiss plain_view
then_eight F fits ledger book b c p C row block e out room =
    let lim = limits_of F in
    let s = pair ledger book in
    let a = withdrawal p C row block in
    let seen = withdraw_taken lim (view_with lim ledger book) p C row block (by_none lim fits s a e) in
    let k = decode_with lim ledger book in
    let h = held lim fits s b c seen.entry.sized seen.entry.ordered in
    let z = plain_by_none lim fits s k a h e in
    let t = withdraw_taken lim (plain_view k.plain) p C row block z in
    let o = sound_release lim fits k h.1 row block t.there in
    refused_eight F (release k row block).plain (good_of lim fits (release k row block) o) row block
    (subst (λ (n : ℕ). is_ticket lim n row block ≡ true) t.entry.same_c t.entry.ticket) (excluding_here row block k.plain.tickets) out room _
    (ap (λ (q : Pair). q.ledger) (leaves_taken lim fits s k a h z).0)

-- ---- looks

module _ (lim : Limits) (ledger book : List ℕ) (sized : (view_with lim ledger book).sized ≡ true) (ordered : (view_with lim ledger book).ordered ≡ true) where
  -- in order together, ledger and book are seen as the ledger alone is
  same_view : view_with lim ledger book ≡ view_of lim ledger
  unfolding view_with view_of in_order_with
  same_view = λ i. record {
    sized = (sized ∙ sym (and_left (eqb (length ledger) (ledger_size lim)) _ sized)) i;
    ordered = (ordered ∙ sym (and_left (in_order lim ledger) _ ordered)) i;
    p = (view_of lim ledger).p;
    C = (view_of lim ledger).C;
    marked = (view_of lim ledger).marked;
  }

  module _ (s : List ℕ) where
    same_answer : answered (book_sheet_post_call lim ledger book s) ≡ answered (sheet_post_call lim ledger s)
    unfolding book_sheet_post_call sheet_post_call refused_by answered
    same_answer = ap (λ (v : View). answer (refusal (sheet_tests lim v s)) 0) same_view

    same_ledger : bytes_left (book_sheet_post_call lim ledger book s) 0 ≡ bytes_left (sheet_post_call lim ledger s) 0
    unfolding book_sheet_post_call sheet_post_call refused_by all_left
    same_ledger = ap (λ (v : View). cond (eqb (refusal (sheet_tests lim v s)) 0) (foldl (enter_entry lim) ledger (entries s)) ledger) same_view

    looks_by_book : (total : List ℕ) → length total ≡ 16 → AsPosting lim (book_sheet_post_call lim ledger book s) ledger s total
    looks_by_book total room =
        let l = (looks_as_posted lim).as_posting ledger s total room in
        record {
          refused = λ n h e. l.refused n h (sym same_answer ∙ e);
          only_refused = λ n h e. same_answer ∙ l.only_refused n h e;
          taken = λ e.
              let t = l.taken (sym same_answer ∙ e) in
              (t.0 ∙ ap (λ (b : List ℕ). pos (unmarked_in lim b)) (sym same_ledger), t.1 ∙ ap (λ (b : List ℕ). bytes_of 16 (total_in lim b)) (sym same_ledger));
          only_taken = λ n e. same_answer ∙ l.only_taken n e;
        }

pub books_hold : (F : Formula) → F.last < 2 ^ 64 → Positive F → ((p : ℕ) → Position F p → RestBelowUnit is_charged F p (term_count F p)) → Books F
books_hold F fits above rest = record {
  settled = demand3_by_book F fits above rest;
  filled_alike = λ p C posts f. filled_offers F p C fits posts f;
  mended = λ p C range row block one x. let f = filled_exists F p C in mended F p C fits range row block x one f.0 f.1;
  holds_kept = holds_kept (limits_of F) fits;
  follows = follows (limits_of F) fits;
  then_eight = then_eight F fits;
  looks = λ ledger book s total z o room. looks_by_book (limits_of F) ledger book z o s total room;
}

-- ---- figures

pub bookings_answered : BookingsAnswered
unfolding answers keep_answer keep_next taken booking_refusal post_tests withdraw_tests plain_view refusal answer post_entries opened_keeping opened admit_kept admit including release dismiss excluding in_range is_ticket bytes_of
bookings_answered = (after_fresh (limits_of bellard) (omega arith) 1 1 refl some_bookings).0 ∙ refl

pub rows_stand : RowsStand
unfolding leaves keep_next taken booking_refusal post_tests withdraw_tests plain_view refusal post_entries opened_keeping opened admit_kept admit including adding keeping release dismiss excluding in_range is_ticket value_of bytes_of standing_from ticket_at sheet_of contents_of bodies_of
rows_stand = refl
