-- On a fresh ledger with an empty book every list of posts and withdrawals leaves in the bytes what the plain ledger holds and keeps, and answers as it
-- does: one at a time, since what is seen of the bytes is what is seen of the plain ledger, and each makes the same step in both.
-- Assumes nothing.
use mathlib.Core.Path.{◌≡◌, refl, sym, ap, ap₂, ◌∙◌, subst}
use mathlib.Core.Bool.{Bool, true, false, cond}
use mathlib.Core.List.{List, [], ◌∷◌, foldl}
use Prim.Native.Nat.{ℕ, ◌%◌, ◌^◌, ◌<◌}
use borrow.Author.Tests.{eqb-true}
use lib.Dec.{eqb}
use Rattle.algebra.specs.Machine.{leaves, answers}
use Rattle.algebra.proofs.Machines.{agree}
use Rattle.series.specs.Series.{modulus}
use Rattle.run.specs.Refusal.{answer}
use Rattle.run.specs.Run.{Entry, Limits, in_range, is_ticket}
use Rattle.run.specs.Call.{refused_by, answered, all_left}
use Rattle.run.proofs.Range.{ticket_row, ticket_low}
use Rattle.ledger.specs.Ledger.{View}
use Rattle.ledger.specs.Plain.{Plain, plain_view, encode, admit}
use Rattle.ledger.proofs.Image.{enter_encode, fresh_encode}
use Rattle.posting.specs.Calls.{enter_entry}
use Rattle.posting.specs.Posts.{ticket, sheet, post_refusal, post_entries}
use Rattle.posting.proofs.Simulation.{Ready, post_ready}
use Rattle.book.specs.Book.{kept_in, view_with, keep, keep_entry, remove}
use Rattle.book.specs.Kept.{Keeping, opened_keeping, admit_kept, release, encode_book, Sound}
use Rattle.book.proofs.Image.{keep_encode, keep_rem, book_empty, remove_encode}
use Rattle.book.proofs.Sound.{good_of, kept_there, view_with_lem, sound_opened, sound_admit, sound_release}
use Rattle.booking.specs.Calls.{book_post_call, book_sheet_post_call, withdraw_call}
use Rattle.booking.specs.Bookings.{Booking, posting, withdrawal, Pair, pair, booking_refusal, booking_answer, booking_bytes, taken, keep_answer, keep_next, on_pairs, on_keeping, fresh_pair, pair_after, booking_answers, keeping_after, keeping_answers}
use Rattle.booking.proofs.Testing.{withdraw_taken}

module _ (lim : Limits) (fits : lim.last < 2 ^ 64) where
  -- the bytes of the plain ledger, and of what it keeps
  abbrev pub bytes_of_kept : Keeping → Pair
  bytes_of_kept k = pair (encode lim k.plain) (encode_book lim k.kept)

  -- ---- several tickets put in, in order

  kept_one : (k : Keeping) → Sound lim k → (t : Entry) → is_ticket lim k.plain.C t.row t.block ≡ true
      → keep_entry (encode_book lim k.kept) t ≡ encode_book lim (admit_kept k t).kept
  unfolding admit_kept
  kept_one k o t h =
      sym (keep_rem (encode_book lim k.kept) t.row t.block t.sum)
      ∙ keep_encode lim k.kept t.row t.block (ticket_row lim k.plain.C t.row t.block h)
      (ticket_low lim k.plain.p k.plain.C t.row t.block o.range h) (t.sum % modulus)

  entered_one : (k : Keeping) → Sound lim k → (t : Entry) → is_ticket lim k.plain.C t.row t.block ≡ true → k.plain.tickets t.row t.block ≡ false
      → enter_entry lim (encode lim k.plain) t ≡ encode lim (admit_kept k t).plain
  unfolding admit_kept
  entered_one k o t h new = enter_encode lim k.plain (good_of lim fits k o) t h new

  pub plain_of : (k : Keeping) (t : Entry) → (admit_kept k t).plain ≡ admit k.plain t
  unfolding admit_kept
  plain_of k t = refl

  pub all_put : (k : Keeping) (ts : List Entry) → Sound lim k → Ready lim k.plain ts
      → (pair (foldl (enter_entry lim) (encode lim k.plain) ts) (foldl keep_entry (encode_book lim k.kept) ts) ≡ bytes_of_kept (foldl admit_kept k ts))
      × Sound lim (foldl admit_kept k ts)
  all_put k [] o r = (refl, o)
  all_put k (t ∷ ts) o r =
      let next = sound_admit lim fits k o t r.0 r.1 in
      let rest = all_put (admit_kept k t) ts next (subst (λ (s : Plain). Ready lim s ts) (sym (plain_of k t)) r.2) in (
        ap₂ (λ (l m : List ℕ). pair (foldl (enter_entry lim) l ts) (foldl keep_entry m ts)) (entered_one k o t r.0 r.1) (kept_one k o t r.0) ∙ rest.0,
        rest.1,
      )

  -- ---- one taken out

  pub one_out : (k : Keeping) (row block : ℕ) → Sound lim k → k.plain.tickets row block ≡ true
      → (pair (remove lim (encode lim k.plain) row block (kept_in (encode_book lim k.kept) row block)) (keep (encode_book lim k.kept) row block 0) ≡ bytes_of_kept (release k row block))
      × Sound lim (release k row block)
  unfolding release
  one_out k row block o there =
      let t = o.tickets_in row block there in
      let h = ticket_row lim k.plain.C row block t in
      let low = ticket_low lim k.plain.p k.plain.C row block o.range t in (
        ap₂ pair
            (ap (remove lim (encode lim k.plain) row block) (kept_there lim fits k o row block h low)
            ∙ remove_encode lim k.plain (good_of lim fits k o) row block t there (k.kept row block))
            (keep_encode lim k.kept row block h low 0),
        sound_release lim fits k o row block there,
      )

  -- ---- one post or withdrawal: both test the same table

  -- what a taken one makes of the bytes
  abbrev taken_bytes : Pair → Booking → Pair
  taken_bytes s (posting a) = pair (foldl (enter_entry lim) s.ledger (post_entries a)) (foldl keep_entry s.book (post_entries a))
  taken_bytes s (withdrawal p C row block) = pair (remove lim s.ledger row block (kept_in s.book row block)) (keep s.book row block 0)

  by_number : (n : ℕ) (t s : Pair) → pair (cond (eqb n 0) t.ledger s.ledger) (cond (eqb n 0) t.book s.book) ≡ cond (eqb n 0) t s
  by_number n t s = go (eqb n 0)
    where
      go : (b : Bool) → pair (cond b t.ledger s.ledger) (cond b t.book s.book) ≡ cond b t s
      go true = refl
      go false = refl

  pub booking_bytes_lem : (s : Pair) (a : Booking) → booking_bytes lim s a ≡ cond (eqb (booking_refusal lim (view_with lim s.ledger s.book) a) 0) (taken_bytes s a) s
  unfolding booking_bytes book_post_call book_sheet_post_call withdraw_call refused_by all_left booking_refusal post_entries
  booking_bytes_lem s (posting (ticket p C row block sum)) = by_number (booking_refusal lim (view_with lim s.ledger s.book) (posting (ticket p C row block sum))) (taken_bytes s (posting (ticket p C row block sum))) s
  booking_bytes_lem s (posting (sheet b)) = by_number (booking_refusal lim (view_with lim s.ledger s.book) (posting (sheet b))) (taken_bytes s (posting (sheet b))) s
  booking_bytes_lem s (withdrawal p C row block) = by_number (booking_refusal lim (view_with lim s.ledger s.book) (withdrawal p C row block)) (taken_bytes s (withdrawal p C row block)) s

  pub booking_answer_lem : (s : Pair) (a : Booking) → booking_answer lim s a ≡ answer (booking_refusal lim (view_with lim s.ledger s.book) a) 0
  unfolding booking_answer book_post_call book_sheet_post_call withdraw_call refused_by answered booking_refusal
  booking_answer_lem s (posting (ticket p C row block sum)) = refl
  booking_answer_lem s (posting (sheet b)) = refl
  booking_answer_lem s (withdrawal p C row block) = refl

  pub taken_step : (k : Keeping) (a : Booking) → Sound lim k → booking_refusal lim (plain_view k.plain) a ≡ 0
      → (taken_bytes (bytes_of_kept k) a ≡ bytes_of_kept (taken k a)) × Sound lim (taken k a)
  unfolding taken booking_refusal post_refusal plain_view
  taken_step k (posting a) o z = all_put k (post_entries a) o (post_ready lim k.plain a z)
  taken_step k (withdrawal p C row block) o z = one_out k row block o (withdraw_taken lim (plain_view k.plain) p C row block z).there

  pub step : (k : Keeping) (a : Booking) → Sound lim k
      → (booking_bytes lim (bytes_of_kept k) a ≡ bytes_of_kept (keep_next lim k a)) × Sound lim (keep_next lim k a)
  unfolding keep_next
  step k a o = rw (booking_bytes_lem (bytes_of_kept k) a, view_with_lem lim fits k o) (go (eqb (booking_refusal lim (plain_view k.plain) a) 0) refl)
    where
      go : (b : Bool) → eqb (booking_refusal lim (plain_view k.plain) a) 0 ≡ b
          → (cond b (taken_bytes (bytes_of_kept k) a) (bytes_of_kept k) ≡ bytes_of_kept (cond b (taken k a) k)) × Sound lim (cond b (taken k a) k)
      go true e = taken_step k a o (eqb-true _ _ e)
      go false e = (refl, o)

  pub booking_answers_lem : (k : Keeping) (a : Booking) → Sound lim k → booking_answer lim (bytes_of_kept k) a ≡ keep_answer lim k a
  unfolding keep_answer
  booking_answers_lem k a o = booking_answer_lem (bytes_of_kept k) a ∙ ap (λ (v : View). answer (booking_refusal lim v a) 0) (view_with_lem lim fits k o)

  -- ---- a list of them: the two machines agree at each step

  abbrev pub Holds : Pair → Keeping → Type 0
  Holds s k = (s ≡ bytes_of_kept k) × Sound lim k

  pub one_booking : (s : Pair) (k : Keeping) (a : Booking) → Holds s k
      → (booking_answer lim s a ≡ keep_answer lim k a) × Holds (booking_bytes lim s a) (keep_next lim k a)
  one_booking s k a h =
      let next = step k a h.1 in (
        ap (λ (l : Pair). booking_answer lim l a) h.0 ∙ booking_answers_lem k a h.1,
        (ap (λ (l : Pair). booking_bytes lim l a) h.0 ∙ next.0, next.1),
      )

  pub bookings_agree : (s : Pair) (k : Keeping) → Holds s k → (bookings : List Booking)
      → (answers (on_pairs lim) s bookings ≡ answers (on_keeping lim) k bookings) × Holds (leaves (on_pairs lim) s bookings) (leaves (on_keeping lim) k bookings)
  bookings_agree = agree (on_pairs lim) (on_keeping lim) Holds one_booking

  -- from a fresh ledger and an empty book
  module _ (p C : ℕ) (range : in_range lim p C ≡ true) where
    pub fresh_holds : Holds (fresh_pair lim p C) (opened_keeping p C)
    unfolding opened_keeping
    fresh_holds = (ap₂ pair (fresh_encode lim p C) (book_empty lim), sound_opened lim fits p C range)

    pub after_fresh : (bookings : List Booking) → (booking_answers lim p C bookings ≡ keeping_answers lim p C bookings)
        × Holds (pair_after lim p C bookings) (keeping_after lim p C bookings)
    after_fresh = bookings_agree (fresh_pair lim p C) (opened_keeping p C) fresh_holds
