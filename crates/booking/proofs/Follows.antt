-- What follows for posts and withdrawals by the book. Bytes in order together hold a plain ledger that keeps its sums; what is shown of that is true of
-- the bytes. Bytes that are not refuse all alike.
-- Assumes nothing.
use mathlib.Core.Path.{◌≡◌, refl, sym, ap, ap₂, ◌∙◌, subst}
use mathlib.Core.Bool.{Bool, true, false, not, cond, ◌&&◌, ◌||◌}
use mathlib.Core.List.Memᴰ
use mathlib.Core.List.{List, [], ◌∷◌, foldl, map, Memᴰ}
use Prim.Native.Nat.{ℕ, suc, ◌^◌, ◌<◌}
use native.Mathlib.Omega.{arith}
use borrow.Author.Tests.{eq-eqb, eqb-true}
use lib.Dec.{eqb}
use lib.IntN.{ℤ, pos, neg_ℤ}
use lib.ListN.{length, take, drop, replicate}
use Rattle.algebra.specs.Machine.{leaves, answers}
use Rattle.algebra.proofs.Booleans.{and_left, and_right, not_both}
use Rattle.words.specs.Bytes.{bytes_of, value_of, field, AllBytes}
use Rattle.words.proofs.Bytes.{value_bytes, length_part}
use Rattle.series.specs.Series.{modulus}
use Rattle.run.specs.Refusal.{Test, refusal, answer}
use Rattle.run.specs.Run.{Entry, Limits, in_range, is_ticket}
use Rattle.run.specs.Call.{bytes_left}
use Rattle.run.proofs.Answering.{not_refused, refused_by_lem}
use Rattle.run.proofs.Range.{ticket_row, ticket_low}
use Rattle.sheet.specs.Sheet.{sheet_blocks, sheet_count, entries}
use Rattle.ledger.specs.Plain.{Plain, plain_view, admit, encode, decode}
use Rattle.ledger.specs.Calls.{post_tests}
use Rattle.ledger.proofs.Posting.{post_taken}
use Rattle.posting.specs.Calls.{sheet_tests}
use Rattle.posting.specs.Posts.{Post, ticket, sheet, post_refusal, post_entries, plain_answer, plain_post, on_plain, answers_to, ledger_after, singles}
use Rattle.posting.proofs.Testing.{sheet_taken}
use Rattle.posting.proofs.Simulation as plainly
use Rattle.posting.proofs.Singles as one_by_one
use Rattle.book.specs.Book.{kept_at, kept_in, view_with}
use Rattle.book.specs.Kept.{Keeping, opened_keeping, admit_kept, dismiss, release, decode_with, Sound}
use Rattle.book.proofs.Image.{excluding_here, excluding_else}
use Rattle.book.proofs.Sound.{book_sized, good_of, sound_decoded, again_decoded, sound_release, sound_admit}
use Rattle.ledger.proofs.Image.{including_here}
use Rattle.booking.specs.Calls.{book_sheet_post_call, withdraw_tests}
use Rattle.booking.specs.Bookings.{Booking, posting, withdrawal, Pair, pair, booking_refusal, booking_answer, booking_bytes, taken, keep_answer, keep_next, on_pairs, on_keeping, pair_after, booking_answers, OneByOneBooked}
use Rattle.booking.specs.Follows.{Undoes, EitherOrder, Follows}
use Rattle.booking.proofs.Testing.{WithdrawTaken, withdraw_taken, keepable}
use Rattle.booking.proofs.Simulation.{bytes_of_kept, plain_of, Holds, booking_bytes_lem, booking_answer_lem, one_booking, bookings_agree, after_fresh}
use Rattle.booking.proofs.Undone.{in_and_out, out_and_in, out_swap}

-- one that is taken
pub next_taken : (lim : Limits) (k : Keeping) (a : Booking) → booking_refusal lim (plain_view k.plain) a ≡ 0 → keep_next lim k a ≡ taken k a
unfolding keep_next
next_taken lim k a e = rw e refl

-- a withdrawal of a ticket that is in the set is
pub not_refused_out : (lim : Limits) (k : Keeping) (p C row block : ℕ) → in_range lim p C ≡ true → is_ticket lim C row block ≡ true → p ≡ k.plain.p → C ≡ k.plain.C
    → k.plain.tickets row block ≡ true → booking_refusal lim (plain_view k.plain) (withdrawal p C row block) ≡ 0
unfolding booking_refusal withdraw_tests plain_view refusal
not_refused_out lim k p C row block range t ep eC there = rw (range, t, eq-eqb p k.plain.p ep, eq-eqb C k.plain.C eC, there) refl

-- of these tests none with number n applies: computed where the numbers are known
abbrev spares : ℕ → List Test → Bool
spares n [] = true
spares n (t ∷ ts) = (not (eqb t.number n) || not t.applies) && spares n ts

spared : (n : ℕ) (ts : List Test) → spares (suc n) ts ≡ true → refusal ts ≡ suc n → ⊥
unfolding refusal
spared n [] s e = omega (arith, e)
spared n (t ∷ ts) s e =
    go t.applies refl (spared n ts (and_right (not (eqb t.number (suc n)) || not t.applies) _ s)) e
  where
    here : (not (eqb t.number (suc n)) || not t.applies) ≡ true
    here = and_left (not (eqb t.number (suc n)) || not t.applies) _ s

    go : (b : Bool) → t.applies ≡ b → (refusal ts ≡ suc n → ⊥) → cond b t.number (refusal ts) ≡ suc n → ⊥
    go true f later q = not_both true refl (sym (rw (eq-eqb t.number (suc n) q, f) at here))
    go false f later q = later q

module _ (lim : Limits) (fits : lim.last < 2 ^ 64) where
  -- ---- bytes in order together

  pub held : (s : Pair) → AllBytes s.ledger → AllBytes s.book → (view_with lim s.ledger s.book).sized ≡ true → (view_with lim s.ledger s.book).ordered ≡ true
      → Holds lim fits s (decode_with lim s.ledger s.book)
  held s b c z o =
      let a = again_decoded lim fits s.ledger s.book b c z o in
      (ap₂ pair (sym a.0) (sym a.1), sound_decoded lim fits s.ledger s.book b c z o)

  -- what is answered 0 was refused by no number, of the bytes and of the plain ledger
  pub by_none : (s : Pair) (a : Booking) → booking_answer lim s a ≡ pos 0 → booking_refusal lim (view_with lim s.ledger s.book) a ≡ 0
  by_none s a e = (not_refused _ 0 0 (sym (booking_answer_lem lim fits s a) ∙ e)).0

  pub plain_by_none : (s : Pair) (k : Keeping) (a : Booking) → Holds lim fits s k → booking_answer lim s a ≡ pos 0 → booking_refusal lim (plain_view k.plain) a ≡ 0
  unfolding keep_answer
  plain_by_none s k a h e = (not_refused _ 0 0 (sym (one_booking lim fits s k a h).0 ∙ e)).0

  -- what a taken one leaves
  pub leaves_taken : (s : Pair) (k : Keeping) (a : Booking) → Holds lim fits s k → booking_refusal lim (plain_view k.plain) a ≡ 0 → Holds lim fits (booking_bytes lim s a) (taken k a)
  leaves_taken s k a h z = subst (Holds lim fits (booking_bytes lim s a)) (next_taken lim k a z) (one_booking lim fits s k a h).1

  -- ---- one undoes the other

  undone : (s : Pair) (k : Keeping) (a b : Booking) → Holds lim fits s k → booking_refusal lim (plain_view k.plain) a ≡ 0
      → booking_refusal lim (plain_view (taken k a).plain) b ≡ 0 → taken (taken k a) b ≡ k
      → (booking_answer lim (booking_bytes lim s a) b ≡ pos 0) × (booking_bytes lim (booking_bytes lim s a) b ≡ s)
  unfolding keep_answer answer
  undone s k a b h z y back =
      let first = leaves_taken s k a h z in
      let second = leaves_taken (booking_bytes lim s a) (taken k a) b first y in (
        (one_booking lim fits (booking_bytes lim s a) (taken k a) b first).0 ∙ ap (λ (n : ℕ). answer n 0) y,
        second.0 ∙ ap (bytes_of_kept lim fits) back ∙ sym h.0,
      )

  post_undone : (s : Pair) → AllBytes s.ledger → AllBytes s.book → (p C row block : ℕ) (sum : List ℕ)
      → Undoes lim s (posting (ticket p C row block sum)) (withdrawal p C row block)
  unfolding taken booking_refusal post_entries admit_kept admit plain_view
  post_undone s b c p C row block sum e =
      let a = posting (ticket p C row block sum) in
      let seen = post_taken lim (view_with lim s.ledger s.book) p C row block sum (by_none s a e) in
      let k = decode_with lim s.ledger s.book in
      let h = held s b c seen.sized seen.ordered in
      let z = plain_by_none s k a h e in
      let t = post_taken lim (plain_view k.plain) p C row block sum z in
      let entry : Entry = record { row = row; block = block; sum = value_of sum } in
      undone s k a (withdrawal p C row block) h z
      (not_refused_out lim (admit_kept k entry) p C row block t.range t.ticket t.same_p t.same_c (including_here entry k.plain.tickets))
      (in_and_out lim k h.1 entry t.new)

  -- the bytes that are kept for a ticket that is in the set
  kept_bytes : (s : Pair) (row block : ℕ) → (decode_with lim s.ledger s.book).plain.tickets row block ≡ true
      → value_of (take 16 (drop (kept_at row block) s.book)) ≡ (decode_with lim s.ledger s.book).kept row block
  unfolding decode_with decode kept_in field
  kept_bytes s row block e = rw e refl

  -- and their number
  kept_length : (s : Pair) (p C row block : ℕ) → WithdrawTaken lim (view_with lim s.ledger s.book) p C row block → length (take 16 (drop (kept_at row block) s.book)) ≡ 16
  kept_length s p C row block t =
      let e = t.entry in
      length_part s.book (kept_at row block) 16
      (keepable lim s.book row block (book_sized lim s.ledger s.book e.sized) (ticket_row lim C row block e.ticket) (ticket_low lim p C row block e.range e.ticket))

  withdrawal_undone : (s : Pair) → AllBytes s.ledger → AllBytes s.book → (p C row block : ℕ)
      → Undoes lim s (withdrawal p C row block) (posting (ticket p C row block (take 16 (drop (kept_at row block) s.book))))
  unfolding taken booking_refusal post_refusal post_entries release dismiss plain_view
  withdrawal_undone s b c p C row block e =
      let a = withdrawal p C row block in
      let sum = take 16 (drop (kept_at row block) s.book) in
      let seen = withdraw_taken lim (view_with lim s.ledger s.book) p C row block (by_none s a e) in
      let k = decode_with lim s.ledger s.book in
      let h = held s b c seen.entry.sized seen.entry.ordered in
      let z = plain_by_none s k a h e in
      let t = withdraw_taken lim (plain_view k.plain) p C row block z in
      let o = sound_release lim fits k h.1 row block t.there in
      undone s k a (posting (ticket p C row block sum)) h z
      (one_by_one.not_refused lim (release k row block).plain p C row block sum (good_of lim fits (release k row block) o) t.entry.same_p t.entry.same_c
      (kept_length s p C row block seen) (subst (λ (n : ℕ). is_ticket lim n row block ≡ true) t.entry.same_c t.entry.ticket) (excluding_here row block k.plain.tickets))
      (ap (λ (n : ℕ). admit_kept (release k row block) (record { row = row; block = block; sum = n })) (kept_bytes s row block t.there) ∙ out_and_in lim k h.1 row block t.there)

  -- ---- two withdrawals of different tickets

  module _ (p C row block p' C' row' block' : ℕ) (apart : (p ≡ p') × (C ≡ C') × (row ≡ row') × (block ≡ block') → ⊥) where
    abbrev one : Booking
    one = withdrawal p C row block

    abbrev other : Booking
    other = withdrawal p' C' row' block'

    -- one is seen alike after the other was taken: that changes neither the run nor, if one names the run, whether its ticket is in the set
    seen_alike : (k : Keeping) → booking_refusal lim (plain_view k.plain) other ≡ 0
        → booking_refusal lim (plain_view (release k row' block').plain) one ≡ booking_refusal lim (plain_view k.plain) one
    unfolding booking_refusal withdraw_tests plain_view refusal release dismiss
    seen_alike k z = go (eqb p k.plain.p) refl (eqb C k.plain.C) refl
      where
        t : WithdrawTaken lim (plain_view k.plain) p' C' row' block'
        t = withdraw_taken lim (plain_view k.plain) p' C' row' block' z

        go : (a : Bool) → eqb p k.plain.p ≡ a → (b : Bool) → eqb C k.plain.C ≡ b
            → booking_refusal lim (plain_view (release k row' block').plain) one ≡ booking_refusal lim (plain_view k.plain) one
        go true e true f =
            rw (excluding_else row' block' k.plain.tickets row block
            (λ q. apart (eqb-true _ _ e ∙ sym t.entry.same_p, eqb-true _ _ f ∙ sym t.entry.same_c, q.0, q.1))) refl
        go true e false f = rw (e, f) refl
        go false e b f = rw e refl

    -- taken or not
    next_alike : (k : Keeping) → booking_refusal lim (plain_view (keep_next lim k other).plain) one ≡ booking_refusal lim (plain_view k.plain) one
    unfolding keep_next taken
    next_alike k = go (eqb (booking_refusal lim (plain_view k.plain) other) 0) refl
      where
        go : (b : Bool) → eqb (booking_refusal lim (plain_view k.plain) other) 0 ≡ b
            → booking_refusal lim (plain_view (cond b (release k row' block') k).plain) one ≡ booking_refusal lim (plain_view k.plain) one
        go true e = seen_alike k (eqb-true _ _ e)
        go false e = refl

  -- bytes that are not in order together stay as they are
  stays : (s : Pair) (p C row block : ℕ) → ((view_with lim s.ledger s.book).sized ≡ true → (view_with lim s.ledger s.book).ordered ≡ true → ⊥)
      → booking_bytes lim s (withdrawal p C row block) ≡ s
  unfolding booking_refusal
  stays s p C row block bad =
      booking_bytes_lem lim fits s (withdrawal p C row block)
      ∙ go _ (eqb (booking_refusal lim (view_with lim s.ledger s.book) (withdrawal p C row block)) 0) refl
    where
      go : (t : Pair) (b : Bool) → eqb (booking_refusal lim (view_with lim s.ledger s.book) (withdrawal p C row block)) 0 ≡ b → cond b t s ≡ s
      go _ true e =
          let t = withdraw_taken lim (view_with lim s.ledger s.book) p C row block (eqb-true _ _ e) in
          absurd (bad t.entry.sized t.entry.ordered)
      go _ false e = refl

  module _ (p C row block p' C' row' block' : ℕ) (apart : (p ≡ p') × (C ≡ C') × (row ≡ row') × (block ≡ block') → ⊥) where
    turned : (p' ≡ p) × (C' ≡ C) × (row' ≡ row) × (block' ≡ block) → ⊥
    turned q = apart (sym q.0, sym q.1, sym q.2, sym q.3)

    swap_next : (k : Keeping) → keep_next lim (keep_next lim k (withdrawal p C row block)) (withdrawal p' C' row' block')
        ≡ keep_next lim (keep_next lim k (withdrawal p' C' row' block')) (withdrawal p C row block)
    unfolding keep_next taken booking_refusal
    swap_next k =
        rw (next_alike p' C' row' block' p C row block turned k, next_alike p C row block p' C' row' block' apart k)
        (go (eqb (booking_refusal lim (plain_view k.plain) (withdrawal p C row block)) 0) refl (eqb (booking_refusal lim (plain_view k.plain) (withdrawal p' C' row' block')) 0) refl)
      where
        go : (a : Bool) → eqb (booking_refusal lim (plain_view k.plain) (withdrawal p C row block)) 0 ≡ a
            → (b : Bool) → eqb (booking_refusal lim (plain_view k.plain) (withdrawal p' C' row' block')) 0 ≡ b
            → cond b (release (cond a (release k row block) k) row' block') (cond a (release k row block) k)
            ≡ cond a (release (cond b (release k row' block') k) row block) (cond b (release k row' block') k)
        go true e true f =
            let t = withdraw_taken lim (plain_view k.plain) p C row block (eqb-true _ _ e) in
            let u = withdraw_taken lim (plain_view k.plain) p' C' row' block' (eqb-true _ _ f) in
            out_swap k row block row' block' (λ q. apart (t.entry.same_p ∙ sym u.entry.same_p, t.entry.same_c ∙ sym u.entry.same_c, q.0, q.1))
        go true e false f = refl
        go false e true f = refl
        go false e false f = refl

    either_order : (s : Pair) → AllBytes s.ledger → AllBytes s.book → EitherOrder lim s (withdrawal p C row block) (withdrawal p' C' row' block')
    unfolding keep_answer
    either_order s b c = go (view_with lim s.ledger s.book).sized refl (view_with lim s.ledger s.book).ordered refl
      where
        k : Keeping
        k = decode_with lim s.ledger s.book

        refuses : ((view_with lim s.ledger s.book).sized ≡ true → (view_with lim s.ledger s.book).ordered ≡ true → ⊥)
            → EitherOrder lim s (withdrawal p C row block) (withdrawal p' C' row' block')
        refuses bad =
            let one = stays s p C row block bad in
            let other = stays s p' C' row' block' bad in
            record {
              same_bytes = ap (λ (t : Pair). booking_bytes lim t (withdrawal p' C' row' block')) one ∙ other
                  ∙ sym (ap (λ (t : Pair). booking_bytes lim t (withdrawal p C row block)) other ∙ one);
              first_answer = ap (λ (t : Pair). booking_answer lim t (withdrawal p C row block)) (sym other);
              second_answer = ap (λ (t : Pair). booking_answer lim t (withdrawal p' C' row' block')) one;
            }

        go : (m : Bool) → (view_with lim s.ledger s.book).sized ≡ m → (n : Bool) → (view_with lim s.ledger s.book).ordered ≡ n
            → EitherOrder lim s (withdrawal p C row block) (withdrawal p' C' row' block')
        go true e true f =
            let h = held s b c e f in
            let one = one_booking lim fits s k (withdrawal p C row block) h in
            let other = one_booking lim fits s k (withdrawal p' C' row' block') h in
            let then-other = one_booking lim fits _ _ (withdrawal p' C' row' block') one.1 in
            let then_one = one_booking lim fits _ _ (withdrawal p C row block) other.1 in
            record {
              same_bytes = then-other.1.0 ∙ ap (bytes_of_kept lim fits) (swap_next k) ∙ sym then_one.1.0;
              first_answer = one.0 ∙ ap (λ (n : ℕ). answer n 0) (sym (next_alike p C row block p' C' row' block' apart k)) ∙ sym then_one.0;
              second_answer = then-other.0 ∙ ap (λ (n : ℕ). answer n 0) (next_alike p' C' row' block' p C row block turned k) ∙ sym other.0;
            }
        go true e false f = refuses (λ g h. not_both _ h f)
        go false e n f = refuses (λ g h. not_both _ g e)

  -- ---- 5 is never answered

  not_five : (s : Plain) (a : Booking) → booking_refusal lim (plain_view s) a ≡ 5 → ⊥
  unfolding booking_refusal post_tests sheet_tests withdraw_tests plain_view
  not_five s (posting (ticket p C row block sum)) = spared 4 (post_tests lim (plain_view s) p C row block sum) refl
  not_five s (posting (sheet b)) = spared 4 (sheet_tests lim (plain_view s) b) refl
  not_five s (withdrawal p C row block) = spared 4 (withdraw_tests lim (plain_view s) p C row block) refl

  no_fives : (k : Keeping) (bookings : List Booking) (a : ℤ) → Memᴰ a (answers (on_keeping lim) k bookings) → a ≡ neg_ℤ (pos 5) → ⊥
  unfolding answers keep_answer
  no_fives k [] a m e = Memᴰ.not-nil m
  no_fives k (x ∷ bookings) a (Memᴰ.head q) e = not_five k.plain x (refused_by_lem _ 0 5 (omega arith) (sym q ∙ e))
  no_fives k (x ∷ bookings) a (Memᴰ.tail m) e = no_fives (keep_next lim k x) bookings a m e

  -- ---- without withdrawals

  plain_put : (k : Keeping) (ts : List Entry) → (foldl admit_kept k ts).plain ≡ foldl admit k.plain ts
  plain_put k [] = refl
  plain_put k (t ∷ ts) = plain_put (admit_kept k t) ts ∙ ap (λ (s : Plain). foldl admit s ts) (plain_of lim fits k t)

  pub plain_next : (k : Keeping) (a : Post) → (keep_next lim k (posting a)).plain ≡ plain_post lim k.plain a
  unfolding keep_next plain_post taken booking_refusal post_refusal
  plain_next k a = go (eqb (post_refusal lim (plain_view k.plain) a) 0)
    where
      go : (b : Bool) → (cond b (foldl admit_kept k (post_entries a)) k).plain ≡ cond b (foldl admit k.plain (post_entries a)) k.plain
      go true = plain_put k (post_entries a)
      go false = refl

  plain_posts : (k : Keeping) (posts : List Post) → (answers (on_keeping lim) k (map posting posts) ≡ answers (on_plain lim) k.plain posts)
      × ((leaves (on_keeping lim) k (map posting posts)).plain ≡ leaves (on_plain lim) k.plain posts)
  unfolding answers leaves keep_answer plain_answer booking_refusal post_refusal
  plain_posts k [] = (refl, refl)
  plain_posts k (a ∷ posts) =
      let rest = plain_posts (keep_next lim k (posting a)) posts in
      let next = plain_next k a in (
        ap (λ (l : List ℤ). plain_answer lim k.plain a ∷ l) (rest.0 ∙ ap (λ (s : Plain). answers (on_plain lim) s posts) next),
        rest.1 ∙ ap (λ (s : Plain). leaves (on_plain lim) s posts) next,
      )

  without_withdrawals : (p C : ℕ) → in_range lim p C ≡ true → (posts : List Post)
      → (booking_answers lim p C (map posting posts) ≡ answers_to lim p C posts) × ((pair_after lim p C (map posting posts)).ledger ≡ ledger_after lim p C posts)
  unfolding opened_keeping
  without_withdrawals p C range posts =
      let by-book = after_fresh lim fits p C range (map posting posts) in
      let without = plainly.after_fresh lim p C fits range posts in
      let same = plain_posts (opened_keeping p C) posts in (
        by-book.0 ∙ same.0 ∙ sym without.0,
        ap (λ (s : Pair). s.ledger) by-book.1.0 ∙ ap (encode lim) same.1 ∙ sym without.1.0,
      )

  -- ---- a sheet as its tickets one by one

  one_put : (k : Keeping) (t : Entry) → Sound lim k → is_ticket lim k.plain.C t.row t.block ≡ true → k.plain.tickets t.row t.block ≡ false → t.sum < modulus
      → keep_next lim k (posting (ticket k.plain.p k.plain.C t.row t.block (bytes_of 16 t.sum))) ≡ admit_kept k t
  unfolding taken post_entries booking_refusal post_refusal
  one_put k t o h new fit =
      next_taken lim k _ (one_by_one.one_taken lim k.plain t (good_of lim fits k o) h new)
      ∙ ap (λ (n : ℕ). admit_kept k (record { row = t.row; block = t.block; sum = n })) (value_bytes 16 t.sum fit)

  all_taken : (k : Keeping) (ts : List Entry) → Sound lim k → plainly.Ready lim k.plain ts → one_by_one.SumsFit ts
      → (leaves (on_keeping lim) k (map posting (singles k.plain.p k.plain.C ts)) ≡ foldl admit_kept k ts)
      × (answers (on_keeping lim) k (map posting (singles k.plain.p k.plain.C ts)) ≡ replicate (length ts) (pos 0))
  unfolding leaves answers keep_answer answer singles admit_kept admit booking_refusal post_refusal
  all_taken k [] o r f = (refl, refl)
  all_taken k (t ∷ ts) o r f =
      let here = one_put k t o r.0 r.1 f.0 in
      let rest = all_taken (admit_kept k t) ts (sound_admit lim fits k o t r.0 r.1) r.2 f.1 in
      let later = map posting (singles k.plain.p k.plain.C ts) in (
        ap (λ (x : Keeping). leaves (on_keeping lim) x later) here ∙ rest.0,
        ap₂ (λ (x : ℤ) (l : List ℤ). x ∷ l)
            (ap (λ (n : ℕ). answer n 0) (one_by_one.one_taken lim k.plain t (good_of lim fits k o) r.0 r.1))
            (ap (λ (x : Keeping). answers (on_keeping lim) x later) here ∙ rest.1),
      )

  one_by_one_booked : OneByOneBooked lim
  unfolding booking_refusal post_refusal plain_view taken post_entries entries booking_bytes booking_answer
  one_by_one_booked ledger book b bytes book-bytes sheet-bytes e =
      let s = pair ledger book in
      let a = posting (sheet b) in
      let seen = sheet_taken lim (view_with lim ledger book) b (by_none s a e) in
      let k = decode_with lim ledger book in
      let h = held s bytes book-bytes seen.sized seen.ordered in
      let z = plain_by_none s k a h e in
      let t = sheet_taken lim (plain_view k.plain) b z in
      let all = all_taken k (entries b) h.1 (plainly.post_ready lim k.plain (sheet b) z) (one_by_one.sums_fit b sheet-bytes (sheet_count b) 0) in
      let posts = map posting (singles k.plain.p k.plain.C (entries b)) in
      let agreed = bookings_agree lim fits s k h posts in
      let P : ℕ → ℕ → Type 0 =
      (λ p C. (leaves (on_pairs lim) s (map posting (singles p C (entries b))) ≡ pair (bytes_left (book_sheet_post_call lim ledger book b) 0) (bytes_left (book_sheet_post_call lim ledger book b) 1))
      × (answers (on_pairs lim) s (map posting (singles p C (entries b))) ≡ replicate (length (entries b)) (pos 0))) in
      subst (λ (p : ℕ). P p (sheet_blocks b)) (sym t.same_p)
      (subst (λ (C : ℕ). P k.plain.p C) (sym t.same_c)
      (agreed.1.0 ∙ ap (bytes_of_kept lim fits) all.0 ∙ sym (leaves_taken s k a h z).0, agreed.0 ∙ all.1))

  pub follows : Follows lim
  follows = record {
    post_undone = post_undone;
    withdrawal_undone = withdrawal_undone;
    either_order = λ s b c p C row block p' C' row' block' apart. either_order p C row block p' C' row' block' apart s b c;
    never_five = λ p C range bookings a m. no_fives (opened_keeping p C) bookings a (subst (Memᴰ a) (after_fresh lim fits p C range bookings).0 m);
    without_withdrawals = without_withdrawals;
    one_by_one = one_by_one_booked;
  }
