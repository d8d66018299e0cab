-- Tickets put into a plain ledger that keeps its sums: what it then has in, and keeps, by the list of them; and that two plain ledgers of the same run,
-- tickets and kept sums have the same bytes, the sums of their rows included.
-- Assumes nothing.
use mathlib.Core.Path.{◌≡◌, refl, sym, ap, ap₂, ◌∙◌}
use mathlib.Core.Bool.{Bool, true, false, cond, ◌||◌}
use mathlib.Core.List.{List, [], ◌∷◌, ◌++◌, foldl, Memᴰ}
use Prim.Native.Nat.{ℕ, ◌%◌, ◌<◌}
use native.Mathlib.Nat.{mod-eq_of_lt}
use native.Mathlib.Omega.{arith}
use borrow.Author.Tests.{eqb-true}
use lib.Dec.{eqb}
use Rattle.algebra.specs.Machine.{leaves}
use Rattle.algebra.specs.Sum.{sum}
use Rattle.algebra.proofs.Booleans.{and_left, and_right}
use Rattle.series.specs.Series.{modulus}
use Rattle.run.specs.Run.{Entry, Limits}
use Rattle.ledger.specs.Ledger.{head}
use Rattle.ledger.specs.Plain.{plain_view, is_of, including, admit, opened, mark_rows, encode}
use Rattle.ledger.proofs.RowSums.{rows_ext}
use Rattle.posting.specs.Posts.{post_entries, contains}
use Rattle.book.specs.Kept.{Keeping, opened_keeping, keeping, admit_kept, dismiss, release, encode_book, Sound}
use Rattle.booking.specs.Bookings.{Booking, posting, withdrawal, booking_refusal, taken, keep_next, on_keeping}
use Rattle.standing.specs.Moving.{Alike, AreAll}

-- ---- tickets put in, in order

-- the run stays
run_stays : (k : Keeping) (ts : List Entry) → ((foldl admit_kept k ts).plain.p ≡ k.plain.p) × ((foldl admit_kept k ts).plain.C ≡ k.plain.C)
unfolding admit_kept admit
run_stays k [] = (refl, refl)
run_stays k (t ∷ ts) = run_stays (admit_kept k t) ts

-- through any posts and withdrawals
run_next : (lim : Limits) (k : Keeping) (a : Booking) → ((keep_next lim k a).plain.p ≡ k.plain.p) × ((keep_next lim k a).plain.C ≡ k.plain.C)
unfolding keep_next taken release dismiss
run_next lim k a = go (eqb (booking_refusal lim (plain_view k.plain) a) 0) a
  where
    run_taken : (a : Booking) → ((taken k a).plain.p ≡ k.plain.p) × ((taken k a).plain.C ≡ k.plain.C)
    run_taken (posting a) = run_stays k (post_entries a)
    run_taken (withdrawal p C row block) = (refl, refl)

    go : (b : Bool) (a : Booking) → ((cond b (taken k a) k).plain.p ≡ k.plain.p) × ((cond b (taken k a) k).plain.C ≡ k.plain.C)
    go true a = run_taken a
    go false a = (refl, refl)

pub run_after : (lim : Limits) (k : Keeping) (bookings : List Booking)
    → ((leaves (on_keeping lim) k bookings).plain.p ≡ k.plain.p) × ((leaves (on_keeping lim) k bookings).plain.C ≡ k.plain.C)
unfolding leaves
run_after lim k [] = (refl, refl)
run_after lim k (a ∷ bookings) =
    let rest = run_after lim (keep_next lim k a) bookings in
    let next = run_next lim k a in
    (rest.0 ∙ next.0, rest.1 ∙ next.1)

-- what was in stays in, and the tickets of the list come in
tickets_in : (k : Keeping) (ts : List Entry) (row block : ℕ) → (foldl admit_kept k ts).plain.tickets row block ≡ (contains ts row block || k.plain.tickets row block)
unfolding admit_kept admit including contains
tickets_in k [] row block = refl
tickets_in k (t ∷ ts) row block = tickets_in (admit_kept k t) ts row block ∙ swap (contains ts row block) (is_of t row block) (k.plain.tickets row block)
  where
    swap : (a b c : Bool) → (a || (b || c)) ≡ ((b || a) || c)
    swap true true c = refl
    swap true false c = refl
    swap false true c = refl
    swap false false c = refl

-- where each carries the sum of a table, modulo 2 ^ 128, that is what is kept for it
sums_kept : (f : ℕ → ℕ → ℕ) (k : Keeping) (ts : List Entry) → ((t : Entry) → Memᴰ t ts → t.sum % modulus ≡ f t.row t.block) → (row block : ℕ)
    → (foldl admit_kept k ts).kept row block ≡ cond (contains ts row block) (f row block) (k.kept row block)
unfolding admit_kept keeping contains
sums_kept f k [] h row block = refl
sums_kept f k (t ∷ ts) h row block =
    sums_kept f (admit_kept k t) ts (λ u m. h u (Memᴰ.tail m)) row block ∙ go (is_of t row block) refl (contains ts row block)
  where
    go : (b : Bool) → is_of t row block ≡ b → (c : Bool)
        → cond c (f row block) (cond b (t.sum % modulus) (k.kept row block)) ≡ cond (b || c) (f row block) (k.kept row block)
    go true e true = refl
    go true e false =
        let er = eqb-true t.row row (and_left (eqb t.row row) _ e) in
        let eb = eqb-true t.block block (and_right (eqb t.row row) _ e) in
        h t (Memᴰ.head refl) ∙ ap₂ f er eb
    go false e c = refl

-- ---- all tickets of a plain ledger, put into the one that was opened for its run

pub put_back_in : (lim : Limits) (k : Keeping) → Sound lim k → (ts : List Entry) → AreAll k.plain.tickets k.kept ts
    → Alike (foldl admit_kept (opened_keeping k.plain.p k.plain.C) ts) k
unfolding opened_keeping opened
put_back_in lim k o ts all = record {
  same_p = (run_stays (opened_keeping k.plain.p k.plain.C) ts).0;
  same_c = (run_stays (opened_keeping k.plain.p k.plain.C) ts).1;
  same_tickets = λ row block.
      tickets_in (opened_keeping k.plain.p k.plain.C) ts row block ∙ or_false (contains ts row block) ∙ all.have row block;
  same_kept = λ row block.
      sums_kept k.kept (opened_keeping k.plain.p k.plain.C) ts
      (λ t m. ap (λ (n : ℕ). n % modulus) (all.carry t m) ∙ mod-eq_of_lt (o.kept_in t.row t.block)) row block
      ∙ ap (λ (b : Bool). cond b (k.kept row block) 0) (all.have row block) ∙ or_zero row block (k.plain.tickets row block) refl;
}
  where
    or_false : (b : Bool) → (b || false) ≡ b
    or_false true = refl
    or_false false = refl

    or_zero : (row block : ℕ) (b : Bool) → k.plain.tickets row block ≡ b → cond b (k.kept row block) 0 ≡ k.kept row block
    or_zero row block true e = refl
    or_zero row block false e = sym (o.off row block e)

-- ---- the same bytes

module _ (lim : Limits) (k l : Keeping) (o : Sound lim k) (u : Sound lim l) (a : Alike k l) where
  -- a row's sum is that of what is kept for its tickets
  row_sums_lem : (row : ℕ) → row < lim.rows → k.plain.sums row ≡ l.plain.sums row
  row_sums_lem row h =
      sym (o.adds_up row h)
      ∙ ap₂ (λ (f : ℕ → ℕ) (n : ℕ). sum f 0 n % modulus) (λ i block. a.same_kept row block i) a.same_c
      ∙ u.adds_up row h

  pub same_ledger : encode lim k.plain ≡ encode lim l.plain
  unfolding encode
  same_ledger =
      ap₂ ◌++◌
      (ap₂ ◌++◌ (ap₂ head a.same_p a.same_c) (rows_ext k.plain.sums l.plain.sums 0 lim.rows (λ row h m. row_sums_lem row (omega arith))))
      (ap (λ (m : ℕ → ℕ → Bool). mark_rows m 0 lim.rows) (λ i row block. a.same_tickets row block i))

  pub same_book : encode_book lim k.kept ≡ encode_book lim l.kept
  same_book = ap (encode_book lim) (λ i row block. a.same_kept row block i)
