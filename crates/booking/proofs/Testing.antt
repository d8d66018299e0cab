-- Posting a ticket by the book, and withdrawing one: the tests in their order, what is known where none applies, and ledger and book after it.
-- Assumes nothing.
use mathlib.Core.Path.{◌≡◌, refl, sym, ap, ap₂, ◌∙◌}
use mathlib.Core.Bool.{Bool, true, false, not, ◌&&◌}
use mathlib.Core.List.{List, [], ◌∷◌, ◌++◌}
use Prim.Native.Nat.{ℕ, suc, ◌+◌, ◌≤◌, ◌<◌}
use native.Mathlib.Omega.{arith}
use borrow.Author.Tests.{eq-eqb, ne_eqb}
use lib.Dec.{eqb}
use lib.IntN.{pos, negsuc}
use lib.ListN.{length}
use Rattle.algebra.proofs.Booleans.{and_first, right_fails}
use Rattle.words.specs.Words.{joined}
use Rattle.words.specs.Bytes.{field, value_of}
use Rattle.words.proofs.Joined.{joined_zero}
use Rattle.run.specs.Refusal.{Test, ◌unless◌, refusal, answer, tested}
use Rattle.run.specs.Run.{Limits, in_range, is_ticket}
use Rattle.run.specs.Tests.{of_sizes, of_ticket}
use Rattle.std.specs.Prelude.{Ok, Err, ⊤}
use Rattle.run.specs.Answers.{answer_of, Verdict, verdict_of}
use Rattle.run.specs.declared.Refusal.{Refusal}
use Rattle.run.specs.Call.{Call, refused_by, answered, Does}
use Rattle.run.proofs.Testing.{Left, here, past, none_left, part_here, part_past, part_passes, passed, ticket_passed}
use Rattle.run.proofs.Calls.{finishes, was_passed, turned_back}
use Rattle.ledger.specs.Ledger.{View, mark_at, bit_in, mark_in, enter, Enterable}
use Rattle.ledger.specs.Calls.{of_ledger, of_marks, post_tests}
use Rattle.ledger.proofs.Posting.{Shows, Place, place, ledger_passed, PostTaken, post_taken, may_enter, sum_read}
use Rattle.book.specs.Book.{book_size, kept_at, kept_in, view_with, keep, remove, Removable}
use Rattle.book.proofs.Sound.{ledger_sized, book_sized}
use Rattle.booking.specs.Calls.{book_post_call, entry_tests, withdraw_tests, withdraw_call}

-- ---- what is seen of a ledger and a book together

pub with_book : (lim : Limits) (ledger book : List ℕ) → Shows lim (view_with lim ledger book) ledger
unfolding view_with
with_book lim ledger book = record { size = ledger_sized lim ledger book; blocks = refl; marks = λ row block. refl }

-- where a function that compared the sizes answered that they are right
pub right_size : (lim : Limits) (ledger book : List ℕ) (b : Bool) → b ≡ (view_with lim ledger book).sized → b ≡ true → (view_with lim ledger book).sized ≡ true
right_size lim ledger book b e f = sym e ∙ f

-- a ticket's place in the book
pub keepable : (lim : Limits) (book : List ℕ) (row block : ℕ) → length book ≡ book_size lim → row < lim.rows → block < 256
    → kept_at row block + 16 ≤ length book
keepable lim book row block size h l = omega arith

-- ---- one ticket, a ledger and a book: the tests that posts and withdrawals share

module _ (lim : Limits) (v : View) (p C row block : ℕ) where
  -- alone, as those of a call that has no slice
  abbrev entry : Call
  entry = record { tests = entry_tests lim v p C row block; in_order = refl; value = 0; slices = [] }

  all_tests : Left entry (of_sizes v.sized ++ of_ticket lim p C row block ++ of_ledger v p C)
  unfolding refused_by
  all_tests = record { decide = refl }

  module _ (b : Bool) (sized : b ≡ v.sized) where
    pub wrong_size_lem : b ≡ false → negsuc 0 ≡ tested (entry_tests lim v p C row block)
    unfolding answered refused_by
    wrong_size_lem f = here all_tests (sym sized ∙ f)

    module _ (t : b ≡ true) (a : Verdict) (ea : verdict_of a ≡ tested (of_ticket lim p C row block)) where
      from_ticket : Left entry (of_ticket lim p C row block ++ of_ledger v p C)
      from_ticket = past all_tests (sym sized ∙ t)

      pub no_ticket : (r : Refusal) → a ≡ Err r → answer_of (Err r) ≡ tested (entry_tests lim v p C row block)
      unfolding answered refused_by
      no_ticket = part_here _ a ea (of_ledger v p C) from_ticket

      pub by_ledger : (w : ⊤) → a ≡ Ok w → (c : Verdict) → verdict_of c ≡ tested (of_ledger v p C) → verdict_of c ≡ tested (entry_tests lim v p C row block)
      unfolding refused_by
      by_ledger w f c ec = ec ∙ ap (λ (n : ℕ). answer n 0) (sym (part_past _ a ea (of_ledger v p C) from_ticket refl w f).decide)

-- what it means that they are passed
pub record EntryTaken (lim : Limits) (v : View) (p C row block : ℕ) : Type 0 where
  pub sized : v.sized ≡ true
  pub range : in_range lim p C ≡ true
  pub ticket : is_ticket lim C row block ≡ true
  pub ordered : v.ordered ≡ true
  pub same_p : p ≡ v.p
  pub same_c : C ≡ v.C

pub entry_taken : (lim : Limits) (v : View) (p C row block : ℕ) (ts : List Test) → refusal (entry_tests lim v p C row block ++ ts) ≡ 0
    → EntryTaken lim v p C row block × (refusal ts ≡ 0)
entry_taken lim v p C row block ts e =
    let size = passed 0 _ _ e in
    let t = ticket_passed lim p C row block _ size.1 in
    let l = ledger_passed v p C ts t.2 in
    (record { sized = size.0; range = t.0; ticket = t.1; ordered = l.0; same_p = l.1; same_c = l.2 }, l.3)

pub record WithdrawTaken (lim : Limits) (v : View) (p C row block : ℕ) : Type 0 where
  pub entry : EntryTaken lim v p C row block
  pub there : v.marked row block ≡ true

pub withdraw_taken : (lim : Limits) (v : View) (p C row block : ℕ) → refusal (withdraw_tests lim v p C row block) ≡ 0 → WithdrawTaken lim v p C row block
unfolding withdraw_tests
withdraw_taken lim v p C row block e = let t = entry_taken lim v p C row block _ e in record { entry = t.0; there = (passed 12 _ [] t.1).0 }

-- the ticket's place, by what a function answered that made them
module _ (lim : Limits) (ledger book : List ℕ) (p C row block : ℕ) (a : Verdict)
    (ea : verdict_of a ≡ tested (entry_tests lim (view_with lim ledger book) p C row block)) (w : ⊤) (f : a ≡ Ok w) where
  pub in_place : Place lim (view_with lim ledger book) ledger row block
  in_place =
      let t = (entry_taken lim (view_with lim ledger book) p C row block [] (part_passes _ a ea w f)).0 in
      place lim (view_with lim ledger book) ledger (with_book lim ledger book) p C row block t.sized t.range t.ticket t.same_c

  pub mark_inside : mark_at lim row block < length ledger
  mark_inside = omega (arith, in_place.sized, in_place.row_in, in_place.block_in)

-- ---- and then one test of the ticket's mark: of posts and withdrawals its number differs, and what is to hold of the mark

pub record Asks (lim : Limits) (ledger book : List ℕ) (p C row block n : ℕ) (holds : Bool → Bool) (call : Call) : Type 0 where
  pub all_tests : Left call (entry_tests lim (view_with lim ledger book) p C row block ++ (suc n unless holds (mark_in lim ledger row block)) ∷ [])
  pub zero : call.value ≡ 0

module _ {lim : Limits} {ledger book : List ℕ} {p C row block n : ℕ} {holds : Bool → Bool} {call : Call}
    (asks : Asks lim ledger book p C row block n holds call) (a : Verdict)
    (ea : verdict_of a ≡ tested (entry_tests lim (view_with lim ledger book) p C row block)) where
  pub not_taken : (r : Refusal) → a ≡ Err r → answer_of (Err r) ≡ answered call
  not_taken = part_here _ a ea _ asks.all_tests

  module _ (w : ⊤) (f : a ≡ Ok w) (b : Bool) (read : b ≡ bit_in lim ledger row block) where
    from_mark : Left call ((suc n unless holds (mark_in lim ledger row block)) ∷ [])
    from_mark = part_past _ a ea _ asks.all_tests refl w f

    asked : holds (mark_in lim ledger row block) ≡ holds b
    unfolding view_with
    asked = ap holds ((in_place lim ledger book p C row block a ea w f).bit ∙ sym read)

    pub mark_refused : holds b ≡ false → negsuc n ≡ answered call
    mark_refused e = here from_mark (asked ∙ e)

    pub taken : holds b ≡ true → pos 0 ≡ answered call
    taken e = sym (ap pos asks.zero) ∙ none_left (past from_mark (asked ∙ e))

-- ---- posting

module _ (lim : Limits) (ledger book : List ℕ) (p C row block : ℕ) (sum : List ℕ) where
  abbrev v : View
  v = view_with lim ledger book

  abbrev from : Bool → List Test
  from b = of_sizes b ++ of_ticket lim p C row block ++ of_ledger v p C ++ of_marks (not (mark_in lim ledger row block))

  post_tests_lem : Left (book_post_call lim ledger book p C row block sum) (from (v.sized && eqb (length sum) 16))
  unfolding book_post_call post_tests refused_by view_with
  post_tests_lem = record { decide = refl }

  pub sum_size : (length sum ≡ 16 → ⊥) → negsuc 0 ≡ answered (book_post_call lim ledger book p C row block sum)
  sum_size h = here post_tests_lem (right_fails v.sized _ (ne_eqb _ _ h))

  pub post_asks : length sum ≡ 16 → Asks lim ledger book p C row block 6 not (book_post_call lim ledger book p C row block sum)
  unfolding book_post_call
  post_asks h = record {
    all_tests = record { decide = post_tests_lem.decide ∙ ap (λ (b : Bool). refusal (from b)) (and_first v.sized _ (eq-eqb _ _ h)) };
    zero = refl;
  }

  -- after the tests, by what they answered
  module _ (a : Verdict) (made : verdict_of a ≡ answered (book_post_call lim ledger book p C row block sum)) where
    known : (w : ⊤) → a ≡ Ok w → PostTaken lim v p C row block sum
    unfolding book_post_call refused_by
    known w f = post_taken lim v p C row block sum (was_passed _ a made w f)

    pub post_known : (w : ⊤) → a ≡ Ok w → (length sum ≡ 16) × Enterable lim ledger row block × (kept_at row block + 16 ≤ length book)
    post_known w f =
        let t = known w f in
        let e = may_enter lim v ledger (with_book lim ledger book) p C row block sum t in
        (t.sum_sized, e, keepable lim book row block (book_sized lim ledger book t.sized) e.row_in e.block_in)

    pub posted : (w : ⊤) (x : ℕ) (t u : List ℕ) → a ≡ Ok w → x ≡ field sum 0 16 → t ≡ enter lim ledger row block x → u ≡ keep book row block x
        → Does (book_post_call lim ledger book p C row block sum) (pos 0) (t ∷ u ∷ [])
    unfolding book_post_call
    posted w x t u f ex et eu =
        let d = finishes (book_post_call lim ledger book p C row block sum) (was_passed _ a made w f) in
        let e : x ≡ value_of sum = ex ∙ sum_read sum (known w f).sum_sized in
        (d.0, ap₂ (λ (b c : List ℕ). b ∷ c ∷ []) (et ∙ ap (enter lim ledger row block) e) (eu ∙ ap (keep book row block) e) ∙ d.1)

    pub not_posted : (r : Refusal) → a ≡ Err r → Does (book_post_call lim ledger book p C row block sum) (answer_of (Err r)) (ledger ∷ book ∷ [])
    unfolding book_post_call
    not_posted r f = turned_back (book_post_call lim ledger book p C row block sum) a made r f

-- ---- withdrawing

module _ (lim : Limits) (ledger book : List ℕ) (p C row block : ℕ) where
  pub withdraw_asks : Asks lim ledger book p C row block 12 (λ b. b) (withdraw_call lim ledger book p C row block)
  unfolding withdraw_call withdraw_tests refused_by view_with
  withdraw_asks = record { all_tests = record { decide = refl }; zero = refl }

  module _ (a : Verdict) (made : verdict_of a ≡ answered (withdraw_call lim ledger book p C row block)) where
    pub withdraw_known : (w : ⊤) → a ≡ Ok w → Removable lim ledger row block × (kept_at row block + 16 ≤ length book)
    unfolding withdraw_call refused_by
    withdraw_known w f =
        let v = view_with lim ledger book in
        let t = withdraw_taken lim v p C row block (was_passed _ a made w f) in
        let e = t.entry in
        let at = place lim v ledger (with_book lim ledger book) p C row block e.sized e.range e.ticket e.same_c in (
          record { sized = at.sized; row_in = at.row_in; block_in = at.block_in; there = sym at.bit ∙ t.there },
          keepable lim book row block (book_sized lim ledger book e.sized) at.row_in at.block_in,
        )

    pub withdrawn : (w : ⊤) (x : ℕ) (t u : List ℕ) → a ≡ Ok w → x ≡ kept_in book row block → t ≡ remove lim ledger row block x
        → u ≡ keep book row block (joined 0 0) → Does (withdraw_call lim ledger book p C row block) (pos 0) (t ∷ u ∷ [])
    unfolding withdraw_call
    withdrawn w x t u f ex et eu =
        let d = finishes (withdraw_call lim ledger book p C row block) (was_passed _ a made w f) in
        (d.0, ap₂ (λ (b c : List ℕ). b ∷ c ∷ []) (et ∙ ap (remove lim ledger row block) ex) (eu ∙ ap (keep book row block) joined_zero) ∙ d.1)

    pub not_withdrawn : (r : Refusal) → a ≡ Err r → Does (withdraw_call lim ledger book p C row block) (answer_of (Err r)) (ledger ∷ book ∷ [])
    unfolding withdraw_call
    not_withdrawn r f = turned_back (withdraw_call lim ledger book p C row block) a made r f
