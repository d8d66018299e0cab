-- Posting a sheet by the book: its tests are those of posting without one, and its sums are kept entry by entry.
-- Assumes nothing.
use mathlib.Core.Path.{◌≡◌, refl, sym, ap, ap₂, ◌∙◌}
use mathlib.Core.Bool.{true}
use mathlib.Core.List.{List, [], ◌∷◌, foldl, foldl-append}
use Prim.Native.Nat.{ℕ, ◌+◌, ◌*◌, ◌≤◌, ◌<◌}
use lib.IntN.{pos}
use lib.ListN.{length}
use Rattle.words.specs.Bytes.{field}
use Rattle.run.specs.Run.{Limits}
use Rattle.std.specs.Prelude.{Ok, Err, ⊤}
use Rattle.run.specs.Answers.{answer_of, Verdict, verdict_of}
use Rattle.run.specs.declared.Refusal.{Refusal}
use Rattle.run.specs.Call.{refused_by, answered, Does}
use Rattle.run.proofs.Calls.{finishes, was_passed, turned_back}
use Rattle.sheet.specs.Sheet.{sheet_count, row_in, block_in, sum_in, entries_from, entries, all_tickets}
use Rattle.sheet.proofs.Each.{entry, entries_next}
use Rattle.posting.specs.Calls.{enter_entry, AllEnterable}
use Rattle.posting.proofs.Testing.{Posts, SheetTaken, sheet_taken, may_enter_all}
use Rattle.posting.proofs.Admitting.{row_in_lem, low}
use Rattle.book.specs.Book.{book_size, kept_at, view_with, keep, keep_entry}
use Rattle.book.proofs.Sound.{book_sized}
use Rattle.booking.specs.Calls.{book_sheet_post_call, AllKeepable}
use Rattle.booking.proofs.Testing.{with_book, keepable}

pub together : (lim : Limits) (ledger book s : List ℕ) → Posts lim (view_with lim ledger book) ledger s (book_sheet_post_call lim ledger book s)
unfolding book_sheet_post_call refused_by
together lim ledger book s = record { shows = with_book lim ledger book; all_tests = record { decide = refl }; zero = refl }

-- ---- the sums, entry by entry

module _ (lim : Limits) (s first : List ℕ) (e : ℕ) (counted : e ≡ sheet_count s) (book : List ℕ) (i row block : ℕ) (er : row ≡ row_in s i) (eb : block ≡ block_in s i) where
  pub inside : length first ≡ book_size lim → all_tickets lim 256 (entries s) ≡ true → length book ≡ length first → i < e → kept_at row block + 16 ≤ length book
  unfolding entries
  inside sized placed same l =
      let known = ap (λ (n : ℕ). all_tickets lim 256 (entries_from s 0 n)) counted ∙ placed in
      rw (er, eb) (keepable lim book (row_in s i) (block_in s i) (same ∙ sized) (row_in_lem lim s e known i l) (low lim s e known i l))

  pub one_kept : (next : List ℕ) (x : ℕ) → x ≡ field s (16 + 4 * e + 16 * i) 16 → next ≡ keep book row block x
      → book ≡ foldl keep_entry first (entries_from s 0 i) → next ≡ foldl keep_entry first (entries_from s 0 (i + 1))
  unfolding sum_in
  one_kept next x ex en so_far =
      let sum : x ≡ sum_in s i = ex ∙ ap (λ (n : ℕ). field s (16 + 4 * n + 16 * i) 16) counted in
      en ∙ rw (er, eb, sum, so_far) refl
      ∙ sym (ap (foldl keep_entry first) (entries_next s i) ∙ foldl-append keep_entry first (entries_from s 0 i) (entry s i ∷ []))

-- ---- after the tests, by what they answered

module _ (lim : Limits) (ledger book s : List ℕ) (a : Verdict) (made : verdict_of a ≡ answered (book_sheet_post_call lim ledger book s)) where
  known : (w : ⊤) → a ≡ Ok w → SheetTaken lim (view_with lim ledger book) s
  unfolding book_sheet_post_call refused_by
  known w f = sheet_taken lim (view_with lim ledger book) s (was_passed _ a made w f)

  pub sheet_enterable : (w : ⊤) → a ≡ Ok w → AllEnterable lim ledger s
  sheet_enterable w f = may_enter_all lim (view_with lim ledger book) ledger s (with_book lim ledger book) (known w f)

  pub sheet_keepable : (w : ⊤) → a ≡ Ok w → AllKeepable lim book s
  sheet_keepable w f =
      let e = sheet_enterable w f in
      record { whole = e.whole; sized = book_sized lim ledger book (known w f).sized; placed = e.placed }

  pub sheet_posted : (w : ⊤) (t u : List ℕ) → a ≡ Ok w → t ≡ foldl (enter_entry lim) ledger (entries s) → u ≡ foldl keep_entry book (entries s)
      → Does (book_sheet_post_call lim ledger book s) (pos 0) (t ∷ u ∷ [])
  unfolding book_sheet_post_call
  sheet_posted w t u f et eu =
      let d = finishes (book_sheet_post_call lim ledger book s) (was_passed _ a made w f) in
      (d.0, ap₂ (λ (b c : List ℕ). b ∷ c ∷ []) et eu ∙ d.1)

  pub sheet_not_posted : (r : Refusal) → a ≡ Err r → Does (book_sheet_post_call lim ledger book s) (answer_of (Err r)) (ledger ∷ book ∷ [])
  unfolding book_sheet_post_call
  sheet_not_posted r f = turned_back (book_sheet_post_call lim ledger book s) a made r f
