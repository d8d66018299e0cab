-- Demand 3 by the book: what every list of posts and withdrawals on a ledger that starts fresh, with a book that starts all zero, gives, and the
-- closing after it. One statement, about the list at any length, over the definitions that the calls' contracts cite. Then what else holds of ledgers
-- with a book. Document 02, slip 9.
use Rattle.std.specs.Prelude.{◌≡◌, true, ℕ, ◌≤◌, ◌<◌, pos, neg_ℤ, length, take, replicate}
use mathlib.Core.List.{List, [], ◌∷◌, ◌++◌, map, Memᴰ}
use Rattle.words.specs.Bytes.{bytes_of, AllBytes}
use Rattle.series.specs.Series.{Formula, row_count, term_count}
use Rattle.series.specs.Bellard.{bellard}
use Rattle.interval.specs.Exact.{MakesWhole, exact_sum}
use Rattle.interval.specs.Interval.{is_charged, LiesFrom}
use Rattle.run.specs.Run.{limits_of, in_range, is_ticket, ticket_sum}
use Rattle.run.specs.Call.{answered, bytes_left}
use Rattle.ledger.specs.Ledger.{total_of}
use Rattle.ledger.specs.Plain.{encode}
use Rattle.posting.specs.Posts.{Post, ticket}
use Rattle.book.specs.Book.{view_with}
use Rattle.book.specs.Kept.{opened_keeping, encode_book, HoldsKept}
use Rattle.booking.specs.Calls.{book_sheet_post_call, withdraw_call}
use Rattle.booking.specs.Bookings.{Booking, posting, withdrawal, pair_after, booking_answers, keeping_after, keeping_answers, events, offered}
use Rattle.booking.specs.Follows.{Follows}
use Rattle.standing.specs.Moving.{sheet_of_kept}
use Rattle.look.specs.AsPosting.{AsPosting}
use Rattle.closing.specs.Closing.{low_of, high_of, close_call}
use Rattle.settlement.specs.Settlement.{Filled, row_sums, all_sums, Closed}

-- Each ticket of the run occurs after its last withdrawal that was taken, from the start of the list where it has none, and carries its right sum wherever
-- it occurs from there on.
pub record FilledByBook (F : Formula) (p C : ℕ) (bookings : List Booking) : Type 0 where
  pub occurs : (row block : ℕ) → is_ticket (limits_of F) C row block ≡ true
      → 0 < length (offered row block (events (limits_of F) (opened_keeping p C) bookings))
  pub right : (row block : ℕ) → is_ticket (limits_of F) C row block ≡ true → (x : ℕ)
      → Memᴰ x (offered row block (events (limits_of F) (opened_keeping p C) bookings)) → x ≡ ticket_sum F p C row block

-- What holds of a ledger's bytes s whose rows have these sums, where every ticket is in with its right sum: rows, total, bound and closing as demand 3
-- has them.
pub record Completed (F : Formula) (p C : ℕ) (sums : ℕ → ℕ) (s : List ℕ) : Type 0 where
  pub rows : (row : ℕ) → row < row_count F → sums row ≡ row_sums F p C row
  pub total : total_of (limits_of F) sums ≡ all_sums F p C
  pub near : (D L : ℕ) → 0 < D → term_count F p ≤ L → MakesWhole F p L D
      → LiesFrom D (low_of is_charged F p (total_of (limits_of F) sums)) (high_of is_charged F p (total_of (limits_of F) sums)) (exact_sum F p D L)
  pub closing : (out : List ℕ) → length out ≡ 32
      → Closed F p (low_of is_charged F p (total_of (limits_of F) sums)) (high_of is_charged F p (total_of (limits_of F) sums)) s out

-- The first is lent a fresh ledger, as opening leaves it (`Settled.opens`), and a book of full size that is all zero.
pub record SettledByBook (F : Formula) (p C : ℕ) (bookings : List Booking) : Type 0 where
  -- posts and withdrawals answer, and leave ledger and book, as the plain ledger does
  pub answers : booking_answers (limits_of F) p C bookings ≡ keeping_answers (limits_of F) p C bookings
  pub ledger : (pair_after (limits_of F) p C bookings).ledger ≡ encode (limits_of F) (keeping_after (limits_of F) p C bookings).plain
  pub book : (pair_after (limits_of F) p C bookings).book ≡ encode_book (limits_of F) (keeping_after (limits_of F) p C bookings).kept
  -- and where the run is filled, the closing of the ledger that the list left gives its digits
  pub filled : FilledByBook F p C bookings
      → Completed F p C (keeping_after (limits_of F) p C bookings).plain.sums (pair_after (limits_of F) p C bookings).ledger

-- Demand 3 by the book, for a formula: every run, every list of posts and withdrawals
abbrev pub Demand3ByBook : Formula → Type 0
Demand3ByBook F = (p C : ℕ) → in_range (limits_of F) p C ≡ true → (bookings : List Booking) → SettledByBook F p C bookings

-- ---- that there are such lists

-- a ticket posted with x, and withdrawn, before the rest of a list
abbrev pub mending : ℕ → ℕ → ℕ → ℕ → ℕ → List Booking → List Booking
mending p C row block x rest = posting (ticket p C row block (bytes_of 16 x)) ∷ withdrawal p C row block ∷ rest

-- Such a list that fills the run, whatever x is: the first two are taken.
pub record Mended (F : Formula) (p C row block x : ℕ) : Type 0 where
  pub rest : List Booking
  pub taken : take 2 (booking_answers (limits_of F) p C (mending p C row block x rest)) ≡ pos 0 ∷ pos 0 ∷ []
  pub filled : FilledByBook F p C (mending p C row block x rest)

-- ---- all that holds of ledgers with a book

pub record Books (F : Formula) : Type 0 where
  pub settled : Demand3ByBook F
  -- a list of posts that fills a run without a book fills it by the book
  pub filled_alike : (p C : ℕ) (posts : List Post) → Filled F p C posts → FilledByBook F p C (map posting posts)
  -- for every run, every ticket of it and every sum
  pub mended : (p C : ℕ) → in_range (limits_of F) p C ≡ true → (row block : ℕ) → is_ticket (limits_of F) C row block ≡ true → (x : ℕ) → Mended F p C row block x
  -- bytes and plain ledger hold the same, both ways
  pub holds_kept : HoldsKept (limits_of F)
  pub follows : Follows (limits_of F)
  -- a closing into 32 bytes directly after a withdrawal that was taken is refused by 8
  pub then_eight : (ledger book : List ℕ) → AllBytes ledger → AllBytes book → (p C row block : ℕ)
      → answered (withdraw_call (limits_of F) ledger book p C row block) ≡ pos 0 → (out : List ℕ) → length out ≡ 32
      → (answered (close_call F (bytes_left (withdraw_call (limits_of F) ledger book p C row block) 0) out) ≡ neg_ℤ (pos 8))
      × (bytes_left (close_call F (bytes_left (withdraw_call (limits_of F) ledger book p C row block) 0) out) 0 ≡ out)
  -- where ledger and book are in order together, a look is to a post by the book what it is to one without
  pub looks : (ledger book s total : List ℕ) → (view_with (limits_of F) ledger book).sized ≡ true → (view_with (limits_of F) ledger book).ordered ≡ true → length total ≡ 16
      → AsPosting (limits_of F) (book_sheet_post_call (limits_of F) ledger book s) ledger s total

-- ---- posts and withdrawals, taken and refused: Bellard's run p = 1, C = 1

-- These figures stand for themselves: a ticket posted with a sum of 16 bytes, which is refused the second time; withdrawn, which is refused the second time, too; withdrawals that name
-- another run, no ticket and no run; and the ticket posted again
abbrev pub some_bookings : List Booking
some_bookings =
    posting (ticket 1 1 0 0 (bytes_of 16 5)) ∷ posting (ticket 1 1 0 0 (bytes_of 16 6)) ∷ withdrawal 1 1 0 0 ∷ withdrawal 1 1 0 0
    ∷ withdrawal 2 1 0 0 ∷ withdrawal 1 1 0 1 ∷ withdrawal 0 1 0 1 ∷ posting (ticket 1 1 0 0 (bytes_of 16 6)) ∷ []

abbrev pub BookingsAnswered : Type 0
BookingsAnswered =
    booking_answers (limits_of bellard) 1 1 some_bookings
    ≡ pos 0 ∷ neg_ℤ (pos 7) ∷ pos 0 ∷ neg_ℤ (pos 13) ∷ neg_ℤ (pos 6) ∷ neg_ℤ (pos 4) ∷ neg_ℤ (pos 2) ∷ pos 0 ∷ []

-- ---- what stands after posts and a withdrawal: the same run

-- posted in falling order, and one of them withdrawn
abbrev pub falling_rows : List Booking
falling_rows =
    posting (ticket 1 1 6 0 (bytes_of 16 258)) ∷ posting (ticket 1 1 3 0 (bytes_of 16 5)) ∷ posting (ticket 1 1 0 0 (bytes_of 16 0)) ∷ withdrawal 1 1 3 0 ∷ []

-- rows 0 and 6, ascending, the one with a sum of 0 among them: 16 bytes of head, 8 of contents, 32 of bodies
abbrev pub RowsStand : Type 0
RowsStand =
    sheet_of_kept (limits_of bellard) (keeping_after (limits_of bellard) 1 1 falling_rows)
    ≡ (1 ∷ 0 ∷ 0 ∷ 0 ∷ 0 ∷ 0 ∷ 0 ∷ 0 ∷ 1 ∷ 0 ∷ 2 ∷ 0 ∷ 0 ∷ 0 ∷ 0 ∷ 0 ∷ []) ++ (0 ∷ 0 ∷ 0 ∷ 0 ∷ 6 ∷ 0 ∷ 0 ∷ 0 ∷ [])
    ++ replicate 16 0 ++ (2 ∷ 1 ∷ replicate 14 0)
