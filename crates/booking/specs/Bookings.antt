-- Lists of posts of both kinds and withdrawals, on a ledger with its book and on the plain ledger that keeps each sum: what they leave and what they
-- answer, and what is offered for a ticket since it was last withdrawn. Document 02, slip 9.
use Rattle.std.specs.Prelude.{◌≡◌, cond, ◌&&◌, ℕ, eqb, ℤ, pos, length, replicate}
use mathlib.Core.List.{List, [], ◌∷◌, ◌++◌, foldl, map}
use Rattle.algebra.specs.Machine.{Machine, leaves, answers, in_one_list}
use Rattle.words.specs.Bytes.{AllBytes}
use Rattle.run.specs.Refusal.{Test, refusal, answer}
use Rattle.run.specs.Run.{Entry, Limits}
use Rattle.run.specs.Call.{Call, answered, bytes_left}
use Rattle.sheet.specs.Sheet.{sheet_pos, sheet_blocks, entries}
use Rattle.ledger.specs.Ledger.{View, fresh}
use Rattle.ledger.specs.Plain.{plain_view, is_of}
use Rattle.posting.specs.Posts.{Post, ticket, sheet, tests_of, post_entries, singles, occurring}
use Rattle.book.specs.Book.{book_size}
use Rattle.book.specs.Kept.{Keeping, opened_keeping, admit_kept, release}
use Rattle.booking.specs.Calls.{book_post_call, book_sheet_post_call, withdraw_tests, withdraw_call}

-- What is done by the book, by its arguments beside ledger and book: a post, or a withdrawal of p, C, row, block.
pub data Booking : Type 0 where
  posting : Post → Booking
  withdrawal : ℕ → ℕ → ℕ → ℕ → Booking

-- A ledger, and the book beside it.
pub record Pair : Type 0 where
  pub ledger : List ℕ
  pub book : List ℕ

abbrev pub pair : List ℕ → List ℕ → Pair
pair ledger book = record { ledger = ledger; book = book }

-- ---- one of them

-- its tests, by what is seen of ledger and book
abbrev pub booking_tests : Limits → View → Booking → List Test
booking_tests lim v (posting a) = tests_of lim v a
booking_tests lim v (withdrawal p C row block) = withdraw_tests lim v p C row block

unfoldable pub booking_refusal : Limits → View → Booking → ℕ
booking_refusal lim v a = refusal (booking_tests lim v a)

-- on the bytes: what the three calls answer and leave
abbrev pub booking_call : Limits → Pair → Booking → Call
booking_call lim s (posting (ticket p C row block sum)) = book_post_call lim s.ledger s.book p C row block sum
booking_call lim s (posting (sheet b)) = book_sheet_post_call lim s.ledger s.book b
booking_call lim s (withdrawal p C row block) = withdraw_call lim s.ledger s.book p C row block

unfoldable pub booking_answer : Limits → Pair → Booking → ℤ
booking_answer lim s a = answered (booking_call lim s a)

unfoldable pub booking_bytes : Limits → Pair → Booking → Pair
booking_bytes lim s a = pair (bytes_left (booking_call lim s a) 0) (bytes_left (booking_call lim s a) 1)

-- on the plain ledger, where no number of the table applies: each ticket of a post goes in, and one that is withdrawn goes out
unfoldable pub taken : Keeping → Booking → Keeping
taken k (posting a) = foldl admit_kept k (post_entries a)
taken k (withdrawal p C row block) = release k row block

unfoldable pub keep_answer : Limits → Keeping → Booking → ℤ
keep_answer lim k a = answer (booking_refusal lim (plain_view k.plain) a) 0

unfoldable pub keep_next : Limits → Keeping → Booking → Keeping
keep_next lim k a = cond (eqb (booking_refusal lim (plain_view k.plain) a) 0) (taken k a) k

-- ---- lists of them: a machine on the bytes, and one on the plain ledger

abbrev pub on_pairs : Limits → Machine Pair Booking ℤ
on_pairs lim = record { next = booking_bytes lim; answer = booking_answer lim }

abbrev pub on_keeping : Limits → Machine Keeping Booking ℤ
on_keeping lim = record { next = keep_next lim; answer = keep_answer lim }

-- a fresh ledger, and a book of full size that is all zero
abbrev pub fresh_pair : Limits → ℕ → ℕ → Pair
fresh_pair lim p C = pair (fresh lim p C) (replicate (book_size lim) 0)

abbrev pub pair_after : Limits → ℕ → ℕ → List Booking → Pair
pair_after lim p C bookings = leaves (on_pairs lim) (fresh_pair lim p C) bookings

abbrev pub booking_answers : Limits → ℕ → ℕ → List Booking → List ℤ
booking_answers lim p C bookings = answers (on_pairs lim) (fresh_pair lim p C) bookings

-- and the same of the plain ledger
abbrev pub keeping_after : Limits → ℕ → ℕ → List Booking → Keeping
keeping_after lim p C bookings = leaves (on_keeping lim) (opened_keeping p C) bookings

abbrev pub keeping_answers : Limits → ℕ → ℕ → List Booking → List ℤ
keeping_answers lim p C bookings = answers (on_keeping lim) (opened_keeping p C) bookings

-- ---- a sheet as posts of its tickets one by one

-- Posting a sheet by the book, where it is taken, leaves the ledger and the book that posting its tickets one by one by the book, in order, leaves;
-- each of these posts is answered 0.
abbrev pub OneByOneBooked : Limits → Type 0
OneByOneBooked lim =
    (ledger book s : List ℕ) → AllBytes ledger → AllBytes book → AllBytes s → answered (book_sheet_post_call lim ledger book s) ≡ pos 0
    → (leaves (on_pairs lim) (pair ledger book) (map posting (singles (sheet_pos s) (sheet_blocks s) (entries s)))
    ≡ pair (bytes_left (book_sheet_post_call lim ledger book s) 0) (bytes_left (book_sheet_post_call lim ledger book s) 1))
    × (answers (on_pairs lim) (pair ledger book) (map posting (singles (sheet_pos s) (sheet_blocks s) (entries s)))
    ≡ replicate (length (entries s)) (pos 0))

-- ---- what is offered for a ticket

-- What happens to tickets: one occurs, with the sum offered, or one is withdrawn.
pub data Event : Type 0 where
  offer : Entry → Event
  withdrawn : ℕ → ℕ → Event

-- a single post that names a ticket with the run's p and C and a 16-byte sum, taken or refused; the tickets of a sheet that the plain ledger takes;
-- a withdrawal that it takes
unfoldable pub happening : Limits → Keeping → Booking → List Event
happening lim k (posting a) = map offer (occurring lim k.plain a)
happening lim k (withdrawal p C row block) =
    cond (eqb (booking_refusal lim (plain_view k.plain) (withdrawal p C row block)) 0) (withdrawn row block ∷ []) []

-- in a list: a machine that answers what happens
abbrev pub recounting : Limits → Machine Keeping Booking (List Event)
recounting lim = record { next = keep_next lim; answer = happening lim }

abbrev pub events : Limits → Keeping → List Booking → List Event
events lim k bookings = in_one_list (answers (recounting lim) k bookings)

-- the sums offered for a ticket, in order, of which `before` were offered already: a withdrawal of the ticket discards what was offered before it
unfoldable pub offered_after : ℕ → ℕ → List ℕ → List Event → List ℕ
offered_after row block before [] = before
offered_after row block before (offer t ∷ es) = offered_after row block (cond (is_of t row block) (before ++ t.sum ∷ []) before) es
offered_after row block before (withdrawn r b ∷ es) = offered_after row block (cond (eqb r row && eqb b block) [] before) es

-- the sums offered for a ticket since its last withdrawal, from the start where it has none
abbrev pub offered : ℕ → ℕ → List Event → List ℕ
offered row block es = offered_after row block [] es
