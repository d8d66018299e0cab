-- What follows for posts and withdrawals by the book: what undoes what, two withdrawals in either order, that 5 is never answered from a fresh ledger
-- and an empty book on, and that without withdrawals all is as without a book. Document 02, slip 9.
use Rattle.std.specs.Prelude.{◌≡◌, true, ℕ, ℤ, pos, neg_ℤ, take, drop}
use mathlib.Core.List.{List, map, Memᴰ}
use Rattle.words.specs.Bytes.{AllBytes}
use Rattle.run.specs.Run.{Limits, in_range}
use Rattle.posting.specs.Posts.{Post, ticket, answers_to, ledger_after}
use Rattle.book.specs.Book.{kept_at}
use Rattle.booking.specs.Bookings.{Booking, posting, withdrawal, Pair, booking_answer, booking_bytes, pair_after, booking_answers, OneByOneBooked}

-- b, right after a that was answered 0, is answered 0 and brings ledger and book back as they were
abbrev pub Undoes : Limits → Pair → Booking → Booking → Type 0
Undoes lim s a b =
    booking_answer lim s a ≡ pos 0
    → (booking_answer lim (booking_bytes lim s a) b ≡ pos 0) × (booking_bytes lim (booking_bytes lim s a) b ≡ s)

-- a and b in either order leave the same bytes, and each is answered the same
pub record EitherOrder (lim : Limits) (s : Pair) (a b : Booking) : Type 0 where
  pub same_bytes : booking_bytes lim (booking_bytes lim s a) b ≡ booking_bytes lim (booking_bytes lim s b) a
  pub first_answer : booking_answer lim s a ≡ booking_answer lim (booking_bytes lim s b) a
  pub second_answer : booking_answer lim (booking_bytes lim s a) b ≡ booking_answer lim s b

pub record Follows (lim : Limits) : Type 0 where
  -- a withdrawal undoes a single post of its ticket
  pub post_undone : (s : Pair) → AllBytes s.ledger → AllBytes s.book → (p C row block : ℕ) (sum : List ℕ)
      → Undoes lim s (posting (ticket p C row block sum)) (withdrawal p C row block)
  -- and a post of the ticket with the bytes that the book kept undoes a withdrawal
  pub withdrawal_undone : (s : Pair) → AllBytes s.ledger → AllBytes s.book → (p C row block : ℕ)
      → Undoes lim s (withdrawal p C row block) (posting (ticket p C row block (take 16 (drop (kept_at row block) s.book))))
  -- withdrawals of different tickets, taken or refused
  pub either_order : (s : Pair) → AllBytes s.ledger → AllBytes s.book → (p C row block p' C' row' block' : ℕ)
      → ((p ≡ p') × (C ≡ C') × (row ≡ row') × (block ≡ block') → ⊥) → EitherOrder lim s (withdrawal p C row block) (withdrawal p' C' row' block')
  -- from a fresh ledger and an empty book on, ledger and book stay in order together
  pub never_five : (p C : ℕ) → in_range lim p C ≡ true → (bookings : List Booking) (a : ℤ)
      → Memᴰ a (booking_answers lim p C bookings) → a ≡ neg_ℤ (pos 5) → ⊥
  -- posts alone are answered as without a book, and leave the ledger that they leave without one
  pub without_withdrawals : (p C : ℕ) → in_range lim p C ≡ true → (posts : List Post)
      → (booking_answers lim p C (map posting posts) ≡ answers_to lim p C posts) × ((pair_after lim p C (map posting posts)).ledger ≡ ledger_after lim p C posts)
  -- a sheet is posted as its tickets one by one
  pub one_by_one : OneByOneBooked lim
