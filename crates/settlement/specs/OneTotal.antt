-- The ledger with one total that document 01 describes, kept to compare with, and what "digits come out as before" means of the ledger
-- with a sum for each row. Document 02, slip 1.
use Rattle.std.specs.Prelude.{◌≡◌, Bool, true, false, cond, ℕ, ◌+◌, ◌%◌, eqb, ℤ}
use mathlib.Core.List.{List, foldl}
use Rattle.algebra.specs.Machine.{Machine, leaves, answers}
use Rattle.series.specs.Series.{Formula, modulus}
use Rattle.interval.specs.Interval.{is_charged}
use Rattle.run.specs.Refusal.{answer}
use Rattle.run.specs.Run.{Limits, limits_of, in_range, Entry}
use Rattle.run.specs.Call.{answered, bytes_left}
use Rattle.ledger.specs.Ledger.{View, pos_in, blocks_in, total_in, mark_in}
use Rattle.ledger.specs.Plain.{including}
use Rattle.posting.specs.Posts.{Post, post_refusal, post_entries, ledger_after, answers_to}
use Rattle.closing.specs.Closing.{Ordered, close_by, close_call}

-- ---- the ledger with one total

-- It holds a run, a set of tickets and a total.
pub record OneTotal : Type 0 where
  pub p : ℕ
  pub C : ℕ
  pub tickets : ℕ → ℕ → Bool
  pub total : ℕ

-- the run named, the empty set and total 0
unfoldable pub one_opened : ℕ → ℕ → OneTotal
one_opened p C = record { p = p; C = C; tickets = λ row block. false; total = 0 }

-- for it the ledger has its size and is in order, and a ticket is marked if it is in the set
unfoldable pub one_view : OneTotal → View
one_view s = record { sized = true; ordered = true; p = s.p; C = s.C; marked = s.tickets }

-- a ticket put into the set, and its sum added to the total modulo 2 ^ 128
unfoldable pub one_admit : OneTotal → Entry → OneTotal
one_admit s t = record { p = s.p; C = s.C; tickets = including t s.tickets; total = (s.total + t.sum) % modulus }

-- where a number of the table applies nothing changes, otherwise each ticket goes in
unfoldable pub one_post : Limits → OneTotal → Post → OneTotal
one_post lim s a = cond (eqb (post_refusal lim (one_view s) a) 0) (foldl one_admit s (post_entries a)) s

unfoldable pub one_answer : Limits → OneTotal → Post → ℤ
one_answer lim s a = answer (post_refusal lim (one_view s) a) 0

-- lists of posts: a machine
abbrev pub on_one_total : Limits → Machine OneTotal Post ℤ
on_one_total lim = record { next = one_post lim; answer = one_answer lim }

-- closing it
abbrev pub one_close_answer : Formula → OneTotal → List ℕ → ℤ
one_close_answer F s digits = answered (close_by is_charged F (one_view s) s.total digits)

abbrev pub one_close_bytes : Formula → OneTotal → List ℕ → List ℕ
one_close_bytes F s digits = bytes_left (close_by is_charged F (one_view s) s.total digits) 0

-- ---- as before

-- Every list of posts on a fresh ledger, and the same list on the ledger with one total.
pub record SameAsOne (F : Formula) (p C : ℕ) (posts : List Post) : Type 0 where
  pub total : total_in (limits_of F) (ledger_after (limits_of F) p C posts) ≡ (leaves (on_one_total (limits_of F)) (one_opened p C) posts).total
  pub answers : answers_to (limits_of F) p C posts ≡ answers (on_one_total (limits_of F)) (one_opened p C) posts
  pub closing : (digits : List ℕ)
      → (answered (close_call F (ledger_after (limits_of F) p C posts) digits) ≡ one_close_answer F (leaves (on_one_total (limits_of F)) (one_opened p C) posts) digits)
      × (bytes_left (close_call F (ledger_after (limits_of F) p C posts) digits) 0 ≡ one_close_bytes F (leaves (on_one_total (limits_of F)) (one_opened p C) posts) digits)

-- Two ledgers in order with the same run, the same marks and the same total; the rows' sums may differ.
pub record SameTotal (lim : Limits) (s t : List ℕ) : Type 0 where
  pub first : Ordered lim s
  pub second : Ordered lim t
  pub same_p : pos_in s ≡ pos_in t
  pub same_c : blocks_in s ≡ blocks_in t
  pub same_marks : (row block : ℕ) → mark_in lim s row block ≡ mark_in lim t row block
  pub same_total : total_in lim s ≡ total_in lim t

-- Digits come out as before
pub record AsBefore (F : Formula) : Type 0 where
  pub same_as_one : (p C : ℕ) → in_range (limits_of F) p C ≡ true → (posts : List Post) → SameAsOne F p C posts
  -- a closing depends on a ledger through run, marks and total alone
  pub by_total : (s t : List ℕ) → SameTotal (limits_of F) s t → (digits : List ℕ)
      → (answered (close_call F s digits) ≡ answered (close_call F t digits)) × (bytes_left (close_call F s digits) 0 ≡ bytes_left (close_call F t digits) 0)
