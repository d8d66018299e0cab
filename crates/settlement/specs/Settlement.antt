-- Demand 3: what every list of posts on a ledger that starts fresh gives, and the closing after it. One statement, about the list
-- at any length, over the definitions that the calls' contracts cite.
use Rattle.std.specs.Prelude.{◌≡◌, true, ℕ, ◌*◌, ◌%◌, ◌≤◌, ◌<◌, ℤ, pos, neg_ℤ, length, drop}
use mathlib.Core.List.{List, ◌++◌, Memᴰ}
use Rattle.algebra.specs.Sum.{sum}
use Rattle.algebra.specs.Whole.{quotient}
use Rattle.series.specs.Series.{Formula, row_count, term_count, modulus}
use Rattle.digits.specs.Digits.{unit_at, Greatest, NoneSettled, OneOutcome, low_digits}
use Rattle.interval.specs.Exact.{MakesWhole, exact_sum}
use Rattle.interval.specs.Interval.{is_charged, LiesFrom}
use Rattle.run.specs.Run.{limits_of, in_range, is_ticket, ticket_sum, Entry}
use Rattle.run.specs.Call.{answered, bytes_left}
use Rattle.ledger.specs.Ledger.{fresh, ledger_size, total_of}
use Rattle.ledger.specs.Plain.{opened, encode}
use Rattle.ledger.specs.Calls.{open_call}
use Rattle.posting.specs.Posts.{Post, ledger_after, answers_to, plain_after, plain_answers_to, occurrences, contains}
use Rattle.closing.specs.Closing.{low_of, high_of, close_call}

-- Each ticket of the run occurs in the list, and carries its right sum wherever it occurs.
pub record Filled (F : Formula) (p C : ℕ) (posts : List Post) : Type 0 where
  pub occurs : (row block : ℕ) → is_ticket (limits_of F) C row block ≡ true
      → contains (occurrences (limits_of F) (opened p C) posts) row block ≡ true
  pub right : (t : Entry) → Memᴰ t (occurrences (limits_of F) (opened p C) posts)
      → is_ticket (limits_of F) C t.row t.block ≡ true → t.sum ≡ ticket_sum F p C t.row t.block

-- the sums of a row's tickets, one for each, added modulo 2 ^ 128
unfoldable pub row_sums : Formula → ℕ → ℕ → ℕ → ℕ
row_sums F p C row = sum (λ block. ticket_sum F p C row block) 0 C % modulus

-- the sums of all tickets of the run, one for each, added modulo 2 ^ 128
unfoldable pub all_sums : Formula → ℕ → ℕ → ℕ
all_sums F p C = sum (λ row. sum (λ block. ticket_sum F p C row block) 0 C) 0 (row_count F) % modulus

-- the sums of the rows after the list of posts, and their total
abbrev pub final_sums : Formula → ℕ → ℕ → List Post → ℕ → ℕ
final_sums F p C posts = (plain_after (limits_of F) p C posts).sums

abbrev pub final_total : Formula → ℕ → ℕ → List Post → ℕ
final_total F p C posts = total_of (limits_of F) (final_sums F p C posts)

-- What a closing of the ledger s into 32 bytes gives, where the exact sum lies from lo to hi.
pub record Closed (F : Formula) (p : ℕ) (lo hi : ℤ) (s out : List ℕ) : Type 0 where
  -- the distance settles no digit, or there is a greatest d that it settles: one of the two, and one d
  pub outcome : OneOutcome lo hi
  -- refusal 9 exactly where it settles none, and then the bytes stay
  pub refused : NoneSettled lo hi → (answered (close_call F s out) ≡ neg_ℤ (pos 9)) × (bytes_left (close_call F s out) 0 ≡ out)
  pub only_then : answered (close_call F s out) ≡ neg_ℤ (pos 9) → NoneSettled lo hi
  -- else the answer is the greatest d that it settles, and the first d bytes are the lowest d digits of X / (D * 2 ^ (128 - 4 d)),
  -- for every exact sum X from length K on
  pub settled : (d : ℕ) → Greatest lo hi d
      → (answered (close_call F s out) ≡ pos d)
      × ((D L : ℕ) → 0 < D → term_count F p ≤ L → MakesWhole F p L D
      → bytes_left (close_call F s out) 0 ≡ low_digits d (quotient (exact_sum F p D L) (D * unit_at d)) ++ drop d out)

pub record Settled (F : Formula) (p C : ℕ) (posts : List Post) : Type 0 where
  -- opening any bytes of the ledger's size answers 0 and leaves a fresh ledger
  pub opens : (s : List ℕ) → length s ≡ ledger_size (limits_of F)
      → (answered (open_call (limits_of F) p C s) ≡ pos 0) × (bytes_left (open_call (limits_of F) p C s) 0 ≡ fresh (limits_of F) p C)
  -- the posts answer, and leave the ledger, as the plain ledger does
  pub answers : answers_to (limits_of F) p C posts ≡ plain_answers_to (limits_of F) p C posts
  pub ledger : ledger_after (limits_of F) p C posts ≡ encode (limits_of F) (plain_after (limits_of F) p C posts)
  -- in a filled run each row's sum is that of the row's tickets, one for each, and the total is the sum of all tickets
  pub rows : Filled F p C posts → (row : ℕ) → row < row_count F → final_sums F p C posts row ≡ row_sums F p C row
  pub total : Filled F p C posts → final_total F p C posts ≡ all_sums F p C
  -- every exact partial sum from K on lies from total - (b + 1) to total + (a + 1) modulo 2 ^ 128
  pub near : Filled F p C posts → (D L : ℕ) → 0 < D → term_count F p ≤ L → MakesWhole F p L D
      → LiesFrom D (low_of is_charged F p (final_total F p C posts)) (high_of is_charged F p (final_total F p C posts)) (exact_sum F p D L)
  -- and the closing of the ledger that the list left gives its digits
  pub closing : Filled F p C posts → (out : List ℕ) → length out ≡ 32
      → Closed F p (low_of is_charged F p (final_total F p C posts)) (high_of is_charged F p (final_total F p C posts))
      (ledger_after (limits_of F) p C posts) out

-- Demand 3, for a formula: every run, every list of posts
abbrev pub Demand3 : Formula → Type 0
Demand3 F = (p C : ℕ) → in_range (limits_of F) p C ≡ true → (posts : List Post) → Settled F p C posts

-- Every list that fills a run at position p closes with d digits, and with these.
abbrev pub ClosesWith : Formula → ℕ → ℕ → List ℕ → Type 0
ClosesWith F p d digits =
    (C : ℕ) → in_range (limits_of F) p C ≡ true → (posts : List Post) → Filled F p C posts → (out : List ℕ) → length out ≡ 32
    → (answered (close_call F (ledger_after (limits_of F) p C posts) out) ≡ pos d)
    × (bytes_left (close_call F (ledger_after (limits_of F) p C posts) out) 0 ≡ digits ++ drop d out)
