-- Looks and the other calls: a look equals posting onto a copy; it answers 0 exactly where closing after the post is not refused with 8; and among
-- posts, looks change nothing that a later call sees, and answer as the plain ledger does. Document 02, slip 6.
use Rattle.std.specs.Prelude.{◌≡◌, true, cond, List, [], ◌∷◌, ℕ, ◌-◌, ◌^◌, eqb, ℤ, pos, neg_ℤ, length, replicate}
use Rattle.algebra.specs.Machine.{Machine, leaves, answers}
use Rattle.words.specs.Bytes.{bytes_of, AllBytes}
use Rattle.series.specs.Series.{Formula}
use Rattle.series.specs.Bellard.{bellard}
use Rattle.run.specs.Refusal.{refusal, answer}
use Rattle.run.specs.Run.{Limits, limits_of, in_range, Entry}
use Rattle.run.specs.Call.{bytes_left, answered}
use Rattle.ledger.specs.Ledger.{total_of, fresh}
use Rattle.ledger.specs.Plain.{Plain, plain_view, opened}
use Rattle.sheet.specs.Sheet.{sheet_of}
use Rattle.posting.specs.Posts.{Post, sheet, post_answer, post_bytes, plain_answer, plain_post, on_bytes}
use Rattle.posting.specs.Calls.{sheet_post_call}
use Rattle.look.specs.Look.{unmarked_of, look_tests, look_call}
use Rattle.look.specs.AsPosting.{LooksAsPosted, AllLessMarks}
use Rattle.closing.specs.Closing.{close_call}

-- The sheet is taken: then the look answers 0 exactly where closing the ledger that the post leaves is not refused with 8.
abbrev pub ZeroWhereFull : Formula → Type 0
ZeroWhereFull F =
    (ledger s total digits : List ℕ) → AllBytes ledger → answered (sheet_post_call (limits_of F) ledger s) ≡ pos 0 → length total ≡ 16 → length digits ≡ 32
    → (answered (look_call (limits_of F) ledger s total) ≡ pos 0 → answered (close_call F (bytes_left (sheet_post_call (limits_of F) ledger s) 0) digits) ≡ neg_ℤ (pos 8) → ⊥)
    × ((answered (close_call F (bytes_left (sheet_post_call (limits_of F) ledger s) 0) digits) ≡ neg_ℤ (pos 8) → ⊥) → answered (look_call (limits_of F) ledger s total) ≡ pos 0)

-- ---- looks among posts

-- A post, or a look: at a sheet, with bytes lent for the total.
pub data Step : Type 0 where
  posting : Post → Step
  looking : List ℕ → List ℕ → Step

-- What a step answers, and what the bytes lent for a total become (a post is lent none).
pub record Outcome : Type 0 where
  pub reply : ℤ
  pub total : List ℕ

abbrev pub outcome : ℤ → List ℕ → Outcome
outcome reply total = record { reply = reply; total = total }

-- on the bytes: a look is lent the ledger to read, so the next call is lent the same bytes
unfoldable pub step_outcome : Limits → List ℕ → Step → Outcome
step_outcome lim ledger (posting a) = outcome (post_answer lim ledger a) []
step_outcome lim ledger (looking s total) = outcome (answered (look_call lim ledger s total)) (bytes_left (look_call lim ledger s total) 0)

unfoldable pub step_bytes : Limits → List ℕ → Step → List ℕ
step_bytes lim ledger (posting a) = post_bytes lim ledger a
step_bytes lim ledger (looking s total) = ledger

-- on the plain ledger: a look counts and adds up in what the post of the sheet would make of it
unfoldable pub plain_outcome : Limits → Plain → Step → Outcome
plain_outcome lim plain (posting a) = outcome (plain_answer lim plain a) []
plain_outcome lim plain (looking s total) =
    let n = refusal (look_tests lim (plain_view plain) s total) in
    let left = plain_post lim plain (sheet s) in
    outcome (answer n (unmarked_of lim (plain_view left))) (cond (eqb n 0) (bytes_of 16 (total_of lim left.sums)) total)

unfoldable pub plain_step : Limits → Plain → Step → Plain
plain_step lim plain (posting a) = plain_post lim plain a
plain_step lim plain (looking s total) = plain

-- lists of steps: a machine on the bytes, and one on the plain ledger
abbrev pub steps_on_bytes : Limits → Machine (List ℕ) Step Outcome
steps_on_bytes lim = record { next = step_bytes lim; answer = step_outcome lim }

abbrev pub steps_on_plain : Limits → Machine Plain Step Outcome
steps_on_plain lim = record { next = plain_step lim; answer = plain_outcome lim }

-- the posts alone
unfoldable pub posts_among : List Step → List Post
posts_among [] = []
posts_among (posting a ∷ steps) = a ∷ posts_among steps
posts_among (looking s total ∷ steps) = posts_among steps

pub record Looks (F : Formula) : Type 0 where
  pub as_posted : LooksAsPosted (limits_of F)
  pub all_less_marks : AllLessMarks (limits_of F)
  pub zero_where_full : ZeroWhereFull F
  -- the ledger after the steps, and so what any later call sees of it, is that of the posts alone
  pub unseen : (ledger : List ℕ) (steps : List Step) → leaves (steps_on_bytes (limits_of F)) ledger steps ≡ leaves (on_bytes (limits_of F)) ledger (posts_among steps)
  -- on a fresh ledger looks and posts alike answer as the plain ledger does
  pub as_plain : (p C : ℕ) → in_range (limits_of F) p C ≡ true → (steps : List Step)
      → answers (steps_on_bytes (limits_of F)) (fresh (limits_of F) p C) steps ≡ answers (steps_on_plain (limits_of F)) (opened p C) steps

-- ---- looks that are taken, and one that is not: Bellard's run p = 1, C = 1

-- a row's ticket of block 0
abbrev pub of_row : ℕ → ℕ → Entry
of_row row sum = record { row = row; block = 0; sum = sum }

abbrev pub two_tickets : List ℕ
two_tickets = sheet_of 1 1 (of_row 0 (2 ^ 128 - 1) ∷ of_row 6 3 ∷ [])

abbrev pub five_others : List ℕ
five_others = sheet_of 1 1 (of_row 1 10 ∷ of_row 2 20 ∷ of_row 3 30 ∷ of_row 4 40 ∷ of_row 5 50 ∷ [])

-- no ticket on an empty sheet: all 7 remain; two would leave 5, and do; the five others would leave none; the two again are refused
abbrev pub some_steps : List Step
some_steps =
    looking (sheet_of 1 1 []) (replicate 16 0) ∷ looking two_tickets (replicate 16 0) ∷ posting (sheet two_tickets) ∷ looking (sheet_of 1 1 []) (replicate 16 0)
    ∷ looking five_others (replicate 16 0) ∷ looking two_tickets (replicate 16 0) ∷ []

abbrev pub LooksTaken : Type 0
LooksTaken =
    answers (steps_on_bytes (limits_of bellard)) (fresh (limits_of bellard) 1 1) some_steps
    ≡ outcome (pos 7) (bytes_of 16 0) ∷ outcome (pos 5) (bytes_of 16 2) ∷ outcome (pos 0) [] ∷ outcome (pos 5) (bytes_of 16 2)
    ∷ outcome (pos 0) (bytes_of 16 152) ∷ outcome (neg_ℤ (pos 7)) (replicate 16 0) ∷ []
