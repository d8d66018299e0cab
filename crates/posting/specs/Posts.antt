-- Lists of posts of both kinds, on the bytes and on the plain ledger: what they leave and what they answer, and where a ticket
-- occurs in them. Document 01, "The ledger".
use Rattle.std.specs.Prelude.{◌≡◌, Bool, false, cond, ◌&&◌, ◌||◌, ℕ, eqb, ℤ, pos, length, replicate}
use mathlib.Core.List.{List, [], ◌∷◌, foldl}
use Rattle.algebra.specs.Machine.{Machine, leaves, answers, in_one_list}
use Rattle.words.specs.Bytes.{bytes_of, value_of, AllBytes}
use Rattle.run.specs.Refusal.{Test, refusal, answer}
use Rattle.run.specs.Run.{Entry, Limits}
use Rattle.run.specs.Call.{Call, answered, bytes_left}
use Rattle.sheet.specs.Sheet.{sheet_pos, sheet_blocks, entries}
use Rattle.ledger.specs.Ledger.{View, fresh}
use Rattle.ledger.specs.Plain.{Plain, plain_view, opened, admit, is_of}
use Rattle.ledger.specs.Calls.{post_tests, post_call}
use Rattle.posting.specs.Calls.{sheet_tests, sheet_post_call}

-- A post, by its arguments beside the ledger: p, C, row, block and the bytes of a sum; or the bytes of a sheet.
pub data Post : Type 0 where
  ticket : ℕ → ℕ → ℕ → ℕ → List ℕ → Post
  sheet : List ℕ → Post

-- ---- one post

-- its tests, by what is seen of the ledger
abbrev pub tests_of : Limits → View → Post → List Test
tests_of lim v (ticket p C row block sum) = post_tests lim v p C row block sum
tests_of lim v (sheet s) = sheet_tests lim v s

unfoldable pub post_refusal : Limits → View → Post → ℕ
post_refusal lim v a = refusal (tests_of lim v a)

-- on the bytes: what the two calls answer and leave
abbrev pub posting_of : Limits → List ℕ → Post → Call
posting_of lim s (ticket p C row block sum) = post_call lim s p C row block sum
posting_of lim s (sheet b) = sheet_post_call lim s b

unfoldable pub post_answer : Limits → List ℕ → Post → ℤ
post_answer lim s a = answered (posting_of lim s a)

unfoldable pub post_bytes : Limits → List ℕ → Post → List ℕ
post_bytes lim s a = bytes_left (posting_of lim s a) 0

-- the tickets that a post names, in order, with the sums offered
unfoldable pub post_entries : Post → List Entry
post_entries (ticket p C row block sum) = record { row = row; block = block; sum = value_of sum } ∷ []
post_entries (sheet s) = entries s

-- on the plain ledger: where a number of the table applies nothing changes, otherwise each ticket goes in
unfoldable pub plain_answer : Limits → Plain → Post → ℤ
plain_answer lim s a = answer (post_refusal lim (plain_view s) a) 0

unfoldable pub plain_post : Limits → Plain → Post → Plain
plain_post lim s a = cond (eqb (post_refusal lim (plain_view s) a) 0) (foldl admit s (post_entries a)) s

-- ---- lists of posts: a machine on the bytes, and one on the plain ledger

abbrev pub on_bytes : Limits → Machine (List ℕ) Post ℤ
on_bytes lim = record { next = post_bytes lim; answer = post_answer lim }

abbrev pub on_plain : Limits → Machine Plain Post ℤ
on_plain lim = record { next = plain_post lim; answer = plain_answer lim }

-- what a list of posts on a fresh ledger leaves and answers
abbrev pub ledger_after : Limits → ℕ → ℕ → List Post → List ℕ
ledger_after lim p C posts = leaves (on_bytes lim) (fresh lim p C) posts

abbrev pub answers_to : Limits → ℕ → ℕ → List Post → List ℤ
answers_to lim p C posts = answers (on_bytes lim) (fresh lim p C) posts

-- and the same of the plain ledger
abbrev pub plain_after : Limits → ℕ → ℕ → List Post → Plain
plain_after lim p C posts = leaves (on_plain lim) (opened p C) posts

abbrev pub plain_answers_to : Limits → ℕ → ℕ → List Post → List ℤ
plain_answers_to lim p C posts = answers (on_plain lim) (opened p C) posts

-- ---- a sheet as posts of its tickets one by one

unfoldable pub singles : ℕ → ℕ → List Entry → List Post
singles p C [] = []
singles p C (t ∷ ts) = ticket p C t.row t.block (bytes_of 16 t.sum) ∷ singles p C ts

-- Posting a sheet that the ledger takes leaves the bytes that posting its tickets one by one, in order, leaves; each of these posts is
-- answered 0.
abbrev pub OneByOne : Limits → Type 0
OneByOne lim =
    (ledger s : List ℕ) → AllBytes ledger → AllBytes s → answered (sheet_post_call lim ledger s) ≡ pos 0
    → (leaves (on_bytes lim) ledger (singles (sheet_pos s) (sheet_blocks s) (entries s)) ≡ bytes_left (sheet_post_call lim ledger s) 0)
    × (answers (on_bytes lim) ledger (singles (sheet_pos s) (sheet_blocks s) (entries s)) ≡ replicate (length (entries s)) (pos 0))

-- ---- where a ticket occurs

-- in a single post that names it with the run's p and C and a 16-byte sum, taken or refused; in a sheet that the plain ledger takes
unfoldable pub occurring : Limits → Plain → Post → List Entry
occurring lim s (ticket p C row block sum) =
    cond (eqb p s.p && eqb C s.C && eqb (length sum) 16) (post_entries (ticket p C row block sum)) []
occurring lim s (sheet b) = cond (eqb (post_refusal lim (plain_view s) (sheet b)) 0) (entries b) []

-- in a list of posts: a machine that answers the tickets which occur
abbrev pub naming : Limits → Machine Plain Post (List Entry)
naming lim = record { next = plain_post lim; answer = occurring lim }

abbrev pub occurrences : Limits → Plain → List Post → List Entry
occurrences lim s posts = in_one_list (answers (naming lim) s posts)

-- whether a list has an entry of the ticket
unfoldable pub contains : List Entry → ℕ → ℕ → Bool
contains [] row block = false
contains (t ∷ ts) row block = is_of t row block || contains ts row block
