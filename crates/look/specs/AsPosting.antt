-- A look beside a post of the same sheet, whatever ledger and sheet are lent: over the definitions of the two calls. Document 02, slip 6.
use Rattle.std.specs.Prelude.{◌≡◌, cond, List, ℕ, ◌+◌, ◌*◌, ◌<◌, pos, neg_ℤ, length}
use Rattle.algebra.specs.Sum.{sum}
use Rattle.words.specs.Bytes.{bytes_of}
use Rattle.run.specs.Run.{Limits}
use Rattle.run.specs.Call.{Call, answered, bytes_left}
use Rattle.ledger.specs.Ledger.{View, total_in}
use Rattle.posting.specs.Calls.{sheet_post_call}
use Rattle.look.specs.Look.{unmarked_of, unmarked_in, look_call}

-- What a look at the sheet s gives beside a call that posts s, with 16 bytes lent for the total. The first slice of that call is the ledger.
pub record AsPosting (lim : Limits) (post : Call) (ledger s total : List ℕ) : Type 0 where
  -- it is refused with n exactly where the post is, and then the total's bytes stay
  pub refused : (n : ℕ) → 0 < n → answered post ≡ neg_ℤ (pos n)
      → (answered (look_call lim ledger s total) ≡ neg_ℤ (pos n)) × (bytes_left (look_call lim ledger s total) 0 ≡ total)
  pub only_refused : (n : ℕ) → 0 < n → answered (look_call lim ledger s total) ≡ neg_ℤ (pos n) → answered post ≡ neg_ℤ (pos n)
  -- otherwise count and total are those of the bytes that the post leaves
  pub taken : answered post ≡ pos 0
      → (answered (look_call lim ledger s total) ≡ pos (unmarked_in lim (bytes_left post 0)))
      × (bytes_left (look_call lim ledger s total) 0 ≡ bytes_of 16 (total_in lim (bytes_left post 0)))
  pub only_taken : (n : ℕ) → answered (look_call lim ledger s total) ≡ pos n → answered post ≡ pos 0

pub record LooksAsPosted (lim : Limits) : Type 0 where
  pub as_posting : (ledger s total : List ℕ) → length total ≡ 16 → AsPosting lim (sheet_post_call lim ledger s) ledger s total
  -- another size of the total is refusal 1, and its bytes stay
  pub other_size : (ledger s total : List ℕ) → (length total ≡ 16 → ⊥)
      → (answered (look_call lim ledger s total) ≡ neg_ℤ (pos 1)) × (bytes_left (look_call lim ledger s total) 0 ≡ total)

-- how many tickets are marked
unfoldable pub marks_of : Limits → View → ℕ
marks_of lim v = sum (λ row. sum (λ block. cond (v.marked row block) 1 0) 0 v.C) 0 lim.rows

-- the unmarked tickets are all of the run, C for each row, less the marked ones
abbrev pub AllLessMarks : Limits → Type 0
AllLessMarks lim = (v : View) → unmarked_of lim v + marks_of lim v ≡ lim.rows * v.C
