-- The array in which the code holds the rows' sums by value: seven numbers of two words, 0 past the rows.
use Rattle.std.specs.Prelude.{cond, List, ◌++◌, ℕ, ltb, get_or, take, drop}
use Rattle.words.specs.Words.{joined}
use Rattle.words.specs.declared.Wide.{Wide}
use Rattle.run.specs.Run.{Limits}
use Rattle.ledger.specs.Ledger.{marks_at, row_sum_in}
use Rattle.ledger.specs.Plain.{sum_rows}

abbrev pub zero_wide : Wide
zero_wide = record { hi = 0; lo = 0 }

-- the number at a place of the array, 0 past its end
unfoldable pub value_at : List Wide → ℕ → ℕ
value_at sums row = let x = get_or sums row zero_wide in joined x.hi x.lo

-- a row's sum in the bytes, 0 from `rows` on
unfoldable pub held_in : ℕ → List ℕ → ℕ → ℕ
held_in rows s row = cond (ltb row rows) (row_sum_in s row) 0

-- the bytes with these sums in place of theirs
unfoldable pub with_sums : Limits → List ℕ → (ℕ → ℕ) → List ℕ
with_sums lim s sums = take 16 s ++ sum_rows sums 0 lim.rows ++ drop (marks_at lim) s
