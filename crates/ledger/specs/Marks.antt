-- The marks of a ledger as the code counts them: bit by bit, row by row.
use Rattle.std.specs.Prelude.{cond, List, ℕ}
use Rattle.algebra.specs.Sum.{sum}
use Rattle.run.specs.Run.{Limits}
use Rattle.ledger.specs.Ledger.{bit_in}

-- how many of a row's n bits from block `first` on are set
unfoldable pub row_marks : Limits → List ℕ → ℕ → ℕ → ℕ → ℕ
row_marks lim s first n row = sum (λ block. cond (bit_in lim s row block) 1 0) first n

-- and of those of the first `rows` rows
abbrev pub marks_from : Limits → List ℕ → ℕ → ℕ → ℕ → ℕ
marks_from lim s first n rows = sum (row_marks lim s first n) 0 rows
