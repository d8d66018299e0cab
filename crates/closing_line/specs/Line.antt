-- The line that the closing program prints for a ledger. Document 01, below "Marked figures".
use Rattle.std.specs.Prelude.{◌≡◌, List, [], ◌∷◌, ◌++◌, ℕ, suc, ◌+◌, ℤ, pos, negsuc, length, take, replicate}
use Rattle.series.specs.Series.{Formula}
use Rattle.run.specs.Call.{answered, bytes_left}
use Rattle.ledger.specs.Ledger.{pos_in}
use Rattle.closing.specs.Closing.{close_call}
use Rattle.closing_line.specs.Decimal.{decimal}

-- ---- characters

abbrev pub space : ℕ
space = 32

abbrev pub newline : ℕ
newline = 10

-- "refused"
abbrev pub refused_word : List ℕ
refused_word = 114 ∷ 101 ∷ 102 ∷ 117 ∷ 115 ∷ 101 ∷ 100 ∷ []

-- ---- the line

-- a word and the character that ends it
abbrev pub word : List ℕ → ℕ → List ℕ
word text end = text ++ end ∷ []

unfoldable pub finished_line : ℕ → ℕ → List ℕ → List ℕ
finished_line p d digits = word (decimal p) space ++ word (decimal d) space ++ word digits newline

unfoldable pub refused_line : ℕ → List ℕ
refused_line number = word refused_word space ++ word (decimal number) newline

-- by what a closing answers to C: d, or a refusal's number negated
unfoldable pub line_of : ℤ → ℕ → List ℕ → List ℕ
line_of (pos d) p digits = finished_line p d (take d digits)
line_of (negsuc n) p digits = refused_line (suc n)

-- the line for the bytes of a ledger, which is closed with 32 zero bytes for the digits
unfoldable pub printed_line : Formula → List ℕ → List ℕ
printed_line F s = line_of (answered (close_call F s (replicate 32 0))) (pos_in s) (bytes_left (close_call F s (replicate 32 0)) 0)

-- ---- a buffer that gets one word after another

-- `text` was added behind the first `at` bytes of the buffer, and ends before `next`
pub record Added (before : List ℕ) (at : ℕ) (text after : List ℕ) (next : ℕ) : Type 0 where
  pub ends : next ≡ at + length text
  pub reads : take next after ≡ take at before ++ text
