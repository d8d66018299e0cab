-- Two digit strings laid over each other: what each holds, what both hold, and the part that reaches further. Document 02, slip 8.
use Rattle.std.specs.Prelude.{Bool, true, not, cond, ◌&&◌, ◌||◌, List, [], ◌∷◌, ℕ, ◌+◌, ◌-◌, ◌^◌, leb, ltb, eqb, length, get_or, drop}
use Rattle.algebra.specs.Test.{all_below}
use Rattle.digits.specs.Digits.{is_digit}

-- ---- one string

-- Digits, as characters, and the position of the first of them.
pub record Laid : Type 0 where
  pub digits : List ℕ
  pub from : ℕ

abbrev pub laid : List ℕ → ℕ → Laid
laid digits p = record { digits = digits; from = p }

-- the position behind its last digit
abbrev pub end : Laid → ℕ
end s = s.from + length s.digits

-- it holds the positions p to p + length - 1
unfoldable pub holds : Laid → ℕ → Bool
holds s n = leb s.from n && ltb n (end s)

-- its digit at position n
unfoldable pub digit_at : Laid → ℕ → ℕ
digit_at s n = get_or s.digits (n - s.from) 0

-- every character is one of 0-9A-F
unfoldable pub all_digits : List ℕ → Bool
all_digits [] = true
all_digits (c ∷ cs) = is_digit c && all_digits cs

-- it has 1 to 30 digits, and a position from 1 to 2^60
unfoldable pub in_form : Laid → Bool
in_form s = (leb 1 (length s.digits) && leb (length s.digits) 30) && ((leb 1 s.from && leb s.from (2 ^ 60)) && all_digits s.digits)

-- ---- two strings

-- the later of two positions
unfoldable pub later : ℕ → ℕ → ℕ
later m n = cond (ltb m n) n m

-- the first position that both hold, where there is one
abbrev pub first_shared : Laid → Laid → ℕ
first_shared a b = later a.from b.from

-- they share a position
unfoldable pub share : Laid → Laid → Bool
share a b = holds a (first_shared a b) && holds b (first_shared a b)

-- they have the same digit at position n
unfoldable pub same_at : Laid → Laid → ℕ → Bool
same_at a b n = eqb (digit_at a n) (digit_at b n)

-- and so at every position of the first that the second holds as well
unfoldable pub agree : Laid → Laid → Bool
agree a b = all_below (length a.digits) (λ i. not (holds b (a.from + i)) || same_at a b (a.from + i))

-- ---- the part

-- the second string reaches further than the first
abbrev pub second_further : Laid → Laid → Bool
second_further a b = ltb (end a) (end b)

-- the string that reaches further, the first if both end together
unfoldable pub further : Laid → Laid → Laid
further a b = cond (second_further a b) b a

-- how many of its digits stand before the first shared position
unfoldable pub skipped : Laid → Laid → ℕ
skipped a b = first_shared a b - (further a b).from

-- its stretch from the first shared position to its end
unfoldable pub stretch : Laid → Laid → List ℕ
stretch a b = drop (skipped a b) (further a b).digits
