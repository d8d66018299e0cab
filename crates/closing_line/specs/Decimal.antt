-- A number in decimal, as text.
use Rattle.std.specs.Prelude.{cond, List, [], ◌∷◌, ◌++◌, ℕ, zero, suc, ◌+◌, ◌/◌, ◌%◌, ltb}

-- the digits of a number that has no more than `places`, the highest first and none of them a leading 0
unfoldable pub decimal_within : ℕ → ℕ → List ℕ
decimal_within zero n = []
decimal_within (suc places) n = cond (ltb n 10) [] (decimal_within places (n / 10)) ++ (48 + n % 10) ∷ []

-- a number of 64 bits has no more than 20 digits
abbrev pub decimal : ℕ → List ℕ
decimal n = decimal_within 20 n
