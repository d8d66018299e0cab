-- The interval around a total in which the exact sum lies. Document 01, "Closing"; document 02, slip 5.
use Rattle.std.specs.Prelude.{Bool, true, cond, ℕ, ◌+◌, ◌*◌, ◌<◌, leb, ℤ, pos, ◌-ℤ◌, ◌*ℤ◌, ◌≤ℤ◌}
use mathlib.Core.List.{Memᴰ}
use Rattle.std.proofs.Math.IntN.{sub_ℕ}
use Rattle.series.specs.Series.{Row, Formula, Side, plus, minus, divisor, rise, fall, side_sum, modulus}
use Rattle.interval.specs.Exact.{MakesWhole, exact_times}

-- ---- the units charged

-- A rule says whether term k of a row, at a position, is charged one unit of 2 ^ -128.
abbrev pub Rule : Type 0
Rule = Formula → ℕ → Row → ℕ → Bool

-- the rule in force: a term is charged if its E is 0 or more
unfoldable pub is_charged : Rule
is_charged F p r k = leb (fall F k) (rise p r)

-- the rule before it, document 01's: every term is charged. It is kept to compare with; no call goes by it.
unfoldable pub every_term : Rule
every_term F p r k = true

-- how many terms among the first K of every row are charged on a side: a on the side of the added terms, b on the other
unfoldable pub charges : Rule → Formula → Side → ℕ → ℕ → ℕ
charges R F side p K = side_sum F side (λ r k. cond (R F p r k) 1 0) 0 K

-- ---- low and high: a unit for each charged term, and one unit more on each side for all the terms that are not

unfoldable pub low : Rule → Formula → ℕ → ℕ → ℕ → ℤ
low R F p K total = sub_ℕ total (charges R F minus p K + 1)

unfoldable pub high : Rule → Formula → ℕ → ℕ → ℕ → ℤ
high R F p K total = pos (total + charges R F plus p K + 1)

-- x, less some whole multiple of D * 2 ^ 128, lies from D times lo to D times hi, both ends counted
unfoldable pub LiesFrom : ℕ → ℤ → ℤ → ℤ → Type 0
LiesFrom D lo hi x =
    (z : ℤ) × ((pos D *ℤ lo) ≤ℤ (x -ℤ z *ℤ pos (D * modulus))) × ((x -ℤ z *ℤ pos (D * modulus)) ≤ℤ (pos D *ℤ hi))

-- ---- what is asked of a list of rows

-- every N is at least 1
unfoldable pub Positive : Formula → Type 0
Positive F = (r : Row) → Memᴰ r F.rows → (k : ℕ) → 0 < divisor r k

-- D times the exact term k where it is not charged, else 0
unfoldable pub uncharged_times : Rule → Formula → ℕ → ℕ → Row → ℕ → ℕ
uncharged_times R F p D r k = cond (R F p r k) 0 (exact_times F p D r k)

-- The exact terms before K that are not charged, together with all terms from K on, add up to less than one unit on each side, at every
-- length K + count.
unfoldable pub RestBelowUnit : Rule → Formula → ℕ → ℕ → Type 0
RestBelowUnit R F p K =
    (D count : ℕ) → 0 < D → MakesWhole F p (K + count) D → (side : Side)
    → side_sum F side (uncharged_times R F p D) 0 K + side_sum F side (exact_times F p D) K count < D
