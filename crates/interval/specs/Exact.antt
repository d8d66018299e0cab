-- The exact terms of a formula and their sum, without fractions. Document 01, "Closing".
use Rattle.std.specs.Prelude.{◌≡◌, ℕ, ◌*◌, ◌^◌, ◌/◌, ◌%◌, ◌<◌, ℤ}
use mathlib.Core.List.{Memᴰ}
use Rattle.std.proofs.Math.IntN.{sub_ℕ}
use Rattle.series.specs.Series.{Row, Formula, plus, minus, divisor, rise, fall, side_sum}

-- The exact term k is 2 ^ E / N with its sign, negative E included: 2 ^ rise / (N * 2 ^ fall).

-- D makes each exact term whole, of the first L in every row: N * 2 ^ fall divides D * 2 ^ rise
unfoldable pub MakesWhole : Formula → ℕ → ℕ → ℕ → Type 0
MakesWhole F p L D =
    (r : Row) → Memᴰ r F.rows → (k : ℕ) → k < L → D * 2 ^ rise p r % (divisor r k * 2 ^ fall F k) ≡ 0

-- D times the size of the exact term k, where that is whole
unfoldable pub exact_times : Formula → ℕ → ℕ → Row → ℕ → ℕ
exact_times F p D r k = D * 2 ^ rise p r / (divisor r k * 2 ^ fall F k)

-- X: D times the exact sum at length L, that of the exact terms k = 0 to L - 1 of every row
unfoldable pub exact_sum : Formula → ℕ → ℕ → ℕ → ℤ
exact_sum F p D L = sub_ℕ (side_sum F plus (exact_times F p D) 0 L) (side_sum F minus (exact_times F p D) 0 L)
