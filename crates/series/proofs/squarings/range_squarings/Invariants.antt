-- `series::squarings::range_squarings` meets its contract. The loop's invariant: the squarings are those of the bit lengths passed, and `cut` is
-- where the next ones end.
-- Assumes nothing.
use Rattle.std.proofs.Common.{◌≡◌, ℕ, ◌-◌, ◌*◌, ◌%◌}
use Rattle.algebra.specs.Sum.{sum}
use Rattle.words.specs.Words.{joined}
use Rattle.series.specs.Series.{Formula, Row, row_at, modulus}
use Rattle.series.specs.Squarings.{cut_at, of_length}
use Rattle.series.specs.Names.{formula_of}
use Rattle.series.proofs.squarings.range_squarings.Given as goal

-- the squarings of the terms of bit lengths 7 to b
abbrev pub passed : Formula → ℕ → Row → ℕ → ℕ → ℕ → ℕ
passed F p r first end b = sum (λ i. i * of_length F p r first end i) 6 (b - 6)

abbrev pub invariant-loop-b : goal.invariant-loop-b
invariant-loop-b l =
    let F = formula_of l.fn.at.f in
    let r = row_at F l.fn.at.row in
    (joined l.squarings.hi l.squarings.lo ≡ passed F l.fn.at.p r l.first l.end l.b % modulus) × (l.cut ≡ cut_at F l.fn.at.p r l.first l.end l.b)
