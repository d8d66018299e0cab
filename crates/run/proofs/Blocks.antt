-- The bounds of blocks: they rise with the block and do not pass K, and one is found without the product of i and K.
-- Assumes nothing.
use mathlib.Core.Path.{◌≡◌, sym, ap, ◌∙◌}
use mathlib.Core.Bool.{true}
use Prim.Native.Nat.{ℕ, ◌+◌, ◌*◌, ◌/◌, ◌%◌, ◌^◌, ◌≤◌, ◌<◌}
use native.Mathlib.Nat.{div-add-mod', mul-add-div_right, div-le_of_le-mul, le-div_iff_mul-le, div-mul-le_self, mul-le-mul_right}
use native.Mathlib.Omega.{arith}
use Rattle.series.specs.Series.{term_count}
use Rattle.series.specs.Names.{formula_of}
use Rattle.series.specs.declared.Series.{Series}
use Rattle.series.proofs.Numbers.{count_small}
use Rattle.run.specs.Run.{limits_of, in_range, bound}
use Rattle.run.proofs.Range.{range_of, position}

pub bound_grows : (K C i j : ℕ) → 0 < C → i ≤ j → bound K C i ≤ bound K C j
unfolding bound
bound_grows K C i j h l = (le-div_iff_mul-le h).1 (omega (arith, div-mul-le_self (i * K) C, mul-le-mul_right K l))

pub bound_le : (K C i : ℕ) → i ≤ C → bound K C i ≤ K
unfolding bound
bound_le K C i l = div-le_of_le-mul C (mul-le-mul_right K l)

-- from the quotient and the remainder of K
pub bound_parts : (K C i : ℕ) → 0 < C → i * (K / C) + i * (K % C) / C ≡ bound K C i
unfolding bound
bound_parts K C i h =
    let whole : i * (K / C) * C + i * (K % C) ≡ i * K = omega (arith, ap (λ (t : ℕ). i * t) (div-add-mod' K C)) in
    sym (mul-add-div_right h (i * (K / C)) (i * (K % C))) ∙ ap (λ (t : ℕ). t / C) whole

-- what `run::bound` requires, at the two ends of a block of a run
pub bounded : (f : Series) (p C block K i : ℕ) → in_range (limits_of (formula_of f)) p C ≡ true → block < C → K ≡ term_count (formula_of f) p
    → i ≤ block + 1 → (K < 2 ^ 63) × (1 ≤ C) × (C ≤ 256) × (i ≤ C)
bounded f p C block K i r h k l =
    let w = range_of _ p C r in
    (rw k (count_small f p (position (formula_of f) p C r)), w.c_low, w.c_high, omega arith)
