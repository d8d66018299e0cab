-- Marks are counted: as loops count them, and what a count says of the marks. It is 0 where none is set, and that of all tickets where all are.
-- The laws are over any test of a row and a block.
-- Assumes nothing.
use mathlib.Core.Path.{◌≡◌, refl, sym, ap, ap₂, ◌∙◌}
use mathlib.Core.Bool.{Bool, true, false, not, cond, ◌&&◌, ◌||◌}
use mathlib.Core.List.{List}
use Prim.Native.Nat.{ℕ, zero, suc, ◌+◌, ◌*◌, ◌-◌, ◌/◌, ◌%◌, ◌^◌, ◌≤◌, ◌<◌}
use native.Mathlib.Nat.{zero-add, add-zero, add-suc, mul_comm}
use native.Mathlib.Omega.{arith}
use borrow.Author.Tests.{eqb-true, eqb-false, ne_eqb, eq-eqb, lt-ltb, le-ltb}
use lib.Dec.{eqb, ltb}
use lib.ListN.{get_or}
use mir.Val.{bool_byte}
use Rattle.algebra.specs.Sum.{sum}
use Rattle.algebra.specs.Test.{all_below}
use Rattle.algebra.proofs.Sums.{sum_ext, sum_add, sum_same, sum_none, sum_next, sum_from, sum_split}
use Rattle.algebra.proofs.Below.{all_ext, all_true}
use Rattle.run.specs.Run.{Limits}
use Rattle.ledger.specs.Ledger.{mark_at, bit_in}
use Rattle.ledger.specs.Marks.{row_marks, marks_from}

-- ---- the loops

pub at_most_one : (b : Bool) → bool_byte b ≤ 1
at_most_one true = omega arith
at_most_one false = omega arith

module _ (lim : Limits) (s : List ℕ) (first : ℕ) where
  pub no_block : (row : ℕ) → 0 ≡ row_marks lim s first (first - first) row
  unfolding row_marks
  no_block row = let e : first - first ≡ 0 = omega arith in sym (ap (sum _ first) e ∙ sum_none _ first)

  pub one_block : (row block n : ℕ) (b : Bool) → first ≤ block → n ≡ row_marks lim s first (block - first) row → b ≡ bit_in lim s row block
      → n + bool_byte b ≡ row_marks lim s first (block + 1 - first) row
  unfolding row_marks
  one_block row block n b h e q =
      let f : ℕ → ℕ = λ i. cond (bit_in lim s row i) 1 0 in
      let here : first + (block - first) ≡ block = omega arith in
      let more : block + 1 - first ≡ block - first + 1 = omega arith in
      let bit : bool_byte b ≡ f block = byte_is b ∙ ap (λ (c : Bool). cond c 1 0) q in
      let set : bool_byte b ≡ f (first + (block - first)) = rw here bit in
      ap₂ ◌+◌ e set ∙ sym (ap (sum f first) more ∙ sum_next f first (block - first))
    where
      byte_is : (b : Bool) → bool_byte b ≡ cond b 1 0
      byte_is true = refl
      byte_is false = refl

  -- a whole byte, which begins at a block that 8 divides
  bit_of : (row block i : ℕ) → block % 8 ≡ 0 → i < 8 → get_or s (mark_at lim row block) 0 / 2 ^ i % 2 ≡ cond (bit_in lim s row (block + i)) 1 0
  unfolding bit_in
  bit_of row block i z l =
      let byte : (block + i) / 8 ≡ block / 8 = omega (arith, z) in
      let bit : (block + i) % 8 ≡ i = omega (arith, z) in
      sym (rw (byte, bit) (value_is (get_or s (mark_at lim row block) 0 / 2 ^ i % 2) (omega arith)))
    where
      value_is : (y : ℕ) → y < 2 → cond (eqb y 1) 1 0 ≡ y
      value_is zero k = refl
      value_is (suc zero) k = refl
      value_is (suc (suc y)) k = absurd (omega arith)

  pub eight_blocks : (row block at n r : ℕ) → first ≤ block → block % 8 ≡ 0 → at ≡ mark_at lim row block → n ≡ row_marks lim s first (block - first) row
      → r ≡ sum (λ i. get_or s at 0 / 2 ^ i % 2) 0 8 → n + r ≡ row_marks lim s first (block + 8 - first) row
  unfolding row_marks
  eight_blocks row block at n r h z a e q =
      let f : ℕ → ℕ = λ i. cond (bit_in lim s row i) 1 0 in
      let here : first + (block - first) ≡ block = omega arith in
      let more : block + 8 - first ≡ block - first + 8 = omega arith in
      let bits : sum (λ i. get_or s at 0 / 2 ^ i % 2) 0 8 ≡ sum f block 8 =
      ap (λ (k : ℕ). sum (λ i. get_or s k 0 / 2 ^ i % 2) 0 8) a ∙ sum_ext _ (λ i. f (block + i)) 0 8 (λ i l u. bit_of row block i z (omega arith)) ∙ sum_from f block 8 in
      ap₂ ◌+◌ e (q ∙ bits ∙ ap (λ (k : ℕ). sum f k 8) (sym here)) ∙ sym (ap (sum f first) more ∙ sum_split f first (block - first) 8)

  module _ (n : ℕ) where
    pub no_row : 0 ≡ marks_from lim s first n 0
    no_row = sym (sum_none _ 0)

    pub one_row : (row m k : ℕ) → m ≡ marks_from lim s first n row → k ≡ row_marks lim s first n row → m + k ≡ marks_from lim s first n (row + 1)
    one_row row m k e q = ap₂ ◌+◌ e (q ∙ ap (row_marks lim s first n) (sym (zero-add row))) ∙ sym (sum_next (row_marks lim s first n) 0 row)

-- ---- none is set

-- a sum is 0 where every summand is
zero_sum : (f : ℕ → ℕ) (first n : ℕ) → eqb (sum f first n) 0 ≡ all_below n (λ i. eqb (f (first + i)) 0)
unfolding sum all_below
zero_sum f first zero = refl
zero_sum f first (suc n) = both (sum f first n) (f (first + n)) ∙ ap (λ (b : Bool). eqb (f (first + n)) 0 && b) (zero_sum f first n)
  where
    both : (a b : ℕ) → eqb (a + b) 0 ≡ (eqb b 0 && eqb a 0)
    both a zero = ap (λ (k : ℕ). eqb k 0) (add-zero a)
    both a (suc b) = rw (ne_eqb (a + suc b) 0 (λ q. omega (arith, q)), ne_eqb (suc b) 0 (λ q. omega (arith, q))) refl

rows_zero : (f : ℕ → ℕ) (n : ℕ) → eqb (sum f 0 n) 0 ≡ all_below n (λ i. eqb (f i) 0)
rows_zero f n = zero_sum f 0 n ∙ all_ext n _ _ (λ i h. ap (λ (k : ℕ). eqb (f k) 0) (zero-add i))

-- a test from C on, as one of all numbers
from_on : (C n : ℕ) (f : ℕ → Bool) → all_below n (λ i. f (C + i)) ≡ all_below (C + n) (λ i. ltb i C || f i)
unfolding all_below
from_on C zero f = sym (ap (λ (k : ℕ). all_below k (λ i. ltb i C || f i)) (add-zero C) ∙ all_true C _ (λ i h. ap (λ (b : Bool). b || f i) (lt-ltb i C h)))
from_on C (suc n) f =
    ap (λ (b : Bool). f (C + n) && b) (from_on C n f)
    ∙ sym (ap (λ (k : ℕ). all_below k (λ i. ltb i C || f i)) (add-suc C n)
    ∙ ap (λ (b : Bool). (b || f (C + n)) && all_below (C + n) (λ i. ltb i C || f i)) (le-ltb (C + n) C (omega arith)))

unset_is : (b : Bool) → eqb (cond b 1 0) 0 ≡ not b
unset_is true = refl
unset_is false = refl

pub none_counted : (lim : Limits) (s : List ℕ) (C : ℕ) → C ≤ 256
    → eqb (marks_from lim s C (256 - C) lim.rows) 0 ≡ all_below lim.rows (λ row. all_below 256 (λ block. ltb block C || not (bit_in lim s row block)))
unfolding row_marks
none_counted lim s C h =
    let e : C + (256 - C) ≡ 256 = omega arith in
    rows_zero _ lim.rows
    ∙ all_ext lim.rows _ _ (λ row l.
    zero_sum _ C (256 - C) ∙ all_ext (256 - C) _ _ (λ i m. unset_is (bit_in lim s row (C + i)))
    ∙ from_on C (256 - C) (λ block. not (bit_in lim s row block)) ∙ ap (λ (n : ℕ). all_below n (λ block. ltb block C || not (bit_in lim s row block))) e)

-- ---- all are set

module _ (m : ℕ → ℕ → Bool) (rows C : ℕ) where
  -- how many tickets have no mark, and how many have one
  abbrev pub lacking : ℕ
  lacking = sum (λ row. sum (λ block. cond (m row block) 0 1) 0 C) 0 rows

  abbrev pub marked : ℕ
  marked = sum (λ row. sum (λ block. cond (m row block) 1 0) 0 C) 0 rows

  -- together they are all of the run
  pub all_counted : lacking + marked ≡ rows * C
  all_counted =
      let row_of : (row : ℕ) → sum (λ block. cond (m row block) 0 1) 0 C + sum (λ block. cond (m row block) 1 0) 0 C ≡ C =
      λ row. sym (sum_add (λ block. cond (m row block) 0 1) (λ block. cond (m row block) 1 0) 0 C)
      ∙ sum_same _ 1 0 C (λ block l u. one_of_two (m row block)) ∙ omega arith in
      sym (sum_add (λ row. sum (λ block. cond (m row block) 0 1) 0 C) (λ row. sum (λ block. cond (m row block) 1 0) 0 C) 0 rows)
      ∙ sum_same _ C 0 rows (λ row l u. row_of row) ∙ mul_comm C rows
    where
      one_of_two : (b : Bool) → cond b 0 1 + cond b 1 0 ≡ 1
      one_of_two true = refl
      one_of_two false = refl

  pub none_lacking : eqb lacking 0 ≡ all_below rows (λ row. all_below C (m row))
  none_lacking =
      rows_zero _ rows ∙ all_ext rows _ _ (λ row h. rows_zero _ C ∙ all_ext C _ _ (λ block l. set_is (m row block)))
    where
      set_is : (b : Bool) → eqb (cond b 0 1) 0 ≡ b
      set_is true = refl
      set_is false = refl

  pub all_marked : eqb marked (rows * C) ≡ all_below rows (λ row. all_below C (m row))
  all_marked = go (eqb lacking 0) refl ∙ none_lacking
    where
      go : (b : Bool) → eqb lacking 0 ≡ b → eqb marked (rows * C) ≡ b
      go true e = let z = eqb-true lacking 0 e in eq-eqb marked (rows * C) (omega (arith, all_counted, z))
      go false e = let z = eqb-false lacking 0 e in ne_eqb marked (rows * C) (λ q. z (omega (arith, all_counted, q)))

-- the bits of a ledger below C
pub all_bits : (lim : Limits) (s : List ℕ) (C n r : ℕ) → n ≡ marks_from lim s 0 (C - 0) lim.rows → r ≡ lim.rows
    → eqb n (r * C) ≡ all_below lim.rows (λ row. all_below C (λ block. bit_in lim s row block))
unfolding row_marks
all_bits lim s C n r e q =
    let z : C - 0 ≡ C = omega arith in
    ap₂ (λ (k m : ℕ). eqb k (m * C)) (e ∙ ap (λ (k : ℕ). marks_from lim s 0 k lim.rows) z) q ∙ all_marked (bit_in lim s) lim.rows C
