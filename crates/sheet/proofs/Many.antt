-- A sheet or list with more tickets than its run has is refused by 3 or 4: strictly ascending tickets of a run with C blocks are at
-- most C for each row. The tickets' places C * row + block ascend too (for C above 256, which no run has, their keys do).
-- Assumes nothing.
use mathlib.Core.Path.{◌≡◌, refl, ap}
use mathlib.Core.Bool.{Bool, true, false}
use mathlib.Core.Logic.{◌⊎◌, inl, inr}
use mathlib.Core.List.{List, [], ◌∷◌}
use Prim.Native.Nat.{ℕ, zero, suc, ◌+◌, ◌*◌, ◌/◌, ◌<◌, ◌≤◌}
use native.Mathlib.Nat.{mul-le-mul_left, mul-le-mul_right}
use native.Mathlib.Omega.{arith}
use borrow.Author.Tests.{leb-true, leb-false, ltb-true, ltb-false}
use lib.Dec.{leb, ltb}
use lib.ListN.{length}
use Rattle.algebra.proofs.Booleans.{and_left, and_right}
use Rattle.series.specs.Series.{Formula}
use Rattle.run.specs.Run.{Entry, Limits, is_ticket}
use Rattle.run.proofs.Range.{ticket_row, ticket_block}
use Rattle.sheet.specs.Sheet.{every, all_tickets, key, ascending, well_formed, sheet_blocks, sheet_count, entries_from, entries, listed}
use Rattle.sheet.proofs.Form.{formed}

-- values that ascend strictly below N are at most N
module _ (lim : Limits) (C : ℕ) (place : Entry → ℕ) (N : ℕ)
    (below : (t : Entry) → is_ticket lim C t.row t.block ≡ true → place t < N)
    (rises : (t u : Entry) → is_ticket lim C t.row t.block ≡ true → is_ticket lim C u.row u.block ≡ true
    → key t < key u → place t < place u) where
  fits : (t : Entry) (ts : List Entry) → all_tickets lim C (t ∷ ts) ≡ true → ascending (t ∷ ts) ≡ true → place t + length (t ∷ ts) ≤ N
  unfolding every ascending
  fits t [] a s = let h = below t (and_left (is_ticket lim C t.row t.block) true a) in omega arith
  fits t (u ∷ ts) a s =
      let here = and_left (is_ticket lim C t.row t.block) (all_tickets lim C (u ∷ ts)) a in
      let rest = and_right (is_ticket lim C t.row t.block) (all_tickets lim C (u ∷ ts)) a in
      let next = and_left (is_ticket lim C u.row u.block) (all_tickets lim C ts) rest in
      let h = rises t u here next (ltb-true (key t) (key u) (and_left (ltb (key t) (key u)) (ascending (u ∷ ts)) s)) in
      let i = fits u ts rest (and_right (ltb (key t) (key u)) (ascending (u ∷ ts)) s) in
      omega (arith, h, i)

  at_most : (ts : List Entry) → all_tickets lim C ts ≡ true → ascending ts ≡ true → length ts ≤ N
  at_most [] a s = omega arith
  at_most (t ∷ ts) a s = let h = fits t ts a s in omega (arith, h)

-- a ticket's place among all of a run
in_run : (R C row block : ℕ) → row < R → block < C → C * row + block < R * C
in_run R C row block h l = let m = mul-le-mul_left C h in omega (arith, m)

row_first : (C r s b c : ℕ) → C ≤ 256 → b < C → c < C → 256 * r + b < 256 * s + c → C * r + b < C * s + c
row_first C r s b c w h l k = go (ltb r s) refl
  where
    go : (x : Bool) → ltb r s ≡ x → C * r + b < C * s + c
    go true e = let m = mul-le-mul_left C (ltb-true r s e) in omega (arith, m)
    go false e =
        let m = ltb-false r s e in
        let q : r ≡ s = omega arith in
        let f = ap (λ (n : ℕ). C * n) q in
        omega (arith, f)

pub run_holds : (lim : Limits) (C : ℕ) (ts : List Entry) → all_tickets lim C ts ≡ true → ascending ts ≡ true → length ts ≤ lim.rows * C
run_holds lim C ts a s = go (leb C 256) refl
  where
    go : (b : Bool) → leb C 256 ≡ b → length ts ≤ lim.rows * C
    go true e = at_most lim C (λ t. C * t.row + t.block) (lim.rows * C)
        (λ t h. in_run lim.rows C t.row t.block (ticket_row lim C t.row t.block h) (ticket_block lim C t.row t.block h))
        (λ t u h l k. row_first C t.row u.row t.block u.block (leb-true C 256 e) (ticket_block lim C t.row t.block h) (ticket_block lim C u.row u.block l) k) ts a s
    go false e = at_most lim C key (lim.rows * C)
        (λ t h. let m = mul-le-mul_right {m = 256} {n = C} t.row (let w = leb-false C 256 e in omega arith) in
        let i = in_run lim.rows C t.row t.block (ticket_row lim C t.row t.block h) (ticket_block lim C t.row t.block h) in
        omega (arith, m, i))
        (λ t u h l k. k) ts a s

-- one of two tests that cannot both hold fails
one_fails : (a b : Bool) → (a ≡ true → b ≡ true → ⊥) → (a ≡ false) ⊎ (b ≡ false)
one_fails true true h = absurd (h refl refl)
one_fails true false h = inr refl
one_fails false b h = inl refl

pub count_entries : (s : List ℕ) (n i : ℕ) → length (entries_from s i n) ≡ n
unfolding entries_from
count_entries s zero i = refl
count_entries s (suc n) i = ap suc (count_entries s n (suc i))

-- a sheet: the condition of 3 or that of 4 holds, whatever else its bytes say
pub many_refused : (lim : Limits) (s : List ℕ) → lim.rows * sheet_blocks s < sheet_count s
    → (well_formed s ≡ false) ⊎ (all_tickets lim (sheet_blocks s) (entries s) ≡ false)
unfolding entries
many_refused lim s h =
    one_fails (well_formed s) (all_tickets lim (sheet_blocks s) (entries s))
    (λ w a. let l = run_holds lim (sheet_blocks s) (entries s) a (formed s w) in let n = count_entries s (sheet_count s) 0 in omega (arith, l, n))

pub count_listed : (F : Formula) (p C : ℕ) (list : List ℕ) → length (listed F p C list) ≡ length list / 2
unfolding listed
count_listed F p C [] = refl
count_listed F p C (b ∷ []) = refl
count_listed F p C (b ∷ r ∷ bs) = let h = count_listed F p C bs in omega (arith, h)

-- the same of a writer's list
pub many_listed : (F : Formula) (lim : Limits) (p C : ℕ) (list : List ℕ) → lim.rows * C < length list / 2
    → (ascending (listed F p C list) ≡ false) ⊎ (all_tickets lim C (listed F p C list) ≡ false)
many_listed F lim p C list h =
    one_fails (ascending (listed F p C list)) (all_tickets lim C (listed F p C list))
    (λ s a. let l = run_holds lim C (listed F p C list) a s in let n = count_listed F p C list in omega (arith, l, n))
