-- A ticket taken out of a ledger: its bit cleared, and its sum taken out of that of its row, which is adding its opposite.
-- Assumes nothing.
use mathlib.Core.Path.{◌≡◌, sym, ap, ◌∙◌}
use mathlib.Core.Bool.{true}
use mathlib.Core.List.{List}
use Prim.Native.Nat.{ℕ, ◌+◌, ◌*◌, ◌-◌, ◌/◌, ◌%◌, ◌^◌, ◌≤◌, ◌<◌}
use native.Mathlib.Nat.{div-add-mod', mul-le-mul_right, one-mul, mod-eq_of_lt}
use native.Mathlib.Omega.{arith}
use borrow.Author.Tests.{eqb-true}
use lib.Dec.{eqb}
use lib.ListN.{length, get_or, set}
use lib.Pow.{pow_pos}
use Rattle.algebra.proofs.Cong.{taken_out}
use Rattle.words.specs.Words.{joined}
use Rattle.words.specs.declared.Wide.{Wide}
use Rattle.words.specs.Bytes.{AllBytes}
use Rattle.series.specs.Series.{modulus}
use Rattle.run.specs.Run.{Limits}
use Rattle.ledger.specs.Ledger.{marks_at, mark_at, bit_in}
use Rattle.ledger.specs.Plain.{adding}
use Rattle.ledger.specs.RowSums.{value_at, held_in, with_sums}
use Rattle.ledger.proofs.RowSums.{one_added, changed_sums}
use Rattle.book.specs.Book.{opposite, unmark, remove}

-- ---- the bit of a ticket

-- where bit k of a number is set, the number is 2^k or more: its quotient by 2^k is odd
pub bit_there : (b k : ℕ) → eqb (b / 2 ^ k % 2) 1 ≡ true → 2 ^ k ≤ b
bit_there b k e =
    let q = b / 2 ^ k in
    let odd = eqb-true (q % 2) 1 e in
    let one : 1 * 2 ^ k ≤ q * 2 ^ k = mul-le-mul_right (2 ^ k) (omega arith) in
    omega (arith, div-add-mod' b (2 ^ k))

-- the mark's byte, as the code makes it
pub unmark_fits : (lim : Limits) (s : List ℕ) (row block : ℕ) → get_or s (mark_at lim row block) 0 < 256 → bit_in lim s row block ≡ true
    → (1 * 2 ^ (block % 8) % 256 ≡ 2 ^ (block % 8)) × (1 * 2 ^ (block % 8) % 256 ≤ get_or s (mark_at lim row block) 0)
unfolding bit_in
unmark_fits lim s row block h e =
    let l = bit_there (get_or s (mark_at lim row block) 0) (block % 8) e in
    let m : 1 * 2 ^ (block % 8) % 256 ≡ 2 ^ (block % 8) = ap (λ (n : ℕ). n % 256) (one-mul (2 ^ (block % 8))) ∙ mod-eq_of_lt (omega arith) in
    (m, omega arith)

-- ---- the sum of its row

-- the difference modulo n, as words make it: x added to it wraps back to a
difference : (n r a x : ℕ) → 0 < n → r < n → (r + x) % n ≡ a → r ≡ (a + (n - x % n)) % n
difference n r a x pos h e = sym (mod-eq_of_lt h) ∙ taken_out n r x pos ∙ ap (λ (s : ℕ). (s + (n - x % n)) % n) e

-- x taken out of one of the sums that the array holds
pub one_taken : (a : List Wide) (row x : ℕ) (y : Wide) → row < length a → joined y.hi y.lo < modulus
    → (joined y.hi y.lo + x) % modulus ≡ value_at a row → (i : ℕ) → value_at (set a row y) i ≡ adding row (opposite x) (value_at a) i
unfolding opposite
one_taken a row x y h fits e = one_added a row (modulus - x % modulus) y h (difference modulus _ _ x (pow_pos 128) fits e)

-- the sums read, one changed, the bit cleared, the sums put back
pub removed : (lim : Limits) (s t u : List ℕ) (row block x : ℕ) (v w : ℕ → ℕ) → marks_at lim ≤ length s → AllBytes s → row < lim.rows
    → ((i : ℕ) → v i ≡ held_in lim.rows s i) → ((i : ℕ) → w i ≡ adding row (opposite x) v i) → t ≡ unmark lim s row block → u ≡ with_sums lim t w
    → u ≡ remove lim s row block x
unfolding remove unmark
removed lim s t u row block x v w size bytes h read added et eu =
    changed_sums lim (λ b. b - 2 ^ (block % 8)) s t u row block (opposite x) v w size bytes h read added et eu
