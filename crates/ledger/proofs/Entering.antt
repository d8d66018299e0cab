-- A mark set changes no bit but its own.
-- Assumes nothing.
use mathlib.Core.Path.{◌≡◌, refl, sym, ap, ◌∙◌}
use mathlib.Core.Bool.{Bool, true, false}
use mathlib.Core.Logic.{◌≢◌}
use mathlib.Core.List.{List}
use Prim.Native.Nat.{ℕ, suc, ◌+◌, ◌*◌, ◌-◌, ◌/◌, ◌%◌, ◌^◌, ◌<◌}
use native.Mathlib.Nat.{add-div_right, div-div-eq-div-mul, pow-suc}
use native.Mathlib.Omega.{arith}
use borrow.Author.Tests.{eqb-true, eqb-false, ltb-true, ltb-false}
use lib.Dec.{eqb, ltb}
use lib.ListN.{length, get_or, set}
use lib.Pow.{pow-add, pow_pos}
use lib.Seq.{get_or-set_same, get_or-set_other}
use Rattle.run.specs.Run.{Limits}
use Rattle.ledger.specs.Ledger.{mark_at, bit_in, mark}
use Rattle.ledger.proofs.MarkBytes.{high_off, pow_under}

-- ---- one byte: bit k, which is 0, set

module _ (b k : ℕ) (off : eqb (b / 2 ^ k % 2) 1 ≡ false) where
  -- no carry out of bit k: the quotient by 2^k is even
  no_carry : (b + 2 ^ k) / 2 ^ suc k ≡ b / 2 ^ suc k
  no_carry =
      let n = eqb-false (b / 2 ^ k % 2) 1 off in
      let half : (b / 2 ^ k + 1) / 2 ≡ b / 2 ^ k / 2 = omega arith in
      ap (λ (p : ℕ). (b + 2 ^ k) / p) (pow-suc 2 k)
      ∙ sym (div-div-eq-div-mul (b + 2 ^ k) (2 ^ k) 2) ∙ ap (λ (q : ℕ). q / 2) (add-div_right b (pow_pos k)) ∙ half
      ∙ div-div-eq-div-mul b (2 ^ k) 2 ∙ ap (λ (p : ℕ). b / p) (sym (pow-suc 2 k))

  above : (j : ℕ) → k < j → (b + 2 ^ k) / 2 ^ j % 2 ≡ b / 2 ^ j % 2
  above j h =
      let e : j ≡ suc k + (j - suc k) = omega arith in
      let p : 2 ^ j ≡ 2 ^ suc k * 2 ^ (j - suc k) = ap (λ (n : ℕ). 2 ^ n) e ∙ pow-add 2 (suc k) (j - suc k) in
      ap (λ (n : ℕ). (b + 2 ^ k) / n % 2) p
      ∙ ap (λ (n : ℕ). n % 2)
      (sym (div-div-eq-div-mul (b + 2 ^ k) (2 ^ suc k) (2 ^ (j - suc k))) ∙ ap (λ (n : ℕ). n / 2 ^ (j - suc k)) no_carry
      ∙ div-div-eq-div-mul b (2 ^ suc k) (2 ^ (j - suc k)))
      ∙ ap (λ (n : ℕ). b / n % 2) (sym p)

  below : (j : ℕ) → j < k → (b + 2 ^ k) / 2 ^ j % 2 ≡ b / 2 ^ j % 2
  below j h = ap (λ (n : ℕ). (b + n) / 2 ^ j % 2) (pow_under j k h) ∙ high_off b (2 ^ (k - suc j)) j

  other_bit : (j : ℕ) → j ≢ k → (b + 2 ^ k) / 2 ^ j % 2 ≡ b / 2 ^ j % 2
  other_bit j ne = go (ltb j k) refl
    where
      go : (t : Bool) → ltb j k ≡ t → (b + 2 ^ k) / 2 ^ j % 2 ≡ b / 2 ^ j % 2
      go true e = below j (ltb-true j k e)
      go false e = above j (let l = ltb-false j k e in let n : j ≡ k → ⊥ = ne in omega arith)

-- ---- the ledger

module _ (lim : Limits) (s : List ℕ) (row block : ℕ) (here : mark_at lim row block < length s) (off : bit_in lim s row block ≡ false)
    (r b : ℕ) (h : block < 256) (l : b < 256) (ne : 256 * r + b ≢ 256 * row + block) where
  abbrev byte : ℕ
  byte = get_or s (mark_at lim row block) 0 + 2 ^ (block % 8)

  by_byte : (t : Bool) → eqb (mark_at lim r b) (mark_at lim row block) ≡ t
      → eqb (get_or (set s (mark_at lim row block) byte) (mark_at lim r b) 0 / 2 ^ (b % 8) % 2) 1 ≡ eqb (get_or s (mark_at lim r b) 0 / 2 ^ (b % 8) % 2) 1
  unfolding bit_in
  by_byte true e =
      let same = eqb-true (mark_at lim r b) (mark_at lim row block) e in
      let bits : b % 8 ≢ block % 8 = λ q. ne (omega (arith, q)) in
      let read = get_or-set_same s (mark_at lim row block) byte 0 here in
      ap (λ (n : ℕ). eqb (n / 2 ^ (b % 8) % 2) 1) (ap (λ (n : ℕ). get_or (set s (mark_at lim row block) byte) n 0) same ∙ read)
      ∙ ap (λ (n : ℕ). eqb n 1) (other_bit (get_or s (mark_at lim row block) 0) (block % 8) off (b % 8) bits)
      ∙ ap (λ (n : ℕ). eqb (get_or s n 0 / 2 ^ (b % 8) % 2) 1) (sym same)
  by_byte false e =
      ap (λ (n : ℕ). eqb (n / 2 ^ (b % 8) % 2) 1)
      (get_or-set_other s (mark_at lim row block) (mark_at lim r b) byte 0 (eqb-false (mark_at lim r b) (mark_at lim row block) e))

  pub bit_kept : bit_in lim (mark lim s row block) r b ≡ bit_in lim s r b
  unfolding bit_in mark
  bit_kept = by_byte (eqb (mark_at lim r b) (mark_at lim row block)) refl
