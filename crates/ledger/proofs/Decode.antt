-- Every ledger in order holds exactly what a plain ledger holds, whatever was posted to it.
-- Assumes nothing.
use mathlib.Core.Path.{◌≡◌, refl, sym, ap, ap₂, ◌∙◌}
use mathlib.Core.Bool.{Bool, true, false, cond, not, ◌&&◌, ◌||◌}
use mathlib.Core.List.{List, ◌++◌}
use Prim.Native.Nat.{ℕ, zero, suc, ◌+◌, ◌*◌, ◌/◌, ◌%◌, ◌^◌, ◌<◌, ◌≤◌}
use native.Mathlib.Nat.{mod-eq_of_lt}
use native.Mathlib.Omega.{arith}
use borrow.Author.Tests.{eqb-true, lt-ltb, not-true}
use lib.Dec.{ltb, eqb}
use lib.Pow.{mod-pow-add}
use lib.ListN.{length, get_or, drop, take, length-drop, take-append-drop}
use lib.Seq.{ext_get_or, get_or-drop}
use Rattle.algebra.proofs.Booleans.{and_left, and_right}
use Rattle.algebra.proofs.Below.{all_at}
use Rattle.words.specs.Bytes.{bytes_of, field, AllBytes}
use Rattle.words.proofs.Bytes.{field_again, field_lt, part_join}
use Rattle.run.specs.Run.{Limits, in_range, is_ticket}
use Rattle.ledger.specs.Ledger.{ledger_size, sum_at, marks_at, head, pos_in, blocks_in, row_sum_in, bit_in, mark_in, in_order}
use Rattle.ledger.specs.Plain.{encode, decode, sum_rows, mark_byte, mark_rows}
use Rattle.ledger.proofs.MarkBytes.{mark_at_lem, length_mark_rows}
use Rattle.ledger.proofs.RowSums.{sums_again}
use Rattle.ledger.proofs.Image.{Good}

-- a byte of marks is the number that it is read from
byte_of : (m : ℕ → Bool) (from n v : ℕ) → ((j : ℕ) → j < n → m (from + j) ≡ eqb (v / 2 ^ j % 2) 1) → mark_byte m from n ≡ v % 2 ^ n
unfolding mark_byte
byte_of m from zero v h = omega arith
byte_of m from (suc n) v h =
    let low = byte_of m from n v (λ j l. h j (omega arith)) in
    let split : v % 2 ^ (1 + n) ≡ v / 2 ^ n % 2 * 2 ^ n + v % 2 ^ n = mod-pow-add v 1 n in
    let q : 1 + n ≡ suc n = omega arith in
    ap₂ (λ (x : ℕ) (b : Bool). x + cond b (2 ^ n) 0) low (h n (omega arith))
    ∙ top (v / 2 ^ n % 2) (v % 2 ^ n) (omega arith)
    ∙ sym (ap (λ (k : ℕ). v % 2 ^ k) (sym q) ∙ split)
  where
    top : (b r : ℕ) → b < 2 → r + cond (eqb b 1) (2 ^ n) 0 ≡ b * 2 ^ n + r
    top zero r l = omega arith
    top (suc zero) r l = omega arith
    top (suc (suc b)) r l = absurd (omega arith)

module _ (lim : Limits) (s : List ℕ) (bytes : AllBytes s) (sized : length s ≡ ledger_size lim) (ordered : in_order lim s ≡ true) where
  range : in_range lim (pos_in s) (blocks_in s) ≡ true
  unfolding in_order
  range = and_left (in_range lim (pos_in s) (blocks_in s)) _ (and_left (in_range lim (pos_in s) (blocks_in s) && eqb (field s 10 6) 0) _ ordered)

  gap : field s 10 6 ≡ 0
  unfolding in_order
  gap = eqb-true _ _ (and_right (in_range lim (pos_in s) (blocks_in s)) _ (and_left (in_range lim (pos_in s) (blocks_in s) && eqb (field s 10 6) 0) _ ordered))

  clear : (row block : ℕ) → row < lim.rows → block < 256 → (ltb block (blocks_in s) || not (bit_in lim s row block)) ≡ true
  unfolding in_order
  clear row block h l =
      all_at 256 _ (all_at lim.rows _ (and_right (in_range lim (pos_in s) (blocks_in s) && eqb (field s 10 6) 0) _ ordered) row h) block l

  -- no bit is set at C or above, so the marks of a row are its bits
  pub mark_bit : (row block : ℕ) → row < lim.rows → block < 256 → mark_in lim s row block ≡ bit_in lim s row block
  unfolding mark_in is_ticket
  mark_bit row block h l = rw (lt-ltb row lim.rows h) (go (ltb block (blocks_in s)) (bit_in lim s row block) (clear row block h l))
    where
      go : (a b : Bool) → (a || not b) ≡ true → (a && b) ≡ b
      go true b e = refl
      go false b e = sym (not-true b e)

  byte_at : (row k : ℕ) → row < lim.rows → k < 32 → mark_byte (mark_in lim s row) (8 * k) 8 ≡ get_or s (marks_at lim + (32 * row + k)) 0
  unfolding AllBytes bit_in
  byte_at row k h l =
      byte_of (mark_in lim s row) (8 * k) 8 (get_or s (marks_at lim + (32 * row + k)) 0)
      (λ j m.
      let q : (8 * k + j) / 8 ≡ k = omega arith in
      let r : (8 * k + j) % 8 ≡ j = omega arith in
      mark_bit row (8 * k + j) h (omega arith)
      ∙ ap₂ (λ (x y : ℕ). eqb (get_or s (marks_at lim + (32 * row + x)) 0 / 2 ^ y % 2) 1) q r)
      ∙ mod-eq_of_lt (bytes (marks_at lim + (32 * row + k)))

  marks_are : mark_rows (mark_in lim s) 0 lim.rows ≡ drop (marks_at lim) s
  marks_are =
      let l = length_mark_rows (mark_in lim s) 0 lim.rows in
      let d = length-drop (marks_at lim) s in
      ext_get_or 0 (mark_rows (mark_in lim s) 0 lim.rows) (drop (marks_at lim) s) (omega (arith, l, d, sized))
      (λ i h.
      let q : i ≡ 32 * (i / 32) + i % 32 = omega arith in
      let r : i / 32 < lim.rows = omega (arith, l) in
      ap (λ (x : ℕ). get_or (mark_rows (mark_in lim s) 0 lim.rows) x 0) q
      ∙ mark_at_lem (mark_in lim s) lim.rows (i / 32) (i % 32) r (omega arith)
      ∙ byte_at (i / 32) (i % 32) r (omega arith)
      ∙ ap (λ (x : ℕ). get_or s (marks_at lim + x) 0) (sym q)
      ∙ sym (get_or-drop (marks_at lim) s i 0))

  head_is : head (pos_in s) (blocks_in s) ≡ take 16 s
  unfolding pos_in blocks_in bytes_of
  head_is =
      let fits : 16 ≤ length s = omega (arith, sized) in
      ap₂ ◌++◌ (ap₂ ◌++◌ (field_again s 0 8 bytes (omega arith)) (field_again s 8 2 bytes (omega arith)) ∙ part_join s 0 8 2)
      (ap (bytes_of 6) (sym gap) ∙ field_again s 10 6 bytes (omega arith)) ∙ part_join s 0 10 6

  front : head (pos_in s) (blocks_in s) ++ sum_rows (row_sum_in s) 0 lim.rows ≡ take (marks_at lim) s
  front =
      ap (λ (l : List ℕ). l ++ sum_rows (row_sum_in s) 0 lim.rows) head_is
      ∙ sums_again s bytes lim.rows (omega (arith, sized))

  pub encode_decode : encode lim (decode lim s) ≡ s
  unfolding encode decode
  encode_decode = ap₂ ◌++◌ front marks_are ∙ take-append-drop (marks_at lim) s

  pub good_decode : lim.last < 2 ^ 64 → Good lim (decode lim s)
  unfolding decode mark_in row_sum_in
  good_decode fits = record {
    fits = fits;
    range = range;
    sums_in = λ row. field_lt s (sum_at row) 16 bytes;
    tickets_in = λ row block. and_left (is_ticket lim (blocks_in s) row block) (bit_in lim s row block);
  }
