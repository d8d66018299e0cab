-- The bytes of a plain ledger: what the refusal table sees of them is what it sees of the plain ledger, and a ticket entered makes
-- of them the bytes of the plain ledger with the ticket put in.
-- Assumes nothing.
use mathlib.Core.Path.{◌≡◌, refl, sym, ap, ap₂, ◌∙◌}
use mathlib.Core.Bool.{Bool, true, false, not, ◌&&◌, ◌||◌}
use mathlib.Core.List.{List, [], ◌++◌, append_assoc}
use Prim.Native.Nat.{ℕ, ◌+◌, ◌*◌, ◌/◌, ◌%◌, ◌^◌, ◌<◌}
use native.Mathlib.Omega.{arith}
use borrow.Author.Tests.{ltb-false, eq-eqb}
use lib.Dec.{ltb, eqb}
use lib.Pow.{pow_pos}
use lib.ListN.{length, get_or, replicate, replicate-append-replicate, length-append}
use lib.Seq.{get_or-append-add}
use Rattle.algebra.proofs.Sums.{sum_ext}
use Rattle.algebra.proofs.Booleans.{same_pair, other_pair, at_or_else}
use Rattle.algebra.proofs.Below.{all_true}
use Rattle.words.specs.Bytes.{bytes_of, value_of, field}
use Rattle.words.proofs.Bytes.{value_bytes}
use Rattle.series.specs.Series.{modulus}
use Rattle.run.specs.Run.{Limits, in_range, is_ticket, Entry}
use Rattle.run.proofs.Range.{range_of, ticket_row, ticket_block}
use Rattle.ledger.specs.Ledger.{ledger_size, marks_at, head, pos_in, blocks_in, row_sum_in, total_of, total_in, bit_in, mark_in, in_order, view_of, mark, enter, fresh}
use Rattle.ledger.specs.Plain.{Plain, plain_view, encode, admit, including, adding, sum_rows, mark_rows, mark_byte, opened}
use Rattle.ledger.proofs.MarkBytes.{bit, mark_at_lem, mark_set, mark_past, byte_bit, length_mark_rows, rows_none}
use Rattle.ledger.proofs.RowSums.{length_before, sum_read, adding_fits, add_sums, rows_zero}

bit_eqb : (b : Bool) → eqb (bit b) 1 ≡ b
bit_eqb true = refl
bit_eqb false = refl

-- ---- a set with one ticket more

pub including_here : (t : Entry) (set : ℕ → ℕ → Bool) → including t set t.row t.block ≡ true
unfolding including
including_here t set = rw (same_pair t.row t.block) refl

pub including_else : (t : Entry) (set : ℕ → ℕ → Bool) (row block : ℕ) → ((row ≡ t.row) × (block ≡ t.block) → ⊥)
    → set row block ≡ including t set row block
unfolding including
including_else t set row block ne = rw (other_pair t.row t.block row block ne) refl

-- ---- a plain ledger of a run

pub record Good (lim : Limits) (s : Plain) : Type 0 where
  pub fits : lim.last < 2 ^ 64
  pub range : in_range lim s.p s.C ≡ true
  pub sums_in : (row : ℕ) → s.sums row < modulus
  pub tickets_in : (row block : ℕ) → s.tickets row block ≡ true → is_ticket lim s.C row block ≡ true

module _ (lim : Limits) (s : Plain) (g : Good lim s) where
  pub pos_encode : pos_in (encode lim s) ≡ s.p
  unfolding pos_in field encode bytes_of
  pos_encode = let h = range_of lim s.p s.C g.range in value_bytes 8 s.p (omega arith)

  pub blocks_encode : blocks_in (encode lim s) ≡ s.C
  unfolding blocks_in field encode bytes_of
  blocks_encode = let h = range_of lim s.p s.C g.range in value_bytes 2 s.C (omega arith)

  pub head_length : length (head s.p s.C) ≡ 16
  unfolding bytes_of
  head_length = refl

  pub sum_encode : (row : ℕ) → row < lim.rows → row_sum_in (encode lim s) row ≡ s.sums row
  unfolding encode
  sum_encode row h =
      sum_read (head s.p s.C) (mark_rows s.tickets 0 lim.rows) head_length s.sums lim.rows row h (g.sums_in row)

  pub total_encode : total_in lim (encode lim s) ≡ total_of lim s.sums
  unfolding total_of
  total_encode =
      ap (λ (n : ℕ). n % modulus) (sum_ext (row_sum_in (encode lim s)) s.sums 0 lim.rows (λ row l h. sum_encode row (omega arith)))

  gap_encode : field (encode lim s) 10 6 ≡ 0
  unfolding field value_of encode bytes_of
  gap_encode = refl

  front_length : length (head s.p s.C ++ sum_rows s.sums 0 lim.rows) ≡ marks_at lim
  front_length = length_before (head s.p s.C) [] head_length s.sums lim.rows

  pub length_encode : length (encode lim s) ≡ ledger_size lim
  unfolding encode
  length_encode =
      let e = length_mark_rows s.tickets 0 lim.rows in
      let f = front_length in
      length-append (head s.p s.C ++ sum_rows s.sums 0 lim.rows) (mark_rows s.tickets 0 lim.rows) ∙ omega (arith, e, f)

  -- the mark bytes
  byte_encode : (row k : ℕ) → row < lim.rows → k < 32 → get_or (encode lim s) (marks_at lim + (32 * row + k)) 0 ≡ mark_byte (s.tickets row) (8 * k) 8
  unfolding encode
  byte_encode row k h l =
      let front = head s.p s.C ++ sum_rows s.sums 0 lim.rows in
      ap (λ (n : ℕ). get_or (encode lim s) (n + (32 * row + k)) 0) (sym front_length)
      ∙ get_or-append-add front (mark_rows s.tickets 0 lim.rows) (32 * row + k) 0
      ∙ mark_at_lem s.tickets lim.rows row k h l

  pub bit_encode : (row block : ℕ) → row < lim.rows → block < 256 → bit_in lim (encode lim s) row block ≡ s.tickets row block
  unfolding bit_in
  bit_encode row block h l =
      let e : 8 * (block / 8) + block % 8 ≡ block = omega arith in
      ap (λ (x : ℕ). eqb (x / 2 ^ (block % 8) % 2) 1) (byte_encode row (block / 8) h (omega arith))
      ∙ ap (λ (x : ℕ). eqb x 1) (byte_bit (s.tickets row) (8 * (block / 8)) 8 (block % 8) (omega arith))
      ∙ bit_eqb (s.tickets row (8 * (block / 8) + block % 8))
      ∙ ap (s.tickets row) e

  mark_cases : (row block : ℕ) (b : Bool) → is_ticket lim s.C row block ≡ b
      → (b && bit_in lim (encode lim s) row block) ≡ s.tickets row block
  mark_cases row block true e =
      let h = range_of lim s.p s.C g.range in
      let l = ticket_block lim s.C row block e in
      bit_encode row block (ticket_row lim s.C row block e) (omega arith)
  mark_cases row block false e = go (s.tickets row block) refl
    where
      go : (c : Bool) → s.tickets row block ≡ c → false ≡ c
      go true f = sym e ∙ g.tickets_in row block f
      go false f = refl

  pub mark_encode : (row block : ℕ) → mark_in lim (encode lim s) row block ≡ s.tickets row block
  unfolding mark_in
  mark_encode row block = rw blocks_encode (mark_cases row block (is_ticket lim s.C row block) refl)

  -- ---- in order

  above_clear : (row block : ℕ) → row < lim.rows → block < 256 → (ltb block s.C || not (bit_in lim (encode lim s) row block)) ≡ true
  above_clear row block h l = rw (bit_encode row block h l) (go (ltb block s.C) refl (s.tickets row block) refl)
    where
      go : (a : Bool) → ltb block s.C ≡ a → (c : Bool) → s.tickets row block ≡ c → (a || not c) ≡ true
      go true e c f = refl
      go false e true f =
          let b = ticket_block lim s.C row block (g.tickets_in row block f) in
          let n = ltb-false block s.C e in
          absurd (omega arith)
      go false e false f = refl

  pub order_encode : in_order lim (encode lim s) ≡ true
  unfolding in_order
  order_encode =
      rw (pos_encode, blocks_encode, gap_encode, g.range)
      (all_true lim.rows _ (λ row h. all_true 256 _ (λ block l. above_clear row block h l)))

  -- what is seen of the bytes is what is seen of the plain ledger
  pub view_encode : view_of lim (encode lim s) ≡ plain_view s
  unfolding view_of plain_view
  view_encode = λ i. record {
    sized = eq-eqb (length (encode lim s)) (ledger_size lim) length_encode i;
    ordered = order_encode i;
    p = pos_encode i;
    C = blocks_encode i;
    marked = λ row block. mark_encode row block i;
  }

  -- a ticket that is not in the set, entered
  pub enter_encode : (t : Entry) → is_ticket lim s.C t.row t.block ≡ true → s.tickets t.row t.block ≡ false
      → enter lim (encode lim s) t.row t.block t.sum ≡ encode lim (admit s t)
  unfolding enter admit encode
  enter_encode t h new =
      let range = range_of lim s.p s.C g.range in
      let l = ticket_block lim s.C t.row t.block h in
      let row_in = ticket_row lim s.C t.row t.block h in
      let first = head s.p s.C in
      let marks = mark_rows s.tickets 0 lim.rows in
      let sums = adding t.row t.sum s.sums in
      ap (λ (e : List ℕ). mark lim e t.row t.block) (add_sums first marks head_length s.sums lim.rows t.row t.sum row_in (g.sums_in t.row))
      ∙ mark_past lim (first ++ sum_rows sums 0 lim.rows) marks t.row t.block (length_before first marks head_length sums lim.rows)
      ∙ ap (λ (m : List ℕ). first ++ sum_rows sums 0 lim.rows ++ m)
      (mark_set s.tickets (including t s.tickets) lim.rows t.row t.block row_in (omega arith)
      new (including_here t s.tickets) (including_else t s.tickets))

-- ---- the fresh ledger

pub fresh_encode : (lim : Limits) (p C : ℕ) → fresh lim p C ≡ encode lim (opened p C)
unfolding fresh encode opened
fresh_encode lim p C =
    let e : 16 * lim.rows + 32 * lim.rows ≡ 48 * lim.rows = omega arith in
    let z : replicate {A = ℕ} (48 * lim.rows) 0 ≡ replicate (16 * lim.rows) 0 ++ replicate (32 * lim.rows) 0 =
    ap (λ (n : ℕ). replicate {A = ℕ} n 0) (sym e) ∙ sym (replicate-append-replicate (16 * lim.rows) (32 * lim.rows) 0) in
    ap (λ (l : List ℕ). head p C ++ l) (z ∙ sym (ap₂ ◌++◌ (rows_zero 0 lim.rows) (rows_none 0 lim.rows)))
    ∙ sym (append_assoc (head p C) (sum_rows (λ row. 0) 0 lim.rows) (mark_rows (λ row block. false) 0 lim.rows))

-- ---- the plain ledger as opened

pub good_opened : (lim : Limits) (p C : ℕ) → lim.last < 2 ^ 64 → in_range lim p C ≡ true → Good lim (opened p C)
unfolding opened
good_opened lim p C h e = record { fits = h; range = e; sums_in = λ row. pow_pos 128; tickets_in = λ row block f. cc }

-- ---- one ticket

pub good_admit : (lim : Limits) (s : Plain) (t : Entry) → Good lim s → is_ticket lim s.C t.row t.block ≡ true → Good lim (admit s t)
unfolding admit
good_admit lim s t g h = record {
  fits = g.fits;
  range = g.range;
  sums_in = λ row. adding_fits t.row t.sum s.sums row (g.sums_in row);
  tickets_in = λ row block.
      at_or_else t.row t.block row block (λ r b. including t s.tickets r b ≡ true → is_ticket lim s.C r b ≡ true) (λ k. h)
      (λ ne k. g.tickets_in row block (including_else t s.tickets row block ne ∙ k));
}
