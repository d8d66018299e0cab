-- The bytes of a book: a sum read back, a sum put into its place, and the empty book. And those of a ledger with a ticket taken out.
-- Assumes nothing.
use mathlib.Core.Path.{◌≡◌, refl, sym, ap, ap₂, ◌∙◌, subst}
use mathlib.Core.Bool.{Bool, true, false}
use mathlib.Core.Logic.{◌≢◌}
use mathlib.Core.List.{List, [], ◌++◌, append-nil, append_assoc}
use Prim.Native.Nat.{ℕ, suc, ◌+◌, ◌*◌, ◌-◌, ◌/◌, ◌%◌, ◌^◌, ◌<◌}
use native.Mathlib.Omega.{arith}
use lib.ListN.{length, get_or, set, take, drop, replicate, length-append}
use lib.Seq.{take_at, drop_at, get_or-set_same, set-set, set-get_or}
use Rattle.algebra.proofs.Booleans.{same_pair, other_pair}
use Rattle.words.specs.Bytes.{bytes_of, field}
use Rattle.words.proofs.Bytes.{length_bytes, field_written, bytes_rem}
use Rattle.series.specs.Series.{modulus}
use Rattle.run.specs.Run.{Limits, is_ticket}
use Rattle.run.proofs.Range.{ticket_row, ticket_low}
use Rattle.ledger.specs.Ledger.{head}
use Rattle.ledger.specs.Plain.{Plain, sum_rows, mark_rows, adding, encode}
use Rattle.ledger.proofs.MarkBytes.{changed_past, mark_set, length_mark_rows}
use Rattle.ledger.proofs.RowSums.{length_sum_rows, rows_ext, rows_zero, parts, length_before, add_sums}
use Rattle.ledger.proofs.Image.{Good, head_length}
use Rattle.book.specs.Book.{book_size, kept_in, keep, opposite, unmark, remove}
use Rattle.book.specs.Kept.{keeping, excluding, dismiss, encode_book}

-- ---- sums kept with one of them changed, and a set with one ticket less

pub keeping_here : (row block x : ℕ) (kept : ℕ → ℕ → ℕ) → keeping row block x kept row block ≡ x
unfolding keeping
keeping_here row block x kept = rw (same_pair row block) refl

pub keeping_else : (row block x : ℕ) (kept : ℕ → ℕ → ℕ) (r b : ℕ) → ((r ≡ row) × (b ≡ block) → ⊥) → kept r b ≡ keeping row block x kept r b
unfolding keeping
keeping_else row block x kept r b ne = rw (other_pair row block r b ne) refl

pub excluding_here : (row block : ℕ) (set : ℕ → ℕ → Bool) → excluding row block set row block ≡ false
unfolding excluding
excluding_here row block set = rw (same_pair row block) refl

pub excluding_else : (row block : ℕ) (set : ℕ → ℕ → Bool) (r b : ℕ) → ((r ≡ row) × (b ≡ block) → ⊥) → excluding row block set r b ≡ set r b
unfolding excluding
excluding_else row block set r b ne = rw (other_pair row block r b ne) refl

-- ---- 16 bytes for each of R places

module _ (v : ℕ → ℕ) (R i : ℕ) (h : i < R) where
  -- the places before one, its sum, and the places after it
  split : sum_rows v 0 R ≡ sum_rows v 0 i ++ bytes_of 16 (v i) ++ sum_rows v (suc i) (R - suc i)
  split =
      sym (append-nil (sum_rows v 0 R)) ∙ parts [] [] v R i h
      ∙ ap (λ (l : List ℕ). sum_rows v 0 i ++ bytes_of 16 (v i) ++ l) (append-nil (sum_rows v (suc i) (R - suc i)))

  place_read : v i < modulus → field (sum_rows v 0 R) (16 * i) 16 ≡ v i
  place_read fits =
      ap (λ (l : List ℕ). field l (16 * i) 16) split
      ∙ field_written (sum_rows v 0 i) (sum_rows v (suc i) (R - suc i)) (16 * i) 16 (v i) (length_sum_rows v 0 i) fits

place_put : (v w : ℕ → ℕ) (R i : ℕ) → i < R → ((j : ℕ) → j ≢ i → v j ≡ w j)
    → take (16 * i) (sum_rows v 0 R) ++ bytes_of 16 (w i) ++ drop (16 * i + 16) (sum_rows v 0 R) ≡ sum_rows w 0 R
place_put v w R i h else =
    let before = sum_rows v 0 i in
    let after = sum_rows v (suc i) (R - suc i) in
    let n = length_sum_rows v 0 i in
    let m = length-append before (bytes_of 16 (v i)) ∙ ap₂ ◌+◌ n (length_bytes 16 (v i)) in
    let low : sum_rows v 0 i ≡ sum_rows w 0 i = rows_ext v w 0 i (λ j l u. else j (λ q. omega (arith, q))) in
    let high : after ≡ sum_rows w (suc i) (R - suc i) = rows_ext v w (suc i) (R - suc i) (λ j l u. else j (λ q. omega (arith, q))) in
    ap (λ (l : List ℕ). take (16 * i) l ++ bytes_of 16 (w i) ++ drop (16 * i + 16) l) (split v R i h)
    ∙ ap₂ (λ (a b : List ℕ). a ++ bytes_of 16 (w i) ++ b)
    (ap (take (16 * i)) (append_assoc before (bytes_of 16 (v i)) after) ∙ take_at before (bytes_of 16 (v i) ++ after) (16 * i) n)
    (drop_at (before ++ bytes_of 16 (v i)) after (16 * i + 16) m)
    ∙ ap₂ (λ (a b : List ℕ). a ++ bytes_of 16 (w i) ++ b) low high ∙ sym (split w R i h)

-- ---- the book

-- the place of a ticket
place_at : (kept : ℕ → ℕ → ℕ) (row block : ℕ) → block < 256 → kept ((256 * row + block) / 256) ((256 * row + block) % 256) ≡ kept row block
place_at kept row block l =
    let q : (256 * row + block) / 256 ≡ row = omega arith in
    let r : (256 * row + block) % 256 ≡ block = omega arith in
    ap₂ kept q r

module _ (lim : Limits) (kept : ℕ → ℕ → ℕ) where
  pub length_book : length (encode_book lim kept) ≡ book_size lim
  unfolding encode_book
  length_book = let e = length_sum_rows (λ i. kept (i / 256) (i % 256)) 0 (256 * lim.rows) in omega (arith, e)

  module _ (row block : ℕ) (h : row < lim.rows) (l : block < 256) where
    pub kept_encode : kept row block < modulus → kept_in (encode_book lim kept) row block ≡ kept row block
    unfolding kept_in encode_book
    kept_encode fits =
        let at = place_at kept row block l in
        place_read (λ i. kept (i / 256) (i % 256)) (256 * lim.rows) (256 * row + block) (omega arith) (subst (λ (n : ℕ). n < modulus) (sym at) fits) ∙ at

    pub keep_encode : (x : ℕ) → keep (encode_book lim kept) row block x ≡ encode_book lim (keeping row block x kept)
    unfolding keep encode_book
    keep_encode x =
        let i = 256 * row + block in
        let old : ℕ → ℕ = λ j. kept (j / 256) (j % 256) in
        let new : ℕ → ℕ = λ j. keeping row block x kept (j / 256) (j % 256) in
        let here : new i ≡ x = place_at (keeping row block x kept) row block l ∙ keeping_here row block x kept in
        ap (λ (y : ℕ). take (16 * i) (sum_rows old 0 (256 * lim.rows)) ++ bytes_of 16 y ++ drop (16 * i + 16) (sum_rows old 0 (256 * lim.rows))) (sym here)
        ∙ place_put old new (256 * lim.rows) i (omega arith)
        (λ j ne. keeping_else row block x kept (j / 256) (j % 256) (λ q. ne (let q₀ = q.0 in let q₁ = q.1 in omega (arith, q₀, q₁))))

-- what is above 16 bytes is not written
pub keep_rem : (book : List ℕ) (row block x : ℕ) → keep book row block (x % modulus) ≡ keep book row block x
unfolding keep
keep_rem book row block x =
    let at = 16 * (256 * row + block) in
    ap (λ (l : List ℕ). take at book ++ l ++ drop (at + 16) book) (bytes_rem 16 x)

pub book_empty : (lim : Limits) → replicate (book_size lim) 0 ≡ encode_book lim (λ row block. 0)
unfolding encode_book
book_empty lim =
    let e : book_size lim ≡ 16 * (256 * lim.rows) = omega arith in
    ap (λ (n : ℕ). replicate {A = ℕ} n 0) e ∙ sym (rows_zero 0 (256 * lim.rows))

-- ---- a ledger with a ticket taken out

-- a number of a list with y added to it and taken away again
there_and_back : (l : List ℕ) (q y : ℕ) → q < length l → set (set l q (get_or l q 0 + y)) q (get_or (set l q (get_or l q 0 + y)) q 0 - y) ≡ l
there_and_back l q y h =
    let a = get_or l q 0 in
    let e : a + y - y ≡ a = omega arith in
    ap (λ (n : ℕ). set (set l q (a + y)) q (n - y)) (get_or-set_same l q (a + y) 0 h)
    ∙ set-set l q (a + y) (a + y - y) ∙ ap (set l q) e ∙ set-get_or l q 0

module _ (lim : Limits) (s : Plain) (g : Good lim s) (row block : ℕ) (h : is_ticket lim s.C row block ≡ true) (there : s.tickets row block ≡ true) where
  row_in_lem : row < lim.rows
  row_in_lem = ticket_row lim s.C row block h

  low : block < 256
  low = ticket_low lim s.p s.C row block g.range h

  -- one mark less
  marks_left : set (mark_rows s.tickets 0 lim.rows) (32 * row + block / 8) (get_or (mark_rows s.tickets 0 lim.rows) (32 * row + block / 8) 0 - 2 ^ (block % 8))
      ≡ mark_rows (excluding row block s.tickets) 0 lim.rows
  marks_left =
      let q = 32 * row + block / 8 in
      let y = 2 ^ (block % 8) in
      let rest = excluding row block s.tickets in
      let n = length_mark_rows rest 0 lim.rows in
      ap (λ (l : List ℕ). set l q (get_or l q 0 - y))
      (sym (mark_set rest s.tickets lim.rows row block row_in_lem low (excluding_here row block s.tickets) there (excluding_else row block s.tickets)))
      ∙ there_and_back (mark_rows rest 0 lim.rows) q y (omega (arith, n, row_in_lem, low))

  pub remove_encode : (x : ℕ) → remove lim (encode lim s) row block x ≡ encode lim (dismiss s row block x)
  unfolding remove unmark dismiss encode
  remove_encode x =
      let first = head s.p s.C in
      let marks = mark_rows s.tickets 0 lim.rows in
      let sums = adding row (opposite x) s.sums in
      let size = head_length lim s g in
      ap (λ (e : List ℕ). unmark lim e row block) (add_sums first marks size s.sums lim.rows row (opposite x) row_in_lem (g.sums_in row))
      ∙ changed_past lim (λ b. b - 2 ^ (block % 8)) (first ++ sum_rows sums 0 lim.rows) marks row block (length_before first marks size sums lim.rows)
      ∙ ap (λ (m : List ℕ). first ++ sum_rows sums 0 lim.rows ++ m) marks_left
