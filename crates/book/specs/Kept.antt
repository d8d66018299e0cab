-- The plain ledger that keeps each posted sum by its ticket. It has no byte of a ledger or a book in it. Document 02, slip 9.
use Rattle.std.specs.Prelude.{◌≡◌, Bool, true, false, not, cond, ◌&&◌, List, ℕ, ◌*◌, ◌/◌, ◌%◌, ◌<◌, eqb}
use Rattle.algebra.specs.Sum.{sum}
use Rattle.words.specs.Bytes.{AllBytes}
use Rattle.series.specs.Series.{modulus}
use Rattle.run.specs.Run.{Entry, Limits, in_range, is_ticket}
use Rattle.ledger.specs.Ledger.{mark_in}
use Rattle.ledger.specs.Plain.{Plain, plain_view, opened, admit, adding, sum_rows, encode, decode}
use Rattle.book.specs.Book.{kept_in, opposite, view_with}

-- `kept row block` is the sum that is kept for the ticket, 0 where it is not in the set.
pub record Keeping : Type 0 where
  pub plain : Plain
  pub kept : ℕ → ℕ → ℕ

-- the plain ledger as opened, with nothing kept
unfoldable pub opened_keeping : ℕ → ℕ → Keeping
opened_keeping p C = record { plain = opened p C; kept = λ row block. 0 }

-- the sums kept, with x for one ticket
unfoldable pub keeping : ℕ → ℕ → ℕ → (ℕ → ℕ → ℕ) → ℕ → ℕ → ℕ
keeping row block x kept r b = cond (eqb row r && eqb block b) x (kept r b)

-- the set without one ticket
unfoldable pub excluding : ℕ → ℕ → (ℕ → ℕ → Bool) → ℕ → ℕ → Bool
excluding row block set r b = not (eqb row r && eqb block b) && set r b

-- a ticket put into the set: its sum is added to that of its row, and kept
unfoldable pub admit_kept : Keeping → Entry → Keeping
admit_kept k t = record { plain = admit k.plain t; kept = keeping t.row t.block (t.sum % modulus) k.kept }

-- a ticket taken out of the set with its sum, which is taken out of the sum of its row
unfoldable pub dismiss : Plain → ℕ → ℕ → ℕ → Plain
dismiss s row block x = record { p = s.p; C = s.C; tickets = excluding row block s.tickets; sums = adding row (opposite x) s.sums }

unfoldable pub release : Keeping → ℕ → ℕ → Keeping
release k row block = record { plain = dismiss k.plain row block (k.kept row block); kept = keeping row block 0 k.kept }

-- ---- the bytes that hold exactly what it keeps

-- 16 bytes for each place, in order: place 256 * row + block is that of a ticket
unfoldable pub encode_book : Limits → (ℕ → ℕ → ℕ) → List ℕ
encode_book lim kept = sum_rows (λ i. kept (i / 256) (i % 256)) 0 (256 * lim.rows)

-- what the bytes of a ledger and a book hold
unfoldable pub decode_with : Limits → List ℕ → List ℕ → Keeping
decode_with lim ledger book = record { plain = decode lim ledger; kept = λ row block. cond (mark_in lim ledger row block) (kept_in book row block) 0 }

-- A plain ledger of a run: its tickets are the run's, every sum is below 2 ^ 128, nothing is kept off the set, and what is kept for a row's tickets
-- adds up to the row's sum modulo 2 ^ 128.
pub record Sound (lim : Limits) (k : Keeping) : Type 0 where
  pub range : in_range lim k.plain.p k.plain.C ≡ true
  pub tickets_in : (row block : ℕ) → k.plain.tickets row block ≡ true → is_ticket lim k.plain.C row block ≡ true
  pub sums_in : (row : ℕ) → k.plain.sums row < modulus
  pub kept_in : (row block : ℕ) → k.kept row block < modulus
  pub off : (row block : ℕ) → k.plain.tickets row block ≡ false → k.kept row block ≡ 0
  pub adds_up : (row : ℕ) → row < lim.rows → sum (k.kept row) 0 k.plain.C % modulus ≡ k.plain.sums row

-- A ledger and a book that are in order together hold exactly what such a plain ledger holds, both ways.
pub record HoldsKept (lim : Limits) : Type 0 where
  -- the bytes of one have their sizes and are in order together, and what they say is what it holds
  pub in_order : (k : Keeping) → Sound lim k → view_with lim (encode lim k.plain) (encode_book lim k.kept) ≡ plain_view k.plain
  pub sums_read : (k : Keeping) → Sound lim k → (row : ℕ) → row < lim.rows
      → (decode_with lim (encode lim k.plain) (encode_book lim k.kept)).plain.sums row ≡ k.plain.sums row
  pub kept_read : (k : Keeping) → Sound lim k → (row block : ℕ)
      → (decode_with lim (encode lim k.plain) (encode_book lim k.kept)).kept row block ≡ k.kept row block
  -- and bytes that have their sizes and are in order together are those of one
  pub sound : (ledger book : List ℕ) → AllBytes ledger → AllBytes book → (view_with lim ledger book).sized ≡ true → (view_with lim ledger book).ordered ≡ true
      → Sound lim (decode_with lim ledger book)
  pub again : (ledger book : List ℕ) → AllBytes ledger → AllBytes book → (view_with lim ledger book).sized ≡ true → (view_with lim ledger book).ordered ≡ true
      → (encode lim (decode_with lim ledger book).plain ≡ ledger) × (encode_book lim (decode_with lim ledger book).kept ≡ book)
