-- The plain ledger: a run, a set of tickets and a sum for each row. It has no byte of the ledger in it. Document 01, "The ledger";
-- document 02, slip 1.
use Rattle.std.specs.Prelude.{Bool, true, false, cond, ◌&&◌, ◌||◌, List, [], ◌∷◌, ◌++◌, ℕ, zero, suc, ◌+◌, ◌*◌, ◌%◌, ◌^◌, eqb}
use Rattle.words.specs.Bytes.{bytes_of}
use Rattle.series.specs.Series.{modulus}
use Rattle.run.specs.Run.{Entry, Limits, is_ticket}
use Rattle.ledger.specs.Ledger.{View, head, pos_in, blocks_in, row_sum_in, mark_in}

-- The set of tickets is given by its test: `tickets row block` says whether the ticket is in it. `sums row` is the sum of a row.
pub record Plain : Type 0 where
  pub p : ℕ
  pub C : ℕ
  pub tickets : ℕ → ℕ → Bool
  pub sums : ℕ → ℕ

-- the run named, the empty set and every sum 0
unfoldable pub opened : ℕ → ℕ → Plain
opened p C = record { p = p; C = C; tickets = λ row block. false; sums = λ row. 0 }

-- for the plain ledger the ledger has its size and is in order, and a ticket is marked if it is in the set
unfoldable pub plain_view : Plain → View
plain_view s = record { sized = true; ordered = true; p = s.p; C = s.C; marked = s.tickets }

abbrev pub is_of : Entry → ℕ → ℕ → Bool
is_of t row block = eqb t.row row && eqb t.block block

-- the set with one ticket more
unfoldable pub including : Entry → (ℕ → ℕ → Bool) → ℕ → ℕ → Bool
including t set row block = is_of t row block || set row block

-- the sums with x added to that of one row, modulo 2 ^ 128
unfoldable pub adding : ℕ → ℕ → (ℕ → ℕ) → ℕ → ℕ
adding row x sums r = cond (eqb row r) ((sums r + x) % modulus) (sums r)

-- a ticket put into the set, and its sum added to that of its row
unfoldable pub admit : Plain → Entry → Plain
admit s t = record { p = s.p; C = s.C; tickets = including t s.tickets; sums = adding t.row t.sum s.sums }

-- ---- the bytes that hold exactly what a plain ledger holds

-- 16 bytes for the sum of each of n rows from row r on
unfoldable pub sum_rows : (ℕ → ℕ) → ℕ → ℕ → List ℕ
sum_rows sums r zero = []
sum_rows sums r (suc n) = bytes_of 16 (sums r) ++ sum_rows sums (suc r) n

-- the lowest n bits of a byte of marks: bit i is the mark of block `from + i`
unfoldable pub mark_byte : (ℕ → Bool) → ℕ → ℕ → ℕ
mark_byte m from zero = 0
mark_byte m from (suc n) = mark_byte m from n + cond (m (from + n)) (2 ^ n) 0

-- n bytes of marks from byte i on
unfoldable pub mark_bytes : (ℕ → Bool) → ℕ → ℕ → List ℕ
mark_bytes m i zero = []
mark_bytes m i (suc n) = mark_byte m (8 * i) 8 ∷ mark_bytes m (suc i) n

-- 32 bytes of marks for each of n rows from row r on
unfoldable pub mark_rows : (ℕ → ℕ → Bool) → ℕ → ℕ → List ℕ
mark_rows m r zero = []
mark_rows m r (suc n) = mark_bytes (m r) 0 32 ++ mark_rows m (suc r) n

unfoldable pub encode : Limits → Plain → List ℕ
encode lim s = head s.p s.C ++ sum_rows s.sums 0 lim.rows ++ mark_rows s.tickets 0 lim.rows

-- the plain ledger that the bytes of a ledger hold
unfoldable pub decode : Limits → List ℕ → Plain
decode lim s = record { p = pos_in s; C = blocks_in s; tickets = mark_in lim s; sums = row_sum_in s }

-- the ledger of the run p = 1, C = 1, every ticket marked, with these sums: document 01's marked closings are of these
abbrev pub full_plain : Limits → (ℕ → ℕ) → Plain
full_plain lim sums = record { p = 1; C = 1; tickets = is_ticket lim 1; sums = sums }

unfoldable pub full_ledger : Limits → (ℕ → ℕ) → List ℕ
full_ledger lim sums = encode lim (full_plain lim sums)
