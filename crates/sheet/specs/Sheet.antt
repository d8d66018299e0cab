-- The sheet: a head, a table of contents, then the bodies. Document 01, "The sheet". (The term is document 01's own.)
use Rattle.std.specs.Prelude.{Bool, true, ◌&&◌, List, [], ◌∷◌, ◌++◌, ℕ, zero, suc, ◌+◌, ◌*◌, ltb, eqb, length, get_or}
use Rattle.algebra.specs.Test.{all_below}
use Rattle.words.specs.Bytes.{bytes_of, field}
use Rattle.series.specs.Series.{Formula}
use Rattle.run.specs.Run.{Entry, Limits, is_ticket, ticket_sum}

-- ---- sizes: 16 bytes and 20 for each ticket, of which a run has 256 in each row at the most

abbrev pub sheet_length : ℕ → ℕ
sheet_length e = 16 + 20 * e

abbrev pub sheet_most : Limits → ℕ
sheet_most lim = 16 + 5120 * lim.rows

abbrev pub list_most : Limits → ℕ
list_most lim = 512 * lim.rows

-- ---- reading: p in 8 bytes, C in 2, e in 2, 4 zero bytes

unfoldable pub sheet_pos : List ℕ → ℕ
sheet_pos s = field s 0 8

unfoldable pub sheet_blocks : List ℕ → ℕ
sheet_blocks s = field s 8 2

unfoldable pub sheet_count : List ℕ → ℕ
sheet_count s = field s 10 2

-- entry i of the contents: the row in 1 byte, a zero byte, the block in 2; and its body, a sum of 16 bytes
unfoldable pub row_in : List ℕ → ℕ → ℕ
row_in s i = get_or s (16 + 4 * i) 0

unfoldable pub block_in : List ℕ → ℕ → ℕ
block_in s i = field s (18 + 4 * i) 2

unfoldable pub sum_in : List ℕ → ℕ → ℕ
sum_in s i = field s (16 + 4 * sheet_count s + 16 * i) 16

-- n entries from entry i on
unfoldable pub entries_from : List ℕ → ℕ → ℕ → List Entry
entries_from s i zero = []
entries_from s i (suc n) = record { row = row_in s i; block = block_in s i; sum = sum_in s i } ∷ entries_from s (suc i) n

unfoldable pub entries : List ℕ → List Entry
entries s = entries_from s 0 (sheet_count s)

-- ---- tests over tickets

-- each passes
unfoldable pub every : (Entry → Bool) → List Entry → Bool
every f [] = true
every f (t ∷ ts) = f t && every f ts

-- each is a ticket of a run with C blocks
abbrev pub all_tickets : Limits → ℕ → List Entry → Bool
all_tickets lim C ts = every (λ t. is_ticket lim C t.row t.block) ts

-- the order of the contents
abbrev pub key : Entry → ℕ
key t = 256 * t.row + t.block

-- strictly ascending
unfoldable pub ascending : List Entry → Bool
ascending [] = true
ascending (t ∷ []) = true
ascending (t ∷ u ∷ ts) = ltb (key t) (key u) && ascending (u ∷ ts)

-- length 16 + 20 e, every zero byte zero, the contents ascending
unfoldable pub well_formed : List ℕ → Bool
well_formed s =
    eqb (length s) (sheet_length (sheet_count s)) && eqb (field s 12 4) 0
    && all_below (sheet_count s) (λ i. eqb (get_or s (17 + 4 * i) 0) 0) && ascending (entries s)

-- ---- writing

-- the four bytes of an entry of the contents
abbrev pub line : ℕ → ℕ → List ℕ
line row block = row ∷ 0 ∷ bytes_of 2 block

unfoldable pub contents_of : List Entry → List ℕ
contents_of [] = []
contents_of (t ∷ ts) = line t.row t.block ++ contents_of ts

unfoldable pub bodies_of : List Entry → List ℕ
bodies_of [] = []
bodies_of (t ∷ ts) = bytes_of 16 t.sum ++ bodies_of ts

unfoldable pub sheet_of : ℕ → ℕ → List Entry → List ℕ
sheet_of p C ts = bytes_of 8 p ++ bytes_of 2 C ++ bytes_of 2 (length ts) ++ bytes_of 4 0 ++ contents_of ts ++ bodies_of ts

-- ---- lists: two bytes for each ticket, 256 * row + block

unfoldable pub list_of : List Entry → List ℕ
list_of [] = []
list_of (t ∷ ts) = bytes_of 2 (key t) ++ list_of ts

-- the tickets of a list, with their sums
unfoldable pub listed : Formula → ℕ → ℕ → List ℕ → List Entry
listed F p C [] = []
listed F p C (b ∷ []) = []
listed F p C (b ∷ r ∷ bs) = record { row = r; block = b; sum = ticket_sum F p C r b } ∷ listed F p C bs
