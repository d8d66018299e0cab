-- Sheets and lists made of tickets. What is written of tickets has just these tickets and is well formed, and a well-formed sheet is what is written
-- of its tickets; a list is that of its tickets, and tickets are those of their list.
-- Assumes nothing.
use mathlib.Core.Path.{◌≡◌, refl, sym, ap, ap₂, ◌∙◌, subst}
use mathlib.Core.Bool.{true}
use mathlib.Core.List.Memᴰ
use mathlib.Core.List.{List, [], ◌∷◌, ◌++◌, append-nil, Memᴰ}
use Prim.Native.Nat.{ℕ, zero, suc, ◌+◌, ◌*◌, ◌^◌, ◌<◌, ◌≤◌, ◌/◌, ◌%◌}
use native.Mathlib.Nat.{zero-add, add-zero, not-suc-le-zero, mod-eq_of_lt}
use native.Mathlib.Omega.{arith}
use borrow.Author.Tests.{eq-eqb}
use lib.Dec.{eqb}
use lib.ListN.{length, get_or, take, drop, length-append}
use lib.Pow.{pow_pos}
use lib.Seq.{drop-drop, get_or-drop, drop-cons, take-add, take_all, drop-append_seam}
use Rattle.algebra.proofs.Booleans.{and_left, and_right}
use Rattle.algebra.proofs.Below.{all_true}
use Rattle.algebra.proofs.Integers.{residue_lt}
use Rattle.words.specs.Bytes.{bytes_of, value_of, field, AllBytes}
use Rattle.words.proofs.Bytes.{value_bytes, field_again, part_join}
use Rattle.series.specs.Series.{Formula, row_count, modulus, range_sum}
use Rattle.run.specs.Run.{Entry, limits_of, is_ticket, ticket_sum}
use Rattle.run.proofs.Range.{ticket_row, ticket_block}
use Rattle.sheet.specs.Sheet.{sheet_count, sheet_pos, sheet_blocks, row_in, block_in, sum_in, entries_from, entries, contents_of, bodies_of, sheet_of, sheet_length, every, all_tickets, key, ascending, well_formed, list_of, listed}
use Rattle.sheet.proofs.Many.{count_entries}

-- each entry fits its bytes
abbrev pub Fitting : List Entry → Type 0
Fitting [] = Unit {0}
Fitting (t ∷ ts) = (t.block < 65536) × (t.sum < 2 ^ 128) × Fitting ts

-- an entry, from the bytes that stand there
row_at : (s : List ℕ) (i : ℕ) (l : List ℕ) → drop (16 + 4 * i) s ≡ l → row_in s i ≡ get_or l 0 0
unfolding row_in
row_at s i l c = ap (λ (n : ℕ). get_or s n 0) (sym (add-zero (16 + 4 * i))) ∙ sym (get_or-drop (16 + 4 * i) s 0 0) ∙ ap (λ (x : List ℕ). get_or x 0 0) c

block_at : (s : List ℕ) (i : ℕ) (l : List ℕ) → drop (16 + 4 * i) s ≡ l → block_in s i ≡ value_of (take 2 (drop 2 l))
unfolding block_in field
block_at s i l c =
    let e : 18 + 4 * i ≡ 16 + 4 * i + 2 = omega arith in
    ap (λ (n : ℕ). value_of (take 2 (drop n s))) e
    ∙ ap (λ (x : List ℕ). value_of (take 2 x)) (sym (drop-drop 2 (16 + 4 * i) s) ∙ ap (drop 2) c)

sum_at_lem : (s : List ℕ) (i e : ℕ) → sheet_count s ≡ e → (l : List ℕ) → drop (16 + 4 * e + 16 * i) s ≡ l → sum_in s i ≡ value_of (take 16 l)
unfolding sum_in field
sum_at_lem s i e count l b = rw count (ap (λ (x : List ℕ). value_of (take 16 x)) b)

pub length_contents : (ts : List Entry) → length (contents_of ts) ≡ 4 * length ts
unfolding contents_of bytes_of
length_contents [] = refl
length_contents (t ∷ ts) = let h = length_contents ts in omega (arith, h)

module _ (s : List ℕ) (e : ℕ) (count : sheet_count s ≡ e) where
  -- the entries, where the contents and the bodies from entry i on are known
  read_from : (i : ℕ) (ts : List Entry) (rest more : List ℕ) → Fitting ts → drop (16 + 4 * i) s ≡ contents_of ts ++ rest
      → drop (16 + 4 * e + 16 * i) s ≡ bodies_of ts ++ more → entries_from s i (length ts) ≡ ts
  unfolding entries_from contents_of bodies_of bytes_of
  read_from i [] rest more f c b = refl
  read_from i (t ∷ ts) rest more f c b =
      ap₂ (λ (x : Entry) (l : List Entry). x ∷ l) one
      (read_from (suc i) ts rest more f.2
      (ap (λ (n : ℕ). drop n s) (at 4 i) ∙ sym (drop-drop 4 (16 + 4 * i) s) ∙ ap (drop 4) c ∙ refl)
      (ap (λ (n : ℕ). drop n s) (at' i) ∙ sym (drop-drop 16 (16 + 4 * e + 16 * i) s) ∙ ap (drop 16) b ∙ refl))
    where
      at : (k i : ℕ) → 16 + 4 * suc i ≡ 16 + 4 * i + 4
      at k i = omega arith

      at' : (i : ℕ) → 16 + 4 * e + 16 * suc i ≡ 16 + 4 * e + 16 * i + 16
      at' i = omega arith

      one : record { row = row_in s i; block = block_in s i; sum = sum_in s i } ≡ t
      one = λ j. record {
        row = row_at s i (contents_of (t ∷ ts) ++ rest) c j;
        block = (block_at s i (contents_of (t ∷ ts) ++ rest) c ∙ value_bytes 2 t.block f.0) j;
        sum = (sum_at_lem s i e count (bodies_of (t ∷ ts) ++ more) b ∙ value_bytes 16 t.sum f.1) j;
      }

-- what is written reads back
module _ (p C : ℕ) (ts : List Entry) (p_fits : p < 2 ^ 64) (c_fits : C < 65536) (few : length ts < 65536) (fits : Fitting ts) where
  pub pos_read : sheet_pos (sheet_of p C ts) ≡ p
  unfolding sheet_pos field sheet_of bytes_of
  pos_read = value_bytes 8 p p_fits

  pub blocks_read : sheet_blocks (sheet_of p C ts) ≡ C
  unfolding sheet_blocks field sheet_of bytes_of
  blocks_read = value_bytes 2 C c_fits

  pub count_read : sheet_count (sheet_of p C ts) ≡ length ts
  unfolding sheet_count field sheet_of bytes_of
  count_read = value_bytes 2 (length ts) few

  bodies_there : drop (16 + 4 * length ts + 16 * 0) (sheet_of p C ts) ≡ bodies_of ts ++ []
  unfolding sheet_of bytes_of
  bodies_there =
      let q : 16 + 4 * length ts + 16 * 0 ≡ 16 + length (contents_of ts) = (let h = length_contents ts in omega (arith, h)) in
      ap (λ (n : ℕ). drop n (sheet_of p C ts)) q
      ∙ sym (drop-drop (length (contents_of ts)) 16 (sheet_of p C ts))
      ∙ drop-append_seam (contents_of ts) (bodies_of ts) ∙ sym (append-nil (bodies_of ts))

  pub entries_read : entries (sheet_of p C ts) ≡ ts
  unfolding entries sheet_of bytes_of
  entries_read = ap (entries_from (sheet_of p C ts) 0) count_read
      ∙ read_from (sheet_of p C ts) (length ts) count_read 0 ts (bodies_of ts) [] fits refl bodies_there

-- ---- a well-formed sheet is the one written of its tickets

module _ (s : List ℕ) (bytes : AllBytes s) where
  contents_again : (n i : ℕ) → 16 + 4 * (i + n) ≤ length s → ((j : ℕ) → j < i + n → get_or s (17 + 4 * j) 0 ≡ 0)
      → contents_of (entries_from s i n) ≡ take (4 * n) (drop (16 + 4 * i) s)
  unfolding contents_of entries_from row_in block_in
  contents_again zero i l z = refl
  contents_again (suc n) i l z =
      let m = 16 + 4 * i in
      let e₁ : drop m s ≡ get_or s m 0 ∷ drop (suc m) s = drop-cons s m 0 (omega arith) in
      let e₂ : drop (suc m) s ≡ get_or s (suc m) 0 ∷ drop (suc (suc m)) s = drop-cons s (suc m) 0 (omega arith) in
      let q₁ : suc m ≡ 17 + 4 * i = omega arith in
      let q₂ : suc (suc m) ≡ 18 + 4 * i = omega arith in
      let q₄ : 18 + 4 * i + 2 ≡ 16 + 4 * suc i = omega arith in
      let q : 4 * suc n ≡ suc (suc (2 + 4 * n)) = omega arith in
      let w : suc i + n ≡ i + suc n = omega arith in
      let ih = contents_again n (suc i) (omega arith) (λ j h. z j (omega arith)) in
      sym
      (ap (λ (k : ℕ). take k (drop m s)) q
      ∙ ap (take (suc (suc (2 + 4 * n)))) (e₁ ∙ ap (λ (x : List ℕ). get_or s m 0 ∷ x) e₂)
      ∙ ap₂ (λ (x : ℕ) (y : List ℕ). get_or s m 0 ∷ x ∷ y) (ap (λ (k : ℕ). get_or s k 0) q₁ ∙ z i (omega arith))
      (ap (λ (k : ℕ). take (2 + 4 * n) (drop k s)) q₂
      ∙ take-add 2 (4 * n) (drop (18 + 4 * i) s)
      ∙ ap₂ ◌++◌ (sym (field_again s (18 + 4 * i) 2 bytes (omega arith)))
      (ap (take (4 * n)) (drop-drop 2 (18 + 4 * i) s ∙ ap (λ (k : ℕ). drop k s) q₄) ∙ sym ih)))

  bodies_again : (n i : ℕ) → 16 + 4 * sheet_count s + 16 * (i + n) ≤ length s
      → bodies_of (entries_from s i n) ≡ take (16 * n) (drop (16 + 4 * sheet_count s + 16 * i) s)
  unfolding bodies_of entries_from sum_in
  bodies_again zero i l = refl
  bodies_again (suc n) i l =
      let m = 16 + 4 * sheet_count s + 16 * i in
      let q : 16 * suc n ≡ 16 + 16 * n = omega arith in
      let q₁ : m + 16 ≡ 16 + 4 * sheet_count s + 16 * suc i = omega arith in
      let ih = bodies_again n (suc i) (omega arith) in
      sym
      (ap (λ (k : ℕ). take k (drop m s)) q
      ∙ take-add 16 (16 * n) (drop m s)
      ∙ ap₂ ◌++◌ (sym (field_again s m 16 bytes (omega arith)))
      (ap (take (16 * n)) (drop-drop 16 m s ∙ ap (λ (k : ℕ). drop k s) q₁) ∙ sym ih))

  pub sheet_again : length s ≡ 16 + 20 * sheet_count s → field s 12 4 ≡ 0 → ((j : ℕ) → j < sheet_count s → get_or s (17 + 4 * j) 0 ≡ 0)
      → sheet_of (sheet_pos s) (sheet_blocks s) (entries s) ≡ s
  unfolding sheet_of sheet_pos sheet_blocks sheet_count entries
  sheet_again l z zs =
      let e = sheet_count s in
      let head : bytes_of 8 (field s 0 8) ++ bytes_of 2 (field s 8 2) ++ bytes_of 2 (length (entries_from s 0 e)) ++ bytes_of 4 0 ≡ take 16 s =
      ap₂ ◌++◌ (ap₂ ◌++◌ (ap₂ ◌++◌ (field_again s 0 8 bytes (omega arith)) (field_again s 8 2 bytes (omega arith)) ∙ part_join s 0 8 2)
      (ap (bytes_of 2) (count_entries s e 0) ∙ count_again) ∙ part_join s 0 10 2)
      (ap (bytes_of 4) (sym z) ∙ field_again s 12 4 bytes (omega arith)) ∙ part_join s 0 12 4 in
      let body : contents_of (entries_from s 0 e) ≡ take (4 * e) (drop 16 s) = contents_again e 0 (omega arith) (λ j h. zs j (omega arith)) in
      let rest : bodies_of (entries_from s 0 e) ≡ take (16 * e) (drop (0 + (16 + 4 * e)) s) =
      bodies_again e 0 (omega arith) ∙ ap (λ (k : ℕ). take (16 * e) (drop k s)) (add-zero (16 + 4 * e) ∙ sym (zero-add (16 + 4 * e))) in
      ap₂ ◌++◌ (ap₂ ◌++◌ head body ∙ part_join s 0 16 (4 * e)) rest ∙ part_join s 0 (16 + 4 * e) (16 * e) ∙ take_all (16 + 4 * e + 16 * e) s (omega arith)
    where
      count_again : bytes_of 2 (sheet_count s) ≡ take 2 (drop 10 s)
      count_again = field_again s 10 2 bytes (omega arith)

-- ---- lengths

pub length_bodies : (ts : List Entry) → length (bodies_of ts) ≡ 16 * length ts
unfolding bodies_of bytes_of
length_bodies [] = refl
length_bodies (t ∷ ts) = let h = length_bodies ts in omega (arith, h)

pub length_sheet : (p C : ℕ) (ts : List Entry) → length (sheet_of p C ts) ≡ sheet_length (length ts)
unfolding sheet_of bytes_of
length_sheet p C ts =
    let c = length_contents ts in
    let b = length_bodies ts in
    let a = length-append (contents_of ts) (bodies_of ts) in
    omega (arith, a, b, c)

pub length_list : (ts : List Entry) → length (list_of ts) ≡ 2 * length ts
unfolding list_of bytes_of
length_list [] = refl
length_list (t ∷ ts) = let h = length_list ts in omega (arith, h)

-- ---- a list is that of its tickets

-- the two bytes of a pair
pair_low : (r b : ℕ) → b < 256 → (256 * r + b) % 256 ≡ b
pair_low r b h = omega arith

pair_high : (r b : ℕ) → r < 256 → b < 256 → (256 * r + b) / 256 % 256 ≡ r
pair_high r b h l =
    let q : (256 * r + b) / 256 ≡ r = omega arith in
    ap (λ (n : ℕ). n % 256) q ∙ mod-eq_of_lt h

pub list_again : (F : Formula) (p C : ℕ) (list : List ℕ) → AllBytes list → length list % 2 ≡ 0 → list_of (listed F p C list) ≡ list
unfolding listed list_of bytes_of AllBytes
list_again F p C [] h e = refl
list_again F p C (b ∷ []) h e = absurd (omega (arith, e))
list_again F p C (b ∷ r ∷ bs) h e =
    let hb : b < 256 = h 0 in
    let hr : r < 256 = h 1 in
    let low = pair_low r b hb in
    let high = pair_high r b hr hb in
    let even : length bs % 2 ≡ 0 = omega (arith, e) in
    ap₂ (λ (x : ℕ) (l : List ℕ). x ∷ l) low
    (ap₂ (λ (x : ℕ) (l : List ℕ). x ∷ l) high (list_again F p C bs (λ i. h (suc (suc i))) even))

-- the tickets of a list of tickets, where rows and blocks fit a byte and the sums are right
pub listed_again : (F : Formula) (p C : ℕ) (ts : List Entry) → row_count F < 256 → C ≤ 256 → all_tickets (limits_of F) C ts ≡ true
    → ((t : Entry) → Memᴰ t ts → t.sum ≡ ticket_sum F p C t.row t.block) → listed F p C (list_of ts) ≡ ts
unfolding listed list_of bytes_of every
listed_again F p C [] few w a right = refl
listed_again F p C (t ∷ ts) few w a right =
    let here = and_left (is_ticket (limits_of F) C t.row t.block) (all_tickets (limits_of F) C ts) a in
    let hr = ticket_row (limits_of F) C t.row t.block here in
    let hb = ticket_block (limits_of F) C t.row t.block here in
    let low : key t % 256 ≡ t.block = pair_low t.row t.block (omega arith) in
    let high : key t / 256 % 256 ≡ t.row = pair_high t.row t.block (omega arith) (omega arith) in
    ap₂ (λ (x : Entry) (l : List Entry). x ∷ l)
    (λ j. record {
      row = high j;
      block = low j;
      sum = (ap₂ (λ (x y : ℕ). ticket_sum F p C x y) high low ∙ sym (right t (Memᴰ.head refl))) j;
    })
    (listed_again F p C ts few w (and_right (is_ticket (limits_of F) C t.row t.block) (all_tickets (limits_of F) C ts) a)
    (λ u m. right u (Memᴰ.tail m)))

-- ---- what is written is well formed

-- each entry of a list of tickets fits its bytes
pub fitting : (F : Formula) (p C : ℕ) (list : List ℕ) → C ≤ 256 → all_tickets (limits_of F) C (listed F p C list) ≡ true → Fitting (listed F p C list)
unfolding listed every ticket_sum range_sum
fitting F p C [] w a = tt
fitting F p C (b ∷ []) w a = tt
fitting F p C (b ∷ r ∷ bs) w a =
    let h = ticket_block (limits_of F) C r b (and_left (is_ticket (limits_of F) C r b) (all_tickets (limits_of F) C (listed F p C bs)) a) in
    (omega arith, residue_lt modulus _ (pow_pos 128), fitting F p C bs w (and_right (is_ticket (limits_of F) C r b) (all_tickets (limits_of F) C (listed F p C bs)) a))

contents_zero : (ts : List Entry) (rest : List ℕ) (i : ℕ) → i < length ts → get_or (contents_of ts ++ rest) (1 + 4 * i) 0 ≡ 0
unfolding contents_of bytes_of
contents_zero [] rest i h = absurd (not-suc-le-zero h)
contents_zero (t ∷ ts) rest zero h = refl
contents_zero (t ∷ ts) rest (suc i) h =
    let q : 1 + 4 * suc i ≡ suc (suc (suc (suc (1 + 4 * i)))) = omega arith in
    ap (λ (n : ℕ). get_or (contents_of (t ∷ ts) ++ rest) n 0) q ∙ contents_zero ts rest i (omega arith)

module _ (p C : ℕ) (ts : List Entry) (p_fits : p < 2 ^ 64) (c_fits : C < 65536) (few : length ts < 65536) (fits : Fitting ts) where
  zero_bytes : (i : ℕ) → i < length ts → eqb (get_or (sheet_of p C ts) (17 + 4 * i) 0) 0 ≡ true
  unfolding sheet_of bytes_of
  zero_bytes i h =
      let q : 17 + 4 * i ≡ 16 + (1 + 4 * i) = omega arith in
      eq-eqb _ 0
      (ap (λ (n : ℕ). get_or (sheet_of p C ts) n 0) q ∙ sym (get_or-drop 16 (sheet_of p C ts) (1 + 4 * i) 0)
      ∙ contents_zero ts (bodies_of ts) i h)

  gap : field (sheet_of p C ts) 12 4 ≡ 0
  unfolding field value_of sheet_of bytes_of
  gap = refl

  pub written_formed : ascending ts ≡ true → well_formed (sheet_of p C ts) ≡ true
  unfolding well_formed
  written_formed a =
      rw (
        count_read p C ts p_fits c_fits few fits,
        eq-eqb (length (sheet_of p C ts)) (sheet_length (length ts)) (length_sheet p C ts),
        gap,
        all_true (length ts) _ zero_bytes,
        entries_read p C ts p_fits c_fits few fits,
        a,
      ) refl

-- the tickets of a list carry their sums
pub listed_right : (F : Formula) (p C : ℕ) (list : List ℕ) (t : Entry) → Memᴰ t (listed F p C list) → t.sum ≡ ticket_sum F p C t.row t.block
unfolding listed
listed_right F p C [] t m = absurd (Memᴰ.not-nil m)
listed_right F p C (b ∷ []) t m = absurd (Memᴰ.not-nil m)
listed_right F p C (b ∷ r ∷ bs) t (Memᴰ.head e) = subst (λ (u : Entry). u.sum ≡ ticket_sum F p C u.row u.block) (sym e) refl
listed_right F p C (b ∷ r ∷ bs) t (Memᴰ.tail m) = listed_right F p C bs t m
