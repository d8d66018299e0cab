-- The rows' sums among a ledger's bytes: read back, one changed, and all written again; and the array that holds them.
-- Assumes nothing.
use mathlib.Core.Path.{◌≡◌, refl, sym, ap, ap₂, subst, ◌∙◌}
use mathlib.Core.Bool.{Bool, true, false, cond}
use mathlib.Core.Logic.{◌≢◌}
use mathlib.Core.List.{List, [], ◌++◌, append-nil, append_assoc}
use Prim.Native.Nat.{ℕ, zero, suc, ◌+◌, ◌*◌, ◌-◌, ◌/◌, ◌%◌, ◌^◌, ◌≤◌, ◌<◌}
use native.Mathlib.Nat.{add-zero, zero-add, suc-add, add-suc, mod-lt}
use native.Mathlib.Omega.{arith}
use borrow.Author.Tests.{eq-eqb, ne_eqb, eqb-true, eqb-false, lt-ltb, le-ltb, ltb-true, ltb-false}
use lib.Dec.{eqb, ltb}
use lib.Pow.{pow_pos}
use lib.ListN.{length, get_or, set, take, drop, replicate, replicate-append-replicate, length-append, take-append-drop}
use lib.Seq.{length-take-le, take_at, drop_at, drop-append-add, drop-drop, get_or-drop, get_or-set_same, get_or-set_other, take-set-le, drop-set-add}
use Rattle.algebra.specs.Sum.{sum}
use Rattle.algebra.proofs.Sums.{sum_ext, sum_zero, sum_split, sum_bump_rem}
use Rattle.words.specs.Words.{joined}
use Rattle.words.specs.declared.Wide.{Wide}
use Rattle.words.specs.Bytes.{bytes_of, field, AllBytes}
use Rattle.words.proofs.Bytes.{length_bytes, field_written, field_again, field_lt, part_join}
use Rattle.series.specs.Series.{modulus}
use Rattle.run.specs.Run.{Limits}
use Rattle.ledger.specs.Ledger.{sum_at, marks_at, row_sum_in, total_of, total_in, add_to, mark, enter}
use Rattle.ledger.specs.Plain.{adding, sum_rows}
use Rattle.ledger.specs.RowSums.{zero_wide, value_at, held_in, with_sums}
use Rattle.ledger.proofs.MarkBytes.{changed, changed_past}

-- ---- the bytes of several rows' sums

pub length_sum_rows : (v : ℕ → ℕ) (r n : ℕ) → length (sum_rows v r n) ≡ 16 * n
unfolding sum_rows
length_sum_rows v r zero = refl
length_sum_rows v r (suc n) =
    let e = length_sum_rows v (suc r) n in
    let f = length_bytes 16 (v r) in
    length-append (bytes_of 16 (v r)) (sum_rows v (suc r) n) ∙ omega (arith, e, f)

pub rows_ext : (v w : ℕ → ℕ) (r n : ℕ) → ((i : ℕ) → r ≤ i → i < r + n → v i ≡ w i) → sum_rows v r n ≡ sum_rows w r n
unfolding sum_rows
rows_ext v w r zero h = refl
rows_ext v w r (suc n) h =
    ap₂ (λ (x : ℕ) (l : List ℕ). bytes_of 16 x ++ l) (h r (omega arith) (omega arith)) (rows_ext v w (suc r) n (λ i l u. h i (omega arith) (omega arith)))

pub rows_append : (v : ℕ → ℕ) (r m n : ℕ) → sum_rows v r (m + n) ≡ sum_rows v r m ++ sum_rows v (r + m) n
unfolding sum_rows
rows_append v r zero n = ap₂ (sum_rows v) (sym (add-zero r)) (zero-add n)
rows_append v r (suc m) n =
    ap (sum_rows v r) (suc-add m n)
    ∙ ap (λ (l : List ℕ). bytes_of 16 (v r) ++ l) (rows_append v (suc r) m n ∙ ap (λ (k : ℕ). sum_rows v (suc r) m ++ sum_rows v k n) (suc-add r m ∙ sym (add-suc r m)))
    ∙ sym (append_assoc (bytes_of 16 (v r)) (sum_rows v (suc r) m) (sum_rows v (r + suc m) n))

-- one row more, as a loop writes them
rows_next : (v : ℕ → ℕ) (n : ℕ) → sum_rows v 0 (n + 1) ≡ sum_rows v 0 n ++ bytes_of 16 (v n)
unfolding sum_rows
rows_next v n =
    rows_append v 0 n 1 ∙ ap (λ (l : List ℕ). sum_rows v 0 n ++ l) (append-nil (bytes_of 16 (v (0 + n))) ∙ ap (λ (k : ℕ). bytes_of 16 (v k)) (zero-add n))

-- sums of 0 are zeros
pub rows_zero : (r n : ℕ) → sum_rows (λ row. 0) r n ≡ replicate (16 * n) 0
unfolding sum_rows bytes_of
rows_zero r zero = refl
rows_zero r (suc n) =
    let e : 16 + 16 * n ≡ 16 * suc n = omega arith in
    ap (λ (l : List ℕ). bytes_of 16 0 ++ l) (rows_zero (suc r) n) ∙ replicate-append-replicate 16 (16 * n) 0 ∙ ap (λ (k : ℕ). replicate {A = ℕ} k 0) e

-- the rows before one, its sum, and the rows after it
pub parts : (front back : List ℕ) (v : ℕ → ℕ) (R row : ℕ) → row < R
    → front ++ sum_rows v 0 R ++ back ≡ front ++ sum_rows v 0 row ++ bytes_of 16 (v row) ++ (sum_rows v (suc row) (R - suc row) ++ back)
unfolding sum_rows
parts front back v R row h =
    let m = R - suc row in
    let e : R ≡ row + suc m = omega arith in
    let tail = sum_rows v (suc row) m in
    ap (λ (l : List ℕ). front ++ l ++ back)
    (ap (sum_rows v 0) e ∙ rows_append v 0 row (suc m) ∙ ap (λ (k : ℕ). sum_rows v 0 row ++ (bytes_of 16 (v k) ++ sum_rows v (suc k) m)) (zero-add row))
    ∙ ap (λ (l : List ℕ). l ++ back) (sym (append_assoc front (sum_rows v 0 row) (bytes_of 16 (v row) ++ tail)))
    ∙ append_assoc (front ++ sum_rows v 0 row) (bytes_of 16 (v row) ++ tail) back
    ∙ ap (λ (l : List ℕ). front ++ sum_rows v 0 row ++ l) (append_assoc (bytes_of 16 (v row)) tail back)
    ∙ sym (append_assoc (front ++ sum_rows v 0 row) (bytes_of 16 (v row)) (tail ++ back))

-- ---- sums between 16 bytes before them and what stands after them

module _ (front back : List ℕ) (head : length front ≡ 16) (v : ℕ → ℕ) where
  pub length_before : (row : ℕ) → length (front ++ sum_rows v 0 row) ≡ sum_at row
  length_before row = let e = length_sum_rows v 0 row in length-append front (sum_rows v 0 row) ∙ omega (arith, e, head)

  -- a sum read back
  pub sum_read : (R row : ℕ) → row < R → v row < modulus → row_sum_in (front ++ sum_rows v 0 R ++ back) row ≡ v row
  unfolding row_sum_in
  sum_read R row h fits =
      ap (λ (l : List ℕ). field l (sum_at row) 16) (parts front back v R row h)
      ∙ field_written (front ++ sum_rows v 0 row) (sum_rows v (suc row) (R - suc row) ++ back) (sum_at row) 16 (v row) (length_before row) fits

-- ---- x added to the sum of a row

pub adding_here : (row x : ℕ) (v : ℕ → ℕ) → adding row x v row ≡ (v row + x) % modulus
unfolding adding
adding_here row x v = rw (eq-eqb row row refl) refl

pub adding_else : (row x : ℕ) (v : ℕ → ℕ) (r : ℕ) → row ≢ r → adding row x v r ≡ v r
unfolding adding
adding_else row x v r ne = rw (ne_eqb row r ne) refl

pub adding_fits : (row x : ℕ) (v : ℕ → ℕ) (r : ℕ) → v r < modulus → adding row x v r < modulus
unfolding adding
adding_fits row x v r fits = go (eqb row r)
  where
    go : (b : Bool) → cond b ((v r + x) % modulus) (v r) < modulus
    go true = mod-lt (v r + x) (pow_pos 128)
    go false = fits

-- the other rows stay as they were
pub add_sums : (front back : List ℕ) → length front ≡ 16 → (v : ℕ → ℕ) (R row x : ℕ) → row < R → v row < modulus
    → add_to (front ++ sum_rows v 0 R ++ back) row x ≡ front ++ sum_rows (adding row x v) 0 R ++ back
unfolding add_to
add_sums front back head v R row x h fits =
    let w = adding row x v in
    let before = front ++ sum_rows v 0 row in
    let after = sum_rows v (suc row) (R - suc row) ++ back in
    let n = length_before front back head v row in
    let m = length-append before (bytes_of 16 (v row)) ∙ ap₂ ◌+◌ n (length_bytes 16 (v row)) in
    let low : sum_rows w 0 row ≡ sum_rows v 0 row = rows_ext w v 0 row (λ i l u. adding_else row x v i (λ q. omega (arith, q))) in
    let high : sum_rows w (suc row) (R - suc row) ≡ sum_rows v (suc row) (R - suc row) =
    rows_ext w v (suc row) (R - suc row) (λ i l u. adding_else row x v i (λ q. omega (arith, q))) in
    ap (λ (y : ℕ). take (sum_at row) (front ++ sum_rows v 0 R ++ back) ++ bytes_of 16 ((y + x) % modulus) ++ drop (sum_at row + 16) (front ++ sum_rows v 0 R ++ back))
    (sum_read front back head v R row h fits)
    ∙ ap (λ (l : List ℕ). take (sum_at row) l ++ bytes_of 16 ((v row + x) % modulus) ++ drop (sum_at row + 16) l) (parts front back v R row h)
    ∙ ap₂ (λ (a b : List ℕ). a ++ bytes_of 16 ((v row + x) % modulus) ++ b)
    (ap (take (sum_at row)) (append_assoc before (bytes_of 16 (v row)) after) ∙ take_at before (bytes_of 16 (v row) ++ after) (sum_at row) n)
    (drop_at (before ++ bytes_of 16 (v row)) after (sum_at row + 16) m)
    ∙ sym (parts front back w R row h
    ∙ ap (λ (y : ℕ). front ++ sum_rows w 0 row ++ bytes_of 16 y ++ (sum_rows w (suc row) (R - suc row) ++ back)) (adding_here row x v)
    ∙ ap₂ (λ (a b : List ℕ). front ++ a ++ bytes_of 16 ((v row + x) % modulus) ++ (b ++ back)) low high)

-- ---- the sums of a ledger, written over its own

-- sums written again as they were read, from byte `from` on
pub rows_again : (s : List ℕ) → AllBytes s → (from r n : ℕ) → from + 16 * (r + n) ≤ length s
    → sum_rows (λ row. field s (from + 16 * row) 16) r n ≡ take (16 * n) (drop (from + 16 * r) s)
unfolding sum_rows
rows_again s bytes from r zero h = refl
rows_again s bytes from r (suc n) h =
    let e : from + 16 * suc r ≡ from + 16 * r + 16 = omega arith in
    let f : 16 + 16 * n ≡ 16 * suc n = omega arith in
    ap₂ ◌++◌ (field_again s (from + 16 * r) 16 bytes (omega arith))
    (rows_again s bytes from (suc r) n (omega arith) ∙ ap (λ (k : ℕ). take (16 * n) (drop k s)) e)
    ∙ part_join s (from + 16 * r) 16 (16 * n) ∙ ap (λ (k : ℕ). take k (drop (from + 16 * r) s)) f

pub sums_again : (s : List ℕ) → AllBytes s → (R : ℕ) → sum_at R ≤ length s → take 16 s ++ sum_rows (row_sum_in s) 0 R ≡ take (sum_at R) s
unfolding row_sum_in
sums_again s bytes R h =
    ap (λ (l : List ℕ). take 16 s ++ l) (rows_again s bytes 16 0 R (omega arith)) ∙ part_join s 0 16 (16 * R)

module _ (lim : Limits) (s : List ℕ) (size : marks_at lim ≤ length s) where
  pub with_own : AllBytes s → (v : ℕ → ℕ) → ((row : ℕ) → v row ≡ held_in lim.rows s row) → with_sums lim s v ≡ s
  unfolding with_sums held_in
  with_own bytes v own =
      ap (λ (l : List ℕ). take 16 s ++ l ++ drop (marks_at lim) s)
      (rows_ext v (row_sum_in s) 0 lim.rows (λ i l u. own i ∙ ap (λ (b : Bool). cond b (row_sum_in s i) 0) (lt-ltb i lim.rows (omega arith))))
      ∙ ap (λ (l : List ℕ). l ++ drop (marks_at lim) s) (sums_again s bytes lim.rows size)
      ∙ take-append-drop (marks_at lim) s

  front_length : length (take 16 s) ≡ 16
  front_length = length-take-le 16 s (omega arith)

  length_front : (v : ℕ → ℕ) → length (take 16 s ++ sum_rows v 0 lim.rows) ≡ marks_at lim
  length_front v = length_before (take 16 s) [] front_length v lim.rows

  -- the byte of a mark changed past the sums
  changed_with : (g : ℕ → ℕ) (v : ℕ → ℕ) (row block : ℕ) → changed lim g (with_sums lim s v) row block ≡ with_sums lim (changed lim g s row block) v
  unfolding with_sums
  changed_with g v row block =
      let q = 32 * row + block / 8 in
      let a = g (get_or s (marks_at lim + q) 0) in
      changed_past lim g (take 16 s ++ sum_rows v 0 lim.rows) (drop (marks_at lim) s) row block (length_front v)
      ∙ ap (λ (x : ℕ). take 16 s ++ sum_rows v 0 lim.rows ++ set (drop (marks_at lim) s) q (g x)) (get_or-drop (marks_at lim) s q 0)
      ∙ sym (ap₂ (λ (x y : List ℕ). x ++ sum_rows v 0 lim.rows ++ y) (take-set-le 16 s (marks_at lim + q) a (omega arith)) (drop-set-add (marks_at lim) s q a))

  -- x added to the sum of a row, and the byte of a mark changed, among other sums than the ledger's own
  pub added_with : (g : ℕ → ℕ) (v : ℕ → ℕ) (row block x : ℕ) → row < lim.rows → v row < modulus
      → changed lim g (add_to (with_sums lim s v) row x) row block ≡ with_sums lim (changed lim g s row block) (adding row x v)
  unfolding with_sums
  added_with g v row block x h fits =
      ap (λ (l : List ℕ). changed lim g l row block) (add_sums (take 16 s) (drop (marks_at lim) s) front_length v lim.rows row x h fits)
      ∙ changed_with g (adding row x v) row block

  -- a ticket entered
  pub enter_with : (v : ℕ → ℕ) (row block x : ℕ) → row < lim.rows → v row < modulus
      → enter lim (with_sums lim s v) row block x ≡ with_sums lim (mark lim s row block) (adding row x v)
  unfolding enter mark
  enter_with v row block x h fits = added_with (λ b. b + 2 ^ (block % 8)) v row block x h fits

-- ---- the array that holds the sums

pub value_set : (a : List Wide) (row : ℕ) (y : Wide) (i : ℕ) → row < length a → value_at (set a row y) i ≡ cond (eqb row i) (joined y.hi y.lo) (value_at a i)
unfolding value_at
value_set a row y i h = go (eqb row i) refl
  where
    go : (b : Bool) → eqb row i ≡ b → joined (get_or (set a row y) i zero_wide).hi (get_or (set a row y) i zero_wide).lo
        ≡ cond b (joined y.hi y.lo) (joined (get_or a i zero_wide).hi (get_or a i zero_wide).lo)
    go true e = ap (λ (x : Wide). joined x.hi x.lo) (ap (λ (k : ℕ). get_or (set a row y) k zero_wide) (sym (eqb-true row i e)) ∙ get_or-set_same a row y zero_wide h)
    go false e = ap (λ (x : Wide). joined x.hi x.lo) (get_or-set_other a row i y zero_wide (λ q. eqb-false row i e (sym q)))

-- x added to one
pub one_added : (a : List Wide) (row x : ℕ) (y : Wide) → row < length a → joined y.hi y.lo ≡ (value_at a row + x) % modulus
    → (i : ℕ) → value_at (set a row y) i ≡ adding row x (value_at a) i
unfolding adding
one_added a row x y h e i = value_set a row y i h ∙ go (eqb row i) refl
  where
    go : (b : Bool) → eqb row i ≡ b → cond b (joined y.hi y.lo) (value_at a i) ≡ cond b ((value_at a i + x) % modulus) (value_at a i)
    go true q = e ∙ ap (λ (k : ℕ). (value_at a k + x) % modulus) (eqb-true row i q)
    go false q = refl

-- the loop that reads them
all_zero : (n i : ℕ) → value_at (replicate n zero_wide) i ≡ 0
unfolding value_at joined
all_zero zero i = refl
all_zero (suc n) zero = refl
all_zero (suc n) (suc i) = all_zero n i

pub none_read : (s : List ℕ) (n i : ℕ) → value_at (replicate n zero_wide) i ≡ held_in 0 s i
unfolding held_in
none_read s n i = all_zero n i ∙ sym (ap (λ (b : Bool). cond b (row_sum_in s i) 0) (le-ltb i 0 (omega arith)))

pub one_read : (s : List ℕ) (a : List Wide) (row : ℕ) (y : Wide) → row < length a → joined y.hi y.lo ≡ field s (sum_at row) 16
    → ((i : ℕ) → value_at a i ≡ held_in row s i) → (i : ℕ) → value_at (set a row y) i ≡ held_in (row + 1) s i
unfolding held_in row_sum_in
one_read s a row y h e so_far i = value_set a row y i h ∙ go (eqb row i) refl
  where
    go : (b : Bool) → eqb row i ≡ b → cond b (joined y.hi y.lo) (value_at a i) ≡ cond (ltb i (row + 1)) (field s (sum_at i) 16) 0
    go true q =
        let same = eqb-true row i q in
        e ∙ ap (λ (k : ℕ). field s (sum_at k) 16) same
        ∙ sym (ap (λ (b : Bool). cond b (field s (sum_at i) 16) 0) (lt-ltb i (row + 1) (omega (arith, same))))
    go false q = so_far i ∙ ap (λ (b : Bool). cond b (field s (sum_at i) 16) 0) (next (eqb-false row i q))
      where
        next : row ≢ i → ltb i row ≡ ltb i (row + 1)
        next ne = by (ltb i row) refl
          where
            by : (b : Bool) → ltb i row ≡ b → b ≡ ltb i (row + 1)
            by true l = let k = ltb-true i row l in sym (lt-ltb i (row + 1) (omega arith))
            by false l = let k = ltb-false i row l in let n : row ≡ i → ⊥ = ne in sym (le-ltb i (row + 1) (omega arith))

-- the loop that puts them back
pub none_put : (s : List ℕ) (v : ℕ → ℕ) → s ≡ take 16 s ++ sum_rows v 0 0 ++ drop (sum_at 0) s
unfolding sum_rows
none_put s v = sym (ap (λ (l : List ℕ). l ++ drop 16 s) (append-nil (take 16 s)) ∙ take-append-drop 16 s)

pub one_put : (s t u : List ℕ) (v : ℕ → ℕ) (row : ℕ) → sum_at row + 16 ≤ length s → t ≡ take 16 s ++ sum_rows v 0 row ++ drop (sum_at row) s
    → u ≡ take (sum_at row) t ++ bytes_of 16 (v row) ++ drop (sum_at row + 16) t
    → u ≡ take 16 s ++ sum_rows v 0 (row + 1) ++ drop (sum_at (row + 1)) s
one_put s t u v row h et eu =
    let before = take 16 s ++ sum_rows v 0 row in
    let n = length_before (take 16 s) [] (length-take-le 16 s (omega arith)) v row in
    let e : sum_at row + 16 ≡ sum_at (row + 1) = omega arith in
    eu
    ∙ ap (λ (l : List ℕ). take (sum_at row) l ++ bytes_of 16 (v row) ++ drop (sum_at row + 16) l) et
    ∙ ap₂ (λ (a b : List ℕ). a ++ bytes_of 16 (v row) ++ b) (take_at before (drop (sum_at row) s) (sum_at row) n)
    (ap (λ (k : ℕ). drop (k + 16) (before ++ drop (sum_at row) s)) (sym n) ∙ drop-append-add before (drop (sum_at row) s) 16 ∙ drop-drop 16 (sum_at row) s
    ∙ ap (λ (k : ℕ). drop k s) e)
    ∙ ap (λ (l : List ℕ). l ++ drop (sum_at (row + 1)) s)
    (append_assoc (take 16 s) (sum_rows v 0 row) (bytes_of 16 (v row)) ∙ ap (λ (l : List ℕ). take 16 s ++ l) (sym (rows_next v row)))

-- the loop that adds them up
pub none_totalled : (v : ℕ → ℕ) → joined 0 0 ≡ (0 + sum v 0 0) % modulus
unfolding joined sum
none_totalled v = refl

-- their total: past the rows there is nothing to add
pub total_held : (lim : Limits) (s : List ℕ) (v : ℕ → ℕ) → lim.rows ≤ 7 → ((row : ℕ) → v row ≡ held_in lim.rows s row)
    → sum v 0 7 % modulus ≡ total_in lim s
unfolding total_of held_in
total_held lim s v h held =
    let R = lim.rows in
    let e : 7 ≡ R + (7 - R) = omega arith in
    let low : sum v 0 R ≡ sum (row_sum_in s) 0 R =
    sum_ext v (row_sum_in s) 0 R (λ i l u. held i ∙ ap (λ (b : Bool). cond b (row_sum_in s i) 0) (lt-ltb i R (omega arith))) in
    let rest : sum v (0 + R) (7 - R) ≡ sum (λ row. 0) (0 + R) (7 - R) =
    sum_ext v (λ row. 0) (0 + R) (7 - R) (λ i l u. held i ∙ ap (λ (b : Bool). cond b (row_sum_in s i) 0) (le-ltb i R (omega arith))) in
    let none = sum_zero (λ row. 0) (0 + R) (7 - R) (λ i. refl) in
    ap (λ (n : ℕ). n % modulus) (ap (sum v 0) e ∙ sum_split v 0 R (7 - R) ∙ ap₂ ◌+◌ low (rest ∙ none) ∙ add-zero (sum (row_sum_in s) 0 R))

-- with x added to the sum of a row
pub total_adding : (lim : Limits) (row x : ℕ) (v : ℕ → ℕ) → row < lim.rows → total_of lim (adding row x v) ≡ (total_of lim v + x) % modulus
unfolding total_of
total_adding lim row x v h =
    sum_bump_rem modulus v (adding row x v) lim.rows row x h (adding_here row x v) (λ i ne. sym (adding_else row x v i (λ e. ne (sym e))))

-- ---- a ticket entered: the sums read, one changed, the mark set, the sums put back

pub held_fits : (rows : ℕ) (s : List ℕ) → AllBytes s → (row : ℕ) → held_in rows s row < modulus
unfolding held_in row_sum_in
held_fits rows s bytes row = go (ltb row rows)
  where
    go : (b : Bool) → cond b (field s (sum_at row) 16) 0 < modulus
    go true = field_lt s (sum_at row) 16 bytes
    go false = pow_pos 128

-- the byte of the mark changed in any way
pub changed_sums : (lim : Limits) (g : ℕ → ℕ) (s t u : List ℕ) (row block x : ℕ) (v w : ℕ → ℕ) → marks_at lim ≤ length s → AllBytes s → row < lim.rows
    → ((i : ℕ) → v i ≡ held_in lim.rows s i) → ((i : ℕ) → w i ≡ adding row x v i) → t ≡ changed lim g s row block → u ≡ with_sums lim t w
    → u ≡ changed lim g (add_to s row x) row block
changed_sums lim g s t u row block x v w size bytes h read added et eu =
    eu ∙ ap₂ (with_sums lim) et (λ i r. added r i)
    ∙ sym (added_with lim s size g v row block x h (subst (λ (n : ℕ). n < modulus) (sym (read row)) (held_fits lim.rows s bytes row)))
    ∙ ap (λ (l : List ℕ). changed lim g (add_to l row x) row block) (with_own lim s size bytes v read)

pub entered : (lim : Limits) (s t u : List ℕ) (row block x : ℕ) (v w : ℕ → ℕ) → marks_at lim ≤ length s → AllBytes s → row < lim.rows
    → ((i : ℕ) → v i ≡ held_in lim.rows s i) → ((i : ℕ) → w i ≡ adding row x v i) → t ≡ mark lim s row block → u ≡ with_sums lim t w
    → u ≡ enter lim s row block x
unfolding enter mark
entered lim s t u row block x v w size bytes h read added et eu =
    changed_sums lim (λ b. b + 2 ^ (block % 8)) s t u row block x v w size bytes h read added et eu
