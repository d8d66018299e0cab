-- The bytes of marks: reading one mark back, and what one mark more changes.
-- Assumes nothing.
use mathlib.Core.Path.{◌≡◌, refl, sym, ap, ap₂, ◌∙◌, subst}
use mathlib.Core.Bool.{Bool, true, false, cond}
use mathlib.Core.Logic.{◌≢◌, ⊎_elim}
use mathlib.Core.List.{List, [], ◌∷◌, ◌++◌}
use Prim.Native.Nat.{ℕ, zero, suc, ◌+◌, ◌*◌, ◌-◌, ◌/◌, ◌%◌, ◌^◌, ◌<◌}
use native.Mathlib.Nat.{add-zero, add-suc, suc-add, zero-add, pow-suc, le_of_suc-le-suc, not-suc-le-zero, one-mul, add-mul-div_right, div-eq_of_lt}
use native.Mathlib.Omega.{arith}
use borrow.Author.Tests.{eqb-true, eqb-false}
use lib.Dec.{eqb}
use lib.Pow.{pow_pos, pow-add}
use lib.ListN.{length, replicate, replicate-append-replicate, get_or, set, length-set, length-append, get_or-append}
use lib.Seq.{get_or-append-add, ext_get_or, get_or-set_same, get_or-set_other}
use Rattle.algebra.proofs.Booleans.{below_or}
use Rattle.run.specs.Run.{Limits}
use Rattle.ledger.specs.Ledger.{marks_at, mark_at, mark}
use Rattle.ledger.specs.Plain.{mark_byte, mark_bytes, mark_rows}

abbrev pub bit : Bool → ℕ
bit b = cond b 1 0

-- ---- one byte

pub byte_lt : (m : ℕ → Bool) (from n : ℕ) → mark_byte m from n < 2 ^ n
unfolding mark_byte
byte_lt m from zero = omega arith
byte_lt m from (suc n) = go (m (from + n)) (byte_lt m from n)
  where
    go : (b : Bool) → mark_byte m from n < 2 ^ n → mark_byte m from n + cond b (2 ^ n) 0 < 2 ^ suc n
    go true h = omega arith
    go false h = omega arith

-- what stands above bit i does not matter to it, and 2 ^ n is bit n
pub high_off : (a c i : ℕ) → (a + c * 2 * 2 ^ i) / 2 ^ i % 2 ≡ a / 2 ^ i % 2
high_off a c i = ap (λ (x : ℕ). x % 2) (add-mul-div_right a (c * 2) (pow_pos i)) ∙ (omega arith)

pub pow_under : (i n : ℕ) → i < n → 2 ^ n ≡ 2 ^ (n - suc i) * 2 * 2 ^ i
pow_under i n h =
    let e : n ≡ suc (n - suc i) + i = omega arith in
    ap (λ (x : ℕ). 2 ^ x) e ∙ pow-add 2 (suc (n - suc i)) i ∙ ap (λ (x : ℕ). x * 2 ^ i) (pow-suc 2 (n - suc i))

-- bit i of the byte is the mark at from + i
pub byte_bit : (m : ℕ → Bool) (from n i : ℕ) → i < n → mark_byte m from n / 2 ^ i % 2 ≡ bit (m (from + i))
unfolding mark_byte
byte_bit m from zero i h = absurd (not-suc-le-zero h)
byte_bit m from (suc n) i h = ⊎_elim (λ l. lower (m (from + n)) l ∙ byte_bit m from n i l) (λ e. top (m (from + n)) refl e) (below_or i n h)
  where
    lower : (b : Bool) → i < n → (mark_byte m from n + cond b (2 ^ n) 0) / 2 ^ i % 2 ≡ mark_byte m from n / 2 ^ i % 2
    lower true l = rw (pow_under i n l) (high_off (mark_byte m from n) (2 ^ (n - suc i)) i)
    lower false l = ap (λ (x : ℕ). x / 2 ^ i % 2) (add-zero _)

    top : (b : Bool) → m (from + n) ≡ b → i ≡ n → (mark_byte m from n + cond b (2 ^ n) 0) / 2 ^ i % 2 ≡ bit (m (from + i))
    top true e d =
        let z = div-eq_of_lt (byte_lt m from n) in
        rw (d, e) (ap (λ (x : ℕ). x % 2)
        (ap (λ (x : ℕ). (mark_byte m from n + x) / 2 ^ n) (sym (one-mul (2 ^ n)))
        ∙ add-mul-div_right (mark_byte m from n) 1 (pow_pos n) ∙ ap (λ (x : ℕ). x + 1) z))
    top false e d =
        rw (d, e, add-zero) (ap (λ (x : ℕ). x % 2) (div-eq_of_lt (byte_lt m from n)))

-- the same marks, the same byte
pub byte_ext : (m m' : ℕ → Bool) (from n : ℕ) → ((i : ℕ) → i < n → m (from + i) ≡ m' (from + i)) → mark_byte m from n ≡ mark_byte m' from n
unfolding mark_byte
byte_ext m m' from zero h = refl
byte_ext m m' from (suc n) h =
    ap₂ ◌+◌ (byte_ext m m' from n (λ i l. h i (omega arith))) (ap (λ (b : Bool). cond b (2 ^ n) 0) (h n (omega arith)))

-- one mark more
pub byte_set : (m m' : ℕ → Bool) (from n j : ℕ) → j < n → m (from + j) ≡ false → m' (from + j) ≡ true
    → ((i : ℕ) → i < n → i ≢ j → m (from + i) ≡ m' (from + i)) → mark_byte m' from n ≡ mark_byte m from n + 2 ^ j
unfolding mark_byte
byte_set m m' from zero j h e e' o = absurd (not-suc-le-zero h)
byte_set m m' from (suc n) j h e e' o = ⊎_elim (λ l. lower l (byte_set m m' from n j l e e' (λ i k. o i (omega arith)))) top (below_or j n h)
  where
    lower : j < n → mark_byte m' from n ≡ mark_byte m from n + 2 ^ j → mark_byte m' from n + cond (m' (from + n)) (2 ^ n) 0 ≡ mark_byte m from n + cond (m (from + n)) (2 ^ n) 0 + 2 ^ j
    lower l s =
        let t = ap (λ (b : Bool). cond b (2 ^ n) 0) (o n (omega arith) (λ q. omega arith)) in
        omega (arith, s, t)

    top : j ≡ n → mark_byte m' from n + cond (m' (from + n)) (2 ^ n) 0 ≡ mark_byte m from n + cond (m (from + n)) (2 ^ n) 0 + 2 ^ j
    top d =
        let s = byte_ext m m' from n (λ i l. o i (omega arith) (λ q. omega arith)) in
        let f = subst (λ (x : ℕ). m (from + x) ≡ false) d e in
        let t = subst (λ (x : ℕ). m' (from + x) ≡ true) d e' in
        rw (d, f, t) (omega (arith, s))

-- ---- the bytes of a row, and of the rows

pub length_mark_bytes : (m : ℕ → Bool) (i n : ℕ) → length (mark_bytes m i n) ≡ n
unfolding mark_bytes
length_mark_bytes m i zero = refl
length_mark_bytes m i (suc n) = ap suc (length_mark_bytes m (suc i) n)

mark_bytes_at : (m : ℕ → Bool) (i n k : ℕ) → k < n → get_or (mark_bytes m i n) k 0 ≡ mark_byte m (8 * (i + k)) 8
unfolding mark_bytes
mark_bytes_at m i zero k h = absurd (not-suc-le-zero h)
mark_bytes_at m i (suc n) zero h = ap (λ (x : ℕ). mark_byte m (8 * x) 8) (sym (add-zero i))
mark_bytes_at m i (suc n) (suc k) h =
    mark_bytes_at m (suc i) n k (le_of_suc-le-suc h) ∙ ap (λ (x : ℕ). mark_byte m (8 * x) 8) (suc-add i k ∙ sym (add-suc i k))

pub length_mark_rows : (m : ℕ → ℕ → Bool) (r n : ℕ) → length (mark_rows m r n) ≡ 32 * n
unfolding mark_rows
length_mark_rows m r zero = refl
length_mark_rows m r (suc n) =
    let e = length_mark_rows m (suc r) n in
    let f = length_mark_bytes (m r) 0 32 in
    length-append (mark_bytes (m r) 0 32) (mark_rows m (suc r) n) ∙ omega (arith, e, f)

-- byte k of row j
pub mark_rows_at : (m : ℕ → ℕ → Bool) (r n j k : ℕ) → j < n → k < 32 → get_or (mark_rows m r n) (32 * j + k) 0 ≡ mark_byte (m (r + j)) (8 * k) 8
unfolding mark_rows
mark_rows_at m r zero j k h l = absurd (not-suc-le-zero h)
mark_rows_at m r (suc n) zero k h l =
    let e = length_mark_bytes (m r) 0 32 in
    let q : 32 * 0 + k ≡ k = omega arith in
    ap (λ (x : ℕ). get_or (mark_bytes (m r) 0 32 ++ mark_rows m (suc r) n) x 0) q
    ∙ get_or-append (mark_bytes (m r) 0 32) (mark_rows m (suc r) n) 0 k (omega (arith, e))
    ∙ mark_bytes_at (m r) 0 32 k l
    ∙ ap₂ (λ (x y : ℕ). mark_byte (m x) (8 * y) 8) (sym (add-zero r)) (zero-add k)
mark_rows_at m r (suc n) (suc j) k h l =
    let e = length_mark_bytes (m r) 0 32 in
    let q : 32 * suc j + k ≡ length (mark_bytes (m r) 0 32) + (32 * j + k) = omega (arith, e) in
    ap (λ (x : ℕ). get_or (mark_bytes (m r) 0 32 ++ mark_rows m (suc r) n) x 0) q
    ∙ get_or-append-add (mark_bytes (m r) 0 32) (mark_rows m (suc r) n) (32 * j + k) 0
    ∙ mark_rows_at m (suc r) n j k (le_of_suc-le-suc h) l
    ∙ ap (λ (x : ℕ). mark_byte (m x) (8 * k) 8) (suc-add r j ∙ sym (add-suc r j))

pub mark_at_lem : (m : ℕ → ℕ → Bool) (R row k : ℕ) → row < R → k < 32 → get_or (mark_rows m 0 R) (32 * row + k) 0 ≡ mark_byte (m row) (8 * k) 8
mark_at_lem m R row k h l = mark_rows_at m 0 R row k h l ∙ ap (λ (x : ℕ). mark_byte (m x) (8 * k) 8) (zero-add row)

-- one mark more: the byte of its row and block changes, and no other
module _ (m m' : ℕ → ℕ → Bool) (R row block : ℕ) (row_in : row < R) (block_in_lem : block < 256)
    (off : m row block ≡ false) (on : m' row block ≡ true)
    (else : (r b : ℕ) → ((r ≡ row) × (b ≡ block) → ⊥) → m r b ≡ m' r b) where
  byte_here : mark_byte (m' row) (8 * (block / 8)) 8 ≡ mark_byte (m row) (8 * (block / 8)) 8 + 2 ^ (block % 8)
  byte_here =
      let e : 8 * (block / 8) + block % 8 ≡ block = omega arith in
      byte_set (m row) (m' row) (8 * (block / 8)) 8 (block % 8) (omega arith) (ap (m row) e ∙ off) (ap (m' row) e ∙ on)
      (λ i l ne. else row (8 * (block / 8) + i) (λ q. ne (let q' = q.1 in omega (arith, q'))))

  -- another byte
  byte_there : (r k : ℕ) → ((r ≡ row) × (k ≡ block / 8) → ⊥) → mark_byte (m r) (8 * k) 8 ≡ mark_byte (m' r) (8 * k) 8
  byte_there r k ne = byte_ext (m r) (m' r) (8 * k) 8 (λ i l. else r (8 * k + i) (λ q. ne (q.0, let q' = q.1 in omega (arith, q'))))

  each : (i : ℕ) → i < 32 * R → (b : Bool) → eqb i (32 * row + block / 8) ≡ b
      → get_or (set (mark_rows m 0 R) (32 * row + block / 8) (get_or (mark_rows m 0 R) (32 * row + block / 8) 0 + 2 ^ (block % 8))) i 0 ≡ get_or (mark_rows m' 0 R) i 0
  each i h true e =
      let l = length_mark_rows m 0 R in
      let k : block / 8 < 32 = omega arith in
      rw (eqb-true i _ e)
      (get_or-set_same (mark_rows m 0 R) (32 * row + block / 8) _ 0 (omega (arith, l))
      ∙ ap (λ (x : ℕ). x + 2 ^ (block % 8)) (mark_at_lem m R row (block / 8) row_in k)
      ∙ sym byte_here ∙ sym (mark_at_lem m' R row (block / 8) row_in k))
  each i h false e =
      let q : i ≡ 32 * (i / 32) + i % 32 = omega arith in
      let ne = eqb-false i (32 * row + block / 8) e in
      let r : i / 32 < R = omega arith in
      let k : i % 32 < 32 = omega arith in
      get_or-set_other (mark_rows m 0 R) (32 * row + block / 8) i _ 0 ne
      ∙ ap (λ (x : ℕ). get_or (mark_rows m 0 R) x 0) q
      ∙ mark_at_lem m R (i / 32) (i % 32) r k
      ∙ byte_there (i / 32) (i % 32) (λ w. ne (let w₀ = w.0 in let w₁ = w.1 in omega (arith, w₀, w₁)))
      ∙ sym (mark_at_lem m' R (i / 32) (i % 32) r k)
      ∙ ap (λ (x : ℕ). get_or (mark_rows m' 0 R) x 0) (sym q)

  pub mark_set : set (mark_rows m 0 R) (32 * row + block / 8) (get_or (mark_rows m 0 R) (32 * row + block / 8) 0 + 2 ^ (block % 8)) ≡ mark_rows m' 0 R
  mark_set =
      let l = length_mark_rows m 0 R in
      let l' = length_mark_rows m' 0 R in
      let b = get_or (mark_rows m 0 R) (32 * row + block / 8) 0 + 2 ^ (block % 8) in
      let s = length-set (mark_rows m 0 R) (32 * row + block / 8) b in
      ext_get_or 0 (set (mark_rows m 0 R) (32 * row + block / 8) b) (mark_rows m' 0 R) (s ∙ l ∙ sym l')
      (λ i h. each i (omega (arith, s, l)) (eqb i (32 * row + block / 8)) refl)

-- no mark, no bit
byte_none : (from n : ℕ) → mark_byte (λ block. false) from n ≡ 0
unfolding mark_byte
byte_none from zero = refl
byte_none from (suc n) = ap (λ (x : ℕ). x + 0) (byte_none from n)

bytes_none : (i n : ℕ) → mark_bytes (λ block. false) i n ≡ replicate n 0
unfolding mark_bytes
bytes_none i zero = refl
bytes_none i (suc n) = ap₂ (λ (x : ℕ) (l : List ℕ). x ∷ l) (byte_none (8 * i) 8) (bytes_none (suc i) n)

pub rows_none : (r n : ℕ) → mark_rows (λ row block. false) r n ≡ replicate (32 * n) 0
unfolding mark_rows
rows_none r zero = refl
rows_none r (suc n) =
    let e : 32 + 32 * n ≡ 32 * suc n = omega arith in
    ap₂ ◌++◌ (bytes_none 0 32) (rows_none (suc r) n) ∙ replicate-append-replicate 32 (32 * n) 0 ∙ ap (λ (k : ℕ). replicate {A = ℕ} k 0) e

-- ---- marks past what stands before them

-- a store past the first list
set_append_add : (xs ys : List ℕ) (i a : ℕ) → set (xs ++ ys) (length xs + i) a ≡ xs ++ set ys i a
set_append_add [] ys i a = ap (λ (n : ℕ). set ys n a) (zero-add i)
set_append_add (x ∷ xs) ys i a =
    ap (λ (n : ℕ). set (x ∷ xs ++ ys) n a) (suc-add (length xs) i) ∙ ap (λ (l : List ℕ). x ∷ l) (set_append_add xs ys i a)

-- the bytes of a ledger with the byte of a row's and block's mark changed
abbrev pub changed : Limits → (ℕ → ℕ) → List ℕ → ℕ → ℕ → List ℕ
changed lim g s row block = set s (mark_at lim row block) (g (get_or s (mark_at lim row block) 0))

pub changed_past : (lim : Limits) (g : ℕ → ℕ) (front back : List ℕ) (row block : ℕ) → length front ≡ marks_at lim
    → changed lim g (front ++ back) row block ≡ front ++ set back (32 * row + block / 8) (g (get_or back (32 * row + block / 8) 0))
changed_past lim g front back row block e =
    let q = 32 * row + block / 8 in
    ap (λ (n : ℕ). set (front ++ back) (n + q) (g (get_or (front ++ back) (n + q) 0))) (sym e)
    ∙ ap (λ (x : ℕ). set (front ++ back) (length front + q) (g x)) (get_or-append-add front back q 0)
    ∙ set_append_add front back q (g (get_or back q 0))

pub mark_past : (lim : Limits) (front back : List ℕ) (row block : ℕ) → length front ≡ marks_at lim
    → mark lim (front ++ back) row block ≡ front ++ set back (32 * row + block / 8) (get_or back (32 * row + block / 8) 0 + 2 ^ (block % 8))
unfolding mark
mark_past lim front back row block e = changed_past lim (λ b. b + 2 ^ (block % 8)) front back row block e
