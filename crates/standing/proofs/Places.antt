-- The tickets that stand, place by place: one place more, how many there are, which of them is entry i, and that they are all of the set, in order.
-- Assumes nothing.
use mathlib.Core.Path.{◌≡◌, refl, sym, ap, ap₂, ◌∙◌, subst}
use mathlib.Core.Bool.{Bool, true, false, cond, ◌&&◌, ◌||◌}
use mathlib.Core.Logic.{⊎_elim}
use mathlib.Core.List.Memᴰ
use mathlib.Core.List.{List, [], ◌∷◌, ◌++◌, append-nil, append_assoc, Memᴰ}
use Prim.Native.Nat.{ℕ, zero, suc, ◌+◌, ◌*◌, ◌-◌, ◌/◌, ◌%◌, ◌<◌, ◌≤◌}
use native.Mathlib.Nat.{zero-add, add-zero, add-suc, suc-add}
use native.Mathlib.Numerals.{add-one}
use native.Mathlib.Omega.{arith}
use borrow.Author.Tests.{eqb-true, eqb-false, lt-ltb}
use lib.Arith.{lt_of_le-ne}
use lib.Dec.{eqb, ltb}
use lib.ListN.{length, get_or, length-append}
use lib.Seq.{get_or-append_seam}
use Rattle.algebra.specs.Sum.{sum}
use Rattle.algebra.proofs.Sums.{sum_ext, sum_split, sum_from}
use Rattle.algebra.proofs.Booleans.{and_left, and_right, and_both, not_both, same_pair}
use Rattle.run.specs.Run.{Entry, Limits}
use Rattle.sheet.specs.Sheet.{every, key, ascending}
use Rattle.sheet.proofs.Each.{nothing}
use Rattle.ledger.specs.Ledger.{bit_in}
use Rattle.ledger.specs.Marks.{row_marks}
use Rattle.ledger.specs.Plain.{is_of}
use Rattle.posting.specs.Posts.{contains}
use Rattle.book.specs.Book.{kept_in}
use Rattle.standing.specs.Standing.{ticket_at, standing_from, set_bits, standing_in}
use Rattle.standing.specs.Moving.{AreAll}

-- ---- in lists of tickets

-- each passes that is a member of the list
pub every_member : (f : Entry → Bool) (ts : List Entry) → ((t : Entry) → Memᴰ t ts → f t ≡ true) → every f ts ≡ true
unfolding every
every_member f [] h = refl
every_member f (t ∷ ts) h = and_both (f t) _ (h t (Memᴰ.head refl)) (every_member f ts (λ u m. h u (Memᴰ.tail m)))

-- a ticket ahead of those that are above it
ascending_cons : (t : Entry) (ts : List Entry) → ((u : Entry) → Memᴰ u ts → key t < key u) → ascending ts ≡ true → ascending (t ∷ ts) ≡ true
unfolding ascending
ascending_cons t [] h a = refl
ascending_cons t (u ∷ us) h a = and_both (ltb (key t) (key u)) _ (lt-ltb (key t) (key u) (h u (Memᴰ.head refl))) a

module _ (set : ℕ → ℕ → Bool) (sums : ℕ → ℕ → ℕ) where
  -- ---- parts

  -- the ticket of place i, if it is in
  abbrev pub one : ℕ → List Entry
  one i = cond (set (i / 256) (i % 256)) (ticket_at sums i ∷ []) []

  split : (n i m : ℕ) → standing_from set sums i (n + m) ≡ standing_from set sums i n ++ standing_from set sums (i + n) m
  unfolding standing_from
  split zero i m = ap (standing_from set sums i) (zero-add m) ∙ ap (λ (k : ℕ). standing_from set sums k m) (sym (add-zero i))
  split (suc n) i m =
      ap (standing_from set sums i) (suc-add n m)
      ∙ ap (λ (l : List Entry). one i ++ l)
      (split n (suc i) m ∙ ap (λ (k : ℕ). standing_from set sums (suc i) n ++ standing_from set sums k m) (suc-add i n ∙ sym (add-suc i n)))
      ∙ sym (append_assoc (one i) (standing_from set sums (suc i) n) (standing_from set sums (i + suc n) m))

  -- one place more
  pub standing_next : (n : ℕ) → standing_from set sums 0 (n + 1) ≡ standing_from set sums 0 n ++ one n
  unfolding standing_from
  standing_next n =
      split n 0 1 ∙ ap (λ (k : ℕ). standing_from set sums 0 n ++ standing_from set sums k 1) (zero-add n)
      ∙ ap (λ (l : List Entry). standing_from set sums 0 n ++ l) (append-nil (one n))

  -- the ticket of place n is the entry behind those of the places before it
  module _ (N n : ℕ) (h : n < N) (there : set (n / 256) (n % 256) ≡ true) where
    around : standing_from set sums 0 N ≡ standing_from set sums 0 n ++ ticket_at sums n ∷ standing_from set sums (suc n) (N - suc n)
    unfolding standing_from
    around =
        let q : N ≡ n + suc (N - suc n) = omega arith in
        ap (standing_from set sums 0) q ∙ split n 0 (suc (N - suc n))
        ∙ ap (λ (k : ℕ). standing_from set sums 0 n ++ standing_from set sums k (suc (N - suc n))) (zero-add n)
        ∙ ap (λ (b : Bool). standing_from set sums 0 n ++ (cond b (ticket_at sums n ∷ []) [] ++ standing_from set sums (suc n) (N - suc n))) there

    pub standing_at : get_or (standing_from set sums 0 N) (length (standing_from set sums 0 n)) nothing ≡ ticket_at sums n
    standing_at =
        ap (λ (l : List Entry). get_or l (length (standing_from set sums 0 n)) nothing) around
        ∙ get_or-append_seam (standing_from set sums 0 n) (ticket_at sums n) (standing_from set sums (suc n) (N - suc n)) nothing

  -- ---- how many

  count_places : (n : ℕ) → length (standing_from set sums 0 n) ≡ sum (λ i. cond (set (i / 256) (i % 256)) 1 0) 0 n
  unfolding sum standing_from
  count_places zero = refl
  count_places (suc n) =
      ap (λ (k : ℕ). length (standing_from set sums 0 k)) (sym (add-one n)) ∙ ap length (standing_next n) ∙ length-append (standing_from set sums 0 n) (one n)
      ∙ ap₂ ◌+◌ (count_places n) (go (set (n / 256) (n % 256))) ∙ ap (λ (k : ℕ). sum bit 0 n + bit k) (sym (zero-add n))
    where
      bit : ℕ → ℕ
      bit i = cond (set (i / 256) (i % 256)) 1 0

      go : (b : Bool) → length (cond b (ticket_at sums n ∷ []) []) ≡ cond b 1 0
      go true = refl
      go false = refl

  -- ---- all of the set, in order

  -- a ticket that stands is one of the set, with its sum, and its place is one of those looked at
  record Member (i n : ℕ) (t : Entry) : Type 0 where
    there : set t.row t.block ≡ true
    its_sum : t.sum ≡ sums t.row t.block
    from : i ≤ key t
    to : key t < i + n

  member : (n i : ℕ) (t : Entry) → Memᴰ t (standing_from set sums i n) → Member i n t
  unfolding standing_from ticket_at
  member zero i t m = absurd (Memᴰ.not-nil m)
  member (suc n) i t m = go (set (i / 256) (i % 256)) refl (λ l. one_on (member n (suc i) t l)) m
    where
      one_on : Member (suc i) n t → Member i (suc n) t
      one_on r =
          let a = r.from in
          let b = r.to in
          record { there = r.there; its_sum = r.its_sum; from = omega arith; to = omega arith }

      here : set (i / 256) (i % 256) ≡ true → t ≡ ticket_at sums i → Member i (suc n) t
      here e q = subst (Member i (suc n)) (sym q) (record { there = e; its_sum = refl; from = omega arith; to = omega arith })

      go : (b : Bool) → set (i / 256) (i % 256) ≡ b → (Memᴰ t (standing_from set sums (suc i) n) → Member i (suc n) t)
          → Memᴰ t (cond b (ticket_at sums i ∷ []) [] ++ standing_from set sums (suc i) n) → Member i (suc n) t
      go true e later l = ⊎_elim (here e) later (Memᴰ.cases_cons l)
      go false e later l = later l

  ascends : (n i : ℕ) → ascending (standing_from set sums i n) ≡ true
  unfolding standing_from ticket_at ascending
  ascends zero i = refl
  ascends (suc n) i = go (set (i / 256) (i % 256)) (ascends n (suc i))
    where
      go : (b : Bool) → ascending (standing_from set sums (suc i) n) ≡ true
          → ascending (cond b (ticket_at sums i ∷ []) [] ++ standing_from set sums (suc i) n) ≡ true
      go true a = ascending_cons (ticket_at sums i) (standing_from set sums (suc i) n) (λ u m. let h = (member n (suc i) u m).from in omega arith) a
      go false a = a

  -- a ticket of the list is one of the set
  only : (ts : List Entry) → ((t : Entry) → Memᴰ t ts → set t.row t.block ≡ true) → (row block : ℕ) → contains ts row block ≡ true → set row block ≡ true
  unfolding contains
  only [] h row block e = absurd (not_both false e refl)
  only (t ∷ ts) h row block e = go (is_of t row block) refl (only ts (λ u m. h u (Memᴰ.tail m)) row block) e
    where
      go : (b : Bool) → is_of t row block ≡ b → (contains ts row block ≡ true → set row block ≡ true) → (b || contains ts row block) ≡ true → set row block ≡ true
      go true q later f =
          let er = eqb-true t.row row (and_left (eqb t.row row) _ q) in
          let eb = eqb-true t.block block (and_right (eqb t.row row) _ q) in
          sym (ap₂ set er eb) ∙ h t (Memᴰ.head refl)
      go false q later f = later f

  -- and a ticket of the set whose place is looked at is in the list
  found : (n i row block : ℕ) → block < 256 → i ≤ 256 * row + block → 256 * row + block < i + n → set row block ≡ true
      → contains (standing_from set sums i n) row block ≡ true
  unfolding standing_from ticket_at contains
  found zero i row block low from to there = absurd (omega arith)
  found (suc n) i row block low from to there =
      go (eqb i (256 * row + block)) refl (λ next. found n (suc i) row block low next (omega arith) there)
    where
      rest : List Entry
      rest = standing_from set sums (suc i) n

      here : i ≡ 256 * row + block → contains (one i ++ rest) row block ≡ true
      here e =
          let er : i / 256 ≡ row = omega arith in
          let eb : i % 256 ≡ block = omega arith in
          ap (λ (b : Bool). contains (cond b (ticket_at sums i ∷ []) [] ++ rest) row block) (ap₂ set er eb ∙ there)
          ∙ ap₂ (λ (r b : ℕ). eqb r row && eqb b block || contains rest row block) er eb
          ∙ ap (λ (b : Bool). b || contains rest row block) (same_pair row block)

      later : contains rest row block ≡ true → contains (one i ++ rest) row block ≡ true
      later e = pick (set (i / 256) (i % 256))
        where
          either : (a : Bool) → (a || contains rest row block) ≡ true
          either true = refl
          either false = e

          pick : (b : Bool) → contains (cond b (ticket_at sums i ∷ []) [] ++ rest) row block ≡ true
          pick true = either (is_of (ticket_at sums i) row block)
          pick false = e

      go : (b : Bool) → eqb i (256 * row + block) ≡ b → (suc i ≤ 256 * row + block → contains rest row block ≡ true) → contains (one i ++ rest) row block ≡ true
      go true e next = here (eqb-true _ _ e)
      go false e next = later (next (lt_of_le-ne from (eqb-false _ _ e)))

  pub all_standing : (rows : ℕ) → ((row block : ℕ) → set row block ≡ true → (row < rows) × (block < 256))
      → AreAll set sums (standing_from set sums 0 (256 * rows))
  all_standing rows inside = record {
    ascend = ascends (256 * rows) 0;
    have = λ row block. go row block (set row block) refl;
    carry = λ t m. (member (256 * rows) 0 t m).its_sum;
  }
    where
      go : (row block : ℕ) (b : Bool) → set row block ≡ b → contains (standing_from set sums 0 (256 * rows)) row block ≡ set row block
      go row block true e =
          let h = (inside row block e).0 in
          let l = (inside row block e).1 in
          found (256 * rows) 0 row block l (omega arith) (omega arith) e ∙ sym e
      go row block false e = miss (contains (standing_from set sums 0 (256 * rows)) row block) refl
        where
          miss : (b : Bool) → contains (standing_from set sums 0 (256 * rows)) row block ≡ b → b ≡ set row block
          miss true f =
              absurd (not_both (set row block) (only (standing_from set sums 0 (256 * rows)) (λ t m. (member (256 * rows) 0 t m).there) row block f) e)
          miss false f = sym e

  -- a ticket that stands is one of the set
  pub in_set : (n : ℕ) (t : Entry) → Memᴰ t (standing_from set sums 0 n) → set t.row t.block ≡ true
  in_set n t m = (member n 0 t m).there

-- the same set and sums at all places
pub standing_ext : (set set' : ℕ → ℕ → Bool) (sums sums' : ℕ → ℕ → ℕ) (rows : ℕ)
    → ((row block : ℕ) → row < rows → block < 256 → (set row block ≡ set' row block) × (sums row block ≡ sums' row block))
    → standing_from set sums 0 (256 * rows) ≡ standing_from set' sums' 0 (256 * rows)
unfolding standing_from ticket_at
standing_ext set set' sums sums' rows h = go (256 * rows) 0 (omega arith)
  where
    go : (n i : ℕ) → i + n ≤ 256 * rows → standing_from set sums i n ≡ standing_from set' sums' i n
    go zero i l = refl
    go (suc n) i l =
        let e = h (i / 256) (i % 256) (omega arith) (omega arith) in
        ap₂ (λ (b : Bool) (x : ℕ). cond b (record { row = i / 256; block = i % 256; sum = x } ∷ []) [] ++ standing_from set sums (suc i) n) e.0 e.1
        ∙ ap (λ (ts : List Entry). cond (set' (i / 256) (i % 256)) (ticket_at sums' i ∷ []) [] ++ ts) (go n (suc i) (omega arith))

-- ---- by the bytes

-- place by place, and row by row
by_rows : (g : ℕ → ℕ → ℕ) (rows : ℕ) → sum (λ i. g (i / 256) (i % 256)) 0 (256 * rows) ≡ sum (λ row. sum (g row) 0 256) 0 rows
unfolding sum
by_rows g zero = refl
by_rows g (suc r) =
    let f : ℕ → ℕ = λ i. g (i / 256) (i % 256) in
    let q : 256 * suc r ≡ 256 * r + 256 = omega arith in
    ap (sum f 0) q ∙ sum_split f 0 (256 * r) 256
    ∙ ap₂ ◌+◌ (by_rows g r)
    (ap (λ (k : ℕ). sum f k 256) (zero-add (256 * r)) ∙ sym (sum_from f (256 * r) 256)
    ∙ sum_ext (λ b. f (256 * r + b)) (g r) 0 256
    (λ b l u.
    let er : (256 * r + b) / 256 ≡ r = omega arith in
    let eb : (256 * r + b) % 256 ≡ b = omega arith in
    ap₂ g er eb)
    ∙ ap (λ (k : ℕ). sum (g k) 0 256) (sym (zero-add r)))

pub count_standing : (lim : Limits) (ledger book : List ℕ) → length (standing_in lim ledger book) ≡ set_bits lim ledger
unfolding row_marks
count_standing lim ledger book =
    count_places (bit_in lim ledger) (kept_in book) (256 * lim.rows) ∙ by_rows (λ row block. cond (bit_in lim ledger row block) 1 0) lim.rows
