-- The tests over a sheet's entries, and over the pairs of a list, as the code makes them: one by one.
-- Assumes nothing.
use mathlib.Core.Path.{◌≡◌, refl, sym, ap, ◌∙◌, ap₂}
use mathlib.Core.Bool.{Bool, ◌&&◌}
use mathlib.Core.List.{List, [], ◌∷◌, ◌++◌}
use Prim.Native.Nat.{ℕ, zero, suc, ◌+◌, ◌-◌, ◌<◌, ◌*◌, ◌/◌}
use native.Mathlib.Nat.{zero-add, add-zero, add-suc, suc-add, le_of_suc-le-suc, not-suc-le-zero}
use native.Mathlib.Numerals.{add-one}
use native.Mathlib.Omega.{arith}
use lib.Dec.{ltb}
use lib.ListN.{length, get_or}
use Rattle.std.specs.List.{list_all, range_with_len}
use Rattle.algebra.specs.Test.{all_below}
use Rattle.algebra.proofs.Below.{all_ext, below_front}
use Rattle.words.specs.Bytes.{field}
use Rattle.words.proofs.Bytes.{field_next, field_none}
use Rattle.series.specs.Series.{Formula}
use Rattle.run.specs.Run.{Entry, Limits, is_ticket, ticket_sum}
use Rattle.sheet.specs.Sheet.{row_in, block_in, sum_in, entries_from, every, key, ascending, all_tickets, listed}
use Rattle.sheet.proofs.Many.{count_entries, count_listed}

-- ---- over a range of numbers

-- a test over the n numbers from a on, f telling what it says of each
all_from : (test f : ℕ → Bool) (n a : ℕ) → ((j : ℕ) → j < n → test (a + j) ≡ f j) → list_all test (range_with_len a n) ≡ all_below n f
unfolding all_below
all_from test f zero a h = refl
all_from test f (suc n) a h =
    let first : a ≡ a + 0 = omega arith in
    let next : (j : ℕ) → a + 1 + j ≡ a + suc j = λ j. omega arith in
    ap₂ ◌&&◌ (ap test first ∙ h 0 (omega arith))
    (all_from test (λ j. f (suc j)) n (a + 1) (λ j l. ap test (next j) ∙ h (suc j) (omega arith)))
    ∙ sym (below_front n f)

-- the range of the numbers below n
pub all_in : (test : ℕ → Bool) (n : ℕ) → list_all test (range_with_len 0 (n - 0)) ≡ all_below n test
all_in test n =
    let size : n - 0 ≡ n = omega arith in
    all_from test test (n - 0) 0 (λ j h. ap test (zero-add j)) ∙ ap (λ (m : ℕ). all_below m test) size

-- ---- over a list

abbrev pub nothing : Entry
nothing = record { row = 0; block = 0; sum = 0 }

pub every_each : (f : Entry → Bool) (l : List Entry) → every f l ≡ all_below (length l) (λ j. f (get_or l j nothing))
unfolding every all_below
every_each f [] = refl
every_each f (t ∷ ts) =
    ap (λ (b : Bool). f t && b) (every_each f ts) ∙ sym (below_front (length ts) (λ j. f (get_or (t ∷ ts) j nothing)))

-- each but the last is below the next
ascending_each : (t : Entry) (ts : List Entry)
    → ascending (t ∷ ts) ≡ all_below (length ts) (λ j. ltb (key (get_or (t ∷ ts) j nothing)) (key (get_or ts j nothing)))
unfolding ascending all_below
ascending_each t [] = refl
ascending_each t (u ∷ us) =
    ap (λ (b : Bool). ltb (key t) (key u) && b) (ascending_each u us)
    ∙ sym (below_front (length us) (λ j. ltb (key (get_or (t ∷ u ∷ us) j nothing)) (key (get_or (u ∷ us) j nothing))))

pub ascending_all : (l : List Entry) (n : ℕ) → length l ≡ suc n
    → ascending l ≡ all_below n (λ j. ltb (key (get_or l j nothing)) (key (get_or l (suc j) nothing)))
ascending_all [] n h = absurd (omega arith)
ascending_all (t ∷ ts) n h =
    let size : length ts ≡ n = omega arith in
    ascending_each t ts ∙ ap (λ (m : ℕ). all_below m (λ j. ltb (key (get_or (t ∷ ts) j nothing)) (key (get_or ts j nothing)))) size

-- each key with the one before it, k i being the key of entry i
neighbours : (l : List Entry) (n : ℕ) (k : ℕ → ℕ) → length l ≡ n → ((i : ℕ) → i < n → key (get_or l i nothing) ≡ k i)
    → list_all (λ i. ltb (k (i - 1)) (k i)) (range_with_len 1 (n - 1)) ≡ ascending l
unfolding ascending
neighbours [] n k size at = let none : n - 1 ≡ 0 = omega arith in rw none refl
neighbours (t ∷ ts) n k size at =
    let some : length (t ∷ ts) ≡ suc (n - 1) = omega arith in
    let before : (j : ℕ) → 1 + j - 1 ≡ j = λ j. omega arith in
    let this : (j : ℕ) → 1 + j ≡ suc j = λ j. omega arith in
    all_from _ _ (n - 1) 1 (λ j h. rw (before j, this j, at j (omega arith), at (suc j) (omega arith)) refl)
    ∙ sym (ascending_all (t ∷ ts) (n - 1) some)

-- ---- over the entries of a sheet

abbrev pub entry : List ℕ → ℕ → Entry
entry s i = record { row = row_in s i; block = block_in s i; sum = sum_in s i }

entry_from : (s : List ℕ) (n i j : ℕ) → j < n → get_or (entries_from s i n) j nothing ≡ entry s (i + j)
unfolding entries_from
entry_from s zero i j h = absurd (not-suc-le-zero h)
entry_from s (suc n) i zero h = ap (entry s) (sym (add-zero i))
entry_from s (suc n) i (suc j) h = entry_from s n (suc i) j (le_of_suc-le-suc h) ∙ ap (entry s) (suc-add i j ∙ sym (add-suc i j))

pub entry_at : (s : List ℕ) (n j : ℕ) → j < n → get_or (entries_from s 0 n) j nothing ≡ entry s j
entry_at s n j h = entry_from s n 0 j h ∙ ap (entry s) (zero-add j)

-- one entry more
entries_from_next : (s : List ℕ) (n i : ℕ) → entries_from s i (suc n) ≡ entries_from s i n ++ (entry s (i + n) ∷ [])
unfolding entries_from
entries_from_next s zero i = ap (λ (k : ℕ). entry s k ∷ []) (sym (add-zero i))
entries_from_next s (suc n) i =
    ap (λ (l : List Entry). entry s i ∷ l)
    (entries_from_next s n (suc i) ∙ ap (λ (k : ℕ). entries_from s (suc i) n ++ (entry s k ∷ [])) (suc-add i n ∙ sym (add-suc i n)))

pub entries_next : (s : List ℕ) (n : ℕ) → entries_from s 0 (n + 1) ≡ entries_from s 0 n ++ (entry s n ∷ [])
entries_next s n =
    ap (entries_from s 0) (add-one n) ∙ entries_from_next s n 0 ∙ ap (λ (k : ℕ). entries_from s 0 n ++ (entry s k ∷ [])) (zero-add n)

pub every_entries : (f : Entry → Bool) (s : List ℕ) (n : ℕ) → every f (entries_from s 0 n) ≡ all_below n (λ j. f (entry s j))
every_entries f s n =
    every_each f (entries_from s 0 n)
    ∙ ap (λ (m : ℕ). all_below m (λ j. f (get_or (entries_from s 0 n) j nothing))) (count_entries s n 0)
    ∙ all_ext n _ _ (λ j h. ap f (entry_at s n j h))

-- entry j is below the next one
abbrev pub rises : List ℕ → ℕ → Bool
rises s j = ltb (key (entry s j)) (key (entry s (j + 1)))

pub ascending_entries : (s : List ℕ) (n : ℕ) → ascending (entries_from s 0 (suc n)) ≡ all_below n (rises s)
ascending_entries s n =
    ascending_all (entries_from s 0 (suc n)) n (count_entries s (suc n) 0)
    ∙ all_ext n _ _ (λ j h. rw (entry_at s (suc n) j (omega arith), entry_at s (suc n) (suc j) (omega arith), add-one j) refl)

-- each entry with the one before it, as the code compares them
pub entries_neighbours : (s : List ℕ) (n : ℕ)
    → list_all (λ i. ltb (key (entry s (i - 1))) (key (entry s i))) (range_with_len 1 (n - 1)) ≡ ascending (entries_from s 0 n)
entries_neighbours s n = neighbours _ n (λ i. key (entry s i)) (count_entries s n 0) (λ i h. ap key (entry_at s n i h))

-- the ticket of a row and a block, with its sum
abbrev pub worked : Formula → ℕ → ℕ → ℕ → ℕ → Entry
worked F p C row block = record { row = row; block = block; sum = ticket_sum F p C row block }

-- pair i of a list: the block's byte, then the row's
abbrev pub pair_row : List ℕ → ℕ → ℕ
pair_row list i = get_or list (2 * i + 1) 0

abbrev pub pair_block : List ℕ → ℕ → ℕ
pair_block list i = get_or list (2 * i) 0

module _ (F : Formula) (p C : ℕ) where
  pub listed_at : (list : List ℕ) (i : ℕ) → i < length list / 2 → get_or (listed F p C list) i nothing ≡ worked F p C (pair_row list i) (pair_block list i)
  unfolding listed
  listed_at [] i h = absurd (not-suc-le-zero h)
  listed_at (b ∷ []) i h = absurd (not-suc-le-zero h)
  listed_at (b ∷ r ∷ bs) zero h = refl
  listed_at (b ∷ r ∷ bs) (suc i) h =
      let m : 2 * suc i + 1 ≡ suc (suc (2 * i + 1)) = omega arith in
      let n : 2 * suc i ≡ suc (suc (2 * i)) = omega arith in
      listed_at bs i (omega arith)
      ∙ sym (ap₂ (λ (x y : ℕ). worked F p C (get_or (b ∷ r ∷ bs) x 0) (get_or (b ∷ r ∷ bs) y 0)) m n)

  module _ (list : List ℕ) (e : ℕ) (size : length list ≡ 2 * e) where
    pub count : length (listed F p C list) ≡ e
    count = count_listed F p C list ∙ omega arith

    pub pair_at : (i : ℕ) → i < e → get_or (listed F p C list) i nothing ≡ worked F p C (pair_row list i) (pair_block list i)
    pair_at i h = listed_at list i (omega arith)

    pub tickets_listed : (lim : Limits) → all_tickets lim C (listed F p C list) ≡ all_below e (λ i. is_ticket lim C (pair_row list i) (pair_block list i))
    tickets_listed lim =
        every_each _ (listed F p C list)
        ∙ ap (λ (n : ℕ). all_below n (λ j. is_ticket lim C (get_or (listed F p C list) j nothing).row (get_or (listed F p C list) j nothing).block)) count
        ∙ all_ext e _ _ (λ j h. ap (λ (t : Entry). is_ticket lim C t.row t.block) (pair_at j h))

    -- a pair's two bytes are its ticket's key
    key_at : (i : ℕ) → i < e → key (get_or (listed F p C list) i nothing) ≡ field list (2 * i) 2
    key_at i h =
        let high = field_next list (2 * i) 1 (omega arith) in
        let low = field_next list (2 * i + 1) 0 (omega arith) in
        let none = field_none list (2 * i + 1 + 1) in
        ap key (pair_at i h) ∙ omega (arith, high, low, none)

    -- each pair with the one before it, as the code compares them
    pub pairs_neighbours :
        list_all (λ i. ltb (field list (2 * (i - 1)) 2) (field list (2 * i) 2)) (range_with_len 1 (e - 1)) ≡ ascending (listed F p C list)
    pairs_neighbours = neighbours _ e (λ i. field list (2 * i) 2) count key_at
