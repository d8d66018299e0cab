-- Every run has a list that fills it: one post for each ticket, with its right sum. So demand 3's premise can be met.
-- Assumes nothing.
use mathlib.Core.Path.{◌≡◌, refl, sym, ap, ap₂, ◌∙◌, subst}
use mathlib.Core.Bool.{Bool, true, false, cond, ◌&&◌, ◌||◌}
use mathlib.Core.Logic.{◌⊎◌, inl, inr, ⊎_elim}
use mathlib.Core.List.Memᴰ
use mathlib.Core.List.{List, [], ◌∷◌, ◌++◌, foldl, Memᴰ}
use Prim.Native.Nat.{ℕ, zero, suc, ◌+◌, ◌<◌}
use native.Mathlib.Nat.{not-suc-le-zero}
use borrow.Author.Tests.{eq-eqb}
use lib.Dec.{eqb}
use Rattle.algebra.proofs.Booleans.{below_or}
use Rattle.words.specs.Bytes.{bytes_of, value_of}
use Rattle.words.proofs.Bytes.{length_bytes, value_bytes}
use Rattle.algebra.specs.Machine.{answers, in_one_list}
use Rattle.series.specs.Series.{Formula, row_count, modulus}
use Rattle.run.specs.Run.{limits_of, ticket_sum, Entry}
use Rattle.run.proofs.Range.{ticket_row, ticket_block}
use Rattle.ledger.specs.Plain.{Plain, plain_view, admit, is_of, opened}
use Rattle.posting.specs.Posts.{Post, ticket, post_refusal, post_entries, plain_post, occurring, occurrences, contains, singles}
use Rattle.settlement.specs.Settlement.{Filled}
use Rattle.settlement.proofs.Agreement.{ticket_sum_lt}

-- a post leaves the run as it is
same_run : (s : Plain) (ts : List Entry) → ((foldl admit s ts).p ≡ s.p) × ((foldl admit s ts).C ≡ s.C)
unfolding admit
same_run s [] = (refl, refl)
same_run s (t ∷ ts) = same_run (admit s t) ts

module _ (F : Formula) (p C : ℕ) where
  run_post : (s : Plain) (a : Post) → (s.p ≡ p) × (s.C ≡ C) → ((plain_post (limits_of F) s a).p ≡ p) × ((plain_post (limits_of F) s a).C ≡ C)
  unfolding plain_post
  run_post s a h = go (eqb (post_refusal (limits_of F) (plain_view s) a) 0)
    where
      go : (b : Bool) → ((cond b (foldl admit s (post_entries a)) s).p ≡ p) × ((cond b (foldl admit s (post_entries a)) s).C ≡ C)
      go true = let r = same_run s (post_entries a) in (r.0 ∙ h.0, r.1 ∙ h.1)
      go false = h

  -- the tickets of a row's first n blocks, and of the first r rows, each with its sum
  entry_of : ℕ → ℕ → Entry
  entry_of row block = record { row = row; block = block; sum = ticket_sum F p C row block }

  blocks : ℕ → ℕ → List Entry
  blocks row zero = []
  blocks row (suc n) = entry_of row n ∷ blocks row n

  grid : ℕ → List Entry
  grid zero = []
  grid (suc r) = blocks r C ++ grid r

  pub Right : Entry → Type 0
  Right t = t.sum ≡ ticket_sum F p C t.row t.block

  -- each occurs as it is
  occurs_as : (s : Plain) (t : Entry) → (s.p ≡ p) × (s.C ≡ C) → Right t
      → occurring (limits_of F) s (ticket p C t.row t.block (bytes_of 16 t.sum)) ≡ t ∷ []
  unfolding occurring post_entries Right
  occurs_as s t h e =
      let v : value_of (bytes_of 16 t.sum) ≡ t.sum =
      value_bytes 16 t.sum (subst (λ (n : ℕ). n < modulus) (sym e) (ticket_sum_lt F p C t.row t.block)) in
      rw (eq-eqb p s.p (sym h.0), eq-eqb C s.C (sym h.1), length_bytes 16 t.sum)
      (ap (λ (n : ℕ). record { row = t.row; block = t.block; sum = n } ∷ []) v)

  AllRight : List Entry → Type 0
  AllRight ts = (t : Entry) → Memᴰ t ts → Right t

  occurrences_are : (s : Plain) (ts : List Entry) → (s.p ≡ p) × (s.C ≡ C) → AllRight ts → occurrences (limits_of F) s (singles p C ts) ≡ ts
  unfolding answers in_one_list singles AllRight
  occurrences_are s [] h r = refl
  occurrences_are s (t ∷ ts) h r =
      ap₂ ◌++◌ (occurs_as s t h (r t (Memᴰ.head refl)))
      (occurrences_are (plain_post (limits_of F) s (ticket p C t.row t.block (bytes_of 16 t.sum))) ts
      (run_post s (ticket p C t.row t.block (bytes_of 16 t.sum)) h) (λ u m. r u (Memᴰ.tail m)))

  -- ---- the grid has each ticket of the run, with its right sum

  blocks_right : (row n : ℕ) → AllRight (blocks row n)
  unfolding AllRight blocks entry_of Right
  blocks_right row zero t m = absurd (Memᴰ.not-nil m)
  blocks_right row (suc n) t (Memᴰ.head e) = subst (λ (u : Entry). u.sum ≡ ticket_sum F p C u.row u.block) (sym e) refl
  blocks_right row (suc n) t (Memᴰ.tail m) = blocks_right row n t m

  grid_right : (r : ℕ) → AllRight (grid r)
  unfolding AllRight grid
  grid_right zero t m = absurd (Memᴰ.not-nil m)
  grid_right (suc r) t m = ⊎_elim (λ l. blocks_right r C t l) (λ l. grid_right r t l) (Memᴰ.append_cases (blocks r C) m)

  or_left : (a b : Bool) → a ≡ true → (a || b) ≡ true
  or_left a b e = rw e refl

  or_right : (a b : Bool) → b ≡ true → (a || b) ≡ true
  or_right true b e = refl
  or_right false b e = e

  blocks_have : (row n block : ℕ) → block < n → contains (blocks row n) row block ≡ true
  unfolding contains blocks entry_of
  blocks_have row zero block h = absurd (not-suc-le-zero h)
  blocks_have row (suc n) block h =
      ⊎_elim (λ l. or_right (eqb row row && eqb n block) _ (blocks_have row n block l))
      (λ e. or_left (eqb row row && eqb n block) _ (rw (eq-eqb row row refl, eq-eqb n block (sym e)) refl)) (below_or block n h)

  append_has : (xs ys : List Entry) (row block : ℕ) → (contains xs row block ≡ true) ⊎ (contains ys row block ≡ true)
      → contains (xs ++ ys) row block ≡ true
  unfolding contains
  append_has [] ys row block (inr e) = e
  append_has [] ys row block (inl e) = cc
  append_has (t ∷ xs) ys row block h = go (is_of t row block) h (append_has xs ys row block)
    where
      go : (a : Bool) → ((a || contains xs row block) ≡ true) ⊎ (contains ys row block ≡ true)
          → ((contains xs row block ≡ true) ⊎ (contains ys row block ≡ true) → contains (xs ++ ys) row block ≡ true)
          → (a || contains (xs ++ ys) row block) ≡ true
      go true h ih = refl
      go false h ih = ih h

  grid_has : (r row block : ℕ) → row < r → block < C → contains (grid r) row block ≡ true
  unfolding grid
  grid_has zero row block h l = absurd (not-suc-le-zero h)
  grid_has (suc r) row block h l =
      append_has (blocks r C) (grid r) row block
      (⊎_elim (λ k. inr (grid_has r row block k l))
      (λ e. inl (subst (λ (n : ℕ). contains (blocks n C) row block ≡ true) e (blocks_have row C block l))) (below_or row r h))

  pub filled_exists : (posts : List Post) × Filled F p C posts
  unfolding opened AllRight Right
  filled_exists =
      let e = occurrences_are (opened p C) (grid (row_count F)) (refl, refl) (grid_right (row_count F)) in (
        singles p C (grid (row_count F)),
        record {
          occurs = λ row block h. subst (λ (l : List Entry). contains l row block ≡ true) (sym e)
              (grid_has (row_count F) row block (ticket_row (limits_of F) C row block h) (ticket_block (limits_of F) C row block h));
          right = λ t m h. grid_right (row_count F) t (subst (λ (l : List Entry). Memᴰ t l) e m);
        },
      )
