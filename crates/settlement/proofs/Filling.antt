-- A run whose tickets all occur with their sums: all are marked at the end, and each row's sum is that of the row's tickets.
-- A row's sum in a plain ledger is that of the row's tickets in its set, as long as each carries its right sum.
-- Assumes nothing.
use mathlib.Core.Path.{◌≡◌, refl, sym, ap, ap₂, ◌∙◌, subst}
use mathlib.Core.Bool.{Bool, true, false, cond, ◌&&◌, ◌||◌}
use mathlib.Core.Logic.{◌≢◌, ◌⊎◌, inl, inr, ⊎_elim}
use mathlib.Core.List.Memᴰ
use mathlib.Core.List.{List, [], ◌∷◌, ◌++◌, foldl, Memᴰ}
use Prim.Native.Nat.{ℕ, ◌+◌, ◌%◌, ◌^◌, ◌<◌}
use native.Mathlib.Nat.{mod-add-mod}
use native.Mathlib.Omega.{arith}
use borrow.Author.Tests.{eqb-true, eqb-false, eq-eqb}
use lib.Dec.{eqb}
use lib.ListN.{length}
use Rattle.algebra.specs.Sum.{sum}
use Rattle.algebra.proofs.Sums.{sum_ext, sum_zero, sum_bump, sum_rem}
use Rattle.algebra.specs.Machine.{leaves, answers, in_one_list}
use Rattle.series.specs.Series.{Formula, row_count, modulus}
use Rattle.run.specs.Run.{limits_of, in_range, is_ticket, ticket_sum, Entry}
use Rattle.run.proofs.Range.{ticket_block, is_ticket_lem}
use Rattle.ledger.specs.Ledger.{total_of}
use Rattle.ledger.specs.Plain.{Plain, plain_view, admit, including, adding, is_of, opened}
use Rattle.ledger.proofs.Posting.{post_taken}
use Rattle.ledger.proofs.RowSums.{adding_here, adding_else}
use Rattle.ledger.proofs.Image.{Good, including_here, including_else, good_admit, good_opened}
use Rattle.sheet.specs.Sheet.{entries}
use Rattle.posting.specs.Posts.{Post, ticket, sheet, post_refusal, post_entries, plain_post, on_plain, plain_after, occurring, occurrences, contains}
use Rattle.posting.proofs.Simulation.{Ready, post_ready, step}
use Rattle.posting.proofs.Singles.{not_refused}
use Rattle.settlement.specs.Settlement.{Filled, row_sums, all_sums, final_sums}

module _ (F : Formula) (p C : ℕ) where
  -- the sums of the tickets that are in a set
  abbrev marked_in : (ℕ → ℕ → Bool) → ℕ → ℕ → ℕ
  marked_in set row block = cond (set row block) (ticket_sum F p C row block) 0

  pub marked_sum : (ℕ → ℕ → Bool) → ℕ → ℕ
  marked_sum set row = sum (marked_in set row) 0 C

  marked_here : (t : Entry) (set : ℕ → ℕ → Bool) → is_ticket (limits_of F) C t.row t.block ≡ true → set t.row t.block ≡ false
      → marked_sum (including t set) t.row ≡ marked_sum set t.row + ticket_sum F p C t.row t.block
  unfolding marked_sum
  marked_here t set h new =
      sum_bump (marked_in set t.row) (marked_in (including t set) t.row) C t.block (ticket_sum F p C t.row t.block) (ticket_block (limits_of F) C t.row t.block h)
      (rw (including_here t set, new) (omega arith))
      (λ i ne. ap (λ (b : Bool). cond b (ticket_sum F p C t.row i) 0) (including_else t set t.row i (λ q. ne q.1)))

  marked_else : (t : Entry) (set : ℕ → ℕ → Bool) (row : ℕ) → t.row ≢ row → marked_sum (including t set) row ≡ marked_sum set row
  unfolding marked_sum
  marked_else t set row ne =
      sym (sum_ext _ _ 0 C (λ i l u. ap (λ (b : Bool). cond b (ticket_sum F p C row i) 0) (including_else t set row i (λ q. ne (sym q.0)))))

  pub record Kept (s : Plain) : Type 0 where
    pub run_p : s.p ≡ p
    pub run_c : s.C ≡ C
    pub good : Good (limits_of F) s
    pub sums_are : (row : ℕ) → s.sums row ≡ marked_sum s.tickets row % modulus

  -- each ticket of the list carries its sum
  abbrev Right : List Entry → Type 0
  Right ts = (t : Entry) → Memᴰ t ts → is_ticket (limits_of F) C t.row t.block ≡ true → t.sum ≡ ticket_sum F p C t.row t.block

  kept_admit : (s : Plain) (t : Entry) → Kept s → is_ticket (limits_of F) s.C t.row t.block ≡ true → s.tickets t.row t.block ≡ false
      → t.sum ≡ ticket_sum F p C t.row t.block → Kept (admit s t)
  unfolding admit
  kept_admit s t k h new right = record {
    run_p = k.run_p;
    run_c = k.run_c;
    good = good_admit (limits_of F) s t k.good h;
    sums_are = λ row. go row (eqb t.row row) refl;
  }
    where
      h' : is_ticket (limits_of F) C t.row t.block ≡ true
      h' = subst (λ (n : ℕ). is_ticket (limits_of F) n t.row t.block ≡ true) k.run_c h

      go : (row : ℕ) (b : Bool) → eqb t.row row ≡ b → adding t.row t.sum s.sums row ≡ marked_sum (including t s.tickets) row % modulus
      go row true e =
          subst (λ (r : ℕ). adding t.row t.sum s.sums r ≡ marked_sum (including t s.tickets) r % modulus) (eqb-true t.row row e)
          (adding_here t.row t.sum s.sums
          ∙ ap₂ (λ (x y : ℕ). (x + y) % modulus) (k.sums_are t.row) right
          ∙ mod-add-mod (marked_sum s.tickets t.row) modulus (ticket_sum F p C t.row t.block)
          ∙ ap (λ (x : ℕ). x % modulus) (sym (marked_here t s.tickets h' new)))
      go row false e =
          let ne = eqb-false t.row row e in
          adding_else t.row t.sum s.sums row ne ∙ k.sums_are row ∙ ap (λ (x : ℕ). x % modulus) (sym (marked_else t s.tickets row ne))

  kept_all : (s : Plain) (ts : List Entry) → Kept s → Ready (limits_of F) s ts → Right ts → Kept (foldl admit s ts)
  kept_all s [] k r right = k
  kept_all s (t ∷ ts) k r right =
      let h' = subst (λ (n : ℕ). is_ticket (limits_of F) n t.row t.block ≡ true) k.run_c r.0 in
      kept_all (admit s t) ts (kept_admit s t k r.0 r.1 (right t (Memᴰ.head refl) h')) r.2 (λ u m. right u (Memᴰ.tail m))

  -- a post that is taken occurs
  pub taken_occurs : (s : Plain) (a : Post) → post_refusal (limits_of F) (plain_view s) a ≡ 0 → occurring (limits_of F) s a ≡ post_entries a
  unfolding occurring post_refusal plain_view post_entries
  taken_occurs s (ticket q D row block x) e =
      let t = post_taken (limits_of F) (plain_view s) q D row block x e in
      rw (eq-eqb _ _ t.same_p, eq-eqb _ _ t.same_c, eq-eqb _ _ t.sum_sized) refl
  taken_occurs s (sheet b) e = rw (eq-eqb _ _ e) refl

  kept_post : (s : Plain) (a : Post) → Kept s → Right (occurring (limits_of F) s a) → Kept (plain_post (limits_of F) s a)
  unfolding plain_post
  kept_post s a k right = go (eqb (post_refusal (limits_of F) (plain_view s) a) 0) refl
    where
      go : (b : Bool) → eqb (post_refusal (limits_of F) (plain_view s) a) 0 ≡ b → Kept (cond b (foldl admit s (post_entries a)) s)
      go true e =
          let z = eqb-true _ _ e in
          kept_all s (post_entries a) k (post_ready (limits_of F) s a z) (subst Right (taken_occurs s a z) right)
      go false e = k

  pub kept_posts : (s : Plain) (posts : List Post) → Kept s → Right (occurrences (limits_of F) s posts) → Kept (leaves (on_plain (limits_of F)) s posts)
  unfolding leaves answers in_one_list
  kept_posts s [] k right = k
  kept_posts s (a ∷ posts) k right =
      kept_posts (plain_post (limits_of F) s a) posts (kept_post s a k (λ t m. right t (Memᴰ.append_left (occurrences (limits_of F) (plain_post (limits_of F) s a) posts) m))) (λ t m. right t (Memᴰ.append_right (occurring (limits_of F) s a) m))

  -- ---- each ticket that occurs is in the set at the end

  contains_append : (xs ys : List Entry) (row block : ℕ) → contains (xs ++ ys) row block ≡ true
      → (contains xs row block ≡ true) ⊎ (contains ys row block ≡ true)
  unfolding contains
  contains_append [] ys row block e = inr e
  contains_append (t ∷ xs) ys row block e = go (eqb t.row row && eqb t.block block) e (contains_append xs ys row block)
    where
      go : (a : Bool) → (a || contains (xs ++ ys) row block) ≡ true
          → (contains (xs ++ ys) row block ≡ true → (contains xs row block ≡ true) ⊎ (contains ys row block ≡ true))
          → ((a || contains xs row block) ≡ true) ⊎ (contains ys row block ≡ true)
      go true e ih = inl refl
      go false e ih = ih e

  -- a set with one ticket more has all that it had
  including_more : (t : Entry) (set : ℕ → ℕ → Bool) (row block : ℕ) → set row block ≡ true → including t set row block ≡ true
  unfolding including
  including_more t set row block e = rw e (or_true (is_of t row block))
    where
      or_true : (a : Bool) → (a || true) ≡ true
      or_true true = refl
      or_true false = refl

  stays : (s : Plain) (ts : List Entry) (row block : ℕ) → s.tickets row block ≡ true → (foldl admit s ts).tickets row block ≡ true
  unfolding admit
  stays s [] row block e = e
  stays s (t ∷ ts) row block e = stays (admit s t) ts row block (including_more t s.tickets row block e)

  joins : (s : Plain) (ts : List Entry) (row block : ℕ) → contains ts row block ≡ true → (foldl admit s ts).tickets row block ≡ true
  unfolding admit contains including
  joins s [] row block e = cc
  joins s (t ∷ ts) row block e = go (eqb t.row row) refl (eqb t.block block) refl (joins (admit s t) ts row block)
    where
      go : (a : Bool) → eqb t.row row ≡ a → (b : Bool) → eqb t.block block ≡ b
          → (contains ts row block ≡ true → (foldl admit (admit s t) ts).tickets row block ≡ true)
          → (foldl admit (admit s t) ts).tickets row block ≡ true
      go true f true g ih = stays (admit s t) ts row block (rw (f, g) refl)
      go true f false g ih = ih (rw (f, g) at e)
      go false f b g ih = ih (rw f at e)

  -- what a set has stays there, whatever the post
  old_stays : (s : Plain) (ts : List Entry) (row block : ℕ) (b : Bool) → s.tickets row block ≡ true
      → (cond b (foldl admit s ts) s).tickets row block ≡ true
  old_stays s ts row block true e = stays s ts row block e
  old_stays s ts row block false e = e

  empty_has : (row block : ℕ) → contains [] row block ≡ true → ⊥
  unfolding contains
  empty_has row block e = let z : ◌≡◌ {A = ℕ} 0 1 = cc in omega arith

  one_is : (t : Entry) (row block : ℕ) → contains (t ∷ []) row block ≡ true → (t.row ≡ row) × (t.block ≡ block)
  unfolding contains
  one_is t row block e = go (eqb t.row row) refl (eqb t.block block) refl e
    where
      go : (a : Bool) → eqb t.row row ≡ a → (b : Bool) → eqb t.block block ≡ b → (a && b || false) ≡ true → (t.row ≡ row) × (t.block ≡ block)
      go true f true g e = (eqb-true _ _ f, eqb-true _ _ g)
      go true f false g e = absurd (let z : ◌≡◌ {A = ℕ} 0 1 = cc in omega arith)
      go false f b g e = absurd (let z : ◌≡◌ {A = ℕ} 0 1 = cc in omega arith)

  marked_sheet : (s : Plain) (b : List ℕ) (row block : ℕ) → contains (occurring (limits_of F) s (sheet b)) row block ≡ true
      → (plain_post (limits_of F) s (sheet b)).tickets row block ≡ true
  unfolding plain_post occurring post_entries post_refusal
  marked_sheet s b row block e = go (eqb (post_refusal (limits_of F) (plain_view s) (sheet b)) 0) e
    where
      go : (c : Bool) → contains (cond c (entries b) []) row block ≡ true → (cond c (foldl admit s (entries b)) s).tickets row block ≡ true
      go true e = joins s (entries b) row block e
      go false e = absurd (empty_has row block e)

  marked_ticket : (s : Plain) (q D r k : ℕ) (x : List ℕ) (row block : ℕ) → Good (limits_of F) s → is_ticket (limits_of F) s.C row block ≡ true
      → contains (occurring (limits_of F) s (ticket q D r k x)) row block ≡ true → (plain_post (limits_of F) s (ticket q D r k x)).tickets row block ≡ true
  unfolding plain_post occurring post_entries
  marked_ticket s q D r k x row block g h e = named (eqb q s.p) refl (eqb D s.C) refl (eqb (length x) 16) refl e
    where
      entry : List Entry
      entry = post_entries (ticket q D r k x)

      -- in the set already, or put in now
      held : (c : Bool) → s.tickets row block ≡ c → q ≡ s.p → D ≡ s.C → length x ≡ 16 → (r ≡ row) × (k ≡ block) → contains entry row block ≡ true
          → (cond (eqb (post_refusal (limits_of F) (plain_view s) (ticket q D r k x)) 0) (foldl admit s entry) s).tickets row block ≡ true
      held true f eq eD l same e = old_stays s entry row block (eqb (post_refusal (limits_of F) (plain_view s) (ticket q D r k x)) 0) f
      held false f eq eD l same e =
          let h' = subst (λ (n : ℕ). is_ticket (limits_of F) s.C n k ≡ true) (sym same.0) (subst (λ (n : ℕ). is_ticket (limits_of F) s.C row n ≡ true) (sym same.1) h) in
          let f' = subst (λ (n : ℕ). s.tickets n k ≡ false) (sym same.0) (subst (λ (n : ℕ). s.tickets row n ≡ false) (sym same.1) f) in
          rw (not_refused (limits_of F) s q D r k x g eq eD l h' f') (joins s entry row block e)

      named : (a : Bool) → eqb q s.p ≡ a → (b : Bool) → eqb D s.C ≡ b → (c : Bool) → eqb (length x) 16 ≡ c
          → contains (cond (a && b && c) entry []) row block ≡ true
          → (cond (eqb (post_refusal (limits_of F) (plain_view s) (ticket q D r k x)) 0) (foldl admit s entry) s).tickets row block ≡ true
      named true ea true eb true ec e =
          held (s.tickets row block) refl (eqb-true _ _ ea) (eqb-true _ _ eb) (eqb-true _ _ ec) (one_is _ row block e) e
      named true ea true eb false ec e = absurd (empty_has row block e)
      named true ea false eb c ec e = absurd (empty_has row block e)
      named false ea b eb c ec e = absurd (empty_has row block e)

  marked_post : (s : Plain) (a : Post) (row block : ℕ) → Good (limits_of F) s → is_ticket (limits_of F) s.C row block ≡ true
      → (s.tickets row block ≡ true) ⊎ (contains (occurring (limits_of F) s a) row block ≡ true)
      → (plain_post (limits_of F) s a).tickets row block ≡ true
  unfolding plain_post
  marked_post s a row block g h (inl e) = old_stays s (post_entries a) row block (eqb (post_refusal (limits_of F) (plain_view s) a) 0) e
  marked_post s (ticket q D r k x) row block g h (inr e) = marked_ticket s q D r k x row block g h e
  marked_post s (sheet b) row block g h (inr e) = marked_sheet s b row block e

  -- a post leaves the run as it is
  same_run : (s : Plain) (ts : List Entry) → (foldl admit s ts).C ≡ s.C
  unfolding admit
  same_run s [] = refl
  same_run s (t ∷ ts) = same_run (admit s t) ts

  run_post : (s : Plain) (a : Post) → (plain_post (limits_of F) s a).C ≡ s.C
  unfolding plain_post
  run_post s a = go (eqb (post_refusal (limits_of F) (plain_view s) a) 0)
    where
      go : (b : Bool) → (cond b (foldl admit s (post_entries a)) s).C ≡ s.C
      go true = same_run s (post_entries a)
      go false = refl

  pub marked_posts : (s : Plain) (posts : List Post) (row block : ℕ) → Good (limits_of F) s → is_ticket (limits_of F) s.C row block ≡ true
      → (s.tickets row block ≡ true) ⊎ (contains (occurrences (limits_of F) s posts) row block ≡ true)
      → (leaves (on_plain (limits_of F)) s posts).tickets row block ≡ true
  unfolding leaves answers in_one_list
  marked_posts s [] row block g h (inl e) = e
  marked_posts s [] row block g h (inr e) = absurd (empty_has row block e)
  marked_posts s (a ∷ posts) row block g h o =
      marked_posts (plain_post (limits_of F) s a) posts row block (step (limits_of F) s a g).1 (subst (λ (n : ℕ). is_ticket (limits_of F) n row block ≡ true) (sym (run_post s a)) h)
      (⊎_elim (λ e. inl (marked_post s a row block g h (inl e)))
      (λ e. ⊎_elim (λ f. inl (marked_post s a row block g h (inr f))) (λ f. inr f) (contains_append (occurring (limits_of F) s a) (occurrences (limits_of F) (plain_post (limits_of F) s a) posts) row block e)) o)

  -- ---- a filled run

  pub kept_opened : F.last < 2 ^ 64 → in_range (limits_of F) p C ≡ true → Kept (opened p C)
  unfolding opened marked_sum
  kept_opened fits e = record {
    run_p = refl;
    run_c = refl;
    good = good_opened (limits_of F) p C fits e;
    sums_are = λ row. ap (λ (n : ℕ). n % modulus) (sym (sum_zero _ 0 C (λ block. refl)));
  }

  pub filled_all : F.last < 2 ^ 64 → in_range (limits_of F) p C ≡ true → (posts : List Post) → Filled F p C posts → (row block : ℕ) → is_ticket (limits_of F) C row block ≡ true
      → (plain_after (limits_of F) p C posts).tickets row block ≡ true
  unfolding opened
  filled_all fits e posts f row block h = marked_posts (opened p C) posts row block (good_opened (limits_of F) p C fits e) h (inr (f.occurs row block h))

  pub filled_rows : F.last < 2 ^ 64 → in_range (limits_of F) p C ≡ true → (posts : List Post) → Filled F p C posts → (row : ℕ) → row < row_count F
      → final_sums F p C posts row ≡ row_sums F p C row
  unfolding row_sums marked_sum
  filled_rows fits e posts f row h =
      (kept_posts (opened p C) posts (kept_opened fits e) f.right).sums_are row
      ∙ ap (λ (n : ℕ). n % modulus)
      (sum_ext _ _ 0 C (λ block i u. ap (λ (b : Bool). cond b (ticket_sum F p C row block) 0) (filled_all fits e posts f row block (is_ticket_lem (limits_of F) C row block h (omega arith)))))

  -- sums of the rows that are those of their tickets add up to that of all tickets
  pub total_of_rows : (sums : ℕ → ℕ) → ((row : ℕ) → row < row_count F → sums row ≡ row_sums F p C row) → total_of (limits_of F) sums ≡ all_sums F p C
  unfolding all_sums row_sums total_of
  total_of_rows sums rows =
      ap (λ (n : ℕ). n % modulus) (sum_ext sums (row_sums F p C) 0 (row_count F) (λ row l h. rows row (omega arith)))
      ∙ sum_rem modulus (λ row. sum (λ block. ticket_sum F p C row block) 0 C) 0 (row_count F)
