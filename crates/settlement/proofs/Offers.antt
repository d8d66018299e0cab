-- What is offered for the tickets in a list of posts and withdrawals, and what the plain ledger keeps: a ticket is in the set exactly where something was
-- offered for it since its last withdrawal, and the first of that is what is kept. So a filled run has each ticket in with its right sum.
-- Assumes nothing.
use mathlib.Core.Path.{◌≡◌, refl, sym, ap, ap₂, ◌∙◌, subst}
use mathlib.Core.Bool.{Bool, true, false, not, cond, ◌&&◌, ◌||◌}
use mathlib.Core.Logic.{◌⊎◌, inl, inr, ⊎_elim}
use mathlib.Core.List.Memᴰ
use mathlib.Core.List.{List, [], ◌∷◌, ◌++◌, foldl, map, map-append, Memᴰ}
use Prim.Native.Nat.{ℕ, ◌+◌, ◌%◌, ◌^◌, ◌<◌, ◌≤◌}
use native.Mathlib.Nat.{mod-eq_of_lt}
use native.Mathlib.Omega.{arith}
use borrow.Author.Tests.{eq-eqb, eqb-true, eqb-false}
use lib.Dec.{eqb}
use lib.IntN.{pos}
use lib.ListN.{length, take, length-append}
use Rattle.algebra.specs.Sum.{sum}
use Rattle.algebra.specs.Machine.{leaves, answers, in_one_list}
use Rattle.algebra.proofs.Sums.{sum_ext}
use Rattle.algebra.proofs.Booleans.{and_left, and_right, not_both, same_pair, other_pair, at_or_else}
use Rattle.words.specs.Bytes.{bytes_of, value_of}
use Rattle.words.proofs.Bytes.{length_bytes}
use Rattle.series.specs.Series.{Formula, row_count, modulus}
use Rattle.run.specs.Refusal.{answer}
use Rattle.run.specs.Run.{limits_of, in_range, is_ticket, ticket_sum, Entry}
use Rattle.run.proofs.Range.{is_ticket_lem}
use Rattle.ledger.specs.Plain.{Plain, plain_view, admit, including, is_of, opened}
use Rattle.ledger.proofs.Image.{including_here, including_else}
use Rattle.posting.specs.Posts.{Post, ticket, sheet, post_refusal, post_entries, plain_post, occurring, occurrences, contains}
use Rattle.posting.proofs.Simulation.{Ready, post_ready}
use Rattle.posting.proofs.Singles.{not_refused}
use Rattle.book.specs.Kept.{Keeping, opened_keeping, keeping, excluding, admit_kept, dismiss, release, Sound}
use Rattle.book.proofs.Image.{keeping_here, keeping_else}
use Rattle.book.proofs.Sound.{good_of, sound_opened, sound_admit, sound_release}
use Rattle.booking.specs.Bookings.{Booking, posting, withdrawal, booking_refusal, booking_answers, taken, keep_next, keep_answer, on_keeping, keeping_after, Event, offer, withdrawn, happening, events, offered_after, offered}
use Rattle.booking.proofs.Simulation.{plain_of, after_fresh}
use Rattle.booking.proofs.Testing.{withdraw_taken}
use Rattle.booking.proofs.Undone.{in_and_out}
use Rattle.booking.proofs.Follows.{next_taken, not_refused_out, plain_next}
use Rattle.settlement.specs.Settlement.{Filled, row_sums}
use Rattle.settlement.specs.Books.{FilledByBook, mending, Mended}
use Rattle.settlement.proofs.Agreement.{ticket_sum_lt}
use Rattle.settlement.proofs.Filling.{taken_occurs}

-- whether a ticket is in the set, and what is kept for it, by what was offered
Standing : Bool → ℕ → List ℕ → Type 0
Standing b x [] = b ≡ false
Standing b x (y ∷ ys) = (b ≡ true) × (x ≡ y % modulus)

-- one offered more, for a ticket that is not in the set, and for one that is
offered_first : (x : ℕ) (l : List ℕ) (b : Bool) (y : ℕ) → Standing b y l → b ≡ false → Standing true (x % modulus) (l ++ x ∷ [])
unfolding Standing
offered_first x [] b y s e = (refl, refl)
offered_first x (z ∷ l) b y s e = absurd (not_both b s.0 e)

offered_again : (x : ℕ) (l : List ℕ) (b : Bool) (y : ℕ) → Standing b y l → b ≡ true → Standing b y (l ++ x ∷ [])
unfolding Standing
offered_again x [] b y s e = absurd (not_both b e s)
offered_again x (z ∷ l) b y s e = s

-- events one after another
offered_append : (row block : ℕ) (b : List ℕ) (es fs : List Event) → offered_after row block b (es ++ fs) ≡ offered_after row block (offered_after row block b es) fs
unfolding offered_after
offered_append row block b [] fs = refl
offered_append row block b (offer t ∷ es) fs = offered_append row block (cond (is_of t row block) (b ++ t.sum ∷ []) b) es fs
offered_append row block b (withdrawn r c ∷ es) fs = offered_append row block (cond (eqb r row && eqb c block) [] b) es fs

module _ (F : Formula) (p C : ℕ) (fits : F.last < 2 ^ 64) where
  -- a plain ledger of the run, and what was offered so far for each of its tickets
  record So-far (k : Keeping) (before : ℕ → ℕ → List ℕ) : Type 0 where
    run : (k.plain.p ≡ p) × (k.plain.C ≡ C)
    sound : Sound (limits_of F) k
    stands : (row block : ℕ) → is_ticket (limits_of F) C row block ≡ true → Standing (k.plain.tickets row block) (k.kept row block) (before row block)

  -- ---- one ticket

  abbrev with_offer : Entry → (ℕ → ℕ → List ℕ) → ℕ → ℕ → List ℕ
  with_offer t before row block = cond (is_of t row block) (before row block ++ t.sum ∷ []) (before row block)

  offer_here : (t : Entry) (before : ℕ → ℕ → List ℕ) → with_offer t before t.row t.block ≡ before t.row t.block ++ t.sum ∷ []
  offer_here t before = rw (same_pair t.row t.block) refl

  offer_else : (t : Entry) (before : ℕ → ℕ → List ℕ) (row block : ℕ) → ((row ≡ t.row) × (block ≡ t.block) → ⊥) → with_offer t before row block ≡ before row block
  offer_else t before row block ne = rw (other_pair t.row t.block row block ne) refl

  put_in : (k : Keeping) (before : ℕ → ℕ → List ℕ) (t : Entry) → So-far k before → is_ticket (limits_of F) k.plain.C t.row t.block ≡ true
      → k.plain.tickets t.row t.block ≡ false → So-far (admit_kept k t) (with_offer t before)
  unfolding admit_kept admit
  put_in k before t s h new = record {
    run = s.run;
    sound = sound_admit (limits_of F) fits k s.sound t h new;
    stands = λ row block in-run.
        at_or_else t.row t.block row block
        (λ row block. is_ticket (limits_of F) C row block ≡ true
        → Standing (including t k.plain.tickets row block) (keeping t.row t.block (t.sum % modulus) k.kept row block) (with_offer t before row block))
        (λ one. rw (including_here t k.plain.tickets, keeping_here t.row t.block (t.sum % modulus) k.kept, offer_here t before)
        (offered_first t.sum (before t.row t.block) (k.plain.tickets t.row t.block) (k.kept t.row t.block) (s.stands t.row t.block one) new))
        (λ ne one. rw (← including_else t k.plain.tickets row block ne, ← keeping_else t.row t.block (t.sum % modulus) k.kept row block ne, offer_else t before row block ne)
        (s.stands row block one)) in-run;
  }

  put_all : (k : Keeping) (before : ℕ → ℕ → List ℕ) (ts : List Entry) → So-far k before → Ready (limits_of F) k.plain ts
      → So-far (foldl admit_kept k ts) (λ row block. offered_after row block (before row block) (map offer ts))
  unfolding offered_after
  put_all k before [] s r = s
  put_all k before (t ∷ ts) s r =
      put_all (admit_kept k t) (with_offer t before) ts (put_in k before t s r.0 r.1)
      (subst (λ (q : Plain). Ready (limits_of F) q ts) (sym (plain_of (limits_of F) fits k t)) r.2)

  -- a ticket that is in the set, offered once more
  offered_more : (k : Keeping) (before : ℕ → ℕ → List ℕ) (t : Entry) → So-far k before
      → (is_ticket (limits_of F) C t.row t.block ≡ true → k.plain.tickets t.row t.block ≡ true) → So-far k (with_offer t before)
  offered_more k before t s in_set = record {
    run = s.run;
    sound = s.sound;
    stands = λ row block in-run.
        at_or_else t.row t.block row block
        (λ row block. is_ticket (limits_of F) C row block ≡ true → Standing (k.plain.tickets row block) (k.kept row block) (with_offer t before row block))
        (λ one. rw (offer_here t before) (offered_again t.sum (before t.row t.block) _ _ (s.stands t.row t.block one) (in_set one)))
        (λ ne one. rw (offer_else t before row block ne) (s.stands row block one)) in-run;
  }

  -- one that is taken out
  after_withdrawal : (k : Keeping) (before : ℕ → ℕ → List ℕ) (row block : ℕ) → So-far k before → Sound (limits_of F) (release k row block)
      → So-far (release k row block) (λ r b. cond (eqb row r && eqb block b) [] (before r b))
  unfolding release dismiss excluding keeping Standing
  after_withdrawal k before row block s o = record {
    run = s.run;
    sound = o;
    stands = λ r b in-run. go r b (eqb row r && eqb block b) (s.stands r b in-run);
  }
    where
      go : (r b : ℕ) (c : Bool) → Standing (k.plain.tickets r b) (k.kept r b) (before r b)
          → Standing (not c && k.plain.tickets r b) (cond c 0 (k.kept r b)) (cond c [] (before r b))
      go r b true h = refl
      go r b false h = h

  -- ---- one post or withdrawal

  After : Keeping → (ℕ → ℕ → List ℕ) → Booking → Type 0
  After k before a = So-far (keep_next (limits_of F) k a) (λ row block. offered_after row block (before row block) (happening (limits_of F) k a))

  -- a single post that is refused and occurs all the same is of a ticket in the set
  refused_single : (k : Keeping) (before : ℕ → ℕ → List ℕ) (q D r b : ℕ) (x : List ℕ) → So-far k before
      → (post_refusal (limits_of F) (plain_view k.plain) (ticket q D r b x) ≡ 0 → ⊥)
      → So-far k (λ row block. offered_after row block (before row block) (map offer (occurring (limits_of F) k.plain (ticket q D r b x))))
  unfolding occurring post_entries offered_after
  refused_single k before q D r b x s some = go (eqb q k.plain.p) refl (eqb D k.plain.C) refl (eqb (length x) 16) refl
    where
      t : Entry
      t = record { row = r; block = b; sum = value_of x }

      in_set : q ≡ k.plain.p → D ≡ k.plain.C → length x ≡ 16 → is_ticket (limits_of F) C r b ≡ true → k.plain.tickets r b ≡ true
      in_set eq eD l one = by (k.plain.tickets r b) refl
        where
          by : (c : Bool) → k.plain.tickets r b ≡ c → c ≡ true
          by true e = refl
          by false e =
              absurd (some (not_refused (limits_of F) k.plain q D r b x (good_of (limits_of F) fits k s.sound) eq eD l
              (subst (λ (n : ℕ). is_ticket (limits_of F) n r b ≡ true) (sym s.run.1) one) e))

      go : (m : Bool) → eqb q k.plain.p ≡ m → (n : Bool) → eqb D k.plain.C ≡ n → (o : Bool) → eqb (length x) 16 ≡ o
          → So-far k (λ row block. offered_after row block (before row block) (map offer (cond (m && n && o) (t ∷ []) [])))
      go true e true f true g = offered_more k before t s (in_set (eqb-true _ _ e) (eqb-true _ _ f) (eqb-true _ _ g))
      go true e true f false g = s
      go true e false f o g = s
      go false e n f o g = s

  taken_post : (k : Keeping) (before : ℕ → ℕ → List ℕ) (a : Post) → So-far k before → post_refusal (limits_of F) (plain_view k.plain) a ≡ 0
      → So-far (foldl admit_kept k (post_entries a)) (λ row block. offered_after row block (before row block) (map offer (occurring (limits_of F) k.plain a)))
  taken_post k before a s z =
      subst (λ (ts : List Entry). So-far (foldl admit_kept k (post_entries a)) (λ row block. offered_after row block (before row block) (map offer ts)))
      (sym (taken_occurs F p C k.plain a z)) (put_all k before (post_entries a) s (post_ready (limits_of F) k.plain a z))

  refused_post : (k : Keeping) (before : ℕ → ℕ → List ℕ) (a : Post) → So-far k before → eqb (post_refusal (limits_of F) (plain_view k.plain) a) 0 ≡ false
      → So-far k (λ row block. offered_after row block (before row block) (map offer (occurring (limits_of F) k.plain a)))
  unfolding occurring offered_after
  refused_post k before (ticket q D r b x) s e = refused_single k before q D r b x s (eqb-false _ _ e)
  refused_post k before (sheet b) s e = rw e s

  after_one : (k : Keeping) (before : ℕ → ℕ → List ℕ) (a : Booking) → So-far k before → After k before a
  unfolding After keep_next taken happening booking_refusal post_refusal offered_after plain_view
  after_one k before (posting a) s = go (eqb (post_refusal (limits_of F) (plain_view k.plain) a) 0) refl
    where
      go : (b : Bool) → eqb (post_refusal (limits_of F) (plain_view k.plain) a) 0 ≡ b
          → So-far (cond b (foldl admit_kept k (post_entries a)) k) (λ row block. offered_after row block (before row block) (map offer (occurring (limits_of F) k.plain a)))
      go true e = taken_post k before a s (eqb-true _ _ e)
      go false e = refused_post k before a s e
  after_one k before (withdrawal q D r c) s = go (eqb (booking_refusal (limits_of F) (plain_view k.plain) (withdrawal q D r c)) 0) refl
    where
      go : (b : Bool) → eqb (booking_refusal (limits_of F) (plain_view k.plain) (withdrawal q D r c)) 0 ≡ b
          → So-far (cond b (release k r c) k) (λ row block. offered_after row block (before row block) (cond b (withdrawn r c ∷ []) []))
      go true e =
          let z = eqb-true _ _ e in
          let t = withdraw_taken (limits_of F) (plain_view k.plain) q D r c z in
          after_withdrawal k before r c s (sound_release (limits_of F) fits k s.sound r c t.there)
      go false e = s

  -- ---- a list

  after_all : (k : Keeping) (before : ℕ → ℕ → List ℕ) (bookings : List Booking) → So-far k before
      → So-far (leaves (on_keeping (limits_of F)) k bookings) (λ row block. offered_after row block (before row block) (events (limits_of F) k bookings))
  unfolding leaves answers in_one_list offered_after After
  after_all k before [] s = s
  after_all k before (a ∷ bookings) s =
      subst (So-far (leaves (on_keeping (limits_of F)) (keep_next (limits_of F) k a) bookings))
      (λ i row block. sym (offered_append row block (before row block) (happening (limits_of F) k a) (events (limits_of F) (keep_next (limits_of F) k a) bookings)) i)
      (after_all (keep_next (limits_of F) k a) (λ row block. offered_after row block (before row block) (happening (limits_of F) k a)) bookings (after_one k before a s))

  from_opened : in_range (limits_of F) p C ≡ true → (bookings : List Booking)
      → So-far (keeping_after (limits_of F) p C bookings) (λ row block. offered row block (events (limits_of F) (opened_keeping p C) bookings))
  unfolding opened_keeping opened Standing
  from_opened range bookings =
      after_all (opened_keeping p C) (λ row block. []) bookings
      (record { run = (refl, refl); sound = sound_opened (limits_of F) fits p C range; stands = λ row block one. refl })

  -- ---- a filled run

  module _ (range : in_range (limits_of F) p C ≡ true) (bookings : List Booking) (f : FilledByBook F p C bookings) where
    abbrev last : Keeping
    last = keeping_after (limits_of F) p C bookings

    right_in : (row block : ℕ) → is_ticket (limits_of F) C row block ≡ true → (last.plain.tickets row block ≡ true) × (last.kept row block ≡ ticket_sum F p C row block)
    unfolding Standing
    right_in row block one =
        go (offered row block (events (limits_of F) (opened_keeping p C) bookings)) (f.occurs row block one) (f.right row block one) ((from_opened range bookings).stands row block one)
      where
        go : (l : List ℕ) → 0 < length l → ((x : ℕ) → Memᴰ x l → x ≡ ticket_sum F p C row block) → Standing (last.plain.tickets row block) (last.kept row block) l
            → (last.plain.tickets row block ≡ true) × (last.kept row block ≡ ticket_sum F p C row block)
        go [] h r s = absurd (omega (arith, h))
        go (y ∷ l) h r s = (s.0, s.1 ∙ ap (λ (n : ℕ). n % modulus) (r y (Memᴰ.head refl)) ∙ mod-eq_of_lt (ticket_sum_lt F p C row block))

    pub all_in : (row block : ℕ) → is_ticket (limits_of F) C row block ≡ true → last.plain.tickets row block ≡ true
    all_in row block one = (right_in row block one).0

    pub rows_right : (row : ℕ) → row < row_count F → last.plain.sums row ≡ row_sums F p C row
    unfolding row_sums
    rows_right row h =
        let s = from_opened range bookings in
        sym (s.sound.adds_up row h)
        ∙ ap (λ (n : ℕ). sum (last.kept row) 0 n % modulus) s.run.1
        ∙ ap (λ (n : ℕ). n % modulus)
        (sum_ext (last.kept row) (λ block. ticket_sum F p C row block) 0 C (λ block l u. (right_in row block (is_ticket_lem (limits_of F) C row block h (omega arith))).1))

    pub last_run : (last.plain.p ≡ p) × (last.plain.C ≡ C)
    last_run = (from_opened range bookings).run

-- ---- offers alone

-- what was offered is what was offered before, or an entry's of the ticket
offers_from : (row block : ℕ) (b : List ℕ) (ts : List Entry) (x : ℕ) → Memᴰ x (offered_after row block b (map offer ts))
    → Memᴰ x b ⊎ ((t : Entry) × Memᴰ t ts × (is_of t row block ≡ true) × (t.sum ≡ x))
unfolding offered_after
offers_from row block b [] x m = inl m
offers_from row block b (t ∷ ts) x m =
    ⊎_elim (λ n. first (is_of t row block) refl n) (λ n. inr (n.0, Memᴰ.tail n.1, n.2, n.3)) (offers_from row block (cond (is_of t row block) (b ++ t.sum ∷ []) b) ts x m)
  where
    first : (c : Bool) → is_of t row block ≡ c → Memᴰ x (cond c (b ++ t.sum ∷ []) b)
        → Memᴰ x b ⊎ ((u : Entry) × Memᴰ u (t ∷ ts) × (is_of u row block ≡ true) × (u.sum ≡ x))
    first true e n =
        ⊎_elim (λ o. inl o) (λ o. inr (t, Memᴰ.head refl, e, sym (Memᴰ.eq_of_singleton o))) (Memᴰ.append_cases b n)
    first false e n = inl n

-- what was offered before stays, and an entry of the ticket offers something
offers_more : (row block : ℕ) (b : List ℕ) (ts : List Entry) → length b ≤ length (offered_after row block b (map offer ts))
unfolding offered_after
offers_more row block b [] = omega arith
offers_more row block b (t ∷ ts) = go (is_of t row block) (λ c. offers_more row block c ts)
  where
    go : (c : Bool) → ((l : List ℕ) → length l ≤ length (offered_after row block l (map offer ts))) → length b ≤ length (offered_after row block (cond c (b ++ t.sum ∷ []) b) (map offer ts))
    go true h = let n = length-append b (t.sum ∷ []) in omega (arith, n, h (b ++ t.sum ∷ []))
    go false h = h b

offers_some : (row block : ℕ) (b : List ℕ) (ts : List Entry) → contains ts row block ≡ true → 0 < length (offered_after row block b (map offer ts))
unfolding offered_after contains
offers_some row block b [] e = absurd (not_both true refl (sym e))
offers_some row block b (t ∷ ts) e = go (is_of t row block) e (λ c. offers_some row block c ts)
  where
    go : (c : Bool) → (c || contains ts row block) ≡ true → ((l : List ℕ) → contains ts row block ≡ true → 0 < length (offered_after row block l (map offer ts)))
        → 0 < length (offered_after row block (cond c (b ++ t.sum ∷ []) b) (map offer ts))
    go true f h =
        let n = length-append b (t.sum ∷ []) in
        let m = offers_more row block (b ++ t.sum ∷ []) ts in
        omega (arith, n, m)
    go false f h = h b f

module _ (F : Formula) (p C : ℕ) (fits : F.last < 2 ^ 64) where
  -- posts alone: their offers are the tickets that occur
  events_of : (k : Keeping) (posts : List Post) → events (limits_of F) k (map posting posts) ≡ map offer (occurrences (limits_of F) k.plain posts)
  unfolding answers in_one_list happening
  events_of k [] = refl
  events_of k (a ∷ posts) =
      ap (λ (l : List Event). map offer (occurring (limits_of F) k.plain a) ++ l)
      (events_of (keep_next (limits_of F) k (posting a)) posts
      ∙ ap (λ (s : Plain). map offer (occurrences (limits_of F) s posts)) (plain_next (limits_of F) fits k a))
      ∙ sym (map-append offer (occurring (limits_of F) k.plain a) (occurrences (limits_of F) (plain_post (limits_of F) k.plain a) posts))

  -- of a list that fills the run
  offers_right : (posts : List Post) → Filled F p C posts → (row block : ℕ) → is_ticket (limits_of F) C row block ≡ true
      → (0 < length (offered row block (events (limits_of F) (opened_keeping p C) (map posting posts))))
      × ((x : ℕ) → Memᴰ x (offered row block (events (limits_of F) (opened_keeping p C) (map posting posts))) → x ≡ ticket_sum F p C row block)
  unfolding opened_keeping
  offers_right posts f row block one =
      let ts = occurrences (limits_of F) (opened p C) posts in
      subst (λ (es : List Event). (0 < length (offered row block es)) × ((x : ℕ) → Memᴰ x (offered row block es) → x ≡ ticket_sum F p C row block))
      (sym (events_of (opened_keeping p C) posts))
      (offers_some row block [] ts (f.occurs row block one), λ x m. ⊎_elim (λ n. absurd (Memᴰ.not-nil n)) (λ n. of_ticket_lem n.0 x n.1 n.2 n.3) (offers_from row block [] ts x m))
    where
      of_ticket_lem : (t : Entry) (x : ℕ) → Memᴰ t (occurrences (limits_of F) (opened p C) posts) → is_of t row block ≡ true → t.sum ≡ x → x ≡ ticket_sum F p C row block
      of_ticket_lem t x m e q =
          let r : t.row ≡ row = eqb-true t.row row (and_left (eqb t.row row) _ e) in
          let b : t.block ≡ block = eqb-true t.block block (and_right (eqb t.row row) _ e) in
          let same = ap₂ (is_ticket (limits_of F) C) r b in
          sym q ∙ f.right t m (same ∙ one) ∙ ap₂ (ticket_sum F p C) r b

  pub filled_offers : (posts : List Post) → Filled F p C posts → FilledByBook F p C (map posting posts)
  filled_offers posts f = record { occurs = λ row block one. (offers_right posts f row block one).0; right = λ row block one. (offers_right posts f row block one).1 }

  -- ---- a ticket posted with any sum, and withdrawn, before it

  module _ (range : in_range (limits_of F) p C ≡ true) (row block x : ℕ) (one : is_ticket (limits_of F) C row block ≡ true) (posts : List Post) (f : Filled F p C posts) where
    abbrev post : Booking
    post = posting (ticket p C row block (bytes_of 16 x))

    abbrev out : Booking
    out = withdrawal p C row block

    entry : Entry
    entry = record { row = row; block = block; sum = value_of (bytes_of 16 x) }

    sound : Sound (limits_of F) (opened_keeping p C)
    sound = sound_opened (limits_of F) fits p C range

    post_taken : booking_refusal (limits_of F) (plain_view (opened_keeping p C).plain) post ≡ 0
    unfolding booking_refusal post_refusal opened_keeping opened
    post_taken = not_refused (limits_of F) (opened p C) p C row block (bytes_of 16 x) (good_of (limits_of F) fits (opened_keeping p C) sound) refl refl (length_bytes 16 x) one refl

    after_post : keep_next (limits_of F) (opened_keeping p C) post ≡ admit_kept (opened_keeping p C) entry
    unfolding taken post_entries entry
    after_post = next_taken (limits_of F) (opened_keeping p C) post post_taken

    out_taken : booking_refusal (limits_of F) (plain_view (admit_kept (opened_keeping p C) entry).plain) out ≡ 0
    unfolding admit_kept admit opened_keeping opened entry
    out_taken = not_refused_out (limits_of F) (admit_kept (opened_keeping p C) entry) p C row block range one refl refl (including_here entry (opened_keeping p C).plain.tickets)

    after_out : keep_next (limits_of F) (keep_next (limits_of F) (opened_keeping p C) post) out ≡ opened_keeping p C
    unfolding taken opened_keeping opened entry
    after_out =
        ap (λ (k : Keeping). keep_next (limits_of F) k out) after_post ∙ next_taken (limits_of F) (admit_kept (opened_keeping p C) entry) out out_taken
        ∙ in_and_out (limits_of F) (opened_keeping p C) sound entry refl

    posted : happening (limits_of F) (opened_keeping p C) post ≡ offer entry ∷ []
    unfolding happening occurring post_entries opened_keeping opened entry
    posted = rw (eq-eqb p p refl, eq-eqb C C refl, length_bytes 16 x) refl

    withdrawn_then : happening (limits_of F) (keep_next (limits_of F) (opened_keeping p C) post) out ≡ withdrawn row block ∷ []
    unfolding happening
    withdrawn_then = rw (after_post, out_taken) refl

    all_events : events (limits_of F) (opened_keeping p C) (mending p C row block x (map posting posts))
        ≡ offer entry ∷ withdrawn row block ∷ events (limits_of F) (opened_keeping p C) (map posting posts)
    unfolding answers in_one_list
    all_events = rw (posted, withdrawn_then, after_out) refl

    -- what is offered first for the ticket is discarded
    discarded : (r b : ℕ) (es : List Event) → offered r b (offer entry ∷ withdrawn row block ∷ es) ≡ offered r b es
    unfolding offered_after entry
    discarded r b es = go (eqb row r && eqb block b)
      where
        go : (c : Bool) → offered_after r b (cond c [] (cond c (value_of (bytes_of 16 x) ∷ []) [])) es ≡ offered_after r b [] es
        go true = refl
        go false = refl

    offered_are : (r b : ℕ) → offered r b (events (limits_of F) (opened_keeping p C) (mending p C row block x (map posting posts)))
        ≡ offered r b (events (limits_of F) (opened_keeping p C) (map posting posts))
    offered_are r b = ap (offered r b) all_events ∙ discarded r b (events (limits_of F) (opened_keeping p C) (map posting posts))

    first_two : take 2 (booking_answers (limits_of F) p C (mending p C row block x (map posting posts))) ≡ pos 0 ∷ pos 0 ∷ []
    unfolding answers keep_answer answer
    first_two =
        ap (take 2) (after_fresh (limits_of F) fits p C range (mending p C row block x (map posting posts))).0
        ∙ rw (post_taken, after_post, out_taken) refl

    pub mended : Mended F p C row block x
    mended = record {
      rest = map posting posts;
      taken = first_two;
      filled = record {
        occurs = λ r b h. subst (λ (l : List ℕ). 0 < length l) (sym (offered_are r b)) (offers_right posts f r b h).0;
        right = λ r b h y m. (offers_right posts f r b h).1 y (subst (Memᴰ y) (offered_are r b) m);
      };
    }
