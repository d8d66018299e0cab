-- On a fresh ledger every list of posts leaves in the bytes what the plain ledger holds, and answers as it does: one post at a time,
-- since what is seen of the bytes is what is seen of the plain ledger, and each ticket that goes in makes the same step in both.
-- Assumes nothing.
use mathlib.Core.Path.{◌≡◌, refl, sym, ap, ◌∙◌, subst}
use mathlib.Core.Bool.{Bool, true, false, cond, not}
use mathlib.Core.List.{List, [], ◌∷◌, foldl}
use Prim.Native.Nat.{ℕ, ◌^◌, ◌<◌, ◌≤◌}
use native.Mathlib.Omega.{arith}
use borrow.Author.Tests.{ltb-true, eqb-true, lt-ltb, not-true}
use lib.Dec.{ltb, eqb}
use Rattle.algebra.specs.Machine.{leaves, answers}
use Rattle.algebra.proofs.Booleans.{and_left, and_right, and_both}
use Rattle.algebra.proofs.Machines.{agree}
use Rattle.run.specs.Refusal.{answer}
use Rattle.run.specs.Run.{Entry, Limits, in_range, is_ticket}
use Rattle.run.specs.Call.{refused_by, answered, all_left}
use Rattle.sheet.specs.Sheet.{every, all_tickets, key, entries, ascending}
use Rattle.sheet.proofs.Form.{formed}
use Rattle.ledger.specs.Ledger.{View, view_of, fresh}
use Rattle.ledger.specs.Plain.{Plain, plain_view, encode, admit, including, opened}
use Rattle.ledger.specs.Calls.{post_call}
use Rattle.ledger.proofs.Posting.{post_taken}
use Rattle.ledger.proofs.Image.{Good, including_else, view_encode, enter_encode, fresh_encode, good_opened, good_admit}
use Rattle.posting.specs.Calls.{enter_entry, sheet_post_call}
use Rattle.posting.specs.Posts.{Post, ticket, sheet, post_refusal, post_entries, post_bytes, post_answer, plain_answer, plain_post, on_bytes, on_plain, ledger_after, answers_to, plain_after, plain_answers_to}
use Rattle.posting.proofs.Testing.{every_and, sheet_taken}

-- ---- several tickets, in order

-- each is one of the run and is not in the set when its turn comes
abbrev pub Ready : Limits → Plain → List Entry → Type 0
Ready lim s [] = Unit {0}
Ready lim s (t ∷ ts) = (is_ticket lim s.C t.row t.block ≡ true) × (s.tickets t.row t.block ≡ false) × Ready lim (admit s t) ts

pub entered : (lim : Limits) (s : Plain) (ts : List Entry) → Good lim s → Ready lim s ts
    → (foldl (enter_entry lim) (encode lim s) ts ≡ encode lim (foldl admit s ts)) × Good lim (foldl admit s ts)
entered lim s [] g r = (refl, g)
entered lim s (t ∷ ts) g r =
    let rest = entered lim (admit s t) ts (good_admit lim s t g r.0) r.2 in
    (ap (λ (l : List ℕ). foldl (enter_entry lim) l ts) (enter_encode lim s g t r.0 r.1) ∙ rest.0, rest.1)

-- ---- a sheet's tickets are ready

-- in an ascending list all keys after the first are above it
all_above : (k : ℕ) (t : Entry) (ts : List Entry) → k ≤ key t → ascending (t ∷ ts) ≡ true → every (λ u. ltb k (key u)) ts ≡ true
unfolding every ascending
all_above k t [] h a = refl
all_above k t (u ∷ ts) h a =
    let l = ltb-true (key t) (key u) (and_left (ltb (key t) (key u)) (ascending (u ∷ ts)) a) in
    and_both (ltb k (key u)) (every (λ v. ltb k (key v)) ts) (lt-ltb k (key u) (omega arith))
    (all_above k u ts (omega arith) (and_right (ltb (key t) (key u)) (ascending (u ∷ ts)) a))

ascending_tail : (t : Entry) (ts : List Entry) → ascending (t ∷ ts) ≡ true → ascending ts ≡ true
unfolding ascending
ascending_tail t [] a = refl
ascending_tail t (u ∷ ts) a = and_right (ltb (key t) (key u)) (ascending (u ∷ ts)) a

still_new : (s : Plain) (t u : Entry) → not (s.tickets u.row u.block) ≡ true → ltb (key t) (key u) ≡ true
    → not (including t s.tickets u.row u.block) ≡ true
still_new s t u n l =
    let h = ltb-true (key t) (key u) l in
    ap not (sym (including_else t s.tickets u.row u.block (λ q. let q₀ = q.0 in let q₁ = q.1 in omega (arith, q₀, q₁)))) ∙ n

pub ready : (lim : Limits) (s : Plain) (ts : List Entry) → all_tickets lim s.C ts ≡ true
    → every (λ t. not (s.tickets t.row t.block)) ts ≡ true → ascending ts ≡ true → Ready lim s ts
unfolding every admit
ready lim s [] a b c = tt
ready lim s (t ∷ ts) a b c = (
  and_left (is_ticket lim s.C t.row t.block) _ a,
  not-true _ (and_left (not (s.tickets t.row t.block)) _ b),
  ready lim (admit s t) ts (and_right (is_ticket lim s.C t.row t.block) _ a)
      (every_and (λ u. not (s.tickets u.row u.block)) (λ u. ltb (key t) (key u)) (λ u. not (including t s.tickets u.row u.block))
      (λ u. still_new s t u) ts (and_right (not (s.tickets t.row t.block)) _ b) (all_above (key t) t ts (omega arith) c))
      (ascending_tail t ts c),
)

-- ---- a post that is not refused

pub post_ready : (lim : Limits) (s : Plain) (a : Post) → post_refusal lim (plain_view s) a ≡ 0 → Ready lim s (post_entries a)
unfolding post_refusal plain_view post_entries
post_ready lim s (ticket p C row block sum) e =
    let t = post_taken lim (plain_view s) p C row block sum e in
    (subst (λ (n : ℕ). is_ticket lim n row block ≡ true) t.same_c t.ticket, t.new, tt)
post_ready lim s (sheet b) e =
    let t = sheet_taken lim (plain_view s) b e in
    ready lim s (entries b) (subst (λ (n : ℕ). all_tickets lim n (entries b) ≡ true) t.same_c t.form.tickets) t.new
    (formed b t.form.well_formed)

-- ---- one post: both calls test the same table, and put in the tickets that the post names

post_bytes_lem : (lim : Limits) (s : List ℕ) (a : Post)
    → post_bytes lim s a ≡ cond (eqb (post_refusal lim (view_of lim s) a) 0) (foldl (enter_entry lim) s (post_entries a)) s
unfolding post_bytes post_call refused_by all_left sheet_post_call post_refusal post_entries
post_bytes_lem lim s (ticket p C row block sum) = refl
post_bytes_lem lim s (sheet b) = refl

post_answer_lem : (lim : Limits) (s : List ℕ) (a : Post) → post_answer lim s a ≡ answer (post_refusal lim (view_of lim s) a) 0
unfolding post_answer post_call refused_by answered sheet_post_call post_refusal
post_answer_lem lim s (ticket p C row block sum) = refl
post_answer_lem lim s (sheet b) = refl

pub step : (lim : Limits) (s : Plain) (a : Post) → Good lim s
    → (post_bytes lim (encode lim s) a ≡ encode lim (plain_post lim s a)) × Good lim (plain_post lim s a)
unfolding plain_post
step lim s a g = rw (post_bytes_lem lim (encode lim s) a, view_encode lim s g) (go (eqb (post_refusal lim (plain_view s) a) 0) refl)
  where
    go : (b : Bool) → eqb (post_refusal lim (plain_view s) a) 0 ≡ b
        → (cond b (foldl (enter_entry lim) (encode lim s) (post_entries a)) (encode lim s) ≡ encode lim (cond b (foldl admit s (post_entries a)) s))
        × Good lim (cond b (foldl admit s (post_entries a)) s)
    go true e = entered lim s (post_entries a) g (post_ready lim s a (eqb-true _ _ e))
    go false e = (refl, g)

-- and answer alike
pub post_answers : (lim : Limits) (s : Plain) (a : Post) → Good lim s → post_answer lim (encode lim s) a ≡ plain_answer lim s a
unfolding plain_answer
post_answers lim s a g = post_answer_lem lim (encode lim s) a ∙ ap (λ (v : View). answer (post_refusal lim v a) 0) (view_encode lim s g)

-- ---- a list of posts: the two machines agree at each step

module _ (lim : Limits) where
  -- the bytes are those of the plain ledger
  abbrev pub Holds : List ℕ → Plain → Type 0
  Holds b s = (b ≡ encode lim s) × Good lim s

  pub one_post_lem : (b : List ℕ) (s : Plain) (a : Post) → Holds b s
      → (post_answer lim b a ≡ plain_answer lim s a) × Holds (post_bytes lim b a) (plain_post lim s a)
  one_post_lem b s a h =
      let next = step lim s a h.1 in (
        ap (λ (l : List ℕ). post_answer lim l a) h.0 ∙ post_answers lim s a h.1,
        (ap (λ (l : List ℕ). post_bytes lim l a) h.0 ∙ next.0, next.1),
      )

  pub posts_agree : (b : List ℕ) (s : Plain) → Holds b s → (posts : List Post)
      → (answers (on_bytes lim) b posts ≡ answers (on_plain lim) s posts) × Holds (leaves (on_bytes lim) b posts) (leaves (on_plain lim) s posts)
  posts_agree = agree (on_bytes lim) (on_plain lim) Holds one_post_lem

  -- a ledger that starts fresh
  module _ (p C : ℕ) (fits : lim.last < 2 ^ 64) (range : in_range lim p C ≡ true) where
    pub fresh_holds : Holds (fresh lim p C) (opened p C)
    fresh_holds = (fresh_encode lim p C, good_opened lim p C fits range)

    pub after_fresh : (posts : List Post) → (answers_to lim p C posts ≡ plain_answers_to lim p C posts)
        × Holds (ledger_after lim p C posts) (plain_after lim p C posts)
    after_fresh = posts_agree (fresh lim p C) (opened p C) fresh_holds
