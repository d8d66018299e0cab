-- What holds of every call.
-- Assumes nothing.
use mathlib.Core.Path.{◌≡◌, refl, sym, ap, ap₂, ◌∙◌}
use mathlib.Core.Bool.{Bool, true, false, cond}
use mathlib.Core.List.{List, [], ◌∷◌}
use Prim.Native.Nat.{ℕ, suc, ◌≤◌}
use native.Mathlib.Omega.{arith}
use borrow.Author.Tests.{leb-true}
use lib.Dec.{leb}
use lib.IntN.{pos, negsuc}
use lib.ListN.{get_or}
use Rattle.algebra.proofs.Booleans.{and_left, and_right}
use Rattle.run.specs.Refusal.{Test, last_number, refusal, ascend_above, up_to, Smallest}
use Rattle.run.specs.Call.{Slice, Call, refused_by, answered, each_was, each_becomes, each_left, all_left, bytes_left, Does, WorkedOrRefused}
use Rattle.run.specs.Answers.{Answer, answer_of, Verdict, verdict_of}
use Rattle.run.specs.declared.Refusal.{Refusal}
use Rattle.std.specs.Prelude.{Ok, Err, ⊤}
use Rattle.run.proofs.Answering.{refused, finished, negated, stays, changed, was_finished, was_number}
use Rattle.run.proofs.Smallest.{smallest}

at_most : (n : ℕ) (ts : List Test) → up_to n ts ≡ true → refusal ts ≤ n
unfolding refusal
at_most n [] e = omega arith
at_most n (t ∷ ts) e =
    go t.applies (leb-true t.number n (and_left (leb t.number n) _ e)) (at_most n ts (and_right (leb t.number n) _ e))
  where
    go : (b : Bool) → t.number ≤ n → refusal ts ≤ n → cond b t.number (refusal ts) ≤ n
    go true h l = h
    go false h l = l

all_stay : (n : ℕ) (ss : List Slice) → (n ≡ 0 → ⊥) → each_left n ss ≡ each_was ss
all_stay n [] f = refl
all_stay n (s ∷ ss) f = ap₂ (λ (x : List ℕ) (l : List (List ℕ)). x ∷ l) (stays n s.becomes s.was f) (all_stay n ss f)

all_change : (n : ℕ) (ss : List Slice) → n ≡ 0 → each_becomes ss ≡ each_left n ss
all_change n [] e = refl
all_change n (s ∷ ss) e = ap₂ (λ (x : List ℕ) (l : List (List ℕ)). x ∷ l) (changed n s.becomes s.was e) (all_change n ss e)

pub every_call : (c : Call) → WorkedOrRefused c
unfolding refused_by answered all_left
every_call c = record {
  in_table = at_most last_number c.tests (and_right (ascend_above 0 c.tests) _ c.in_order);
  worked = λ z. sym (finished (refusal c.tests) c.value z);
  refused = λ f. (negated (refusal c.tests) c.value f, all_stay _ c.slices f);
}

-- it refuses by the smallest number that applies
pub by_smallest : (c : Call) → Smallest c.tests (refused_by c)
unfolding refused_by
by_smallest c = smallest c.tests (and_left (ascend_above 0 c.tests) _ c.in_order)

-- slice i of what is left
pub leaves : (c : Call) {after : List (List ℕ)} → after ≡ all_left c → (i : ℕ) → get_or after i [] ≡ bytes_left c i
leaves c e i = ap (λ (l : List (List ℕ)). get_or l i []) e

-- ---- by the number

module _ (c : Call) where
  pub refuses : (n : ℕ) → refused_by c ≡ suc n → Does c (negsuc n) (each_was c.slices)
  unfolding answered all_left
  refuses n e = (refused (refused_by c) n c.value e, sym (all_stay (refused_by c) c.slices (λ z. omega arith)))

  pub finishes : refused_by c ≡ 0 → Does c (pos c.value) (each_becomes c.slices)
  unfolding answered all_left
  finishes e = (finished (refused_by c) c.value e, all_change (refused_by c) c.slices e)

  -- ---- by what a function that made the tests answered

  refused_as : (r : Refusal) → answer_of (Err r) ≡ answered c → Does c (answer_of (Err r)) (each_was c.slices)
  unfolding answered
  refused_as r e = (e, (refuses _ (was_number r (refused_by c) c.value e).1).1)

  module _ (a : Answer) (tested : answer_of a ≡ answered c) where
    pub was_worked : (v : ℕ) → a ≡ Ok v → (refused_by c ≡ 0) × (v ≡ c.value)
    unfolding answered
    was_worked v f = was_finished v (refused_by c) c.value (sym (ap answer_of f) ∙ tested)

    pub works : (v : ℕ) → a ≡ Ok v → Does c (pos v) (each_becomes c.slices)
    works v f = (sym (ap answer_of f) ∙ tested, (finishes (was_worked v f).0).1)

    pub turned_down : (r : Refusal) → a ≡ Err r → Does c (answer_of (Err r)) (each_was c.slices)
    turned_down r f = refused_as r (sym (ap answer_of f) ∙ tested)

  -- the same where they have no value
  module _ (a : Verdict) (tested : verdict_of a ≡ answered c) where
    pub was_passed : (v : ⊤) → a ≡ Ok v → refused_by c ≡ 0
    unfolding answered
    was_passed v f = (was_finished 0 (refused_by c) c.value (sym (ap verdict_of f) ∙ tested)).0

    pub turned_back : (r : Refusal) → a ≡ Err r → Does c (answer_of (Err r)) (each_was c.slices)
    turned_back r f = refused_as r (sym (ap verdict_of f) ∙ tested)
