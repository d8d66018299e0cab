-- The tests of a call as code makes them, one after another or part by part: what is left of them decides as long as none before it applies.
-- One law for each step, whatever the number and the call.
-- Assumes nothing.
use mathlib.Core.Path.{◌≡◌, refl, sym, ap, ◌∙◌}
use mathlib.Core.Bool.{Bool, true, false, not, cond}
use mathlib.Core.List.{List, [], ◌∷◌, ◌++◌}
use Prim.Native.Nat.{ℕ, suc}
use native.Mathlib.Omega.{arith}
use borrow.Author.Tests.{ltb-true, not-false}
use lib.Dec.{ltb}
use lib.IntN.{pos, negsuc}
use Rattle.algebra.proofs.Booleans.{and_left, and_right}
use Rattle.run.specs.Refusal.{Test, ◌unless◌, refusal, ascend_above, tested}
use Rattle.run.specs.Run.{Limits, in_range, is_ticket}
use Rattle.run.specs.Tests.{of_ticket}
use Rattle.run.specs.Call.{Call, refused_by, answered}
use Rattle.run.specs.Answers.{answer_of, Verdict, verdict_of}
use Rattle.run.specs.declared.Refusal.{Refusal}
use Rattle.std.specs.Prelude.{Ok, Err, ⊤}
use Rattle.run.proofs.Answering.{passes, skipped, refused_first, was_finished, was_number, refused, finished}

-- ---- tests that are passed

-- the first of them
pub passed : (n : ℕ) (b : Bool) (ts : List Test) → refusal ((suc n unless b) ∷ ts) ≡ 0 → (b ≡ true) × (refusal ts ≡ 0)
passed n b ts e = let h = passes n (not b) ts e in (not-false b h.0, h.1)

-- all of a part, whose numbers are above 0
pub part_passed : (part ts : List Test) (n : ℕ) → ascend_above n part ≡ true → refusal part ≡ 0 → refusal (part ++ ts) ≡ refusal ts
unfolding refusal
part_passed [] ts n a e = refl
part_passed (t ∷ part) ts n a e = go t.applies (part_passed part ts t.number (and_right (ltb n t.number) _ a)) e
  where
    above : 0 ≡ t.number → ⊥
    above q = let h = ltb-true n t.number (and_left (ltb n t.number) _ a) in omega (arith, h, q)

    go : (b : Bool) → (refusal part ≡ 0 → refusal (part ++ ts) ≡ refusal ts) → cond b t.number (refusal part) ≡ 0
        → cond b t.number (refusal (part ++ ts)) ≡ refusal ts
    go true later f = absurd (above (sym f))
    go false later f = later f

-- ---- the tests of a call that are left

pub record Left (c : Call) (ts : List Test) : Type 0 where
  pub decide : refused_by c ≡ refusal ts

module _ {c : Call} {ts : List Test} where
  -- one test
  pub here : {n : ℕ} {b : Bool} → Left c ((suc n unless b) ∷ ts) → b ≡ false → negsuc n ≡ answered c
  unfolding answered refusal
  here {n} left e = refused (refused_by c) n c.value (left.decide ∙ rw e refl)

  pub past : {n : ℕ} {b : Bool} → Left c ((n unless b) ∷ ts) → b ≡ true → Left c ts
  past {n} {b} left e = record { decide = left.decide ∙ skipped n (not b) ts (ap not e) }

-- a part, by what a function answered that made its tests
module _ (part : List Test) (a : Verdict) (made : verdict_of a ≡ tested part) where
  pub part_passes : (v : ⊤) → a ≡ Ok v → refusal part ≡ 0
  part_passes v f = (was_finished 0 (refusal part) 0 (sym (ap verdict_of f) ∙ made)).0

  module _ (ts : List Test) {c : Call} (left : Left c (part ++ ts)) where
    pub part_here : (r : Refusal) → a ≡ Err r → answer_of (Err r) ≡ answered c
    unfolding answered
    part_here r f =
        let n = was_number r (refusal part) 0 (sym (ap verdict_of f) ∙ made) in
        sym n.2 ∙ refused (refused_by c) n.0 c.value (left.decide ∙ refused_first part ts n.0 n.1)

    pub part_past : ascend_above 0 part ≡ true → (v : ⊤) → a ≡ Ok v → Left c ts
    part_past above v f = record { decide = left.decide ∙ part_passed part ts 0 above (part_passes v f) }

-- none is left
pub none_left : {c : Call} → Left c [] → pos c.value ≡ answered c
unfolding answered refusal
none_left {c} left = finished (refused_by c) c.value left.decide

-- ---- what it means that a part is passed

pub ticket_passed : (lim : Limits) (p C row block : ℕ) (ts : List Test) → refusal (of_ticket lim p C row block ++ ts) ≡ 0
    → (in_range lim p C ≡ true) × (is_ticket lim C row block ≡ true) × (refusal ts ≡ 0)
ticket_passed lim p C row block ts e =
    let run = passed 1 _ _ e in
    let ticket = passed 3 _ ts run.1 in
    (run.0, ticket.0, ticket.1)
