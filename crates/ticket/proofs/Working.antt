-- Working and quoting a part of a ticket: the tests that come first, and what the call answers and leaves then.
-- Assumes nothing.
use mathlib.Core.Path.{◌≡◌, ap, ap₂, ◌∙◌}
use mathlib.Core.Bool.{Bool, true}
use mathlib.Core.List.{List, [], ◌∷◌, ◌++◌}
use Prim.Native.Nat.{ℕ, ◌+◌}
use borrow.Author.Tests.{eqb-true}
use lib.IntN.{pos}
use lib.ListN.{length, take, drop}
use Rattle.algebra.proofs.Booleans.{and_left, and_right}
use Rattle.words.specs.Bytes.{bytes_of}
use Rattle.words.proofs.Bytes.{over_all}
use Rattle.series.specs.Series.{Formula}
use Rattle.run.specs.Refusal.{tested}
use Rattle.run.specs.Run.{limits_of, in_range, is_ticket}
use Rattle.std.specs.Prelude.{Ok, Err, ⊤}
use Rattle.run.specs.Answers.{answer_of, Verdict, verdict_of}
use Rattle.run.specs.declared.Refusal.{Refusal}
use Rattle.run.specs.Call.{refused_by, answered, Does}
use Rattle.run.proofs.Testing.{passed, part_passes, ticket_passed}
use Rattle.run.proofs.Calls.{finishes, was_passed, turned_back}
use Rattle.ticket.specs.Parts.{part_sum, part_squarings}
use Rattle.ticket.specs.declared.Part.{Part}
use Rattle.ticket.specs.Work.{is_sized, both_sized, part_tests, work_call, quote_call}

-- a slice written over
wrote : (x y : ℕ) (s s₁ : List ℕ) → length s ≡ 16 → x ≡ y → s₁ ≡ take 0 s ++ bytes_of 16 x ++ drop (0 + 16) s → s₁ ≡ bytes_of 16 y
wrote x y s s₁ h q w = w ∙ over_all s 16 x h ∙ ap (bytes_of 16) q

has_size : (s : List ℕ) → is_sized s ≡ true → length s ≡ 16
unfolding is_sized
has_size s e = eqb-true (length s) 16 e

-- ---- working

module _ (F : Formula) (p C row block : ℕ) (out squarings : List ℕ) (b : Bool) (s : b ≡ both_sized out squarings)
    (a : Verdict) (e : verdict_of a ≡ tested (part_tests F p C row block b)) where
  made : verdict_of a ≡ tested (part_tests F p C row block (both_sized out squarings))
  made = e ∙ ap (λ (sized : Bool). tested (part_tests F p C row block sized)) s

  pub to_work : (v : ⊤) → a ≡ Ok v → (length out ≡ 16) × (length squarings ≡ 16)
      × (in_range (limits_of F) p C ≡ true) × (is_ticket (limits_of F) C row block ≡ true)
  unfolding part_tests both_sized
  to_work v f =
      let sizes = passed 0 _ _ (part_passes _ a made v f) in
      let t = ticket_passed (limits_of F) p C row block [] sizes.1 in
      (has_size out (and_left (is_sized out) _ sizes.0), has_size squarings (and_right (is_sized out) _ sizes.0), t.0, t.1)

  module _ (part : Part) where
    -- working is tested so, whatever the part
    so_tested : verdict_of a ≡ answered (work_call F part p C row block out squarings)
    unfolding work_call refused_by answered
    so_tested = made

    pub worked : (v : ⊤) → a ≡ Ok v → (x y : ℕ) (out₁ squarings₁ : List ℕ)
        → (x ≡ part_sum F part p C row block) × (y ≡ part_squarings F part p C row block)
        → out₁ ≡ take 0 out ++ bytes_of 16 x ++ drop (0 + 16) out → squarings₁ ≡ take 0 squarings ++ bytes_of 16 y ++ drop (0 + 16) squarings
        → Does (work_call F part p C row block out squarings) (pos 0) (out₁ ∷ squarings₁ ∷ [])
    unfolding work_call
    worked v f x y out₁ squarings₁ q w u =
        let l = to_work v f in
        let d = finishes (work_call F part p C row block out squarings) (was_passed _ a so_tested v f) in
        (d.0, ap₂ (λ (s t : List ℕ). s ∷ t ∷ []) (wrote x _ out out₁ l.0 q.0 w) (wrote y _ squarings squarings₁ l.1 q.1 u) ∙ d.1)

    pub not_worked : (n : Refusal) → a ≡ Err n → Does (work_call F part p C row block out squarings) (answer_of (Err n)) (out ∷ squarings ∷ [])
    unfolding work_call
    not_worked n f = turned_back (work_call F part p C row block out squarings) a so_tested n f

-- ---- quoting

module _ (F : Formula) (p C row block : ℕ) (out : List ℕ) (b : Bool) (s : b ≡ is_sized out) (a : Verdict)
    (e : verdict_of a ≡ tested (part_tests F p C row block b)) where
  asked : verdict_of a ≡ tested (part_tests F p C row block (is_sized out))
  asked = e ∙ ap (λ (sized : Bool). tested (part_tests F p C row block sized)) s

  pub to_quote : (v : ⊤) → a ≡ Ok v → (length out ≡ 16) × (in_range (limits_of F) p C ≡ true) × (is_ticket (limits_of F) C row block ≡ true)
  unfolding part_tests
  to_quote v f =
      let size = passed 0 _ _ (part_passes _ a asked v f) in
      let t = ticket_passed (limits_of F) p C row block [] size.1 in
      (has_size out size.0, t.0, t.1)

  module _ (part : Part) where
    so_asked : verdict_of a ≡ answered (quote_call F part p C row block out)
    unfolding quote_call refused_by answered
    so_asked = asked

    pub quoted : (v : ⊤) → a ≡ Ok v → (x : ℕ) (out₁ : List ℕ) → x ≡ part_squarings F part p C row block
        → out₁ ≡ take 0 out ++ bytes_of 16 x ++ drop (0 + 16) out → Does (quote_call F part p C row block out) (pos 0) (out₁ ∷ [])
    unfolding quote_call
    quoted v f x out₁ q w =
        let d = finishes (quote_call F part p C row block out) (was_passed _ a so_asked v f) in
        (d.0, ap (λ (s : List ℕ). s ∷ []) (wrote x _ out out₁ (to_quote v f).0 q w) ∙ d.1)

    pub not_quoted : (n : Refusal) → a ≡ Err n → Does (quote_call F part p C row block out) (answer_of (Err n)) (out ∷ [])
    unfolding quote_call
    not_quoted n f = turned_back (quote_call F part p C row block out) a so_asked n f
