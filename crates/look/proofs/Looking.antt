-- A look is refused as posting is; where it is not, its answer and its total are those of the bytes that posting leaves. So beside posting, and on
-- the ways through the code: by what the tests of posting answered, and by what those of the look did.
-- Assumes nothing.
use mathlib.Core.Path.{◌≡◌, refl, sym, ap, ◌∙◌}
use mathlib.Core.Bool.{Bool, true, false}
use mathlib.Core.List.{List, ◌++◌, [], ◌∷◌}
use Prim.Native.Nat.{ℕ, ◌+◌}
use native.Mathlib.Omega.{arith}
use borrow.Author.Tests.{eq-eqb, ne_eqb, eqb-true, eqb-false}
use lib.Dec.{eqb}
use lib.IntN.{pos, neg_ℤ, negsuc}
use lib.ListN.{length, take, drop}
use Rattle.words.specs.Bytes.{bytes_of}
use Rattle.words.proofs.Bytes.{over_all}
use Rattle.run.specs.Refusal.{refusal}
use Rattle.run.specs.Run.{Limits}
use Rattle.run.specs.Call.{answered, refused_by, all_left, bytes_left, Does}
use Rattle.std.specs.Prelude.{Ok, Err, ⊤}
use Rattle.run.specs.Answers.{Answer, answer_of, Verdict, verdict_of}
use Rattle.run.specs.declared.Refusal.{Refusal}
use Rattle.run.proofs.Answering.{negated, refused, finished, stays, kept, changed, not_refused, refused_by_lem, was_finished, was_number}
use Rattle.run.proofs.Calls.{works, turned_down}
use Rattle.ledger.specs.Ledger.{view_of, total_in}
use Rattle.posting.specs.Calls.{sheet_tests, sheet_post_call}
use Rattle.look.specs.Look.{look_tests, look_call, unmarked_in}
use Rattle.look.specs.AsPosting.{AsPosting, LooksAsPosted}

module _ (lim : Limits) (ledger s total : List ℕ) where
  abbrev look_number : ℕ
  look_number = refusal (look_tests lim (view_of lim ledger) s total)

  abbrev post_number : ℕ
  post_number = refusal (sheet_tests lim (view_of lim ledger) s)

  pub wrong_size_lem : (length total ≡ 16 → ⊥) → look_number ≡ 1
  unfolding look_tests refusal
  wrong_size_lem h = rw (ne_eqb (length total) 16 h) refl

  module _ (room : length total ≡ 16) where
    pub same_number : look_number ≡ post_number
    unfolding look_tests sheet_tests refusal
    same_number = rw (eq-eqb (length total) 16 room) refl

    as_posting : AsPosting lim (sheet_post_call lim ledger s) ledger s total
    unfolding look_call refused_by answered all_left sheet_post_call
    as_posting = record {
      refused = λ n h e.
          let q : look_number ≡ n = same_number ∙ refused_by_lem post_number 0 n h e in
          let some : look_number ≡ 0 → ⊥ = λ z. omega (arith, q, z) in
          (negated look_number _ some ∙ ap (λ (m : ℕ). neg_ℤ (pos m)) q, stays look_number _ total some);
      only_refused = λ n h e.
          let q : post_number ≡ n = sym same_number ∙ refused_by_lem look_number _ n h e in
          negated post_number 0 (λ z. omega (arith, q, z)) ∙ ap (λ (m : ℕ). neg_ℤ (pos m)) q;
      taken = λ e.
          let z = same_number ∙ (not_refused post_number 0 0 e).0 in
          (sym (finished look_number _ z), sym (changed look_number _ total z));
      only_taken = λ n e. sym (finished post_number 0 (sym same_number ∙ (not_refused look_number _ n e).0));
    }

pub looks_as_posted : (lim : Limits) → LooksAsPosted lim
unfolding look_call refused_by answered all_left
looks_as_posted lim = record {
  as_posting = as_posting lim;
  other_size = λ ledger s total h.
      let e = wrong_size_lem lim ledger s total h in
      (sym (refused _ 0 _ e), sym (kept _ 0 _ total e));
}

-- the post would be taken
pub would_take : (lim : Limits) (ledger s : List ℕ) (a : Verdict) (v : ⊤) → verdict_of a ≡ answered (sheet_post_call lim ledger s) → a ≡ Ok v
    → answered (sheet_post_call lim ledger s) ≡ pos 0
unfolding sheet_post_call refused_by answered
would_take lim ledger s a v tested f = sym (finished _ 0 (was_finished 0 _ 0 (sym (ap verdict_of f) ∙ tested)).0)

module _ (lim : Limits) (ledger s total : List ℕ) where
  -- ---- after the tests of posting

  pub other_size : (length total ≡ 16 → ⊥) → negsuc 0 ≡ answered (look_call lim ledger s total)
  unfolding look_call refused_by answered
  other_size h = refused _ 0 _ (wrong_size_lem lim ledger s total h)

  module _ (a : Verdict) (tested : verdict_of a ≡ answered (sheet_post_call lim ledger s)) where
    pub would_remain : length total ≡ 16 → (v : ⊤) (n : ℕ) → a ≡ Ok v → n ≡ unmarked_in lim (bytes_left (sheet_post_call lim ledger s) 0) → pos n ≡ answered (look_call lim ledger s total)
    unfolding sheet_post_call refused_by answered look_call
    would_remain room v n f e = ap pos e ∙ finished _ _ (same_number lim ledger s total room ∙ (was_finished 0 _ 0 (sym (ap verdict_of f) ∙ tested)).0)

    pub would_refuse : length total ≡ 16 → (r : Refusal) → a ≡ Err r → answer_of (Err r) ≡ answered (look_call lim ledger s total)
    unfolding sheet_post_call refused_by answered look_call
    would_refuse room r f =
        let n = was_number r _ 0 (sym (ap verdict_of f) ∙ tested) in
        sym n.2 ∙ refused _ n.0 _ (same_number lim ledger s total room ∙ n.1)

  -- ---- after the tests of the look

  module _ (a : Answer) (tested : answer_of a ≡ answered (look_call lim ledger s total)) where
    module _ (v : ℕ) (f : a ≡ Ok v) where
      no_number : refusal (look_tests lim (view_of lim ledger) s total) ≡ 0
      unfolding look_call refused_by answered
      no_number = (was_finished v _ _ (sym (ap answer_of f) ∙ tested)).0

      pub has_room : length total ≡ 16
      has_room = go (eqb (length total) 16) refl
        where
          go : (b : Bool) → eqb (length total) 16 ≡ b → length total ≡ 16
          go true e = eqb-true (length total) 16 e
          go false e = let w = wrong_size_lem lim ledger s total (eqb-false (length total) 16 e) in absurd (omega (arith, w, no_number))

      pub takes : answered (sheet_post_call lim ledger s) ≡ pos 0
      unfolding sheet_post_call refused_by answered
      takes = sym (finished _ 0 (sym (same_number lim ledger s total has_room) ∙ no_number))

      pub looked : (x : ℕ) (t : List ℕ) → x ≡ total_in lim (bytes_left (sheet_post_call lim ledger s) 0) → t ≡ take 0 total ++ bytes_of 16 x ++ drop (0 + 16) total
          → Does (look_call lim ledger s total) (pos v) (t ∷ [])
      unfolding look_call
      looked x t ex et =
          let d = works (look_call lim ledger s total) a tested v f in
          (d.0, ap (λ (b : List ℕ). b ∷ []) (et ∙ over_all total 16 x has_room ∙ ap (bytes_of 16) ex) ∙ d.1)

    pub not_looked : (r : Refusal) → a ≡ Err r → Does (look_call lim ledger s total) (answer_of (Err r)) (total ∷ [])
    unfolding look_call
    not_looked r f = turned_down (look_call lim ledger s total) a tested r f
