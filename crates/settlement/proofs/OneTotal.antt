-- Digits come out as before: fed the same posts, the sums of the rows add up to what a ledger with one total holds, and closing looks at
-- nothing else of them.
-- Assumes nothing.
use mathlib.Core.Path.{◌≡◌, refl, sym, ap, ap₂, ◌∙◌}
use mathlib.Core.Bool.{Bool, true, false, cond}
use mathlib.Core.List.{List, [], ◌∷◌, foldl}
use Prim.Native.Nat.{ℕ, ◌%◌, ◌^◌, ◌<◌}
use borrow.Author.Tests.{eqb-true}
use lib.Dec.{eqb}
use Rattle.algebra.specs.Machine.{leaves, answers}
use Rattle.algebra.proofs.Machines.{agree}
use Rattle.algebra.proofs.Sums.{sum_zero}
use Rattle.series.specs.Series.{Formula, modulus}
use Rattle.interval.specs.Interval.{is_charged}
use Rattle.run.specs.Refusal.{answer}
use Rattle.run.specs.Run.{Limits, limits_of, in_range, Entry}
use Rattle.run.proofs.Range.{ticket_row}
use Rattle.run.specs.Call.{answered, bytes_left}
use Rattle.ledger.specs.Ledger.{View, view_of, ledger_size, total_of, total_in}
use Rattle.ledger.specs.Plain.{Plain, plain_view, opened, admit, including}
use Rattle.ledger.proofs.RowSums.{total_adding}
use Rattle.ledger.proofs.Image.{total_encode}
use Rattle.posting.specs.Posts.{Post, post_refusal, post_entries, plain_post, plain_answer, on_plain, plain_after, plain_answers_to}
use Rattle.posting.proofs.Simulation.{Ready, post_ready, after_fresh}
use Rattle.closing.specs.Closing.{close_by, close_call}
use Rattle.closing.proofs.Encoded.{answer_encoded, bytes_encoded}
use Rattle.settlement.specs.OneTotal.{OneTotal, one_opened, one_view, one_admit, one_post, one_answer, on_one_total, one_close_answer, one_close_bytes, SameAsOne, SameTotal, AsBefore}

-- ---- the ledger with row sums, seen as one with a total

as_one : Limits → Plain → OneTotal
as_one lim s = record { p = s.p; C = s.C; tickets = s.tickets; total = total_of lim s.sums }

module _ (lim : Limits) where
  as_opened : (p C : ℕ) → as_one lim (opened p C) ≡ one_opened p C
  unfolding as_one opened one_opened total_of
  as_opened p C = ap (λ (n : ℕ). record { p = p; C = C; tickets = λ row block. false; total = n % modulus }) (sum_zero (λ row. 0) 0 lim.rows (λ row. refl))

  as_admit : (s : Plain) (t : Entry) → t.row < lim.rows → as_one lim (admit s t) ≡ one_admit (as_one lim s) t
  unfolding as_one admit one_admit
  as_admit s t h =
      ap (λ (n : ℕ). record { p = s.p; C = s.C; tickets = including t s.tickets; total = n }) (total_adding lim t.row t.sum s.sums h)

  as_all : (s : Plain) (ts : List Entry) → Ready lim s ts → as_one lim (foldl admit s ts) ≡ foldl one_admit (as_one lim s) ts
  as_all s [] r = refl
  as_all s (t ∷ ts) r =
      as_all (admit s t) ts r.2 ∙ ap (λ (o : OneTotal). foldl one_admit o ts) (as_admit s t (ticket_row lim s.C t.row t.block r.0))

  -- the refusal table sees the same of both
  same_view : (s : Plain) → one_view (as_one lim s) ≡ plain_view s
  unfolding as_one one_view plain_view
  same_view s = refl

  as_post : (s : Plain) (a : Post) → as_one lim (plain_post lim s a) ≡ one_post lim (as_one lim s) a
  unfolding plain_post one_post
  as_post s a = rw (same_view s) (go (eqb (post_refusal lim (plain_view s) a) 0) refl)
    where
      go : (b : Bool) → eqb (post_refusal lim (plain_view s) a) 0 ≡ b
          → as_one lim (cond b (foldl admit s (post_entries a)) s) ≡ cond b (foldl one_admit (as_one lim s) (post_entries a)) (as_one lim s)
      go true e = as_all s (post_entries a) (post_ready lim s a (eqb-true _ _ e))
      go false e = refl

  -- the two machines agree at each step
  as_answer : (s : Plain) (a : Post) → plain_answer lim s a ≡ one_answer lim (as_one lim s) a
  unfolding plain_answer one_answer
  as_answer s a = ap (λ (v : View). answer (post_refusal lim v a) 0) (sym (same_view s))

  as_one_lem : (p C : ℕ) (posts : List Post)
      → (plain_answers_to lim p C posts ≡ answers (on_one_total lim) (one_opened p C) posts)
      × (as_one lim (plain_after lim p C posts) ≡ leaves (on_one_total lim) (one_opened p C) posts)
  as_one_lem p C =
      agree (on_plain lim) (on_one_total lim) (λ s o. as_one lim s ≡ o)
      (λ s o a e. (as_answer s a ∙ ap (λ (x : OneTotal). one_answer lim x a) e, as_post s a ∙ ap (λ (x : OneTotal). one_post lim x a) e))
      (opened p C) (one_opened p C) (as_opened p C)

-- ---- as before

same_seen : (lim : Limits) (s t : List ℕ) → SameTotal lim s t → view_of lim s ≡ view_of lim t
unfolding view_of
same_seen lim s t same = λ i. record {
  sized = ap (λ (n : ℕ). eqb n (ledger_size lim)) (same.first.sized ∙ sym same.second.sized) i;
  ordered = (same.first.ordered ∙ sym same.second.ordered) i;
  p = same.same_p i;
  C = same.same_c i;
  marked = λ row block. same.same_marks row block i;
}

module _ (F : Formula) (fits : F.last < 2 ^ 64) where
  same_as_one : (p C : ℕ) → in_range (limits_of F) p C ≡ true → (posts : List Post) → SameAsOne F p C posts
  unfolding as_one
  same_as_one p C range posts =
      let lim = limits_of F in
      let s = plain_after lim p C posts in
      let after = after_fresh lim p C fits range posts in
      let final = after.1.0 in
      let good = after.1.1 in
      let same = as_one_lem lim p C posts in
      let one = same.1 in
      record {
        total = ap (total_in lim) final ∙ total_encode lim s good ∙ ap (λ (o : OneTotal). o.total) one;
        answers = after.0 ∙ same.0;
        closing = λ digits. (
          ap (λ (l : List ℕ). answered (close_call F l digits)) final ∙ answer_encoded F s good digits
              ∙ ap (λ (v : View). answered (close_by is_charged F v (total_of lim s.sums) digits)) (sym (same_view lim s)) ∙ ap (λ (o : OneTotal). one_close_answer F o digits) one,
          ap (λ (l : List ℕ). bytes_left (close_call F l digits) 0) final ∙ bytes_encoded F s good digits
              ∙ ap (λ (v : View). bytes_left (close_by is_charged F v (total_of lim s.sums) digits) 0) (sym (same_view lim s)) ∙ ap (λ (o : OneTotal). one_close_bytes F o digits) one,
        );
      }

  by_total_lem : (s t : List ℕ) → SameTotal (limits_of F) s t → (digits : List ℕ)
      → (answered (close_call F s digits) ≡ answered (close_call F t digits)) × (bytes_left (close_call F s digits) 0 ≡ bytes_left (close_call F t digits) 0)
  by_total_lem s t same digits =
      let seen = same_seen (limits_of F) s t same in (
        ap₂ (λ (v : View) (n : ℕ). answered (close_by is_charged F v n digits)) seen same.same_total,
        ap₂ (λ (v : View) (n : ℕ). bytes_left (close_by is_charged F v n digits) 0) seen same.same_total,
      )

  -- Digits come out as before
  pub as_before : AsBefore F
  as_before = record { same_as_one = same_as_one; by_total = by_total_lem }
