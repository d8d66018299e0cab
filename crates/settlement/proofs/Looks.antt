-- Looks and the other calls, for any formula whose positions fit 8 bytes.
-- Assumes nothing.
use mathlib.Core.Path.{◌≡◌, refl, sym, ap, ◌∙◌}
use mathlib.Core.Bool.{Bool, true, false, cond, not}
use mathlib.Core.List.{List, [], ◌∷◌}
use Prim.Native.Nat.{ℕ, ◌^◌, ◌<◌}
use native.Mathlib.Omega.{arith}
use borrow.Author.Tests.{eqb-true}
use lib.Dec.{eqb, lit<}
use lib.IntN.{ℤ, pos, neg_ℤ}
use lib.ListN.{length}
use Rattle.algebra.specs.Machine.{leaves, answers}
use Rattle.algebra.specs.Sum.{sum}
use Rattle.algebra.proofs.Machines.{agree}
use Rattle.algebra.specs.Test.{all_below}
use Rattle.words.specs.Bytes.{bytes_of, value_of, field, AllBytes}
use Rattle.series.specs.Series.{Formula}
use Rattle.series.specs.Bellard.{bellard}
use Rattle.interval.specs.Interval.{is_charged}
use Rattle.run.specs.Refusal.{refusal, answer}
use Rattle.run.specs.Run.{Limits, limits_of, in_range, is_ticket}
use Rattle.run.proofs.Answering.{negated, refused_by_lem}
use Rattle.run.specs.Call.{answered, bytes_left, refused_by, all_left}
use Rattle.ledger.specs.Ledger.{View, total_of, total_in, fresh}
use Rattle.ledger.specs.Plain.{Plain, plain_view, encode, opened, admit, including, adding}
use Rattle.ledger.proofs.Image.{Good, view_encode, total_encode}
use Rattle.sheet.specs.Tests.{sheet_sized}
use Rattle.sheet.specs.Sheet.{sheet_pos, sheet_blocks, sheet_count, row_in, block_in, sum_in, entries_from, entries, every, ascending, well_formed, contents_of, bodies_of, sheet_of}
use Rattle.posting.specs.Posts.{sheet, post_refusal, post_entries, post_bytes, plain_answer, plain_post, on_bytes}
use Rattle.posting.specs.Calls.{sheet_tests, sheet_post_call}
use Rattle.posting.proofs.Simulation.{step, post_answers, Holds, one_post_lem, fresh_holds}
use Rattle.look.specs.Look.{unmarked_of, unmarked_in, look_tests, look_call}
use Rattle.look.proofs.Posted.{all_in, post_leaves}
use Rattle.look.proofs.Unmarked.{all_less_marks, none_left}
use Rattle.look.proofs.Looking.{looks_as_posted}
use Rattle.closing.specs.Closing.{settled_at, close_by, close_call}
use Rattle.closing.proofs.Encoded.{answer_encoded}
use Rattle.settlement.specs.Looks.{Step, posting, looking, outcome, step_outcome, step_bytes, plain_outcome, plain_step, steps_on_bytes, steps_on_plain, posts_among, Looks, some_steps, LooksTaken}

-- ---- looks among posts

unseen : (lim : Limits) (ledger : List ℕ) (steps : List Step)
    → leaves (steps_on_bytes lim) ledger steps ≡ leaves (on_bytes lim) ledger (posts_among steps)
unfolding leaves step_bytes posts_among
unseen lim ledger [] = refl
unseen lim ledger (posting a ∷ steps) = unseen lim (post_bytes lim ledger a) steps
unseen lim ledger (looking s total ∷ steps) = unseen lim ledger steps

module _ (lim : Limits) where
  -- one step: the look sees the plain ledger, and so does the post whose bytes it counts in
  step_outcome_lem : (plain : Plain) (a : Step) → Good lim plain → step_outcome lim (encode lim plain) a ≡ plain_outcome lim plain a
  unfolding step_outcome plain_outcome look_call refused_by answered all_left post_bytes
  step_outcome_lem plain (posting a) g = ap (λ (z : ℤ). outcome z []) (post_answers lim plain a g)
  step_outcome_lem plain (looking s total) g =
      let left = plain_post lim plain (sheet s) in
      let h = step lim plain (sheet s) g in
      let seen = view_encode lim plain g in
      let n = ap (λ (v : View). refusal (look_tests lim v s total)) seen in
      let count = ap (unmarked_in lim) h.0 ∙ ap (unmarked_of lim) (view_encode lim left h.1) in
      let sum = ap (total_in lim) h.0 ∙ total_encode lim left h.1 in
      rw (n, count, sum) refl

  one_step : (b : List ℕ) (plain : Plain) (a : Step) → Holds lim b plain
      → (step_outcome lim b a ≡ plain_outcome lim plain a) × Holds lim (step_bytes lim b a) (plain_step lim plain a)
  unfolding step_bytes plain_step
  one_step b plain (posting a) h =
      (ap (λ (l : List ℕ). step_outcome lim l (posting a)) h.0 ∙ step_outcome_lem plain (posting a) h.1, (one_post_lem lim b plain a h).1)
  one_step b plain (looking s total) h =
      (ap (λ (l : List ℕ). step_outcome lim l (looking s total)) h.0 ∙ step_outcome_lem plain (looking s total) h.1, h)

-- ---- 0 where the run is full

module _ (F : Formula) (fits : F.last < 2 ^ 64) (ledger s total digits : List ℕ) (bytes : AllBytes ledger)
    (taken : answered (sheet_post_call (limits_of F) ledger s) ≡ pos 0) (room : length total ≡ 16) (wide : length digits ≡ 32) where
  abbrev lim : Limits
  lim = limits_of F

  -- the plain ledger that the post leaves, its unmarked tickets, and the digits that its total settles
  abbrev remains : Plain
  remains = all_in lim fits ledger s bytes taken

  abbrev rest : ℕ
  rest = unmarked_in lim (bytes_left (sheet_post_call lim ledger s) 0)

  abbrev d : ℕ
  d = settled_at is_charged F remains.p (total_of lim remains.sums)

  rest_is : rest ≡ unmarked_of lim (plain_view remains)
  rest_is =
      let l = post_leaves lim fits ledger s bytes taken in
      ap (unmarked_in lim) l.0 ∙ ap (unmarked_of lim) (view_encode lim remains l.1)

  closes : answered (close_call F (bytes_left (sheet_post_call lim ledger s) 0) digits) ≡ answer (cond (not (eqb rest 0)) 8 (cond (eqb d 0) 9 0)) d
  unfolding close_by answered refused_by refusal plain_view
  closes =
      let l = post_leaves lim fits ledger s bytes taken in
      let full = sym (none_left lim (plain_view remains)) ∙ ap (λ (n : ℕ). eqb n 0) (sym rest_is) in
      ap (λ (b : List ℕ). answered (close_call F b digits)) l.0 ∙ answer_encoded F remains l.1 digits ∙ rw (wide, full) refl

  looks : answered (look_call lim ledger s total) ≡ pos rest
  looks = (((looks_as_posted lim).as_posting ledger s total room).taken taken).0

  not_eight : rest ≡ 0 → answered (close_call F (bytes_left (sheet_post_call lim ledger s) 0) digits) ≡ neg_ℤ (pos 8) → ⊥
  not_eight z e =
      let n = refused_by_lem _ d 8 (omega arith) (sym closes ∙ e) in
      go (eqb d 0) (sym (ap (λ (k : ℕ). cond (not (eqb k 0)) 8 (cond (eqb d 0) 9 0)) z) ∙ n)
    where
      go : (b : Bool) → ◌≡◌ {A = ℕ} (cond b 9 0) 8 → ⊥
      go true q = omega arith
      go false q = omega arith

  none_remain : (answered (close_call F (bytes_left (sheet_post_call lim ledger s) 0) digits) ≡ neg_ℤ (pos 8) → ⊥) → rest ≡ 0
  none_remain f = go (eqb rest 0) refl
    where
      go : (b : Bool) → eqb rest 0 ≡ b → rest ≡ 0
      go true e = eqb-true rest 0 e
      go false e = absurd (f (closes ∙ ap (λ (b : Bool). answer (cond (not b) 8 (cond (eqb d 0) 9 0)) d) e ∙ negated 8 d (λ z. omega (arith, z))))

  zero_where_full : (answered (look_call lim ledger s total) ≡ pos 0 → answered (close_call F (bytes_left (sheet_post_call lim ledger s) 0) digits) ≡ neg_ℤ (pos 8) → ⊥)
      × ((answered (close_call F (bytes_left (sheet_post_call lim ledger s) 0) digits) ≡ neg_ℤ (pos 8) → ⊥) → answered (look_call lim ledger s total) ≡ pos 0)
  zero_where_full = (
    λ e. not_eight (same (sym looks ∙ e)),
    λ f. looks ∙ ap pos (none_remain f),
  )
    where
      same : {m n : ℕ} → pos m ≡ pos n → m ≡ n
      same e = cc

module _ (F : Formula) (fits : F.last < 2 ^ 64) where
  as_plain : (p C : ℕ) → in_range (limits_of F) p C ≡ true → (steps : List Step)
      → answers (steps_on_bytes (limits_of F)) (fresh (limits_of F) p C) steps ≡ answers (steps_on_plain (limits_of F)) (opened p C) steps
  as_plain p C range steps =
      let lim = limits_of F in
      (agree (steps_on_bytes lim) (steps_on_plain lim) (Holds lim) (one_step lim) (fresh lim p C) (opened p C) (fresh_holds lim p C fits range) steps).0

  pub looks_hold : Looks F
  looks_hold = record {
    as_posted = looks_as_posted (limits_of F);
    all_less_marks = all_less_marks (limits_of F);
    zero_where_full = zero_where_full F fits;
    unseen = unseen (limits_of F);
    as_plain = as_plain;
  }

-- by computation on the plain ledger
pub looks_taken : LooksTaken
unfolding answers plain_outcome plain_step plain_answer plain_post plain_view post_refusal post_entries opened admit including adding look_tests sheet_tests sheet_sized refusal answer in_range is_ticket unmarked_of total_of sum all_below well_formed ascending every entries entries_from sheet_count sheet_pos sheet_blocks row_in block_in sum_in field value_of sheet_of contents_of bodies_of bytes_of
looks_taken = as_plain bellard (lit< tt) 1 1 refl some_steps
