-- The ways through closing: the number of the refusal for each test in order, and the digits written where none applies.
-- Assumes nothing.
use mathlib.Core.Path.{◌≡◌, refl, sym, ap, ◌∙◌, subst}
use mathlib.Core.Bool.{Bool, true, false, cond, ◌&&◌}
use mathlib.Core.List.{List, [], ◌∷◌, ◌++◌}
use Prim.Native.Nat.{ℕ, ◌+◌, ◌/◌, ◌%◌, ◌^◌, ◌<◌, ◌≤◌}
use native.Mathlib.Nat.{le_of_suc-le-suc, lt_of_not-le}
use native.Mathlib.Omega.{arith}
use borrow.Author.Tests.{eqb-true, eqb-false, eq-eqb, ne_eqb}
use lib.Dec.{eqb}
use lib.IntN.{ℤ, pos, negsuc, sub_ℕ}
use lib.ListN.{length, drop}
use Rattle.algebra.specs.Test.{all_below}
use Rattle.algebra.specs.Whole.{quotient}
use Rattle.algebra.proofs.Booleans.{and_left, and_right, and_both, left_fails, right_fails}
use Rattle.algebra.proofs.Below.{all_ext}
use Rattle.algebra.proofs.Integers.{sub_pos}
use Rattle.words.proofs.Order.{sub_exact}
use Rattle.series.specs.Series.{Formula, row_count, term_count, plus, minus}
use Rattle.series.specs.Fitting.{Position}
use Rattle.series.specs.Names.{formula_of}
use Rattle.series.specs.declared.Series.{Series}
use Rattle.series.specs.declared.Series.TheVariants.{Bellard, Check}
use Rattle.digits.specs.Digits.{unit_at, settled, low_digits}
use Rattle.digits.proofs.Settled.{settled_within}
use Rattle.digits.proofs.TopDigits.{negative_none}
use Rattle.interval.specs.Interval.{Rule, is_charged, low, high, charges}
use Rattle.run.specs.Refusal.{Test, ◌⇐◌, ◌unless◌, refusal}
use Rattle.run.specs.Run.{Limits, limits_of, in_range}
use Rattle.run.specs.Tests.{of_sizes}
use Rattle.run.proofs.Range.{Range, range_of, is_ticket_lem}
use Rattle.std.specs.Prelude.{Ok, Err}
use Rattle.run.specs.Answers.{Answer, answer_of}
use Rattle.run.specs.declared.Refusal.{Refusal}
use Rattle.run.proofs.Answering.{passes, skipped, refused, finished, was_finished}
use Rattle.run.specs.Call.{Call, answered, refused_by, Does}
use Rattle.run.proofs.Testing.{Left, here, past, passed}
use Rattle.run.proofs.Calls.{works, turned_down}
use Rattle.ledger.specs.Ledger.{View, view_of, ledger_size, pos_in, blocks_in, total_in, bit_in, mark_in, in_order}
use Rattle.closing.specs.Closing.{Ordered, low_of, high_of, settled_at, digits_at, close_by, close_call}

-- ---- what an ordered ledger says

order_range : (lim : Limits) (s : List ℕ) → in_order lim s ≡ true → Range lim (pos_in s) (blocks_in s)
unfolding in_order
order_range lim s e = range_of lim (pos_in s) (blocks_in s) (and_left (in_range lim (pos_in s) (blocks_in s)) _ (and_left _ _ e))

pub ordered_position : (F : Formula) (s : List ℕ) → in_order (limits_of F) s ≡ true → Position F (pos_in s)
ordered_position F s e = let r = order_range (limits_of F) s e in record { low = r.p_low; high = r.p_high }

pub ordered_blocks : (lim : Limits) (s : List ℕ) → in_order lim s ≡ true → blocks_in s ≤ 256
ordered_blocks lim s e = (order_range lim s e).c_high

-- the bits of the run's tickets are their marks
pub bits_are_marks : (lim : Limits) (s : List ℕ)
    → all_below lim.rows (λ row. all_below (blocks_in s) (λ block. bit_in lim s row block))
    ≡ all_below lim.rows (λ row. all_below (blocks_in s) (λ block. mark_in lim s row block))
unfolding mark_in
bits_are_marks lim s =
    all_ext lim.rows _ _ (λ row h. all_ext (blocks_in s) _ _ (λ block l. rw (is_ticket_lem lim (blocks_in s) row block h l) refl))

-- ---- the tests in their order

last_test : (c : Bool) → refusal ((9 ⇐ c) ∷ []) ≡ cond c 9 0
unfolding refusal
last_test c = refl

module _ (F : Formula) (s out : List ℕ) where
  abbrev this : Call
  this = close_call F s out

  abbrev full : Bool
  full = all_below (row_count F) (λ row. all_below (blocks_in s) (λ block. bit_in (limits_of F) s row block))

  abbrev d : ℕ
  d = settled_at is_charged F (pos_in s) (total_in (limits_of F) s)

  -- the last two tests
  abbrev of_run : List Test
  of_run = (8 unless full) ∷ (9 ⇐ eqb d 0) ∷ []

  all_tests : Left this (of_sizes (eqb (length s) (ledger_size (limits_of F)) && eqb (length out) 32) ++ (5 unless in_order (limits_of F) s) ∷ of_run)
  unfolding close_by refused_by view_of
  all_tests = record { decide = rw (← bits_are_marks (limits_of F) s) refl }

  pub ledger_size_lem : (length s ≡ ledger_size (limits_of F) → ⊥) → negsuc 0 ≡ answered this
  ledger_size_lem h = here all_tests (left_fails _ _ (ne_eqb _ _ h))

  pub digits_size : (length out ≡ 32 → ⊥) → negsuc 0 ≡ answered this
  digits_size h = here all_tests (right_fails (eqb (length s) (ledger_size (limits_of F))) _ (ne_eqb _ _ h))

  module _ (sized : length s ≡ ledger_size (limits_of F)) (room : length out ≡ 32) where
    from_order : Left this ((5 unless in_order (limits_of F) s) ∷ of_run)
    from_order = past all_tests (and_both (eqb (length s) (ledger_size (limits_of F))) _ (eq-eqb _ _ sized) (eq-eqb _ _ room))

    pub out_of_order : in_order (limits_of F) s ≡ false → negsuc 4 ≡ answered this
    out_of_order h = here from_order h

    module _ (order : in_order (limits_of F) s ≡ true) where
      pub unmarked : full ≡ false → negsuc 7 ≡ answered this
      unmarked h = here (past from_order order) h

      module _ (h : full ≡ true) where
        last : refused_by this ≡ cond (eqb d 0) 9 0
        last = (past (past from_order order) h).decide ∙ last_test (eqb d 0)

        pub unsettled : d ≡ 0 → negsuc 8 ≡ answered this
        unfolding answered
        unsettled z = refused (refused_by this) 8 _ (last ∙ rw z refl)

        pub closes : (d ≡ 0 → ⊥) → pos d ≡ answered this
        unfolding close_by answered view_of
        closes n = finished (refused_by this) _ (last ∙ rw (ne_eqb d 0 n) refl)

-- ---- the lower end, where a digit is settled

pub settled_few : (F : Formula) (p total : ℕ) → settled_at is_charged F p total ≤ 32
unfolding settled_at
settled_few F p total = settled_within (low_of is_charged F p total) (high_of is_charged F p total)

-- it is not below 0
pub low_in : (R : Rule) (F : Formula) (p total : ℕ) → (settled_at R F p total ≡ 0 → ⊥) → charges R F minus p (term_count F p) + 1 ≤ total
unfolding settled_at low high
low_in R F p total n = le_of_suc-le-suc (lt_of_not-le (λ h. n (sym (negative_none total (charges R F minus p (term_count F p) + 1) _ h))))

pub low_is : (F : Formula) (M p total r : ℕ) → (settled_at is_charged F p total ≡ 0 → ⊥) → total < M → r < M
    → (r + (charges is_charged F minus p (term_count F p) + 1)) % M ≡ total → low_of is_charged F p total ≡ pos r
unfolding low
low_is F M p total r n h l e =
    let i = low_in is_charged F p total n in
    sub_pos total (charges is_charged F minus p (term_count F p) + 1) i ∙ ap pos (sym (sub_exact M total (charges is_charged F minus p (term_count F p) + 1) r h l i e))

-- ---- what the code reads of a ledger

pub position_read : (F : Formula) (s : List ℕ) (p : ℕ) → Ordered (limits_of F) s → p ≡ pos_in s → Position F p
position_read F s p o e = subst (λ (n : ℕ). Position F n) (sym e) (ordered_position F s o.ordered)

pub blocks_read : (lim : Limits) (s : List ℕ) (c : ℕ) → in_order lim s ≡ true → c ≡ blocks_in s → c ≤ 256
blocks_read lim s c o e = subst (λ (n : ℕ). n ≤ 256) (sym e) (ordered_blocks lim s o)

pub full_read : (F : Formula) (s : List ℕ) (c : ℕ) (r : Bool) → c ≡ blocks_in s
    → r ≡ all_below (row_count F) (λ row. all_below c (λ block. bit_in (limits_of F) s row block))
    → r ≡ all_below (row_count F) (λ row. all_below (blocks_in s) (λ block. bit_in (limits_of F) s row block))
full_read F s c r b e = rw b at e

pub count_small : (f : Series) (p : ℕ) → Position (formula_of f) p → term_count (formula_of f) p ≤ 2 ^ 60
unfolding term_count
count_small Bellard p h = omega (arith, h)
count_small Check p h = omega (arith, h)

module _ (F : Formula) (s : List ℕ) (p b T : ℕ) (p-is : p ≡ pos_in s) (b-is : b ≡ charges is_charged F minus p (term_count F p))
    (T-is : T ≡ total_in (limits_of F) s) where
  pub settle_is : (a d : ℕ) → a ≡ charges is_charged F plus p (term_count F p) → d ≡ settled (sub_ℕ T (b + 1)) (pos (T + a + 1)) → d ≡ settled_at is_charged F (pos_in s) (total_in (limits_of F) s)
  unfolding settled_at low high
  settle_is a d a-is e = rw (b-is, a-is, p-is, T-is) at e

  pub lower_is : (r x : ℕ) → (settled_at is_charged F (pos_in s) (total_in (limits_of F) s) ≡ 0 → ⊥) → T < 2 ^ 128 → r < 2 ^ 128 → x ≡ b + 1 → (r + x) % 2 ^ 128 ≡ T
      → low_of is_charged F (pos_in s) (total_in (limits_of F) s) ≡ pos r
  lower_is r x n t l x_is e =
      low_is F (2 ^ 128) (pos_in s) (total_in (limits_of F) s) r n (subst (λ (m : ℕ). m < 2 ^ 128) T-is t) l (rw (x_is, b-is, p-is, T-is) at e)

-- ---- what has been tested where nothing is refused

pub record Tested (F : Formula) (s out : List ℕ) : Type 0 where
  pub ordered : Ordered (limits_of F) s
  pub room : length out ≡ 32
  pub some : settled_at is_charged F (pos_in s) (total_in (limits_of F) s) ≡ 0 → ⊥

pub tested : (F : Formula) (s out : List ℕ) → refused_by (close_call F s out) ≡ 0 → Tested F s out
unfolding close_by refused_by view_of
tested F s out e =
    let e₁ = passed 0 _ _ e in
    let e₅ = passed 4 _ _ e₁.1 in
    let e₈ = passes 7 _ _ e₅.1 in
    let e₉ = passes 8 _ _ e₈.1 in
    let sized = eqb (length s) (ledger_size (limits_of F)) in
    record {
      ordered = record { sized = eqb-true _ _ (and_left sized _ e₁.0); ordered = e₅.0 };
      room = eqb-true _ _ (and_right sized _ e₁.0);
      some = eqb-false (settled_at is_charged F (pos_in s) (total_in (limits_of F) s)) 0 e₉.0;
    }

-- where a ledger is not refused, another total or another rule can bring 9 alone
pub nine_alone : (R S : Rule) (F : Formula) (v : View) (total other : ℕ) (out : List ℕ) → refused_by (close_by R F v total out) ≡ 0
    → refused_by (close_by S F v other out) ≡ cond (eqb (settled_at S F v.p other) 0) 9 0
unfolding close_by refused_by
nine_alone R S F v total other out e =
    let e₁ = passes 0 _ _ e in
    let e₅ = passes 4 _ _ e₁.1 in
    let e₈ = passes 7 _ _ e₅.1 in
    skipped 1 _ _ e₁.0 ∙ skipped 5 _ _ e₅.0 ∙ skipped 8 _ _ e₈.0 ∙ last_test _

pub was_closed : (F : Formula) (s out : List ℕ) (a : Answer) (d : ℕ) → answer_of a ≡ answered (close_call F s out) → a ≡ Ok d
    → (refused_by (close_call F s out) ≡ 0) × (d ≡ settled_at is_charged F (pos_in s) (total_in (limits_of F) s))
unfolding close_by answered view_of
was_closed F s out a d e f = was_finished d _ _ (sym (ap answer_of f) ∙ e)

pub not_closed : (F : Formula) (s out : List ℕ) (a : Answer) (r : Refusal) → answer_of a ≡ answered (close_call F s out) → a ≡ Err r
    → Does (close_call F s out) (answer_of (Err r)) (out ∷ [])
unfolding close_by
not_closed F s out a r e f = turned_down (close_call F s out) a e r f

-- ---- what is written

pub digits_written : (F : Formula) (s out : List ℕ) (a : Answer) (d : ℕ) → answer_of a ≡ answered (close_call F s out) → a ≡ Ok d → (t : List ℕ) (x : ℕ)
    → t ≡ low_digits d (pos (x / unit_at d)) ++ drop d out → low_of is_charged F (pos_in s) (total_in (limits_of F) s) ≡ pos x
    → Does (close_call F s out) (pos d) (t ∷ [])
unfolding close_by digits_at view_of
digits_written F s out a d e f t x et l =
    let w = works (close_call F s out) a e d f in (
      w.0,
      ap (λ (b : List ℕ). b ∷ []) (et
          ∙ ap (λ (z : ℤ). low_digits d (quotient z (unit_at d)) ++ drop d out) (sym l)
          ∙ ap (λ (k : ℕ). low_digits k (quotient (low_of is_charged F (pos_in s) (total_in (limits_of F) s)) (unit_at k)) ++ drop k out) (was_closed F s out a d e f).1)
          ∙ w.1,
    )
