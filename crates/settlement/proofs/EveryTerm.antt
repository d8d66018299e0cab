-- Nowhere wider than before: a narrower interval around a total settles at least the digits that the wider one settles, and the same.
-- Assumes nothing.
use mathlib.Core.Path.{◌≡◌, sym, ap, ◌∙◌, subst}
use mathlib.Core.Bool.{Bool, true, false, cond}
use mathlib.Core.List.{List, ◌++◌}
use Prim.Native.Nat.{ℕ, ◌+◌, ◌-◌, ◌*◌, ◌/◌, ◌^◌, ◌≤◌, ◌<◌}
use native.Mathlib.Nat.{le_refl}
use native.Mathlib.Omega.{arith}
use borrow.Author.Tests.{ne_eqb}
use lib.Dec.{eqb}
use lib.IntN.{ℤ, pos, sub_ℕ}
use lib.ListN.{take, drop}
use lib.Pow.{shr_mono}
use lib.Seq.{take-append-le}
use lib.Signed.{◌≤ℤ◌}
use Rattle.algebra.specs.Whole.{quotient}
use Rattle.algebra.proofs.Integers.{sub_pos, Diff, diff_sub, diff_le}
use Rattle.series.specs.Series.{Formula, Side, plus, minus, term_count}
use Rattle.series.proofs.Sides.{side_le}
use Rattle.digits.specs.Digits.{unit_at, Settles, settled, low_digits}
use Rattle.digits.proofs.Settled.{at_most, settled_greatest}
use Rattle.digits.proofs.TopDigits.{fewer_digits, length_low}
use Rattle.interval.specs.Interval.{Rule, is_charged, every_term, charges, low, high}
use Rattle.run.specs.Run.{limits_of}
use Rattle.run.proofs.Answering.{not_refused, finished, changed}
use Rattle.run.specs.Call.{answered, all_left, refused_by}
use Rattle.ledger.specs.Ledger.{View, view_of, total_in}
use Rattle.closing.specs.Closing.{low_of, high_of, settled_at, digits_at, close_by}
use Rattle.closing.proofs.Closing.{low_in, settled_few, nine_alone}
use Rattle.settlement.specs.EveryTerm.{answer_before, Keeps, NoWider}

-- no rule charges more than every term
fewer_charges : (R : Rule) (F : Formula) (side : Side) (p K : ℕ) → charges R F side p K ≤ charges every_term F side p K
unfolding charges every_term
fewer_charges R F side p K = side_le F side (λ r k. cond (R F p r k) 1 0) (λ r k. 1) 0 K (λ r m k l u. one (R F p r k))
  where
    one : (b : Bool) → cond b 1 0 ≤ 1
    one true = omega arith
    one false = omega arith

-- ---- two intervals around one total, the one with a and b within the one with a' and b'

module _ (total a b a' b' : ℕ) (less-a : a ≤ a') (less-b : b ≤ b') where
  low_within : sub_ℕ total (b' + 1) ≤ℤ sub_ℕ total (b + 1)
  low_within = diff_le _ _ (diff_sub total (b' + 1)) (diff_sub total (b + 1)) (omega arith)

  high_within : pos (total + a + 1) ≤ℤ pos (total + a' + 1)
  high_within =
      let h : Diff (pos (total + a + 1)) (total + a + 1) 0 = omega arith in
      let h' : Diff (pos (total + a' + 1)) (total + a' + 1) 0 = omega arith in
      diff_le _ _ h h' (omega arith)

  -- where the ends of the wider one have one quotient, all four have it
  all_same : (k : ℕ) → b' + 1 ≤ total → (total - (b' + 1)) / 2 ^ k ≡ (total + a' + 1) / 2 ^ k
      → ((total - (b + 1)) / 2 ^ k ≡ (total - (b' + 1)) / 2 ^ k) × ((total - (b + 1)) / 2 ^ k ≡ (total + a + 1) / 2 ^ k)
  all_same k h e =
      let x : (total - (b' + 1)) / 2 ^ k ≤ (total - (b + 1)) / 2 ^ k = shr_mono k (omega arith) in
      let y : (total - (b + 1)) / 2 ^ k ≤ (total + a + 1) / 2 ^ k = shr_mono k (omega arith) in
      let z : (total + a + 1) / 2 ^ k ≤ (total + a' + 1) / 2 ^ k = shr_mono k (omega arith) in
      (omega (arith, x, y, z, e), omega (arith, x, y, z, e))

-- ---- the digits of a closing that is not refused

-- the lower end of the interval, where a digit is settled
abbrev lower : Rule → Formula → ℕ → ℕ → ℕ
lower R F p total = total - (charges R F minus p (term_count F p) + 1)

low_is : (R : Rule) (F : Formula) (p total : ℕ) → charges R F minus p (term_count F p) + 1 ≤ total → low_of R F p total ≡ pos (lower R F p total)
unfolding low
low_is R F p total h = sub_pos total (charges R F minus p (term_count F p) + 1) h

-- the first d of e digits
first_of : (R : Rule) (F : Formula) (p total d e : ℕ) (out : List ℕ) → charges R F minus p (term_count F p) + 1 ≤ total → d ≤ e → e ≤ 32
    → take d (digits_at R F p total e ++ drop e out) ≡ low_digits d (pos (lower R F p total / unit_at d))
unfolding digits_at
first_of R F p total d e out n h l =
    ap (λ (z : ℤ). take d (low_digits e (quotient z (unit_at e)) ++ drop e out)) (low_is R F p total n)
    ∙ take-append-le d (low_digits e (pos (lower R F p total / unit_at e))) (drop e out) (omega (arith, length_low e (pos (lower R F p total / unit_at e)), h))
    ∙ fewer_digits (lower R F p total) d e h l

module _ (F : Formula) (p total : ℕ) (some : settled_at every_term F p total ≡ 0 → ⊥) where
  -- the digits settled before, and now
  d : ℕ
  d = settled_at every_term F p total

  e : ℕ
  e = settled_at is_charged F p total

  in_before : charges every_term F minus p (term_count F p) + 1 ≤ total
  in_before = low_in every_term F p total some

  in_now : charges is_charged F minus p (term_count F p) + 1 ≤ total
  in_now = let l = fewer_charges is_charged F minus p (term_count F p) in let h = in_before in omega (arith, l, h)

  before : Settles (low_of every_term F p total) (high_of every_term F p total) d
  unfolding settled_at d
  before = (settled_greatest (low_of every_term F p total) (high_of every_term F p total) (positive (settled (low_of every_term F p total) (high_of every_term F p total)) some)).settles
    where
      positive : (n : ℕ) → (n ≡ 0 → ⊥) → 0 < n
      positive n h = omega arith

  same : (lower is_charged F p total / unit_at d ≡ lower every_term F p total / unit_at d)
      × (lower is_charged F p total / unit_at d ≡ (total + charges is_charged F plus p (term_count F p) + 1) / unit_at d)
  unfolding Settles high
  same =
      let q : pos (lower every_term F p total / unit_at d) ≡ pos ((total + charges every_term F plus p (term_count F p) + 1) / unit_at d) =
      ap (λ (z : ℤ). quotient z (unit_at d)) (sym (low_is every_term F p total in_before)) ∙ before.2 in
      all_same total _ _ _ _ (fewer_charges is_charged F plus p (term_count F p)) (fewer_charges is_charged F minus p (term_count F p)) (128 - 4 * d) in_before (cc)

  no_fewer : d ≤ e
  unfolding Settles high settled_at e
  no_fewer =
      at_most (low_of is_charged F p total) (high_of is_charged F p total) d
      (before.0, before.1, ap (λ (z : ℤ). quotient z (unit_at d)) (low_is is_charged F p total in_now) ∙ ap pos same.1)

  few : e ≤ 32
  unfolding e
  few = settled_few F p total

  same_digits_lem : (out : List ℕ) → take d (digits_at is_charged F p total e ++ drop e out) ≡ take d (digits_at every_term F p total d ++ drop d out)
  same_digits_lem out =
      let h = no_fewer in
      let l = few in
      first_of is_charged F p total d e out in_now h l ∙ ap (λ (n : ℕ). low_digits d (pos n)) same.0
      ∙ sym (first_of every_term F p total d d out in_before (le_refl d) (omega arith))

-- ---- closings

module _ (F : Formula) (s digits : List ℕ) (n : ℕ) (answered : answer_before F s digits ≡ pos n) where
  abbrev seen : View
  seen = view_of (limits_of F) s

  abbrev total : ℕ
  total = total_in (limits_of F) s

  was : (refused_by (close_by every_term F seen total digits) ≡ 0) × (settled_at every_term F seen.p total ≡ n)
  unfolding close_by answered
  was = not_refused _ _ n answered

  -- a digit is settled where 9 does not apply
  some : settled_at every_term F seen.p total ≡ 0 → ⊥
  some z =
      let q = sym was.0 ∙ nine_alone every_term every_term F seen total total digits was.0 ∙ ap (λ (m : ℕ). cond (eqb m 0) 9 0) z in
      omega (arith, q)

  not_now : refused_by (close_by is_charged F seen total digits) ≡ 0
  unfolding d e
  not_now =
      let h = no_fewer F seen.p total some in
      nine_alone every_term is_charged F seen total total digits was.0
      ∙ ap (λ (b : Bool). cond b 9 0) (ne_eqb (settled_at is_charged F seen.p total) 0 (λ z. some (omega (arith, h, z))))

  keeps : Keeps F s digits n
  unfolding close_by answered all_left d e
  keeps = record {
    now = settled_at is_charged F seen.p total;
    no_fewer = subst (λ (m : ℕ). m ≤ settled_at is_charged F seen.p total) was.1 (no_fewer F seen.p total some);
    answers = sym (finished _ _ not_now);
    same = ap (take n) (sym (changed _ _ digits not_now))
        ∙ subst (λ (m : ℕ). take m (digits_at is_charged F seen.p total (settled_at is_charged F seen.p total) ++ drop (settled_at is_charged F seen.p total) digits)
        ≡ take m (digits_at every_term F seen.p total (settled_at every_term F seen.p total) ++ drop (settled_at every_term F seen.p total) digits)) was.1
        (same_digits_lem F seen.p total some digits)
        ∙ ap (take n) (changed _ _ digits was.0);
  }

pub no_wider : (F : Formula) → NoWider F
unfolding low high
no_wider F = record {
  counts = λ p side. fewer_charges is_charged F side p (term_count F p);
  low = λ p total. low_within total 0 _ 0 _ (le_refl 0) (fewer_charges is_charged F minus p (term_count F p));
  high = λ p total. high_within total _ 0 _ 0 (fewer_charges is_charged F plus p (term_count F p)) (le_refl 0);
  keeps = keeps F;
}
