-- Demand 3, for any formula whose N are at least 1 and whose uncharged terms stay below a unit at every position of a run.
-- Assumes nothing.
use mathlib.Core.Path.{◌≡◌, refl, sym, ap, ◌∙◌, subst}
use mathlib.Core.Bool.{Bool, true, cond}
use mathlib.Core.List.{List, ◌++◌}
use Prim.Native.Nat.{ℕ, zero, suc, ◌*◌, ◌^◌, ◌<◌, ◌≤◌}
use native.Mathlib.Omega.{arith}
use borrow.Author.Tests.{eq-eqb, ne_eqb}
use lib.Dec.{eqb}
use lib.IntN.{ℤ, pos-ne-negsuc, pos, neg_ℤ}
use lib.ListN.{length, drop}
use Rattle.algebra.specs.Whole.{quotient}
use Rattle.algebra.proofs.Below.{all_true}
use Rattle.series.specs.Series.{Formula, row_count, term_count, sizes_sum}
use Rattle.series.specs.Fitting.{Position}
use Rattle.digits.specs.Digits.{unit_at, Settles, settled, low_digits}
use Rattle.digits.proofs.Settled.{greatest, none_settled, settled_none, one_outcome}
use Rattle.interval.specs.Exact.{MakesWhole, exact_sum}
use Rattle.interval.specs.Interval.{is_charged, LiesFrom, Positive, RestBelowUnit}
use Rattle.interval.proofs.AnyRows.{any_rows}
use Rattle.run.specs.Refusal.{refusal, answer}
use Rattle.run.specs.Run.{limits_of, in_range, is_ticket}
use Rattle.run.proofs.Range.{range_of, is_ticket_lem, position}
use Rattle.run.specs.Call.{answered, bytes_left, refused_by, all_left}
use Rattle.ledger.specs.Ledger.{fresh, ledger_size, total_of}
use Rattle.ledger.specs.Plain.{Plain, opened, plain_view, encode}
use Rattle.ledger.specs.Calls.{open_call}
use Rattle.ledger.proofs.Image.{Good}
use Rattle.posting.specs.Posts.{Post, ledger_after, plain_after}
use Rattle.posting.proofs.Simulation.{after_fresh}
use Rattle.closing.specs.Closing.{low_of, high_of, settled_at, digits_at, close_by, close_call}
use Rattle.closing.proofs.Encoded.{answer_encoded, bytes_encoded}
use Rattle.settlement.specs.Settlement.{Filled, row_sums, all_sums, Closed, Settled, Demand3}
use Rattle.settlement.specs.Books.{Completed}
use Rattle.settlement.proofs.Filling.{filled_all, filled_rows, total_of_rows, kept_posts, kept_opened}
use Rattle.settlement.proofs.Partition.{all_tickets_lem}

module _ (F : Formula) (fits : F.last < 2 ^ 64) (above : Positive F) (p C : ℕ) (range : in_range (limits_of F) p C ≡ true)
    (rest : RestBelowUnit is_charged F p (term_count F p)) where
  lo : ℤ
  lo = low_of is_charged F p (all_sums F p C)

  hi : ℤ
  hi = high_of is_charged F p (all_sums F p C)

  sizes_are : sizes_sum F p (term_count F p) ≡ all_sums F p C
  sizes_are = sym (all_tickets_lem F p C (let r = range_of (limits_of F) p C range in r.c_low))

  all_near : (D L : ℕ) → 0 < D → term_count F p ≤ L → MakesWhole F p L D → LiesFrom D lo hi (exact_sum F p D L)
  unfolding lo hi
  all_near D L d h whole =
      subst (λ (t : ℕ). LiesFrom D (low_of is_charged F p t) (high_of is_charged F p t) (exact_sum F p D L)) sizes_are
      ((any_rows is_charged F p (term_count F p) above rest).near D L d h whole)

  -- a quotient that low and high share has the lowest digits of every exact sum
  digits : (d : ℕ) → Settles lo hi d → (D L : ℕ) → 0 < D → term_count F p ≤ L → MakesWhole F p L D
      → low_digits d (quotient lo (unit_at d)) ≡ low_digits d (quotient (exact_sum F p D L) (D * unit_at d))
  unfolding lo hi
  digits d s D L dp h whole =
      subst (λ (t : ℕ). Settles (low_of is_charged F p t) (high_of is_charged F p t) d
      → low_digits d (quotient (low_of is_charged F p t) (unit_at d)) ≡ low_digits d (quotient (exact_sum F p D L) (D * unit_at d))) sizes_are
      (λ s. sym ((any_rows is_charged F p (term_count F p) above rest).digits d s D L dp h whole)) s

  -- what a closing of a filled ledger answers and writes, by the number of digits settled
  module _ (s : Plain) (good : Good (limits_of F) s) (run_p : s.p ≡ p) (total-is : total_of (limits_of F) s.sums ≡ all_sums F p C)
      (full : (row block : ℕ) → row < row_count F → block < s.C → s.tickets row block ≡ true) (out : List ℕ) (room : length out ≡ 32) where
    bytes : List ℕ
    bytes = encode (limits_of F) s

    settled_is : settled_at is_charged F s.p (total_of (limits_of F) s.sums) ≡ settled lo hi
    unfolding settled_at lo hi
    settled_is = rw (run_p, total-is) refl

    refusal_is : refused_by (close_by is_charged F (plain_view s) (total_of (limits_of F) s.sums) out) ≡ cond (eqb (settled lo hi) 0) 9 0
    unfolding close_by refused_by refusal plain_view
    refusal_is = rw (room, all_true (row_count F) _ (λ row h. all_true s.C _ (λ block l. full row block h l)), settled_is) refl

    answer_is : answered (close_call F bytes out) ≡ answer (cond (eqb (settled lo hi) 0) 9 0) (settled lo hi)
    unfolding close_by answered plain_view bytes
    answer_is = answer_encoded F s good out ∙ rw (refusal_is, settled_is) refl

    bytes_are : bytes_left (close_call F bytes out) 0
        ≡ cond (eqb (cond (eqb (settled lo hi) 0) 9 0) 0) (low_digits (settled lo hi) (quotient lo (unit_at (settled lo hi))) ++ drop (settled lo hi) out) out
    unfolding close_by all_left digits_at plain_view bytes lo
    bytes_are = bytes_encoded F s good out ∙ rw (refusal_is, settled_is, run_p, total-is) refl

    closed : Closed F p lo hi bytes out
    unfolding answer Settles
    closed = record {
      outcome = one_outcome lo hi;
      refused = λ n.
          let z = none_settled lo hi n in (
            answer_is ∙ ap (λ (d : ℕ). answer (cond (eqb d 0) 9 0) d) z,
            bytes_are ∙ ap (λ (d : ℕ). cond (eqb (cond (eqb d 0) 9 0) 0) (low_digits d (quotient lo (unit_at d)) ++ drop d out) out) z,
          );
      only_then = λ a. settled_none lo hi (zero_of (settled lo hi) (sym answer_is ∙ a));
      settled = λ d g.
          let e = greatest lo hi d g in
          let t = g.settles in
          let n = ne_eqb d 0 (positive_digits d t) in (
            answer_is ∙ ap (λ (k : ℕ). answer (cond (eqb k 0) 9 0) k) e ∙ ap (λ (b : Bool). answer (cond b 9 0) d) n,
            λ D L dp h whole.
                bytes_are ∙ ap (λ (k : ℕ). cond (eqb (cond (eqb k 0) 9 0) 0) (low_digits k (quotient lo (unit_at k)) ++ drop k out) out) e
                ∙ ap (λ (b : Bool). cond (eqb (cond b 9 0) 0) (low_digits d (quotient lo (unit_at d)) ++ drop d out) out) n
                ∙ ap (λ (l : List ℕ). l ++ drop d out) (digits d t D L dp h whole),
          );
    }
      where
        -- an answer of -9 is no number of digits
        zero_of : (k : ℕ) → answer (cond (eqb k 0) 9 0) k ≡ neg_ℤ (pos 9) → k ≡ 0
        zero_of zero e = refl
        zero_of (suc k) e = absurd (pos-ne-negsuc (suc k) 8 (rw (ne_eqb (suc k) 0 (λ q. omega (arith, q))) at e))

        positive_digits : (d : ℕ) → Settles lo hi d → d ≡ 0 → ⊥
        positive_digits d t e = let h = t.0 in omega (arith, h, e)

  opens_fresh : (s : List ℕ) → length s ≡ ledger_size (limits_of F)
      → (answered (open_call (limits_of F) p C s) ≡ pos 0) × (bytes_left (open_call (limits_of F) p C s) 0 ≡ fresh (limits_of F) p C)
  unfolding open_call answered all_left refused_by refusal answer
  opens_fresh s h = rw (h, eq-eqb (ledger_size (limits_of F)) (ledger_size (limits_of F)) refl, range) (refl, refl)

  -- a plain ledger of the run with every ticket in it, whose rows have the sums of their tickets: bound and closing
  pub completed : (s : Plain) → Good (limits_of F) s → s.p ≡ p → s.C ≡ C → ((row : ℕ) → row < row_count F → s.sums row ≡ row_sums F p C row)
      → ((row block : ℕ) → is_ticket (limits_of F) C row block ≡ true → s.tickets row block ≡ true)
      → (bytes : List ℕ) → bytes ≡ encode (limits_of F) s → Completed F p C s.sums bytes
  unfolding lo hi bytes
  completed s good run_p run_c rows full b eb =
      let total = total_of_rows F p C s.sums rows in
      record {
        rows = rows;
        total = total;
        near = subst (λ (t : ℕ). (D L : ℕ) → 0 < D → term_count F p ≤ L → MakesWhole F p L D
            → LiesFrom D (low_of is_charged F p t) (high_of is_charged F p t) (exact_sum F p D L)) (sym total) all_near;
        closing = λ out room.
            subst (λ (t : ℕ). Closed F p (low_of is_charged F p t) (high_of is_charged F p t) b out) (sym total)
            (subst (λ (l : List ℕ). Closed F p lo hi l out) (sym eb)
            (closed s good run_p total
            (λ row block h l. full row block (is_ticket_lem (limits_of F) C row block h (subst (λ (n : ℕ). block < n) run_c l))) out room));
      }

  settlement : (posts : List Post) → Settled F p C posts
  settlement posts =
      let lim = limits_of F in
      let s = plain_after lim p C posts in
      let after = after_fresh lim p C fits range posts in
      let whole : Filled F p C posts → Completed F p C s.sums (ledger_after lim p C posts) =
      (λ f.
      let k = kept_posts F p C (opened p C) posts (kept_opened F p C fits range) f.right in
      completed s after.1.1 k.run_p k.run_c (filled_rows F p C fits range posts f) (filled_all F p C fits range posts f) (ledger_after lim p C posts) after.1.0) in
      record {
        opens = λ s h. opens_fresh s h;
        answers = after.0;
        ledger = after.1.0;
        rows = λ f. (whole f).rows;
        total = λ f. (whole f).total;
        near = λ f. (whole f).near;
        closing = λ f. (whole f).closing;
      }

-- Demand 3
pub demand3 : (F : Formula) → F.last < 2 ^ 64 → Positive F → ((p : ℕ) → Position F p → RestBelowUnit is_charged F p (term_count F p)) → Demand3 F
demand3 F fits above rest p C range posts = settlement F fits above p C range (rest p (position F p C range)) posts
