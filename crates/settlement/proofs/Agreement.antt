-- Demand 2, for any formula whose rows fit a byte and whose positions fit 8 bytes.
-- Assumes nothing.
use mathlib.Core.Path.{◌≡◌, refl, sym, ap, ◌∙◌}
use mathlib.Core.Bool.{true}
use mathlib.Core.List.{List}
use Prim.Native.Nat.{ℕ, ◌+◌, ◌*◌, ◌-◌, ◌%◌, ◌<◌}
use native.Mathlib.Nat.{add-mul-mod_self_left}
use native.Mathlib.Omega.{arith}
use lib.IntN.{sub_ℕ}
use lib.ListN.{length}
use lib.Pow.{pow_pos}
use Rattle.algebra.specs.Whole.{residue}
use Rattle.algebra.proofs.Integers.{residue_is, diff_sub, turns, back}
use Rattle.words.specs.Bytes.{bytes_of}
use Rattle.series.specs.Series.{Formula, plus, minus, modulus, range_sum}
use Rattle.series.proofs.RangeSums.{range_sum_lt}
use Rattle.run.specs.Refusal.{refusal}
use Rattle.run.specs.Run.{limits_of, in_range, is_ticket, ticket_sum}
use Rattle.run.specs.Call.{refused_by}
use Rattle.run.proofs.Calls.{leaves, finishes}
use Rattle.ticket.specs.Work.{is_sized, both_sized, work_call}
use Rattle.ticket.specs.declared.Part.TheVariants.{Whole}
use Rattle.ticket.proofs.Parts.{whole_sum}
use Rattle.settlement.specs.Agreement.{side_of, WorkedRight, Demand2}
use Rattle.settlement.specs.RoundTrip.{Fits}
use Rattle.settlement.proofs.RoundTrip.{written_reads_back, accepted_is_written}

-- the residue of a difference, with what was taken away put back
residue_back : (m a b : ℕ) → 0 < m → (residue m (sub_ℕ a b) + b) % m ≡ a % m
residue_back m a b h =
    let e = residue_is m (sub_ℕ a b) h (diff_sub a b) in
    let x = residue m (sub_ℕ a b) in
    let t = turns m (sub_ℕ a b) in
    let k = back m (sub_ℕ a b) in
    let q : x + b + m * k ≡ a + m * t = omega (arith, e) in
    sym (add-mul-mod_self_left (x + b) m k) ∙ ap (λ (n : ℕ). n % m) q ∙ add-mul-mod_self_left a m t

module _ (F : Formula) (p C row block : ℕ) where
  pub ticket_sum_lt : ticket_sum F p C row block < modulus
  unfolding ticket_sum
  ticket_sum_lt = range_sum_lt F p _ _ _

  signed : (ticket_sum F p C row block + side_of F minus p C row block) % modulus ≡ side_of F plus p C row block % modulus
  unfolding ticket_sum range_sum side_of
  signed = residue_back modulus (side_of F plus p C row block) (side_of F minus p C row block) (pow_pos 128)

  worked : (out squarings : List ℕ) → length out ≡ 16 → length squarings ≡ 16 → in_range (limits_of F) p C ≡ true
      → is_ticket (limits_of F) C row block ≡ true → WorkedRight F p C row block out squarings
  unfolding work_call refused_by both_sized is_sized refusal
  worked out squarings l m r t =
      let f = finishes (work_call F Whole p C row block out squarings) (rw (l, m, r, t) refl) in
      record {
        answers = sym f.0;
        bytes_are = sym (leaves (work_call F Whole p C row block out squarings) f.1 0) ∙ ap (bytes_of 16) (whole_sum F p C row block);
        small = ticket_sum_lt;
        signed = signed;
      }

-- Demand 2
pub demand2 : (F : Formula) → Fits F → Demand2 F
demand2 F fits = record {
  works = λ p C row block out squarings. worked F p C row block out squarings;
  reads_back = written_reads_back F fits;
  is_written = accepted_is_written F fits;
}
