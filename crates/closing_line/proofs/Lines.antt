-- From a closing to its line: what a finished one says of the ledger and of d, and the line by the answer.
-- Assumes nothing.
use mathlib.Core.Path.{◌≡◌, refl, sym, ap, ap₂, ◌∙◌}
use mathlib.Core.List.{List}
use Prim.Native.Nat.{ℕ, zero, suc, ◌<◌, ◌≤◌}
use native.Mathlib.Omega.{arith}
use lib.IntN.{ℤ, pos, neg_ℤ}
use lib.ListN.{length, take, replicate}
use Rattle.words.specs.Bytes.{field}
use Rattle.series.specs.Series.{Formula}
use Rattle.run.specs.Run.{limits_of}
use Rattle.std.specs.Prelude.{Ok, Err}
use Rattle.run.specs.Answers.{number_of, Answer, answer_of}
use Rattle.run.specs.declared.Refusal.{Refusal}
use Rattle.run.proofs.Answering.{in_table}
use Rattle.run.specs.Call.{bytes_left, answered}
use Rattle.ledger.specs.Ledger.{pos_in, total_in}
use Rattle.closing.specs.Closing.{close_call}
use Rattle.closing.proofs.Closing.{settled_few, tested, was_closed}
use Rattle.closing_line.specs.Line.{finished_line, refused_line, line_of, printed_line}

numbered_line : (n p : ℕ) (digits : List ℕ) → 0 < n → refused_line n ≡ line_of (neg_ℤ (pos n)) p digits
unfolding line_of
numbered_line zero p digits h = absurd (omega arith)
numbered_line (suc n) p digits h = refl

module _ (F : Formula) (s : List ℕ) (a : Answer) (answers : answer_of a ≡ answered (close_call F s (replicate 32 0))) where
  abbrev bytes : List ℕ
  bytes = bytes_left (close_call F s (replicate 32 0)) 0

  line_by : (b : Answer) → a ≡ b → line_of (answer_of b) (pos_in s) bytes ≡ printed_line F s
  unfolding printed_line
  line_by b e = ap (λ (z : ℤ). line_of z (pos_in s) bytes) (sym (ap answer_of e) ∙ answers)

  pub within : (d : ℕ) → a ≡ Ok d → (8 ≤ length s) × (d ≤ 32)
  within d f =
      let w = was_closed F s (replicate 32 0) a d answers f in
      (omega (arith, (tested F s (replicate 32 0) w.0).ordered.sized), omega (arith, w.1, settled_few F (pos_in s) (total_in (limits_of F) s)))

  pub finished_line_lem : (d p : ℕ) (digits : List ℕ) → a ≡ Ok d → p ≡ field s 0 8 → digits ≡ bytes
      → finished_line p d (take d digits) ≡ printed_line F s
  unfolding line_of pos_in
  finished_line_lem d p digits f e g = ap₂ (λ (n : ℕ) (t : List ℕ). finished_line n d (take d t)) e g ∙ line_by (Ok d) f

  pub refused_line_lem : (r : Refusal) (n : ℕ) → a ≡ Err r → n ≡ number_of r → refused_line n ≡ printed_line F s
  refused_line_lem r n f e = ap refused_line e ∙ numbered_line (number_of r) (pos_in s) bytes (in_table r).0 ∙ line_by (Err r) f
