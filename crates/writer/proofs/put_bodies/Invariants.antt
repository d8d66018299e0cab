-- `writer::put_bodies` meets its contract: after i turns the sums of i tickets stand over the output.
-- Assumes nothing.
use mathlib.Core.Path.{◌≡◌, refl, sym, ap, ◌∙◌}
use mathlib.Core.Bool.{true}
use mathlib.Core.List.{List, ◌++◌}
use Prim.Native.Nat.{ℕ, ◌+◌, ◌*◌, ◌≤◌, ◌<◌}
use native.Mathlib.Omega.{arith}
use lib.ListN.{length, take, drop}
use Rattle.algebra.proofs.Below.{all_at}
use Rattle.words.specs.Bytes.{bytes_of}
use Rattle.series.specs.Series.{Formula}
use Rattle.series.specs.Names.{formula_of}
use Rattle.run.specs.Run.{Entry, Limits, is_ticket, ticket_sum}
use Rattle.sheet.specs.Sheet.{all_tickets, bodies_of, listed}
use Rattle.sheet.proofs.Over.{bodies, over_to, start, turn, finish}
use Rattle.sheet.proofs.Each.{pair_row, pair_block, count, pair_at, tickets_listed}
use Rattle.writer.proofs.put_bodies.Given as goal

module _ (F : Formula) (p C : ℕ) (list old : List ℕ) (e : ℕ) where
  abbrev summed-to : ℕ → List ℕ
  summed-to i = over_to bodies_of 16 (listed F p C list) old (16 + 4 * e) i

  pub first : old ≡ summed-to 0
  first = start bodies (listed F p C list) old (16 + 4 * e)

  module _ (size : length list ≡ 2 * e) where
    pub ticket-at : (lim : Limits) → all_tickets lim C (listed F p C list) ≡ true → (i : ℕ) → i < e → is_ticket lim C (pair_row list i) (pair_block list i) ≡ true
    ticket-at lim t i h = all_at e _ (sym (tickets_listed F p C list e size lim) ∙ t) i h

    pub next : (l m : List ℕ) (i x : ℕ) → 16 + 20 * e ≤ length old → i < e → x ≡ ticket_sum F p C (pair_row list i) (pair_block list i) → l ≡ summed-to i
        → m ≡ take (16 + 4 * e + 16 * i) l ++ bytes_of 16 x ++ drop (16 + 4 * e + 16 * i + 16) l → m ≡ summed-to (i + 1)
    next l m i x room h ex el em =
        turn bodies (listed F p C list) old (16 + 4 * e) l m (bytes_of 16 x) i (16 + 4 * e + 16 * i) (omega arith) (omega (arith, count F p C list e size)) refl
        (ap (bytes_of 16) (ex ∙ ap (λ (t : Entry). t.sum) (sym (pair_at F p C list e size i h)))) el em

    pub last : (l : List ℕ) (i : ℕ) → i ≡ e → l ≡ summed-to i → l ≡ take (16 + 4 * e) old ++ bodies_of (listed F p C list) ++ drop (16 + 20 * e) old
    last l i q el =
        let end : 16 + 4 * e + 16 * i ≡ 16 + 20 * e = omega arith in
        finish bodies (listed F p C list) old (16 + 4 * e) l i (count F p C list e size ∙ sym q) el
        ∙ ap (λ (n : ℕ). take (16 + 4 * e) old ++ bodies_of (listed F p C list) ++ drop n old) end

abbrev pub invariant-loop-i : goal.invariant-loop-i
invariant-loop-i l = l.out ≡ summed-to (formula_of l.f) l.run.p l.run.c l.pairs.bytes.now l.initial.out l.pairs.count l.i
