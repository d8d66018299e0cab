-- `sheet::reading::put_sums` meets its contract: after i turns the sums of i tickets stand over the output.
-- Assumes nothing.
use mathlib.Core.Path.{◌≡◌, sym, ap, ◌∙◌}
use mathlib.Core.List.{List, ◌++◌}
use Prim.Native.Nat.{ℕ, ◌+◌, ◌*◌, ◌<◌}
use native.Mathlib.Nat.{zero-add}
use native.Mathlib.Omega.{arith}
use lib.ListN.{take, drop}
use Rattle.words.specs.Bytes.{bytes_of, field}
use Rattle.run.specs.Run.{Entry}
use Rattle.sheet.specs.Sheet.{sheet_count, sum_in, entries_from, bodies_of}
use Rattle.sheet.specs.Calls.{over}
use Rattle.sheet.proofs.Many.{count_entries}
use Rattle.sheet.proofs.Each.{entry_at}
use Rattle.sheet.proofs.Over.{bodies, over_to, start, turn, finish_front}
use Rattle.sheet.proofs.reading.put_sums.Given as goal

module _ (s old : List ℕ) (e : ℕ) where
  abbrev summed-to : ℕ → List ℕ
  summed-to i = over_to bodies_of 16 (entries_from s 0 e) old 0 i

  pub first : old ≡ summed-to 0
  first = start bodies (entries_from s 0 e) old 0

  pub next : (l m : List ℕ) (i x : ℕ) → e ≡ sheet_count s → i < e → x ≡ field s (16 + 4 * e + 16 * i) 16 → l ≡ summed-to i
      → m ≡ take (16 * i) l ++ bytes_of 16 x ++ drop (16 * i + 16) l → m ≡ summed-to (i + 1)
  unfolding sum_in
  next l m i x counted h ex el em =
      let sum : x ≡ sum_in s i = ex ∙ ap (λ (n : ℕ). field s (16 + 4 * n + 16 * i) 16) counted in
      turn bodies (entries_from s 0 e) old 0 l m (bytes_of 16 x) i (16 * i) (omega arith) (omega (arith, count_entries s e 0)) (sym (zero-add (16 * i)))
      (ap (bytes_of 16) (sum ∙ ap (λ (t : Entry). t.sum) (sym (entry_at s e i h)))) el em

  pub last : (l : List ℕ) (i : ℕ) → i ≡ e → l ≡ summed-to i → l ≡ over (bodies_of (entries_from s 0 e)) old
  last l i q el = finish_front bodies (entries_from s 0 e) old l i (count_entries s e 0 ∙ sym q) el

abbrev pub invariant-loop-i : goal.invariant-loop-i
invariant-loop-i l = l.sums ≡ summed-to l.entries.bytes.now l.initial.sums l.entries.count l.i
