-- `sheet::reading::put_list` meets its contract: after i turns the list of i tickets stands over the output.
-- Assumes nothing.
use mathlib.Core.Path.{◌≡◌, sym, ap, ◌∙◌}
use mathlib.Core.List.{List, ◌++◌}
use Prim.Native.Nat.{ℕ, ◌+◌, ◌*◌, ◌<◌}
use native.Mathlib.Nat.{zero-add}
use native.Mathlib.Omega.{arith}
use lib.ListN.{take, drop}
use Rattle.words.specs.Bytes.{bytes_of}
use Rattle.sheet.specs.Sheet.{entries_from, key, list_of}
use Rattle.sheet.specs.Calls.{over}
use Rattle.sheet.proofs.Many.{count_entries}
use Rattle.sheet.proofs.Each.{entry, entry_at}
use Rattle.sheet.proofs.Over.{lists, over_to, start, turn, finish_front}
use Rattle.sheet.proofs.reading.put_list.Given as goal

module _ (s old : List ℕ) (e : ℕ) where
  abbrev listed-to : ℕ → List ℕ
  listed-to i = over_to list_of 2 (entries_from s 0 e) old 0 i

  pub first : old ≡ listed-to 0
  first = start lists (entries_from s 0 e) old 0

  pub next : (l m : List ℕ) (i k : ℕ) → i < e → k ≡ key (entry s i) → l ≡ listed-to i
      → m ≡ take (2 * i) l ++ bytes_of 2 k ++ drop (2 * i + 2) l → m ≡ listed-to (i + 1)
  next l m i k h ek el em =
      turn lists (entries_from s 0 e) old 0 l m (bytes_of 2 k) i (2 * i) (omega arith) (omega (arith, count_entries s e 0)) (sym (zero-add (2 * i)))
      (ap (bytes_of 2) (ek ∙ ap key (sym (entry_at s e i h)))) el em

  pub last : (l : List ℕ) (i : ℕ) → i ≡ e → l ≡ listed-to i → l ≡ over (list_of (entries_from s 0 e)) old
  last l i q el = finish_front lists (entries_from s 0 e) old l i (count_entries s e 0 ∙ sym q) el

abbrev pub invariant-loop-i : goal.invariant-loop-i
invariant-loop-i l = l.list ≡ listed-to l.entries.bytes.now l.initial.list l.entries.count l.i
