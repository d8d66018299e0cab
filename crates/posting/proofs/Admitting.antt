-- Posting a sheet: the bits of its tickets one by one, and its tickets entered one by one, the rows' sums held apart from the bytes until
-- all are in. A mark set leaves the bits of the later tickets as they were, since the contents ascend.
-- Assumes nothing.
use mathlib.Core.Path.{◌≡◌, refl, sym, ap, ap₂, subst, ◌∙◌}
use mathlib.Core.Bool.{Bool, true, false, not}
use mathlib.Core.Logic.{⊎_elim}
use mathlib.Core.List.{List, [], ◌∷◌, foldl, foldl-append}
use Prim.Native.Nat.{ℕ, zero, suc, ◌+◌, ◌*◌, ◌<◌, ◌≤◌}
use native.Mathlib.Nat.{not-suc-le-zero}
use native.Mathlib.Numerals.{add-one}
use native.Mathlib.Omega.{arith}
use borrow.Author.Tests.{ltb-true, not-true}
use lib.ListN.{length}
use Rattle.algebra.specs.Test.{all_below}
use Rattle.algebra.proofs.Booleans.{below_or}
use Rattle.algebra.proofs.Below.{all_at, below_false, below_next}
use Rattle.words.specs.Bytes.{field, AllBytes}
use Rattle.series.specs.Series.{modulus}
use Rattle.run.specs.Run.{Limits, is_ticket}
use Rattle.run.proofs.Range.{ticket_row, ticket_block}
use Rattle.ledger.specs.Ledger.{ledger_size, mark_at, bit_in, mark}
use Rattle.ledger.specs.Plain.{adding}
use Rattle.ledger.specs.RowSums.{held_in, with_sums}
use Rattle.ledger.proofs.Entering.{bit_kept}
use Rattle.ledger.proofs.RowSums.{with_own, held_fits, adding_fits, enter_with}
use Rattle.sheet.specs.Sheet.{sheet_count, row_in, block_in, sum_in, entries_from, entries, every, all_tickets, key, ascending}
use Rattle.posting.specs.Calls.{enter_entry, unset}
use Rattle.sheet.proofs.Each.{entry, entries_next, every_entries, rises, ascending_entries}

-- ---- the bits, entry by entry

abbrev pub unset_at : Limits → List ℕ → List ℕ → ℕ → Bool
unset_at lim ledger s i = unset lim ledger (entry s i)

-- entry i of n, each of a row and block that the ledger has
module _ (lim : Limits) (s : List ℕ) (n : ℕ) (known : all_tickets lim 256 (entries_from s 0 n) ≡ true) (i : ℕ) (l : i < n) where
  is_known : is_ticket lim 256 (row_in s i) (block_in s i) ≡ true
  is_known = all_at n (λ j. is_ticket lim 256 (row_in s j) (block_in s j)) (sym (every_entries (λ t. is_ticket lim 256 t.row t.block) s n) ∙ known) i l

  pub row_in_lem : row_in s i < lim.rows
  row_in_lem = ticket_row lim 256 (row_in s i) (block_in s i) is_known

  pub low : block_in s i < 256
  low = ticket_block lim 256 (row_in s i) (block_in s i) is_known

  there : (ledger : List ℕ) → length ledger ≡ ledger_size lim → mark_at lim (row_in s i) (block_in s i) < length ledger
  there ledger sized = omega (arith, row_in_lem, low, sized)

module _ (lim : Limits) (ledger s : List ℕ) (i row block : ℕ) (er : row ≡ row_in s i) (eb : block ≡ block_in s i) where
  pub mark_inside : (n : ℕ) → length ledger ≡ ledger_size lim → all_tickets lim 256 (entries_from s 0 n) ≡ true → i < n → mark_at lim row block < length ledger
  mark_inside n sized known l = rw (er, eb) (there lim s n known i l ledger sized)

  module _ (b : Bool) (tested : b ≡ bit_in lim ledger row block) where
    one : b ≡ bit_in lim ledger (row_in s i) (block_in s i)
    one = rw (← er, ← eb) tested

    pub one_marked : (n : ℕ) → i < n → b ≡ true → false ≡ every (unset lim ledger) (entries_from s 0 n)
    one_marked n h t = sym (every_entries (unset lim ledger) s n ∙ below_false n (unset_at lim ledger s) i h (ap not (sym one ∙ t)))

    pub one_more : b ≡ false → all_below i (unset_at lim ledger s) ≡ true → all_below (i + 1) (unset_at lim ledger s) ≡ true
    one_more t h = below_next i (unset_at lim ledger s) h (ap not (sym one ∙ t))

-- ---- the tickets, entry by entry

-- after i turns: the bytes with the sums held are the ledger with the first i entered, and no later one is marked
abbrev pub Entered : Limits → List ℕ → List ℕ → ℕ → List ℕ → (ℕ → ℕ) → ℕ → Type 0
Entered lim s first e ledger v i =
    (foldl (enter_entry lim) first (entries_from s 0 i) ≡ with_sums lim ledger v) × ((row : ℕ) → v row < modulus)
    × ((j : ℕ) → i ≤ j → j < e → bit_in lim ledger (row_in s j) (block_in s j) ≡ false)

module _ (lim : Limits) (s first : List ℕ) (e : ℕ) (counted : e ≡ sheet_count s) (up : ascending (entries s) ≡ true)
    (sized : length first ≡ ledger_size lim) (all_Known : all_tickets lim 256 (entries s) ≡ true) (none : every (unset lim first) (entries s) ≡ true) where
  known : all_tickets lim 256 (entries_from s 0 e) ≡ true
  unfolding entries
  known = ap (λ (n : ℕ). all_tickets lim 256 (entries_from s 0 n)) counted ∙ all_Known

  off : (j : ℕ) → j < e → bit_in lim first (row_in s j) (block_in s j) ≡ false
  unfolding entries
  off j h =
      not-true _ (all_at e (unset_at lim first s)
      (sym (every_entries (unset lim first) s e) ∙ ap (λ (n : ℕ). every (unset lim first) (entries_from s 0 n)) counted ∙ none) j h)

  neighbour : (j : ℕ) → suc j < e → key (entry s j) < key (entry s (suc j))
  unfolding entries
  neighbour j h = go e refl
    where
      go : (n : ℕ) → e ≡ n → key (entry s j) < key (entry s (suc j))
      go zero q = absurd (omega (arith, q))
      go (suc n) q =
          let a = sym (ascending_entries s n) ∙ ap (λ (m : ℕ). ascending (entries_from s 0 m)) (sym q ∙ counted) ∙ up in
          let h' : key (entry s j) < key (entry s (j + 1)) = ltb-true _ _ (all_at n (rises s) a j (omega (arith, q))) in
          rw (add-one j) at h'

  higher : (i j : ℕ) → i < j → j < e → key (entry s i) < key (entry s j)
  higher i zero h l = absurd (not-suc-le-zero h)
  higher i (suc j) h l =
      let n = neighbour j l in
      ⊎_elim (λ m. let k = higher i j m (omega arith) in omega (arith, k, n)) (λ q. rw q n) (below_or i j h)

  pub start : AllBytes first → (v : ℕ → ℕ) → ((row : ℕ) → v row ≡ held_in lim.rows first row) → Entered lim s first e first v 0
  unfolding entries_from
  start bytes v read = (
    sym (with_own lim first (omega (arith, sized)) bytes v read),
    λ row. subst (λ (n : ℕ). n < modulus) (sym (read row)) (held_fits lim.rows first bytes row),
    λ j h l. off j l,
  )

  module _ (ledger : List ℕ) (v : ℕ → ℕ) (i row block : ℕ) (so_far : Entered lim s first e ledger v i) (size : length ledger ≡ length first) (l : i < e)
      (er : row ≡ row_in s i) where
    pub row_below : row < lim.rows
    row_below = rw er (row_in_lem lim s e known i l)

    module _ (eb : block ≡ block_in s i) where
      here : mark_at lim (row_in s i) (block_in s i) < length ledger
      here = there lim s e known i l ledger (size ∙ sized)

      pub may_mark : (mark_at lim row block < length ledger) × (bit_in lim ledger row block ≡ false)
      may_mark = rw (er, eb) (here, so_far.2 i (omega arith) l)

      pub turn : (next : List ℕ) (w : ℕ → ℕ) (x : ℕ) → x ≡ field s (16 + 4 * e + 16 * i) 16 → ((r : ℕ) → w r ≡ adding row x v r)
          → next ≡ mark lim ledger row block → Entered lim s first e next w (i + 1)
      unfolding sum_in
      turn next w x ex added en =
          let sum : x ≡ sum_in s i = ex ∙ ap (λ (n : ℕ). field s (16 + 4 * n + 16 * i) 16) counted in
          let is : next ≡ mark lim ledger (row_in s i) (block_in s i) = en ∙ rw (er, eb) refl in
          let sums : w ≡ adding (row_in s i) (sum_in s i) v = (λ k r. added r k) ∙ rw (er, sum) refl in (
            ap (foldl (enter_entry lim) first) (entries_next s i) ∙ foldl-append (enter_entry lim) first (entries_from s 0 i) (entry s i ∷ [])
                ∙ ap (λ (m : List ℕ). enter_entry lim m (entry s i)) so_far.0
                ∙ enter_with lim ledger (omega (arith, size, sized)) v (row_in s i) (block_in s i) (sum_in s i) (row_in_lem lim s e known i l) (so_far.1 (row_in s i))
                ∙ sym (ap₂ (with_sums lim) is sums),
            λ r. subst (λ (n : ℕ). n < modulus) (sym (added r)) (adding_fits row x v r (so_far.1 r)),
            λ j h m.
                let k = higher i j (omega arith) m in
                ap (λ (t : List ℕ). bit_in lim t (row_in s j) (block_in s j)) is
                ∙ bit_kept lim ledger (row_in s i) (block_in s i) here (so_far.2 i (omega arith) l) (row_in s j) (block_in s j) (low lim s e known i l)
                (low lim s e known j m) (λ q. omega (arith, q, k))
                ∙ so_far.2 j (omega arith) m,
          )

  pub finish : (ledger put : List ℕ) (v : ℕ → ℕ) (i : ℕ) → Entered lim s first e ledger v i → i ≡ e → put ≡ with_sums lim ledger v
      → put ≡ foldl (enter_entry lim) first (entries s)
  unfolding entries
  finish ledger put v i done q ep =
      ep ∙ sym done.0 ∙ ap (λ (n : ℕ). foldl (enter_entry lim) first (entries_from s 0 n)) (q ∙ counted)
