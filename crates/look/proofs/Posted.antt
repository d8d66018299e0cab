-- What a post of a sheet that is taken leaves: the bytes of a plain ledger with the sheet's tickets in it. How many tickets are unmarked in that ledger,
-- and its total.
-- Assumes nothing.
use mathlib.Core.Path.{◌≡◌, sym, ap, ap₂, subst, ◌∙◌}
use mathlib.Core.List.{List, [], ◌∷◌, foldl, foldl-append}
use Prim.Native.Nat.{ℕ, zero, suc, ◌+◌, ◌*◌, ◌-◌, ◌%◌, ◌^◌, ◌<◌, ◌≤◌}
use native.Mathlib.Nat.{add-zero, mod-mod}
use native.Mathlib.Numerals.{add-one}
use native.Mathlib.Omega.{arith}
use borrow.Author.Tests.{eqb-true}
use lib.IntN.{pos}
use lib.ListN.{length}
use Rattle.algebra.specs.Sum.{sum}
use Rattle.algebra.proofs.Sums.{total_next}
use Rattle.algebra.proofs.Below.{all_at}
use Rattle.words.specs.Bytes.{field, AllBytes}
use Rattle.series.specs.Series.{modulus}
use Rattle.run.specs.Run.{Limits, is_ticket}
use Rattle.run.proofs.Range.{range_of, ticket_row}
use Rattle.run.proofs.Answering.{not_refused, changed}
use Rattle.run.specs.Call.{answered, bytes_left, refused_by, all_left}
use Rattle.ledger.specs.Ledger.{view_of, ledger_size, blocks_in, total_of, total_in}
use Rattle.ledger.specs.Plain.{Plain, plain_view, admit, encode, decode}
use Rattle.ledger.proofs.RowSums.{total_adding}
use Rattle.ledger.proofs.Image.{Good, view_encode, total_encode}
use Rattle.sheet.specs.Sheet.{sheet_pos, sheet_blocks, sheet_count, row_in, block_in, sum_in, entries_from, entries}
use Rattle.posting.specs.Calls.{enter_entry, sheet_post_call}
use Rattle.posting.specs.Posts.{sheet, post_refusal, post_entries}
use Rattle.posting.proofs.Testing.{sheet_taken}
use Rattle.posting.proofs.Simulation.{Ready, entered, post_ready}
use Rattle.posting.proofs.Singles.{Held, held}
use Rattle.sheet.proofs.Many.{count_entries}
use Rattle.sheet.proofs.Each.{entry, entries_next, every_entries}
use Rattle.sheet.proofs.Form.{formed_length}
use Rattle.look.specs.Look.{unmarked_of, unmarked_in}
use Rattle.ledger.specs.Marks.{marks_from}
use Rattle.look.proofs.Unmarked.{all_less_marks, unmarked_all, by_bits}

-- what is known of a sheet that is taken, and of the ledger that takes it
pub record Taken (lim : Limits) (ledger b : List ℕ) : Type 0 where
  pub sized : length ledger ≡ ledger_size lim
  pub whole : length b ≡ 16 + 20 * sheet_count b
  pub few_blocks : blocks_in ledger ≤ 256

pub is_taken : (lim : Limits) (ledger b : List ℕ) → answered (sheet_post_call lim ledger b) ≡ pos 0 → Taken lim ledger b
unfolding sheet_post_call refused_by answered view_of
is_taken lim ledger b e =
    let t = sheet_taken lim (view_of lim ledger) b (not_refused _ 0 0 e).0 in
    let C = (range_of lim (sheet_pos b) (sheet_blocks b) t.form.range).c_high in
    record {
      sized = eqb-true (length ledger) (ledger_size lim) t.sized;
      whole = formed_length b t.form.well_formed;
      few_blocks = subst (λ (n : ℕ). n ≤ 256) t.same_c C;
    }

-- the sum of ticket i, where the contents have e
abbrev pub body_at : List ℕ → ℕ → ℕ → ℕ
body_at b e i = field b (16 + 4 * e + 16 * i) 16

-- the loop that adds the sums to a total that is below 2 ^ 128
pub total_start : (b : List ℕ) (e first n : ℕ) → first ≡ n % modulus → first ≡ (first + sum (body_at b e) 0 0) % modulus
unfolding sum
total_start b e first n h =
    h ∙ sym (ap (λ (k : ℕ). k % modulus) (add-zero first ∙ h) ∙ mod-mod n modulus)

pub total_turn : (b : List ℕ) (e first i t x u : ℕ) → t ≡ (first + sum (body_at b e) 0 i) % modulus → x ≡ body_at b e i → u ≡ (t + x) % modulus
    → u ≡ (first + sum (body_at b e) 0 (i + 1)) % modulus
total_turn b e first i t x u et ex eu =
    total_next modulus (body_at b e) first i t u et (eu ∙ ap (λ (k : ℕ). (t + k) % modulus) ex)

module _ (lim : Limits) (fits : lim.last < 2 ^ 64) (ledger b : List ℕ) (bytes : AllBytes ledger) (taken : answered (sheet_post_call lim ledger b) ≡ pos 0) where
  holds : Held lim ledger b
  holds = held lim fits ledger b bytes taken

  ready : Ready lim (decode lim ledger) (entries b)
  unfolding post_entries
  ready = post_ready lim (decode lim ledger) (sheet b) holds.taken

  -- the plain ledger with the sheet's tickets in it
  pub all_in : Plain
  all_in = foldl admit (decode lim ledger) (entries b)

  pub post_leaves : (bytes_left (sheet_post_call lim ledger b) 0 ≡ encode lim all_in) × Good lim all_in
  unfolding sheet_post_call refused_by answered all_left all_in
  post_leaves =
      let e = entered lim (decode lim ledger) (entries b) holds.good ready in (
        sym (changed _ _ ledger (not_refused _ 0 0 taken).0) ∙ ap (λ (l : List ℕ). foldl (enter_entry lim) l (entries b)) (sym holds.again) ∙ e.0,
        e.1,
      )

  unmarked_left : unmarked_in lim ledger ≡ unmarked_in lim (bytes_left (sheet_post_call lim ledger b) 0) + sheet_count b
  unfolding all_in entries
  unmarked_left =
      ap (unmarked_in lim) (sym holds.again) ∙ ap (unmarked_of lim) (view_encode lim (decode lim ledger) holds.good)
      ∙ unmarked_all lim (decode lim ledger) (entries b) ready
      ∙ ap (λ (n : ℕ). unmarked_of lim (plain_view all_in) + n) (count_entries b (sheet_count b) 0)
      ∙ ap (λ (n : ℕ). n + sheet_count b)
      (ap (unmarked_of lim) (sym (view_encode lim all_in post_leaves.1)) ∙ ap (unmarked_in lim) (sym post_leaves.0))

  -- all tickets of the run: those that would remain, the sheet's, and those marked before
  pub all_tickets_lem : (r C e m : ℕ) → r ≡ lim.rows → C ≡ blocks_in ledger → e ≡ sheet_count b → m ≡ marks_from lim ledger 0 (C - 0) lim.rows
      → r * C ≡ unmarked_in lim (bytes_left (sheet_post_call lim ledger b) 0) + e + m
  unfolding view_of
  all_tickets_lem r C e m er eC ee em =
      ap₂ ◌*◌ er eC ∙ sym (all_less_marks lim (view_of lim ledger))
      ∙ ap₂ ◌+◌ (unmarked_left ∙ ap (λ (n : ℕ). unmarked_in lim (bytes_left (sheet_post_call lim ledger b) 0) + n) (sym ee))
      (sym (em ∙ ap (λ (n : ℕ). marks_from lim ledger 0 (n - 0) lim.rows) eC ∙ by_bits lim ledger))

  -- ---- the total, ticket by ticket

  row_in_lem : (i : ℕ) → i < sheet_count b → row_in b i < lim.rows
  unfolding entries post_refusal
  row_in_lem i l =
      ticket_row lim (sheet_blocks b) (row_in b i) (block_in b i)
      (all_at (sheet_count b) (λ j. is_ticket lim (sheet_blocks b) (row_in b j) (block_in b j))
      (sym (every_entries (λ t. is_ticket lim (sheet_blocks b) t.row t.block) b (sheet_count b)) ∙ (sheet_taken lim _ b holds.taken).form.tickets) i l)

  -- the plain ledger with the first i of the sheet's tickets
  after : ℕ → Plain
  after i = foldl admit (decode lim ledger) (entries_from b 0 i)

  total_after : (i : ℕ) → i ≤ sheet_count b → total_of lim (after i).sums ≡ (total_in lim ledger + sum (sum_in b) 0 i) % modulus
  unfolding after entries_from decode sum total_of admit
  total_after zero h = sym (ap (λ (n : ℕ). n % modulus) (add-zero (total_in lim ledger)) ∙ mod-mod _ modulus)
  total_after (suc i) h =
      let next =
      ap (λ (n : ℕ). foldl admit (decode lim ledger) (entries_from b 0 n)) (sym (add-one i)) ∙ ap (foldl admit (decode lim ledger)) (entries_next b i)
      ∙ foldl-append admit (decode lim ledger) (entries_from b 0 i) (entry b i ∷ []) in
      total_next modulus (sum_in b) (total_in lim ledger) i _ _ (total_after i (omega arith))
      (ap (λ (s : Plain). total_of lim s.sums) next ∙ total_adding lim (row_in b i) (sum_in b i) (after i).sums (row_in_lem i (omega arith)))
      ∙ ap (λ (n : ℕ). (total_in lim ledger + sum (sum_in b) 0 n) % modulus) (add-one i)

  pub total_left : (e first t : ℕ) → e ≡ sheet_count b → first ≡ total_in lim ledger → t ≡ (first + sum (body_at b e) 0 e) % modulus
      → t ≡ total_in lim (bytes_left (sheet_post_call lim ledger b) 0)
  unfolding after all_in entries sum_in
  total_left e first t counted ef et =
      et ∙ ap₂ (λ (m n : ℕ). (m + sum (body_at b n) 0 n) % modulus) ef counted
      ∙ sym (total_after (sheet_count b) (omega arith)) ∙ sym (ap (total_in lim) post_leaves.0 ∙ total_encode lim all_in post_leaves.1)
