-- Posting a ticket: the refusal at each test, what is known where none applies, and the ledger with the ticket entered.
-- Assumes nothing.
use mathlib.Core.Path.{◌≡◌, refl, sym, ap, ◌∙◌}
use mathlib.Core.Bool.{Bool, true, false, not, ◌&&◌}
use mathlib.Core.List.{List, [], ◌∷◌, ◌++◌}
use Prim.Native.Nat.{ℕ, ◌+◌, ◌*◌, ◌-◌, ◌/◌, ◌%◌, ◌^◌, ◌≤◌, ◌<◌}
use native.Mathlib.Nat.{div-add-mod', mod-lt, div-lt_iff_lt-mul, mul-le-mul_right, one-mul, mod-eq_of_lt}
use native.Mathlib.Omega.{arith}
use borrow.Author.Tests.{eqb-true, eqb-false, eq-eqb, ne_eqb, not-true}
use lib.Dec.{eqb}
use lib.IntN.{pos, negsuc}
use lib.ListN.{length, get_or}
use lib.Pow.{pow-add, pow_pos}
use lib.Seq.{take_all}
use Rattle.algebra.proofs.Booleans.{and_left, and_right, and_both, left_fails, right_fails}
use Rattle.words.specs.Bytes.{value_of, field}
use Rattle.run.specs.Refusal.{Test, refusal, tested}
use Rattle.run.specs.Run.{Limits, in_range, is_ticket}
use Rattle.run.specs.Tests.{of_sizes, of_ticket}
use Rattle.std.specs.Prelude.{Ok, Err, ⊤}
use Rattle.run.specs.Answers.{answer_of, Verdict, verdict_of}
use Rattle.run.specs.declared.Refusal.{Refusal}
use Rattle.run.proofs.Range.{range_of, ticket_row, ticket_block}
use Rattle.run.proofs.Testing.{Left, here, past, none_left, part_here, part_past, part_passes, passed, ticket_passed}
use Rattle.run.specs.Call.{Call, refused_by, answered, Does}
use Rattle.run.proofs.Calls.{finishes, was_passed, turned_back}
use Rattle.ledger.specs.Ledger.{View, view_of, ledger_size, mark_at, blocks_in, bit_in, mark_in, enter, Enterable}
use Rattle.ledger.specs.Calls.{of_ledger, of_marks, post_tests, post_call}

-- ---- the bit of a ticket

-- where bit k of a byte is 0, 2^k more is a byte still: the quotient by 2^k is even, and below 2^(8 - k)
pub bit_fits : (b k : ℕ) → b < 256 → k < 8 → eqb (b / 2 ^ k % 2) 1 ≡ false → b + 2 ^ k < 256
bit_fits b k h l e =
    let q = b / 2 ^ k in
    let bits : 1 + (7 - k) + k ≡ 8 = omega arith in
    let ends : 2 * 2 ^ (7 - k) * 2 ^ k ≡ 256 =
    sym (pow-add 2 (1 + (7 - k)) k ∙ ap (λ (n : ℕ). n * 2 ^ k) (pow-add 2 1 (7 - k))) ∙ ap (λ (n : ℕ). 2 ^ n) bits in
    let below : q < 2 * 2 ^ (7 - k) = (div-lt_iff_lt-mul (pow_pos k)).1 (omega arith) in
    let odd = eqb-false (q % 2) 1 e in
    let next : (q + 2) * 2 ^ k ≤ 2 * 2 ^ (7 - k) * 2 ^ k = mul-le-mul_right (2 ^ k) (omega arith) in
    let rest = mod-lt b (pow_pos k) in
    omega (arith, div-add-mod' b (2 ^ k))

-- the mark's byte, as the code makes it
pub mark_fits : (lim : Limits) (s : List ℕ) (row block : ℕ) → get_or s (mark_at lim row block) 0 < 256 → bit_in lim s row block ≡ false
    → (1 * 2 ^ (block % 8) % 256 ≡ 2 ^ (block % 8)) × (get_or s (mark_at lim row block) 0 + 1 * 2 ^ (block % 8) % 256 < 256)
unfolding bit_in
mark_fits lim s row block h e =
    let l = bit_fits (get_or s (mark_at lim row block) 0) (block % 8) h (omega arith) e in
    let m : 1 * 2 ^ (block % 8) % 256 ≡ 2 ^ (block % 8) = ap (λ (n : ℕ). n % 256) (one-mul (2 ^ (block % 8))) ∙ mod-eq_of_lt (omega arith) in
    (m, omega arith)

-- ---- the ledger at a ticket of its run

-- a ticket of the ledger's run is marked if its bit is set
pub mark_is_bit : (lim : Limits) (s : List ℕ) (C row block : ℕ) → C ≡ blocks_in s → is_ticket lim C row block ≡ true
    → mark_in lim s row block ≡ bit_in lim s row block
unfolding mark_in
mark_is_bit lim s C row block e t = rw (← e, t) refl

-- what is seen of a ledger is in its bytes
pub record Shows (lim : Limits) (v : View) (s : List ℕ) : Type 0 where
  pub size : v.sized ≡ true → length s ≡ ledger_size lim
  pub blocks : v.C ≡ blocks_in s
  pub marks : (row block : ℕ) → v.marked row block ≡ mark_in lim s row block

pub own_view : (lim : Limits) (s : List ℕ) → Shows lim (view_of lim s) s
unfolding view_of
own_view lim s = record { size = eqb-true (length s) (ledger_size lim); blocks = refl; marks = λ row block. refl }

pub size_right : (lim : Limits) (s : List ℕ) → length s ≡ ledger_size lim → (view_of lim s).sized ≡ true
unfolding view_of
size_right lim s h = eq-eqb (length s) (ledger_size lim) h

pub size_wrong : (lim : Limits) (s : List ℕ) → (length s ≡ ledger_size lim → ⊥) → (view_of lim s).sized ≡ false
unfolding view_of
size_wrong lim s h = ne_eqb (length s) (ledger_size lim) h

-- where a ticket of its run stands
pub record Place (lim : Limits) (v : View) (s : List ℕ) (row block : ℕ) : Type 0 where
  pub sized : length s ≡ ledger_size lim
  pub row_in : row < lim.rows
  pub block_in : block < 256
  pub bit : v.marked row block ≡ bit_in lim s row block

pub place : (lim : Limits) (v : View) (s : List ℕ) → Shows lim v s → (p C row block : ℕ) → v.sized ≡ true → in_range lim p C ≡ true
    → is_ticket lim C row block ≡ true → C ≡ v.C → Place lim v s row block
place lim v s shows p C row block sized range ticket run =
    let low = ticket_block lim C row block ticket in
    record {
      sized = shows.size sized;
      row_in = ticket_row lim C row block ticket;
      block_in = omega (arith, (range_of lim p C range).c_high);
      bit = shows.marks row block ∙ mark_is_bit lim s C row block (run ∙ shows.blocks) ticket;
    }

-- ---- what it means that the tests are passed, whatever the ledger is seen by

pub ledger_passed : (v : View) (p C : ℕ) (ts : List Test) → refusal (of_ledger v p C ++ ts) ≡ 0
    → (v.ordered ≡ true) × (p ≡ v.p) × (C ≡ v.C) × (refusal ts ≡ 0)
ledger_passed v p C ts e =
    let order = passed 4 _ _ e in
    let run = passed 5 _ ts order.1 in
    (order.0, eqb-true _ _ (and_left (eqb p v.p) _ run.0), eqb-true _ _ (and_right (eqb p v.p) _ run.0), run.1)

pub record PostTaken (lim : Limits) (v : View) (p C row block : ℕ) (sum : List ℕ) : Type 0 where
  pub sized : v.sized ≡ true
  pub sum_sized : length sum ≡ 16
  pub range : in_range lim p C ≡ true
  pub ticket : is_ticket lim C row block ≡ true
  pub ordered : v.ordered ≡ true
  pub same_p : p ≡ v.p
  pub same_c : C ≡ v.C
  pub new : v.marked row block ≡ false

pub post_taken : (lim : Limits) (v : View) (p C row block : ℕ) (sum : List ℕ) → refusal (post_tests lim v p C row block sum) ≡ 0
    → PostTaken lim v p C row block sum
unfolding post_tests
post_taken lim v p C row block sum e =
    let sizes = passed 0 _ _ e in
    let t = ticket_passed lim p C row block _ sizes.1 in
    let l = ledger_passed v p C _ t.2 in
    record {
      sized = and_left v.sized _ sizes.0;
      sum_sized = eqb-true (length sum) 16 (and_right v.sized _ sizes.0);
      range = t.0;
      ticket = t.1;
      ordered = l.0;
      same_p = l.1;
      same_c = l.2;
      new = not-true _ (passed 6 _ [] l.3).0;
    }

-- the ticket has a place in the ledger, and is not marked there
pub may_enter : (lim : Limits) (v : View) (s : List ℕ) → Shows lim v s → (p C row block : ℕ) (sum : List ℕ) → PostTaken lim v p C row block sum
    → Enterable lim s row block
may_enter lim v s shows p C row block sum t =
    let at = place lim v s shows p C row block t.sized t.range t.ticket t.same_c in
    record { sized = at.sized; row_in = at.row_in; block_in = at.block_in; new = sym at.bit ∙ t.new }

-- ---- the tests in their order

-- after those of the ticket the byte of its mark is in a ledger that has its size
pub mark_inside : (lim : Limits) (p C row block : ℕ) (a : Verdict) → verdict_of a ≡ tested (of_ticket lim p C row block) → (v : ⊤) → a ≡ Ok v
    → (size : ℕ) → size ≡ ledger_size lim → mark_at lim row block < size
mark_inside lim p C row block a e v f size h =
    let t = ticket_passed lim p C row block [] (part_passes _ a e v f) in
    omega (arith, (range_of lim p C t.0).c_high, ticket_row lim C row block t.1, ticket_block lim C row block t.1)

module _ (lim : Limits) (s : List ℕ) (p C row block : ℕ) (sum : List ℕ) where
  abbrev this : Call
  this = post_call lim s p C row block sum

  abbrev sizes : Bool
  sizes = eqb (length s) (ledger_size lim) && eqb (length sum) 16

  -- the last part, and the last two
  abbrev of_mark : List Test
  of_mark = of_marks (not (mark_in lim s row block))

  abbrev of_ledger_on : List Test
  of_ledger_on = of_ledger (view_of lim s) p C ++ of_mark

  all_tests : Left this (of_sizes sizes ++ of_ticket lim p C row block ++ of_ledger_on)
  unfolding post_call post_tests refused_by view_of
  all_tests = record { decide = refl }

  -- what is known where none applies
  pub enterable : refused_by this ≡ 0 → (length sum ≡ 16) × Enterable lim s row block
  unfolding post_call refused_by
  enterable e =
      let t = post_taken lim (view_of lim s) p C row block sum e in
      (t.sum_sized, may_enter lim (view_of lim s) s (own_view lim s) p C row block sum t)

  pub ledger_size_lem : (length s ≡ ledger_size lim → ⊥) → negsuc 0 ≡ answered this
  ledger_size_lem h = here all_tests (left_fails _ _ (ne_eqb _ _ h))

  pub sum_size : (length sum ≡ 16 → ⊥) → negsuc 0 ≡ answered this
  sum_size h = here all_tests (right_fails (eqb (length s) (ledger_size lim)) _ (ne_eqb _ _ h))

  module _ (h : length s ≡ ledger_size lim) (l : length sum ≡ 16) (a : Verdict) (ea : verdict_of a ≡ tested (of_ticket lim p C row block)) where
    from_ticket : Left this (of_ticket lim p C row block ++ of_ledger_on)
    from_ticket = past all_tests (and_both (eqb (length s) (ledger_size lim)) _ (eq-eqb _ _ h) (eq-eqb _ _ l))

    pub no_ticket : (r : Refusal) → a ≡ Err r → answer_of (Err r) ≡ answered this
    no_ticket = part_here _ a ea of_ledger_on from_ticket

    module _ (v : ⊤) (f : a ≡ Ok v) where
      is_one : is_ticket lim C row block ≡ true
      is_one = (ticket_passed lim p C row block [] (part_passes _ a ea v f)).1

      module _ (b : Verdict) (eb : verdict_of b ≡ tested (of_ledger (view_of lim s) p C)) where
        from_ledger : Left this of_ledger_on
        from_ledger = part_past _ a ea of_ledger_on from_ticket refl v f

        pub other_ledger : (r : Refusal) → b ≡ Err r → answer_of (Err r) ≡ answered this
        other_ledger = part_here _ b eb of_mark from_ledger

        module _ (w : ⊤) (g : b ≡ Ok w) where
          is_bit : mark_in lim s row block ≡ bit_in lim s row block
          unfolding view_of
          is_bit = mark_is_bit lim s C row block (ledger_passed (view_of lim s) p C [] (part_passes _ b eb w g)).2 is_one

          from_mark : Left this of_mark
          from_mark = part_past _ b eb of_mark from_ledger refl w g

          pub marked : bit_in lim s row block ≡ true → negsuc 6 ≡ answered this
          marked t = here from_mark (ap not (is_bit ∙ t))

          pub admitted : bit_in lim s row block ≡ false → pos 0 ≡ answered this
          unfolding post_call
          admitted t = none_left (past from_mark (ap not (is_bit ∙ t)))

-- ---- after the tests, by what they answered

-- a sum's 16 bytes, read as a number of two words
pub sum_read : (sum : List ℕ) → length sum ≡ 16 → field sum 0 16 ≡ value_of sum
unfolding field
sum_read sum h = ap value_of (take_all 16 sum (omega arith))

module _ (lim : Limits) (s : List ℕ) (p C row block : ℕ) (sum : List ℕ) (a : Verdict)
    (tested : verdict_of a ≡ answered (post_call lim s p C row block sum)) where
  pub none_applied : (v : ⊤) → a ≡ Ok v → (length sum ≡ 16) × Enterable lim s row block
  none_applied v e = enterable lim s p C row block sum (was_passed _ a tested v e)

  pub posted : (v : ⊤) (x : ℕ) (t : List ℕ) → a ≡ Ok v → x ≡ field sum 0 16 → t ≡ enter lim s row block x
      → Does (post_call lim s p C row block sum) (pos 0) (t ∷ [])
  unfolding post_call
  posted v x t e ex et =
      let f = finishes (post_call lim s p C row block sum) (was_passed _ a tested v e) in
      (f.0, ap (λ (b : List ℕ). b ∷ []) (et ∙ ap (enter lim s row block) (ex ∙ sum_read sum (none_applied v e).0)) ∙ f.1)

  pub not_posted : (r : Refusal) → a ≡ Err r → Does (post_call lim s p C row block sum) (answer_of (Err r)) (s ∷ [])
  unfolding post_call
  not_posted r e = turned_back (post_call lim s p C row block sum) a tested r e
