-- `look::remaining` meets its contract: the run's tickets are those that would remain, the sheet's, and those marked now.
-- Assumes nothing.
use Rattle.std.proofs.Common.{◌≡◌, ℕ, ◌+◌, ◌-◌, ◌*◌, ◌≤◌, List, pos}
use native.Mathlib.Nat.{mul-le-mul_left}
use native.Mathlib.Omega.{arith}
use Rattle.words.specs.Bytes.{AllBytes}
use Rattle.series.specs.Series.{row_count}
use Rattle.series.specs.Names.{formula_of}
use Rattle.series.specs.declared.Series.{Series}
use Rattle.series.proofs.FewRows.{near_positions}
use Rattle.run.specs.Run.{limits_of}
use Rattle.run.specs.Call.{answered, bytes_left}
use Rattle.ledger.specs.Ledger.{blocks_in}
use Rattle.ledger.specs.Marks.{marks_from}
use Rattle.sheet.specs.Sheet.{sheet_count}
use Rattle.posting.specs.Calls.{sheet_post_call}
use Rattle.look.specs.Look.{unmarked_in}
use Rattle.look.proofs.Posted.{is_taken, all_tickets_lem}
use Rattle.look.proofs.remaining.Goals as goal

-- what is known after the counting: the tickets by their kinds, and that there are few
record Counted (r C e m rest : ℕ) : Type 0 where
  all : r * C ≡ rest + e + m
  wide : r * C ≤ r * 256
  few : r ≤ 7

counted : (f : Series) (ledger s : List ℕ) (r C e m : ℕ) → AllBytes ledger → answered (sheet_post_call (limits_of (formula_of f)) ledger s) ≡ pos 0
    → r ≡ row_count (formula_of f) → r ≤ 7 → C ≡ blocks_in ledger → e ≡ sheet_count s
    → m ≡ marks_from (limits_of (formula_of f)) ledger 0 (C - 0) (row_count (formula_of f))
    → Counted r C e m (unmarked_in (limits_of (formula_of f)) (bytes_left (sheet_post_call (limits_of (formula_of f)) ledger s) 0))
counted f ledger s r C e m bytes taken er few eC ee em =
    let t = is_taken _ _ _ taken in
    record {
      all = all_tickets_lem _ (near_positions f) ledger s bytes taken r C e m er eC ee em;
      wide = mul-le-mul_left r (let h = t.few_blocks in omega (arith, h, eC));
      few = few;
    }

pub returns : goal.returns
unfolding AllBytes blocks_in
returns c =
    let k = counted c.args.f c.args.ledger.now c.args.s.now _ _ _ _ (λ i. (c.type_inv.ledger i).fits) c.requires c.row_count.ensures.counts c.row_count.ensures.few
    c.run-c.ensures.1 c.count-e.ensures.0 c.count-marked.ensures in
    let all = k.all in
    omega (arith, all)

pub overflow_mul-tickets : goal.overflow_mul-tickets
unfolding blocks_in
overflow_mul-tickets c =
    let C = (is_taken _ _ _ c.requires).few_blocks in
    let few_blocks : c.run-c.result.c ≤ 256 = omega (arith, C, c.run-c.ensures.1) in
    let wide = mul-le-mul_left c.row_count.result few_blocks in
    record { fits = omega (arith, wide, c.row_count.ensures.few) }

pub invariant_of-ledger : goal.invariant_of-ledger
invariant_of-ledger c = record { sized = (is_taken _ _ _ c.requires).sized }

pub count-marked-requires : goal.count-marked-requires
unfolding blocks_in
count-marked-requires c =
    let t = is_taken _ _ _ c.requires in
    (omega arith, let C = t.few_blocks in omega (arith, C, c.run-c.ensures.1))

pub invariant_of-count : goal.invariant_of-count
invariant_of-count c = let t = (is_taken _ _ _ c.requires).whole in record { head = omega (arith, t) }

pub overflow_sub-result : goal.overflow_sub-result
unfolding AllBytes blocks_in
overflow_sub-result c =
    let k = counted c.args.f c.args.ledger.now c.args.s.now _ _ _ _ (λ i. (c.type_inv.ledger i).fits) c.requires c.row_count.ensures.counts c.row_count.ensures.few
    c.run-c.ensures.1 c.count-e.ensures.0 c.count-marked.ensures in
    let all = k.all in
    let wide = k.wide in
    omega (arith, all, wide)

pub overflow_sub-result-2 : goal.overflow_sub-result-2
unfolding AllBytes blocks_in
overflow_sub-result-2 c =
    let k = counted c.args.f c.args.ledger.now c.args.s.now _ _ _ _ (λ i. (c.type_inv.ledger i).fits) c.requires c.row_count.ensures.counts c.row_count.ensures.few
    c.run-c.ensures.1 c.count-e.ensures.0 c.count-marked.ensures in
    let all = k.all in
    omega (arith, all)

pub overflow_cast-result : goal.overflow_cast-result
unfolding AllBytes blocks_in
overflow_cast-result c =
    let k = counted c.args.f c.args.ledger.now c.args.s.now _ _ _ _ (λ i. (c.type_inv.ledger i).fits) c.requires c.row_count.ensures.counts c.row_count.ensures.few
    c.run-c.ensures.1 c.count-e.ensures.0 c.count-marked.ensures in
    let all = k.all in
    let wide = k.wide in
    let few = k.few in
    record { fits = omega (arith, all, wide, few) }
