-- Posting a sheet: the tests in their order, what is known where none applies, and the ledger with the tickets entered.
-- Assumes nothing.
use mathlib.Core.Path.{◌≡◌, refl, sym, ap, ap₂, ◌∙◌}
use mathlib.Core.Bool.{Bool, true, false, not, ◌&&◌}
use mathlib.Core.List.{List, [], ◌∷◌, ◌++◌, foldl}
use Prim.Native.Nat.{ℕ, ◌+◌, ◌*◌, ◌≤◌}
use native.Mathlib.Omega.{arith}
use lib.IntN.{pos, negsuc}
use lib.ListN.{length}
use Rattle.algebra.proofs.Booleans.{and_left, and_right, and_both, left_fails, right_fails}
use Rattle.run.specs.Refusal.{Test, refusal, tested}
use Rattle.run.specs.Run.{Entry, Limits, in_range, is_ticket}
use Rattle.run.specs.Tests.{of_sizes}
use Rattle.std.specs.Prelude.{Ok, Err, ⊤}
use Rattle.run.specs.Answers.{answer_of, Verdict, verdict_of}
use Rattle.run.specs.declared.Refusal.{Refusal}
use Rattle.run.proofs.Range.{range_of, ticket_row, ticket_block, is_ticket_lem}
use Rattle.run.specs.Call.{Call, answered, refused_by, Does}
use Rattle.run.proofs.Testing.{Left, here, past, none_left, part_here, part_past, part_passes, passed}
use Rattle.run.proofs.Calls.{finishes, was_passed, turned_back}
use Rattle.sheet.specs.Sheet.{sheet_pos, sheet_blocks, sheet_count, entries_from, entries, every, all_tickets}
use Rattle.sheet.specs.Tests.{sheet_sized, of_sheet}
use Rattle.sheet.proofs.Form.{formed, formed_length, SheetPassed, sheet_passed}
use Rattle.ledger.specs.Ledger.{View, view_of, ledger_size}
use Rattle.ledger.specs.Calls.{of_ledger, of_marks}
use Rattle.ledger.proofs.Posting.{mark_is_bit, Shows, own_view, ledger_passed}
use Rattle.posting.specs.Calls.{sheet_tests, enter_entry, sheet_post_call, unset, AllEnterable}

-- ---- what it means that the tests are passed, whatever the ledger is seen by

pub record SheetTaken (lim : Limits) (v : View) (s : List ℕ) : Type 0 where
  pub sized : v.sized ≡ true
  pub sheet_sized : sheet_sized lim s ≡ true
  pub form : SheetPassed lim s
  pub ordered : v.ordered ≡ true
  pub same_p : sheet_pos s ≡ v.p
  pub same_c : sheet_blocks s ≡ v.C
  pub new : every (λ t. not (v.marked t.row t.block)) (entries s) ≡ true

pub sheet_taken : (lim : Limits) (v : View) (s : List ℕ) → refusal (sheet_tests lim v s) ≡ 0 → SheetTaken lim v s
unfolding sheet_tests
sheet_taken lim v s e =
    let sizes = passed 0 _ _ e in
    let form = sheet_passed lim s _ sizes.1 in
    let l = ledger_passed v (sheet_pos s) (sheet_blocks s) _ form.1 in
    record {
      sized = and_left v.sized _ sizes.0;
      sheet_sized = and_right v.sized _ sizes.0;
      form = form.0;
      ordered = l.0;
      same_p = l.1;
      same_c = l.2;
      new = (passed 6 _ [] l.3).0;
    }

pub every_and : (f g h : Entry → Bool) → ((t : Entry) → f t ≡ true → g t ≡ true → h t ≡ true)
    → (ts : List Entry) → every f ts ≡ true → every g ts ≡ true → every h ts ≡ true
unfolding every
every_and f g h i [] a b = refl
every_and f g h i (t ∷ ts) a b =
    and_both (h t) (every h ts) (i t (and_left (f t) (every f ts) a) (and_left (g t) (every g ts) b))
    (every_and f g h i ts (and_right (f t) (every f ts) a) (and_right (g t) (every g ts) b))

-- two tests that agree on what passes a third
every_same : (f g h : Entry → Bool) → ((t : Entry) → h t ≡ true → f t ≡ g t) → (ts : List Entry) → every h ts ≡ true → every f ts ≡ every g ts
unfolding every
every_same f g h same [] a = refl
every_same f g h same (t ∷ ts) a =
    ap₂ ◌&&◌ (same t (and_left (h t) (every h ts) a)) (every_same f g h same ts (and_right (h t) (every h ts) a))

-- ---- tickets of the ledger's run

module _ (lim : Limits) (ledger : List ℕ) (p C : ℕ) (ts : List Entry) (range : in_range lim p C ≡ true) (tickets : all_tickets lim C ts ≡ true) where
  -- a run has at most 256 blocks, as many as a ledger has marks in a row
  pub all_known : all_tickets lim 256 ts ≡ true
  all_known = every_and _ _ (λ t. is_ticket lim 256 t.row t.block)
      (λ t h l.
      let few = (range_of lim p C range).c_high in
      let low = ticket_block lim C t.row t.block h in
      is_ticket_lem lim 256 t.row t.block (ticket_row lim C t.row t.block h) (omega arith))
      ts tickets tickets

  by_bits : (v : View) → Shows lim v ledger → C ≡ v.C → every (λ t. not (v.marked t.row t.block)) ts ≡ every (unset lim ledger) ts
  by_bits v shows run = every_same _ (unset lim ledger) _
      (λ t h. ap not (shows.marks t.row t.block ∙ mark_is_bit lim ledger C t.row t.block (run ∙ shows.blocks) h)) ts tickets

-- all of a sheet's tickets have a place in the ledger, and none is marked there
pub may_enter_all : (lim : Limits) (v : View) (ledger s : List ℕ) → Shows lim v ledger → SheetTaken lim v s → AllEnterable lim ledger s
may_enter_all lim v ledger s shows t =
    let form = t.form in
    record {
      whole = formed_length s form.well_formed;
      ascends = formed s form.well_formed;
      sized = shows.size t.sized;
      placed = all_known lim ledger (sheet_pos s) (sheet_blocks s) (entries s) form.range form.tickets;
      new = sym (by_bits lim ledger (sheet_pos s) (sheet_blocks s) (entries s) form.range form.tickets v shows t.same_c) ∙ t.new;
    }

-- ---- the tests in their order, whatever the call and whatever the ledger is seen by

-- a call that tests a sheet and the ledger that it is posted to
pub record Posts (lim : Limits) (v : View) (ledger s : List ℕ) (call : Call) : Type 0 where
  pub shows : Shows lim v ledger
  pub all_tests : Left call (sheet_tests lim v s)
  pub zero : call.value ≡ 0

module _ {lim : Limits} {v : View} {ledger s : List ℕ} {call : Call} (posts : Posts lim v ledger s call) where
  -- the last part, and the last two
  abbrev of_new : List Test
  of_new = of_marks (every (λ t. not (v.marked t.row t.block)) (entries s))

  abbrev of_ledger_on : List Test
  of_ledger_on = of_ledger v (sheet_pos s) (sheet_blocks s) ++ of_new

  from_sizes : Left call (of_sizes (v.sized && sheet_sized lim s) ++ of_sheet lim s ++ of_ledger_on)
  unfolding sheet_tests
  from_sizes = posts.all_tests

  pub ledger_size_lem : v.sized ≡ false → negsuc 0 ≡ answered call
  ledger_size_lem h = here from_sizes (left_fails _ _ h)

  module _ (b : Bool) (sheet_sized_lem : b ≡ sheet_sized lim s) where
    pub sheet_size : b ≡ false → negsuc 0 ≡ answered call
    sheet_size f = here from_sizes (right_fails v.sized _ (sym sheet_sized_lem ∙ f))

    module _ (sized : v.sized ≡ true) (t : b ≡ true) (a : Verdict) (ea : verdict_of a ≡ tested (of_sheet lim s)) where
      from_sheet : Left call (of_sheet lim s ++ of_ledger_on)
      from_sheet = past from_sizes (and_both v.sized _ sized (sym sheet_sized_lem ∙ t))

      pub other_sheet : (r : Refusal) → a ≡ Err r → answer_of (Err r) ≡ answered call
      other_sheet = part_here _ a ea of_ledger_on from_sheet

      module _ (w : ⊤) (f : a ≡ Ok w) (p C : ℕ) (ep : p ≡ sheet_pos s) (eC : C ≡ sheet_blocks s)
          (c : Verdict) (ec : verdict_of c ≡ tested (of_ledger v p C)) where
        form : SheetPassed lim s
        form = (sheet_passed lim s [] (part_passes _ a ea w f)).0

        from_ledger : Left call of_ledger_on
        from_ledger = part_past _ a ea of_ledger_on from_sheet refl w f

        made : verdict_of c ≡ tested (of_ledger v (sheet_pos s) (sheet_blocks s))
        made = ec ∙ ap₂ (λ (x y : ℕ). tested (of_ledger v x y)) ep eC

        pub other_ledger : (r : Refusal) → c ≡ Err r → answer_of (Err r) ≡ answered call
        other_ledger = part_here _ c made of_new from_ledger

        module _ (u : ⊤) (g : c ≡ Ok u) (e : ℕ) (counted : e ≡ sheet_count s) where
          run : sheet_blocks s ≡ v.C
          run = (ledger_passed v (sheet_pos s) (sheet_blocks s) [] (part_passes _ c made u g)).2

          all : entries s ≡ entries_from s 0 e
          unfolding entries
          all = ap (entries_from s 0) (sym counted)

          pub may_look : (16 + 4 * e ≤ length s) × (length ledger ≡ ledger_size lim) × (all_tickets lim 256 (entries_from s 0 e) ≡ true)
          may_look =
              let l = formed_length s form.well_formed in
              (omega (arith, l, counted), posts.shows.size sized, ap (all_tickets lim 256) (sym all) ∙ all_known lim ledger _ _ (entries s) form.range form.tickets)

          module _ (n : Bool) (none : n ≡ every (unset lim ledger) (entries_from s 0 e)) where
            marks : every (λ t. not (v.marked t.row t.block)) (entries s) ≡ n
            marks = by_bits lim ledger _ _ (entries s) form.range form.tickets v posts.shows run ∙ ap (every (unset lim ledger)) all ∙ sym none

            from_marks : Left call of_new
            from_marks = part_past _ c made of_new from_ledger refl u g

            pub one_marked : n ≡ false → negsuc 6 ≡ answered call
            one_marked k = here from_marks (marks ∙ k)

            pub admitted : n ≡ true → pos 0 ≡ answered call
            admitted k = sym (ap pos posts.zero) ∙ none_left (past from_marks (marks ∙ k))

-- posting without a book
pub alone : (lim : Limits) (ledger s : List ℕ) → Posts lim (view_of lim ledger) ledger s (sheet_post_call lim ledger s)
unfolding sheet_post_call refused_by
alone lim ledger s = record { shows = own_view lim ledger; all_tests = record { decide = refl }; zero = refl }

-- ---- after the tests, by what they answered

module _ (lim : Limits) (ledger s : List ℕ) (a : Verdict) (made : verdict_of a ≡ answered (sheet_post_call lim ledger s)) where
  pub none_applied : (v : ⊤) → a ≡ Ok v → AllEnterable lim ledger s
  unfolding sheet_post_call refused_by
  none_applied v f =
      may_enter_all lim (view_of lim ledger) ledger s (own_view lim ledger) (sheet_taken lim (view_of lim ledger) s (was_passed _ a made v f))

  pub posted : (v : ⊤) (t : List ℕ) → a ≡ Ok v → t ≡ foldl (enter_entry lim) ledger (entries s)
      → Does (sheet_post_call lim ledger s) (pos 0) (t ∷ [])
  unfolding sheet_post_call
  posted v t f et =
      let d = finishes (sheet_post_call lim ledger s) (was_passed _ a made v f) in
      (d.0, ap (λ (b : List ℕ). b ∷ []) et ∙ d.1)

  pub not_posted : (r : Refusal) → a ≡ Err r → Does (sheet_post_call lim ledger s) (answer_of (Err r)) (ledger ∷ [])
  unfolding sheet_post_call
  not_posted r f = turned_back (sheet_post_call lim ledger s) a made r f
