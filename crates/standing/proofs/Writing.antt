-- The standing sheet as it is written: the tests in their order, the loop over the places, and the whole sheet where no test applies.
-- Assumes nothing.
use mathlib.Core.Path.{◌≡◌, refl, sym, ap, ap₂, ◌∙◌}
use mathlib.Core.Bool.{Bool, true, false, cond, ◌&&◌}
use mathlib.Core.List.{List, [], ◌∷◌, ◌++◌}
use Prim.Native.Nat.{ℕ, ◌+◌, ◌*◌, ◌-◌, ◌/◌, ◌%◌, ◌<◌, ◌≤◌}
use native.Mathlib.Omega.{arith}
use borrow.Author.Tests.{leb-true, le-leb, lt-leb}
use lib.Arith.{lt_of_le-ne}
use lib.Dec.{leb}
use lib.IntN.{pos, negsuc}
use lib.ListN.{length, get_or, take, drop, length-append}
use Rattle.algebra.proofs.Booleans.{and_left, and_right, and_both, left_fails, right_fails}
use Rattle.words.specs.Bytes.{bytes_of}
use Rattle.run.specs.Run.{Entry, Limits}
use Rattle.run.specs.Tests.{of_sizes}
use Rattle.std.specs.Prelude.{Ok, Err}
use Rattle.run.specs.Answers.{Answer, answer_of}
use Rattle.run.specs.declared.Refusal.{Refusal}
use Rattle.run.specs.Call.{Call, answered, refused_by, Does}
use Rattle.run.proofs.Testing.{Left, here, past, passed, none_left}
use Rattle.run.proofs.Calls.{was_worked, works, turned_down}
use Rattle.sheet.specs.Sheet.{sheet_length, line, contents_of, bodies_of, sheet_of}
use Rattle.sheet.specs.Calls.{over}
use Rattle.sheet.proofs.Each.{nothing}
use Rattle.sheet.proofs.Laying.{laid_to, none_laid, one_laid, all_laid, whole}
use Rattle.ledger.specs.Ledger.{ledger_size, pos_in, blocks_in, bit_in}
use Rattle.ledger.specs.Marks.{row_marks}
use Rattle.ledger.specs.Calls.{of_order}
use Rattle.ledger.proofs.Counting.{all_counted}
use Rattle.book.specs.Book.{book_size, kept_in, in_order_with, view_with}
use Rattle.book.proofs.Sound.{ledger_sized, book_sized}
use Rattle.standing.specs.Standing.{ticket_at, standing_from, set_bits, standing_in, standing_sheet, standing_tests, standing_call}
use Rattle.standing.proofs.Places.{standing_next, standing_at, count_standing}

-- every place has at most one
pub few_bits : (lim : Limits) (ledger : List ℕ) → set_bits lim ledger ≤ 256 * lim.rows
unfolding row_marks
few_bits lim ledger = let all = all_counted (bit_in lim ledger) lim.rows 256 in omega (arith, all)

-- ---- the loop

-- the tickets that stand at the first n places
abbrev pub before : Limits → List ℕ → List ℕ → ℕ → List Entry
before lim ledger book n = standing_from (bit_in lim ledger) (kept_in book) 0 n

-- `left` of the e tickets stand at later places; the others are laid over what was found
abbrev pub Laid : Limits → List ℕ → List ℕ → ℕ → List ℕ → ℕ → ℕ → List ℕ → Type 0
Laid lim ledger book e old n left l = (left + length (before lim ledger book n) ≡ e) × (l ≡ laid_to (standing_in lim ledger book) e old (e - left))

module _ (lim : Limits) (ledger book : List ℕ) (e : ℕ) (counted : e ≡ set_bits lim ledger) where
  abbrev ts : List Entry
  ts = standing_in lim ledger book

  count : length ts ≡ e
  count = count_standing lim ledger book ∙ sym counted

  -- where tickets are left there are places left
  pub place_left : (n left : ℕ) → left + length (before lim ledger book n) ≡ e → 0 < left → n ≤ 256 * lim.rows → n < 256 * lim.rows
  place_left n left so_far some within =
      lt_of_le-ne within (λ last. let all = ap (λ (k : ℕ). length (before lim ledger book k)) last in omega (arith, all, count))

  pub none_passed : (old : List ℕ) → Laid lim ledger book e old 0 e old
  unfolding standing_from
  none_passed old =
      let z : 0 ≡ e - e = omega arith in
      (omega arith, none_laid ts e old ∙ ap (laid_to ts e old) z)

  module _ (old : List ℕ) (room : 16 + 20 * e ≤ length old) where
    module _ (n left : ℕ) (l : List ℕ) (so_far : Laid lim ledger book e old n left l) (b : Bool) (read : b ≡ bit_in lim ledger (n / 256) (n % 256)) where
      one_more : (c : Bool) → b ≡ c → length (before lim ledger book (n + 1)) ≡ length (before lim ledger book n) + length (cond c (ticket_at (kept_in book) n ∷ []) [])
      one_more c q =
          ap length (standing_next (bit_in lim ledger) (kept_in book) n) ∙ length-append (before lim ledger book n) _
          ∙ ap (λ (d : Bool). length (before lim ledger book n) + length (cond d (ticket_at (kept_in book) n ∷ []) [])) (sym read ∙ q)

      -- no ticket stands at place n
      pub none_there : b ≡ false → Laid lim ledger book e old (n + 1) left l
      none_there q = let more = one_more false q in let so = so_far.0 in (omega arith, so_far.1)

      -- one does, and it is laid as the next
      pub one_there : (x : ℕ) (m o : List ℕ) → 0 < left → n < 256 * lim.rows → b ≡ true → x ≡ kept_in book (n / 256) (n % 256)
          → m ≡ take (16 + 4 * (e - left)) l ++ line (n / 256) (n % 256) ++ drop (16 + 4 * (e - left) + 4) l
          → o ≡ take (16 + 4 * e + 16 * (e - left)) m ++ bytes_of 16 x ++ drop (16 + 4 * e + 16 * (e - left) + 16) m
          → Laid lim ledger book e old (n + 1) (left - 1) o
      unfolding ticket_at
      one_there x m o some h q ex em eo =
          let there = sym read ∙ q in
          let more = one_more true q in
          let so = so_far.0 in
          let i : e - left ≡ length (before lim ledger book n) = omega arith in
          let next : e - left + 1 ≡ e - (left - 1) = omega arith in
          let at : get_or ts (e - left) nothing ≡ ticket_at (kept_in book) n =
          ap (λ (k : ℕ). get_or ts k nothing) i ∙ standing_at (bit_in lim ledger) (kept_in book) (256 * lim.rows) n h there in (
            omega arith,
            one_laid ts e count old room l m o (e - left) x (ticket_at (kept_in book) n) (omega arith) at ex so_far.1 em eo ∙ ap (laid_to ts e old) next,
          )

    -- none is left
    pub all_passed : (n left : ℕ) (l : List ℕ) → left ≡ 0 → Laid lim ledger book e old n left l
        → l ≡ take 16 old ++ contents_of ts ++ bodies_of ts ++ drop (16 + 20 * e) old
    all_passed n left l z so_far = all_laid ts e count old room l (e - left) (omega arith) so_far.1

-- what is known where no test applied, of which the answer is `size`
pub record Writable (lim : Limits) (ledger book out : List ℕ) (size : ℕ) : Type 0 where
  pub ledger_has : length ledger ≡ ledger_size lim
  pub book_has : length book ≡ book_size lim
  pub room : 16 + 20 * set_bits lim ledger ≤ length out
  pub size_is : size ≡ 16 + 20 * set_bits lim ledger
  pub counted : (size - 16) / 20 ≡ set_bits lim ledger

module _ (lim : Limits) (ledger book out : List ℕ) where
  abbrev this : Call
  this = standing_call lim ledger book out

  -- ---- the tests

  abbrev sizes : Bool
  sizes = (view_with lim ledger book).sized

  abbrev room : Bool
  room = leb (sheet_length (set_bits lim ledger)) (length out)

  all_tests : Left this (of_sizes (sizes && room) ++ of_order (view_with lim ledger book))
  unfolding standing_call standing_tests refused_by
  all_tests = record { decide = refl }

  module _ (b : Bool) (sized : b ≡ sizes) where
    pub other_size : b ≡ false → negsuc 0 ≡ answered this
    other_size f = here all_tests (left_fails sizes room (sym sized ∙ f))

    module _ (n : ℕ) (counted : n ≡ set_bits lim ledger) where
      pub no_room : length out < 16 + 20 * n → negsuc 0 ≡ answered this
      no_room h = here all_tests (right_fails sizes room (lt-leb (sheet_length (set_bits lim ledger)) (length out) (rw counted at h)))

      module _ (t : b ≡ true) (h : 16 + 20 * n ≤ length out) (o : Bool) (ordered : o ≡ in_order_with lim ledger book) where
        from_order : Left this (of_order (view_with lim ledger book))
        from_order = past all_tests (and_both sizes room (sym sized ∙ t) (le-leb (sheet_length (set_bits lim ledger)) (length out) (rw counted at h)))

        pub not_in_order : o ≡ false → negsuc 4 ≡ answered this
        unfolding view_with
        not_in_order f = here from_order (sym ordered ∙ f)

        pub accepted : o ≡ true → pos (16 + 20 * n) ≡ answered this
        unfolding standing_call view_with
        accepted f = ap (λ (k : ℕ). pos (16 + 20 * k)) counted ∙ none_left (past from_order (sym ordered ∙ f))

  -- ---- after the tests, by what they answered

  module _ (a : Answer) (made : answer_of a ≡ answered this) where
    pub none_applied : (size : ℕ) → a ≡ Ok size → Writable lim ledger book out size
    unfolding standing_call standing_tests refused_by
    none_applied size f =
        let w = was_worked this a made size f in
        let right = (passed 0 _ _ w.0).0 in
        let sized = and_left sizes room right in
        record {
          ledger_has = ledger_sized lim ledger book sized;
          book_has = book_sized lim ledger book sized;
          room = leb-true _ _ (and_right sizes room right);
          size_is = w.1;
          counted = let n = w.1 in omega (arith, n);
        }

    pub written : (size p C : ℕ) (o₁ o₂ : List ℕ) → a ≡ Ok size → p ≡ pos_in ledger → C ≡ blocks_in ledger
        → o₁ ≡ bytes_of 8 p ++ bytes_of 2 C ++ bytes_of 2 ((size - 16) / 20) ++ bytes_of 4 0 ++ drop 16 out
        → o₂ ≡ take 16 o₁ ++ contents_of (standing_in lim ledger book) ++ bodies_of (standing_in lim ledger book) ++ drop (16 + 20 * ((size - 16) / 20)) o₁
        → Does this (pos size) (o₂ ∷ [])
    unfolding standing_call standing_sheet
    written size p C o₁ o₂ f ep eC e₁ e₂ =
        let ts = standing_in lim ledger book in
        let d = works this a made size f in
        let sheet = whole p C ((size - 16) / 20) ts out o₁ o₂ (count_standing lim ledger book ∙ sym (none_applied size f).counted) e₁ e₂ in
        (d.0, ap (λ (b : List ℕ). b ∷ []) (sheet ∙ ap₂ (λ (x y : ℕ). over (sheet_of x y ts) out) ep eC) ∙ d.1)

    pub not_written : (r : Refusal) → a ≡ Err r → Does this (answer_of (Err r)) (out ∷ [])
    unfolding standing_call
    not_written r f = turned_down this a made r f
