-- The plain ledger that keeps its sums: what is seen of its bytes is what is seen of it, ledger and book in order together hold one, and it stays sound
-- with a ticket put in or taken out.
-- Assumes nothing.
use mathlib.Core.Path.{◌≡◌, refl, sym, ap, ◌∙◌, subst}
use mathlib.Core.Bool.{Bool, true, false, not, cond, ◌&&◌, ◌||◌}
use mathlib.Core.List.{List}
use Prim.Native.Nat.{ℕ, ◌+◌, ◌*◌, ◌-◌, ◌/◌, ◌%◌, ◌^◌, ◌<◌, ◌≤◌}
use native.Mathlib.Nat.{zero-add, mod-lt}
use native.Mathlib.Omega.{arith}
use borrow.Author.Tests.{eq-eqb, eqb-true, eqb-false}
use lib.Dec.{eqb}
use lib.Pow.{pow_pos}
use lib.ListN.{length}
use lib.Seq.{take_all}
use Rattle.algebra.specs.Sum.{sum}
use Rattle.algebra.proofs.Sums.{sum_ext, sum_zero, sum_up_to, sum_bump}
use Rattle.algebra.proofs.Below.{all_true, all_at}
use Rattle.algebra.proofs.Booleans.{and_left, and_right, and_both, not_both, at_or_else}
use Rattle.algebra.proofs.Cong.{taken_out, rem_either}
use Rattle.words.specs.Bytes.{field, AllBytes}
use Rattle.words.proofs.Bytes.{field_lt}
use Rattle.series.specs.Series.{modulus}
use Rattle.run.specs.Run.{Entry, Limits, in_range, is_ticket}
use Rattle.run.proofs.Range.{range_of, ticket_row, ticket_block, ticket_low}
use Rattle.ledger.specs.Ledger.{ledger_size, row_sum_in, bit_in, mark_in, in_order}
use Rattle.ledger.specs.Plain.{Plain, plain_view, opened, admit, adding, including, encode, decode}
use Rattle.ledger.proofs.RowSums.{rows_ext, rows_again, adding_here, adding_else, adding_fits}
use Rattle.ledger.proofs.Image.{Good, including_here, including_else, pos_encode, blocks_encode, sum_encode, length_encode, bit_encode, mark_encode, order_encode, good_admit}
use Rattle.ledger.proofs.Decode.{mark_bit, encode_decode, good_decode}
use Rattle.book.specs.Book.{book_size, kept_at, kept_in, adds_up, zero_elsewhere, in_order_with, view_with, opposite}
use Rattle.book.specs.Kept.{Keeping, opened_keeping, keeping, excluding, admit_kept, dismiss, release, encode_book, decode_with, Sound, HoldsKept}
use Rattle.book.proofs.Image.{keeping_here, keeping_else, length_book, kept_encode}

-- ---- sizes of both

pub ledger_sized : (lim : Limits) (ledger book : List ℕ) → (view_with lim ledger book).sized ≡ true → length ledger ≡ ledger_size lim
unfolding view_with
ledger_sized lim ledger book e = eqb-true (length ledger) (ledger_size lim) (and_left (eqb (length ledger) (ledger_size lim)) _ e)

pub book_sized : (lim : Limits) (ledger book : List ℕ) → (view_with lim ledger book).sized ≡ true → length book ≡ book_size lim
unfolding view_with
book_sized lim ledger book e = eqb-true (length book) (book_size lim) (and_right (eqb (length ledger) (ledger_size lim)) _ e)

-- nothing is kept past the run's last block
past_last : (lim : Limits) (s : Plain) (kept : ℕ → ℕ → ℕ) → ((row block : ℕ) → s.tickets row block ≡ true → is_ticket lim s.C row block ≡ true)
    → ((row block : ℕ) → s.tickets row block ≡ false → kept row block ≡ 0) → (row block : ℕ) → s.C ≤ block → kept row block ≡ 0
past_last lim s kept tickets off row block l = go (s.tickets row block) refl
  where
    go : (b : Bool) → s.tickets row block ≡ b → kept row block ≡ 0
    go true e = let h = ticket_block lim s.C row block (tickets row block e) in absurd (omega arith)
    go false e = off row block e

module _ (lim : Limits) (fits : lim.last < 2 ^ 64) where
  pub good_of : (k : Keeping) → Sound lim k → Good lim k.plain
  good_of k o = record { fits = fits; range = o.range; sums_in = o.sums_in; tickets_in = o.tickets_in }

  -- ---- the bytes of one

  module _ (k : Keeping) (o : Sound lim k) where
    few : k.plain.C ≤ 256
    few = (range_of lim k.plain.p k.plain.C o.range).c_high

    pub kept_there : (row block : ℕ) → row < lim.rows → block < 256 → kept_in (encode_book lim k.kept) row block ≡ k.kept row block
    kept_there row block h l = kept_encode lim k.kept row block h l (o.kept_in row block)

    row_adds : (row : ℕ) → row < lim.rows → adds_up (encode lim k.plain) (encode_book lim k.kept) row ≡ true
    unfolding adds_up
    row_adds row h =
        eq-eqb (sum (kept_in (encode_book lim k.kept) row) 0 256 % modulus) (row_sum_in (encode lim k.plain) row)
        (ap (λ (n : ℕ). n % modulus)
        (sum_ext (kept_in (encode_book lim k.kept) row) (k.kept row) 0 256 (λ b l u. kept_there row b h (omega arith)) ∙ sum_up_to (k.kept row) k.plain.C 256 few (past_last lim k.plain k.kept o.tickets_in o.off row))
        ∙ o.adds_up row h ∙ sym (sum_encode lim k.plain (good_of k o) row h))

    row_zero : (row : ℕ) → row < lim.rows → zero_elsewhere lim (encode lim k.plain) (encode_book lim k.kept) row ≡ true
    unfolding zero_elsewhere
    row_zero row h =
        all_true 256 _ (λ block l. rw (bit_encode lim k.plain (good_of k o) row block h l, kept_there row block h l) (go block (k.plain.tickets row block) refl))
      where
        go : (block : ℕ) (b : Bool) → k.plain.tickets row block ≡ b → (b || eqb (k.kept row block) 0) ≡ true
        go block true e = refl
        go block false e = eq-eqb (k.kept row block) 0 (o.off row block e)

    order_with : in_order_with lim (encode lim k.plain) (encode_book lim k.kept) ≡ true
    unfolding in_order_with
    order_with =
        and_both (in_order lim (encode lim k.plain)) _ (order_encode lim k.plain (good_of k o))
        (all_true lim.rows _ (λ row h. and_both (adds_up (encode lim k.plain) (encode_book lim k.kept) row) _ (row_adds row h) (row_zero row h)))

    sized_with : (eqb (length (encode lim k.plain)) (ledger_size lim) && eqb (length (encode_book lim k.kept)) (book_size lim)) ≡ true
    sized_with =
        and_both (eqb (length (encode lim k.plain)) (ledger_size lim)) _ (eq-eqb _ _ (length_encode lim k.plain (good_of k o))) (eq-eqb _ _ (length_book lim k.kept))

    pub view_with_lem : view_with lim (encode lim k.plain) (encode_book lim k.kept) ≡ plain_view k.plain
    unfolding view_with plain_view
    view_with_lem = λ i. record {
      sized = sized_with i;
      ordered = order_with i;
      p = pos_encode lim k.plain (good_of k o) i;
      C = blocks_encode lim k.plain (good_of k o) i;
      marked = λ row block. mark_encode lim k.plain (good_of k o) row block i;
    }

    pub kept_decoded : (row block : ℕ) → (decode_with lim (encode lim k.plain) (encode_book lim k.kept)).kept row block ≡ k.kept row block
    unfolding decode_with
    kept_decoded row block = rw (mark_encode lim k.plain (good_of k o) row block) (go (k.plain.tickets row block) refl)
      where
        go : (b : Bool) → k.plain.tickets row block ≡ b → cond b (kept_in (encode_book lim k.kept) row block) 0 ≡ k.kept row block
        go true e =
            let t = o.tickets_in row block e in
            kept_there row block (ticket_row lim k.plain.C row block t) (ticket_low lim k.plain.p k.plain.C row block o.range t)
        go false e = sym (o.off row block e)

    pub sums_decoded : (row : ℕ) → row < lim.rows → (decode_with lim (encode lim k.plain) (encode_book lim k.kept)).plain.sums row ≡ k.plain.sums row
    unfolding decode_with decode
    sums_decoded row h = sum_encode lim k.plain (good_of k o) row h

  -- ---- bytes that are in order together

  module _ (ledger book : List ℕ) (bytes : AllBytes ledger) (book-bytes : AllBytes book)
      (sized : (view_with lim ledger book).sized ≡ true) (ordered : (view_with lim ledger book).ordered ≡ true) where
    ledger_has : length ledger ≡ ledger_size lim
    ledger_has = ledger_sized lim ledger book sized

    book_has : length book ≡ book_size lim
    book_has = book_sized lim ledger book sized

    ledger_ordered : in_order lim ledger ≡ true
    unfolding view_with in_order_with
    ledger_ordered = and_left (in_order lim ledger) _ ordered

    row_ordered : (row : ℕ) → row < lim.rows → (adds_up ledger book row && zero_elsewhere lim ledger book row) ≡ true
    unfolding view_with in_order_with
    row_ordered row h = all_at lim.rows _ (and_right (in_order lim ledger) _ ordered) row h

    good : Good lim (decode lim ledger)
    good = good_decode lim ledger bytes ledger_has ledger_ordered fits

    -- where no mark is set the place is zero, so what is kept is what the place says
    kept_is : (row block : ℕ) → row < lim.rows → block < 256 → (decode_with lim ledger book).kept row block ≡ kept_in book row block
    unfolding decode_with zero_elsewhere
    kept_is row block h l =
        rw (mark_bit lim ledger bytes ledger_has ledger_ordered row block h l)
        (go (bit_in lim ledger row block) (all_at 256 (λ b. bit_in lim ledger row b || eqb (kept_in book row b) 0) (and_right (adds_up ledger book row) _ (row_ordered row h)) block l))
      where
        go : (b : Bool) → (b || eqb (kept_in book row block) 0) ≡ true → cond b (kept_in book row block) 0 ≡ kept_in book row block
        go true e = refl
        go false e = sym (eqb-true (kept_in book row block) 0 e)

    off_zero : (row block : ℕ) → (decode lim ledger).tickets row block ≡ false → (decode_with lim ledger book).kept row block ≡ 0
    unfolding decode_with decode
    off_zero row block e = rw e refl

    kept_small : (row block : ℕ) → (decode_with lim ledger book).kept row block < modulus
    unfolding decode_with kept_in
    kept_small row block = go (mark_in lim ledger row block)
      where
        go : (b : Bool) → cond b (field book (kept_at row block) 16) 0 < modulus
        go true = field_lt book (kept_at row block) 16 book-bytes
        go false = pow_pos 128

    row_sums_lem : (row : ℕ) → row < lim.rows → sum ((decode_with lim ledger book).kept row) 0 (decode lim ledger).C % modulus ≡ (decode lim ledger).sums row
    unfolding adds_up decode
    row_sums_lem row h =
        ap (λ (n : ℕ). n % modulus)
        (sym (sum_up_to ((decode_with lim ledger book).kept row) (decode lim ledger).C 256 (range_of lim (decode lim ledger).p (decode lim ledger).C good.range).c_high
        (past_last lim (decode lim ledger) (decode_with lim ledger book).kept good.tickets_in off_zero row))
        ∙ sum_ext ((decode_with lim ledger book).kept row) (kept_in book row) 0 256 (λ b l u. kept_is row b h (omega arith)))
        ∙ eqb-true (sum (kept_in book row) 0 256 % modulus) (row_sum_in ledger row) (and_left (adds_up ledger book row) _ (row_ordered row h))

    pub sound_decoded : Sound lim (decode_with lim ledger book)
    unfolding decode_with
    sound_decoded = record {
      range = good.range;
      tickets_in = good.tickets_in;
      sums_in = good.sums_in;
      kept_in = kept_small;
      off = off_zero;
      adds_up = row_sums_lem;
    }

    book_again : encode_book lim (decode_with lim ledger book).kept ≡ book
    unfolding encode_book kept_in
    book_again =
        let R = 256 * lim.rows in
        let size : 0 + 16 * (0 + R) ≤ length book = omega (arith, book_has) in
        rows_ext (λ i. (decode_with lim ledger book).kept (i / 256) (i % 256)) (λ i. field book (0 + 16 * i) 16) 0 R
        (λ i l u.
        let at : 16 * (256 * (i / 256) + i % 256) ≡ 0 + 16 * i = omega arith in
        kept_is (i / 256) (i % 256) (omega arith) (omega arith) ∙ ap (λ (n : ℕ). field book n 16) at)
        ∙ rows_again book book-bytes 0 0 R size ∙ take_all (16 * R) book (omega (arith, book_has))

    pub again_decoded : (encode lim (decode_with lim ledger book).plain ≡ ledger) × (encode_book lim (decode_with lim ledger book).kept ≡ book)
    unfolding decode_with
    again_decoded = (encode_decode lim ledger bytes ledger_has ledger_ordered, book_again)

  -- ---- a ticket put in, and one taken out

  pub sound_opened : (p C : ℕ) → in_range lim p C ≡ true → Sound lim (opened_keeping p C)
  unfolding opened_keeping opened
  sound_opened p C e = record {
    range = e;
    tickets_in = λ row block f. cc;
    sums_in = λ row. pow_pos 128;
    kept_in = λ row block. pow_pos 128;
    off = λ row block f. refl;
    adds_up = λ row h. ap (λ (n : ℕ). n % modulus) (sum_zero (λ block. 0) 0 C (λ block. refl));
  }

  module _ (k : Keeping) (o : Sound lim k) where
    -- ---- a ticket that is not in the set, put in

    module _ (t : Entry) (h : is_ticket lim k.plain.C t.row t.block ≡ true) (new : k.plain.tickets t.row t.block ≡ false) where
      abbrev more : ℕ → ℕ → ℕ
      more = keeping t.row t.block (t.sum % modulus) k.kept

      more_in : (row block : ℕ) → more row block < modulus
      unfolding keeping
      more_in row block = go (eqb t.row row && eqb t.block block)
        where
          go : (b : Bool) → cond b (t.sum % modulus) (k.kept row block) < modulus
          go true = mod-lt t.sum (pow_pos 128)
          go false = o.kept_in row block

      more_off : (row block : ℕ) → including t k.plain.tickets row block ≡ false → more row block ≡ 0
      more_off row block =
          at_or_else t.row t.block row block (λ r b. including t k.plain.tickets r b ≡ false → more r b ≡ 0)
          (λ e. absurd (not_both (including t k.plain.tickets t.row t.block) (including_here t k.plain.tickets) e))
          (λ ne e. sym (keeping_else t.row t.block (t.sum % modulus) k.kept row block ne) ∙ o.off row block (including_else t k.plain.tickets row block ne ∙ e))

      more_adds : (row : ℕ) → row < lim.rows → sum (more row) 0 k.plain.C % modulus ≡ adding t.row t.sum k.plain.sums row
      more_adds row l = go (eqb t.row row) refl
        where
          here : sum (more t.row) 0 k.plain.C ≡ sum (k.kept t.row) 0 k.plain.C + t.sum % modulus
          here =
              let was = o.off t.row t.block new in
              sum_bump (k.kept t.row) (more t.row) k.plain.C t.block (t.sum % modulus) (ticket_block lim k.plain.C t.row t.block h)
              (keeping_here t.row t.block (t.sum % modulus) k.kept ∙ sym (ap (λ (n : ℕ). n + t.sum % modulus) was ∙ zero-add (t.sum % modulus)))
              (λ i ne. keeping_else t.row t.block (t.sum % modulus) k.kept t.row i (λ q. ne q.1))

          go : (b : Bool) → eqb t.row row ≡ b → sum (more row) 0 k.plain.C % modulus ≡ adding t.row t.sum k.plain.sums row
          go true e =
              let same = eqb-true t.row row e in
              subst (λ (r : ℕ). sum (more r) 0 k.plain.C % modulus ≡ adding t.row t.sum k.plain.sums r) same
              (ap (λ (n : ℕ). n % modulus) here ∙ rem_either modulus (sum (k.kept t.row) 0 k.plain.C) t.sum
              ∙ ap (λ (n : ℕ). (n + t.sum) % modulus) (o.adds_up t.row (subst (λ (r : ℕ). r < lim.rows) (sym same) l))
              ∙ sym (adding_here t.row t.sum k.plain.sums))
          go false e =
              let ne = eqb-false t.row row e in
              ap (λ (n : ℕ). n % modulus)
              (sym (sum_ext (k.kept row) (more row) 0 k.plain.C (λ i u v. keeping_else t.row t.block (t.sum % modulus) k.kept row i (λ q. ne (sym q.0)))))
              ∙ o.adds_up row l ∙ sym (adding_else t.row t.sum k.plain.sums row ne)

      pub sound_admit : Sound lim (admit_kept k t)
      unfolding admit_kept admit
      sound_admit =
          let g = good_admit lim k.plain t (good_of k o) h in
          record { range = g.range; tickets_in = g.tickets_in; sums_in = g.sums_in; kept_in = more_in; off = more_off; adds_up = more_adds }

    -- ---- a ticket that is in the set, taken out

    module _ (row block : ℕ) (there : k.plain.tickets row block ≡ true) where
      abbrev fewer : ℕ → ℕ → ℕ
      fewer = keeping row block 0 k.kept

      fewer_in : (r b : ℕ) → fewer r b < modulus
      unfolding keeping
      fewer_in r b = go (eqb row r && eqb block b)
        where
          go : (c : Bool) → cond c 0 (k.kept r b) < modulus
          go true = pow_pos 128
          go false = o.kept_in r b

      fewer_off : (r b : ℕ) → excluding row block k.plain.tickets r b ≡ false → fewer r b ≡ 0
      unfolding excluding keeping
      fewer_off r b e = go (eqb row r && eqb block b) e
        where
          go : (c : Bool) → (not c && k.plain.tickets r b) ≡ false → cond c 0 (k.kept r b) ≡ 0
          go true f = refl
          go false f = o.off r b f

      fewer_adds : (r : ℕ) → r < lim.rows → sum (fewer r) 0 k.plain.C % modulus ≡ adding row (opposite (k.kept row block)) k.plain.sums r
      unfolding opposite
      fewer_adds r l = go (eqb row r) refl
        where
          x : ℕ
          x = k.kept row block

          here : sum (k.kept row) 0 k.plain.C ≡ sum (fewer row) 0 k.plain.C + x
          here =
              sum_bump (fewer row) (k.kept row) k.plain.C block x (ticket_block lim k.plain.C row block (o.tickets_in row block there))
              (sym (ap (λ (n : ℕ). n + x) (keeping_here row block 0 k.kept) ∙ zero-add x))
              (λ i ne. sym (keeping_else row block 0 k.kept row i (λ q. ne q.1)))

          go : (b : Bool) → eqb row r ≡ b → sum (fewer r) 0 k.plain.C % modulus ≡ adding row (modulus - x % modulus) k.plain.sums r
          go true e =
              let same = eqb-true row r e in
              subst (λ (n : ℕ). sum (fewer n) 0 k.plain.C % modulus ≡ adding row (modulus - x % modulus) k.plain.sums n) same
              (taken_out modulus (sum (fewer row) 0 k.plain.C) x (pow_pos 128)
              ∙ ap (λ (n : ℕ). (n + (modulus - x % modulus)) % modulus)
              (ap (λ (n : ℕ). n % modulus) (sym here) ∙ o.adds_up row (subst (λ (n : ℕ). n < lim.rows) (sym same) l))
              ∙ sym (adding_here row (modulus - x % modulus) k.plain.sums))
          go false e =
              let ne = eqb-false row r e in
              ap (λ (n : ℕ). n % modulus)
              (sym (sum_ext (k.kept r) (fewer r) 0 k.plain.C (λ i u v. keeping_else row block 0 k.kept r i (λ q. ne (sym q.0)))))
              ∙ o.adds_up r l ∙ sym (adding_else row (modulus - x % modulus) k.plain.sums r ne)

      -- what is left in the set was there
      still : (r b : ℕ) → excluding row block k.plain.tickets r b ≡ true → k.plain.tickets r b ≡ true
      unfolding excluding
      still r b = and_right (not (eqb row r && eqb block b)) (k.plain.tickets r b)

      pub sound_release : Sound lim (release k row block)
      unfolding release dismiss
      sound_release = record {
        range = o.range;
        tickets_in = λ r b e. o.tickets_in r b (still r b e);
        sums_in = λ r. adding_fits row (opposite (k.kept row block)) k.plain.sums r (o.sums_in r);
        kept_in = fewer_in;
        off = fewer_off;
        adds_up = fewer_adds;
      }

  -- ledger and book in order together hold exactly what such a plain ledger holds
  pub holds_kept : HoldsKept lim
  holds_kept = record { in_order = view_with_lem; sums_read = sums_decoded; kept_read = kept_decoded; sound = sound_decoded; again = again_decoded }
