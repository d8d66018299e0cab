-- The engine is none of the wrong engines. Closings part from it at p = 1, which settles thirty digits, or at p = 5, which settles
-- twenty-nine, or on a full ledger whose total lies at the edge of a digit; tickets, halves and posts at p = 1 with one block, in rows 0 and 1; counts of
-- squarings at p = 1 and p = 51, in rows 0, 2 and 3, and at the last position; looks at a fresh ledger of p = 1; withdrawals by books that keep one sum at a wrong place;
-- the sheet of one ticket that keeps zero; parts of two strings that differ.
-- Assumes nothing.
use mathlib.Core.Path.{◌≡◌, refl, sym, ap, ap₂, subst, ◌∙◌}
use mathlib.Core.Bool.{Bool, true, false, not, cond, ◌&&◌, ◌||◌}
use mathlib.Core.List.{List, [], ◌∷◌, ◌++◌}
use Prim.Native.Nat.{ℕ, ◌+◌, ◌*◌, ◌-◌, ◌/◌, ◌%◌, ◌^◌, ◌<◌, ◌≤◌}
use native.Mathlib.Omega.{arith}
use borrow.Author.Tests.{eq-eqb, eqb-false, not-true}
use lib.Dec.{eqb, lit<}
use lib.IntN.{ℤ, pos, negsuc, pos-ne-negsuc}
use lib.ListN.{length, get_or, drop, replicate}
use lib.Pow.{pow_pos}
use Rattle.algebra.specs.Bits.{bits_in, bit_length}
use Rattle.algebra.specs.Machine.{leaves, answers}
use Rattle.algebra.specs.Sum.{sum}
use Rattle.algebra.specs.Test.{all_below}
use Rattle.algebra.proofs.Booleans.{not_both}
use Rattle.algebra.proofs.Below.{all_at, all_true, all_ext}
use Rattle.algebra.proofs.Sums.{sum_ext}
use Rattle.algebra.specs.Whole.{residue, sameℤ}
use Rattle.words.specs.Bytes.{bytes_of, value_of, field}
use Rattle.series.specs.Series.{modulus, size, is_added, term_count, on_side, row_sum, over_rows, side_sum, sizes_sum, range_sum}
use Rattle.series.specs.Squarings.{squarings, range_squarings}
use Rattle.series.specs.Bellard.{bellard}
use Rattle.series.specs.declared.Series.TheVariants.{Bellard}
use Rattle.digits.specs.Digits.{settled_up_to, settled, hex_digit, is_digit, hex_text, low_digits}
use Rattle.interval.specs.Interval.{Rule, is_charged, every_term, charges, low, high}
use Rattle.run.specs.Refusal.{◌⇐◌, refusal, answer, tested}
use Rattle.run.proofs.Answering as answering
use Rattle.run.specs.Run.{Entry, in_range, is_ticket, bound, ticket_sum}
use Rattle.run.specs.Call.{answered, bytes_left, refused_by, all_left}
use Rattle.ticket.specs.Parts.{cut, part_first, part_end, part_sum, part_squarings}
use Rattle.ticket.specs.Work.{is_sized, both_sized, work_call, quote_call}
use Rattle.ticket.specs.declared.Part.{Part}
use Rattle.ticket.specs.declared.Part.TheVariants.{Whole, Lower, Upper}
use Rattle.ledger.specs.Ledger.{fresh, enter, mark, add_to, row_sum_in, total_of, view_of, pos_in, blocks_in, total_in, bit_in, mark_in, in_order}
use Rattle.ledger.specs.Plain.{Plain, opened, plain_view, admit, including, adding, encode, full_plain}
use Rattle.ledger.proofs.Image.{Good, pos_encode, blocks_encode, sum_encode, total_encode, length_encode, bit_encode, mark_encode, order_encode}
use Rattle.ledger.specs.Calls.{post_tests, post_call}
use Rattle.sheet.specs.Sheet.{sheet_pos, sheet_blocks, sheet_count, row_in, block_in, sum_in, entries_from, entries, every, ascending, well_formed, contents_of, bodies_of, sheet_of}
use Rattle.sheet.specs.Tests.{sheet_sized}
use Rattle.sheet.specs.Calls.{over}
use Rattle.posting.specs.Calls.{sheet_tests, sheet_post_call}
use Rattle.posting.specs.Posts.{ledger_after, plain_after, Post, ticket, post_bytes, post_refusal, post_entries, plain_post}
use Rattle.posting.proofs.Simulation.{after_fresh}
use Rattle.book.specs.Book.{kept_in, adds_up, zero_elsewhere, in_order_with, view_with}
use Rattle.book.specs.Kept.{Keeping, opened_keeping, keeping, admit_kept, encode_book}
use Rattle.book.proofs.Image.{kept_encode, length_book}
use Rattle.book.proofs.Sound.{good_of, kept_there}
use Rattle.booking.specs.Calls.{withdraw_tests, withdraw_call}
use Rattle.booking.specs.Bookings.{Booking, posting, Pair, booking_refusal, taken, keep_next, pair_after, keeping_after}
use Rattle.standing.specs.Standing.{ticket_at, standing_from, standing_in, standing_sheet, standing_call}
use Rattle.standing.specs.Moving.{sheet_of_kept, Holding}
use Rattle.standing.proofs.Places.{standing_ext}
use Rattle.look.specs.Look.{unmarked_of, unmarked_in, look_tests, look_call}
use Rattle.closing.specs.Closing.{settled_at, digits_at, close_by, close_call}
use Rattle.closing.proofs.Closing.{nine_alone}
use Rattle.closing.proofs.Encoded.{good_full, answer_by}
use Rattle.overlap.specs.Strings.{holds, digit_at, all_digits, in_form, later, share, same_at, agree, further, skipped}
use Rattle.overlap.specs.Calls.{overlap_tests, overlap_call, Place, part_place}
use Rattle.overlap.specs.Overlaps.{string}
use Rattle.settlement.specs.Settlement.{Filled, ClosesWith, row_sums, all_sums}
use Rattle.settlement.specs.Figures.{first_digits, in_row}
use Rattle.settlement.specs.Looks.{looking, Outcome, outcome, step_outcome, step_bytes, plain_outcome, plain_step, two_tickets}
use Rattle.settlement.specs.Squarings.{SquaringsAre, AllSquaringsAre}
use Rattle.settlement.proofs.Runs.{runs}
use Rattle.settlement.proofs.Filling.{kept_posts, kept_opened}
use Rattle.settlement.proofs.Figures.{spreads}
use Rattle.settlement.proofs.Squarings.{squaring_figures_hold}
use Rattle.settlement.proofs.Filler.{filled_exists}
use Rattle.settlement.proofs.FirstDigits.{closes_with, first_digits_lem}
use Rattle.wrong_engines.specs.WrongEngines.{lim, StandsAs, zeros_left_out, WithdrawsAs, withdrawn_by, row_by_row, against_total, below_c, AnswersAs, LeavesAs, ClosesAs, by_rule, above_zero, every_added, every_subtracted, same_digits, WorksAs, one_sum, cut_in_both, cut_in_neither, own_signs, Way, by_working, by_quoting, CountsAs, counted_by, right_of, top_bit_too, of_whole_e, in_one_word, of_whole, RemainAs, TotalsAs, unmarked_now, total_now, LooksUntested, PostsAs, does_nothing, fill_entry, fills_first, always_nine, nine_unseen, always_eight, made_up, one_less, by_total, without_row, without_carry, wrong_size, word_bound, toward_zero, settled_toward_zero, Met, ShutOut, HandsAs, handed_at_twelve}

-- 6A8885A308D313198A2E03707344A, the digits from position 5 on that a run settles
abbrev fifth_digits : List ℕ
fifth_digits =
    54 ∷ 65 ∷ 56 ∷ 56 ∷ 56 ∷ 53 ∷ 65 ∷ 51 ∷ 48 ∷ 56 ∷ 68 ∷ 51 ∷ 49 ∷ 51 ∷ 49 ∷ 57 ∷ 56 ∷ 65 ∷ 50 ∷ 69 ∷ 48 ∷ 51 ∷ 55 ∷ 48 ∷ 55 ∷ 51 ∷ 52 ∷ 52 ∷ 65
    ∷ []

count_at_5 : settled_at is_charged bellard 5 (sizes_sum bellard 5 (term_count bellard 5)) ≡ 29
unfolding settled_at sizes_sum size term_count settled settled_up_to low high sameℤ charges side_sum over_rows row_sum sum on_side is_added is_charged residue
count_at_5 = refl

digits_at_5 : digits_at is_charged bellard 5 (sizes_sum bellard 5 (term_count bellard 5)) 29 ≡ fifth_digits
unfolding digits_at sizes_sum size term_count low charges side_sum over_rows row_sum sum on_side is_added is_charged residue low_digits hex_text hex_digit
digits_at_5 = refl

fifth_digits_lem : ClosesWith bellard 5 29 fifth_digits
fifth_digits_lem = closes_with bellard runs.bellard_asked 5 29 fifth_digits (omega arith) count_at_5 digits_at_5

-- ---- a list that fills the run of one block at each of the two positions

posts : ℕ → List Post
posts p = (filled_exists bellard p 1).0

filled : (p : ℕ) → Filled bellard p 1 (posts p)
unfolding posts
filled p = (filled_exists bellard p 1).1

ledger : ℕ → List ℕ
ledger p = ledger_after lim p 1 (posts p)

zeros : List ℕ
zeros = replicate 32 0

at_1 : (answered (close_call bellard (ledger 1) zeros) ≡ pos 30) × (bytes_left (close_call bellard (ledger 1) zeros) 0 ≡ first_digits ++ drop 30 zeros)
unfolding ledger zeros in_range
at_1 = first_digits_lem.by_bellard 1 refl (posts 1) (filled 1) zeros refl

at_5 : (answered (close_call bellard (ledger 5) zeros) ≡ pos 29) × (bytes_left (close_call bellard (ledger 5) zeros) 0 ≡ fifth_digits ++ drop 29 zeros)
unfolding ledger zeros in_range
at_5 = fifth_digits_lem 1 refl (posts 5) (filled 5) zeros refl

-- ---- closings

module _ (A : List ℕ → List ℕ → ℤ) (same : AnswersAs A) where
  thirty : A (ledger 1) zeros ≡ pos 30
  unfolding ledger zeros in_range
  thirty = sym (same 1 1 refl (posts 1) (filled 1) zeros refl) ∙ at_1.0

  twenty_nine : A (ledger 5) zeros ≡ pos 29
  unfolding ledger zeros in_range
  twenty_nine = sym (same 5 1 refl (posts 5) (filled 5) zeros refl) ∙ at_5.0

-- a refusal is no number of digits
no_digits : (n d : ℕ) → negsuc n ≡ pos d → ⊥
no_digits n d e = pos-ne-negsuc d n (sym e)

always_nine_lem : AnswersAs always_nine → ⊥
always_nine_lem same = no_digits 8 30 (thirty always_nine same)

nine_unseen_lem : AnswersAs nine_unseen → ⊥
unfolding nine_unseen refusal answer
nine_unseen_lem same = go (wrong_size (ledger 1) zeros) (thirty nine_unseen same)
  where
    go : (b : Bool) → answer (refusal ((1 ⇐ b) ∷ (9 ⇐ true) ∷ [])) 0 ≡ pos 30 → ⊥
    go true e = no_digits 0 30 e
    go false e = no_digits 8 30 e

always_eight_lem : AnswersAs always_eight → ⊥
unfolding always_eight refusal answer
always_eight_lem same = go (wrong_size (ledger 1) zeros) (not (in_order lim (ledger 1))) (thirty always_eight same)
  where
    go : (b c : Bool) → answer (refusal ((1 ⇐ b) ∷ (5 ⇐ c) ∷ (8 ⇐ true) ∷ [])) 0 ≡ pos 30 → ⊥
    go true c e = no_digits 0 30 e
    go false true e = no_digits 4 30 e
    go false false e = no_digits 7 30 e

-- the ledger is not refused, and so the answer is whatever number is handed out in place of d
module _ (p d : ℕ) (e : answered (close_call bellard (ledger p) zeros) ≡ pos d) where
  not_refused : (refused_by (close_by is_charged bellard (view_of lim (ledger p)) (total_in lim (ledger p)) zeros) ≡ 0) × (settled_at is_charged bellard (pos_in (ledger p)) (total_in lim (ledger p)) ≡ d)
  unfolding close_by answered view_of
  not_refused = answering.not_refused _ _ d e

  handed_out : (n : ℕ) → answer (refused_by (close_by is_charged bellard (view_of lim (ledger p)) (total_in lim (ledger p)) zeros)) n ≡ pos n
  unfolding answer
  handed_out n = rw not_refused.0 refl

made_up_lem : (d : ℕ) → AnswersAs (made_up d) → ⊥
unfolding made_up
made_up_lem d same =
    let a : pos d ≡ pos 30 = sym (handed_out 1 30 at_1.0 d) ∙ thirty (made_up d) same in
    let b : pos d ≡ pos 29 = sym (handed_out 5 29 at_5.0 d) ∙ twenty_nine (made_up d) same in
    let z : ◌≡◌ {A = ℕ} 30 29 = cc in
    omega (arith, z)

one_less_lem : AnswersAs one_less → ⊥
unfolding one_less
one_less_lem same =
    let n = settled_at is_charged bellard (pos_in (ledger 1)) (total_in lim (ledger 1)) in
    let a : pos (n - 1) ≡ pos 30 = sym (handed_out 1 30 at_1.0 (n - 1)) ∙ thirty one_less same in
    let b = (not_refused 1 30 at_1.0).1 in
    let z : n - 1 ≡ 30 = cc in
    omega (arith, z, b)

one_set_of_digits : (w : List ℕ) → LeavesAs (same_digits w) → ⊥
unfolding ledger zeros in_range
one_set_of_digits w same =
    let a = same 1 1 refl (posts 1) (filled 1) zeros refl in
    let b = same 5 1 refl (posts 5) (filled 5) zeros refl in
    let z : ◌≡◌ {A = ℕ} 50 54 = ap (λ (l : List ℕ). get_or l 0 0) (sym at_1.1 ∙ a ∙ sym b ∙ at_5.1) in
    omega (arith, z)

-- ---- totals: at p = 1 each row's sum is that of its one ticket

-- the plain ledger of the filled run
filled_1 : Plain
filled_1 = plain_after lim 1 1 (posts 1)

good_1 : Good lim filled_1
unfolding filled_1 in_range
good_1 = (after_fresh lim 1 1 (omega arith) refl (posts 1)).1.1

bytes_1 : ledger 1 ≡ encode lim filled_1
unfolding ledger filled_1 in_range
bytes_1 = (runs.bellard_runs.demand3 1 1 refl (posts 1)).ledger

sums_1 : (row : ℕ) → row < 7 → row_sum_in (ledger 1) row ≡ row_sums bellard 1 1 row
unfolding filled_1 in_range
sums_1 row h =
    ap (λ (l : List ℕ). row_sum_in l row) bytes_1 ∙ sum_encode lim filled_1 good_1 row h ∙ (runs.bellard_runs.demand3 1 1 refl (posts 1)).rows (filled 1) row h

position_1 : pos_in (ledger 1) ≡ 1
unfolding filled_1 in_range
position_1 =
    ap pos_in bytes_1 ∙ pos_encode lim filled_1 good_1
    ∙ (kept_posts bellard 1 1 (opened 1 1) (posts 1) (kept_opened bellard 1 1 (omega arith) refl) (filled 1).right).run_p

-- what a closing of the run by the total t would leave
abbrev closed_by : ℕ → List ℕ
closed_by t =
    cond (eqb (cond (eqb (settled_at is_charged bellard 1 t) 0) 9 0) 0) (digits_at is_charged bellard 1 t (settled_at is_charged bellard 1 t) ++ drop (settled_at is_charged bellard 1 t) zeros) zeros

module _ (T : (ℕ → ℕ) → ℕ) (t : ℕ) (is : T (row_sum_in (ledger 1)) ≡ t) (same : LeavesAs (by_total T)) where
  first_left : first_digits ++ drop 30 zeros ≡ closed_by t
  unfolding ledger zeros in_range by_total close_by all_left view_of
  first_left =
      let r = nine_alone is_charged is_charged bellard (view_of lim (ledger 1)) _ t zeros (not_refused 1 30 at_1.0).0 in
      sym at_1.1 ∙ same 1 1 refl (posts 1) (filled 1) zeros refl ∙ rw (is, r, position_1) refl

-- sums that agree with the run's below 7 have its totals
without_row_lem : (row : ℕ) → without_row row (row_sum_in (ledger 1)) ≡ without_row row (row_sums bellard 1 1)
unfolding without_row total_of
without_row_lem row =
    ap (λ (n : ℕ). n % modulus) (sum_ext _ _ 0 7 (λ r l h. ap (λ (x : ℕ). cond (eqb row r) 0 x) (sums_1 r (omega arith))))

without_carry_lem : without_carry (row_sum_in (ledger 1)) ≡ without_carry (row_sums bellard 1 1)
unfolding without_carry
without_carry_lem =
    ap₂ (λ (m n : ℕ). m % 2 ^ 64 * 2 ^ 64 + n % 2 ^ 64) (sum_ext _ _ 0 7 (λ r l h. ap (λ (x : ℕ). x / 2 ^ 64) (sums_1 r (omega arith))))
    (sum_ext _ _ 0 7 (λ r l h. ap (λ (x : ℕ). x % 2 ^ 64) (sums_1 r (omega arith))))

-- digit 14 would be C and not D
no_carry : LeavesAs (by_total without_carry) → ⊥
unfolding zeros without_carry row_sums ticket_sum range_sum bound size term_count row_sum sum on_side is_added residue settled_at digits_at settled settled_up_to low high sameℤ charges side_sum over_rows is_charged low_digits hex_text hex_digit
no_carry same =
    let z : ◌≡◌ {A = ℕ} 68 67 = ap (λ (l : List ℕ). get_or l 14 0) (first_left without_carry _ without_carry_lem same) in
    omega (arith, z)

-- whichever row is left out, one of the first three digits would be another
abbrev agrees : ℕ → ℕ → Bool
agrees row i = eqb (get_or (first_digits ++ drop 30 zeros) i 0) (get_or (closed_by (without_row row (row_sums bellard 1 1))) i 0)

parts : all_below 7 (λ row. not (all_below 3 (agrees row))) ≡ true
unfolding zeros all_below without_row total_of row_sums ticket_sum range_sum bound size term_count row_sum sum on_side is_added residue settled_at digits_at settled settled_up_to low high sameℤ charges side_sum over_rows is_charged low_digits hex_text hex_digit
parts = refl

row_left_out : (row : ℕ) → row < 7 → LeavesAs (by_total (without_row row)) → ⊥
row_left_out row h same =
    not_both (all_below 3 (agrees row))
    (all_true 3 (agrees row) (λ i l. eq-eqb _ _ (ap (λ (d : List ℕ). get_or d i 0) (first_left (without_row row) _ (without_row_lem row) same))))
    (not-true _ (all_at 7 (λ row. not (all_below 3 (agrees row))) parts row h))

-- ---- rules of charging: full ledgers of p = 1 and C = 1, with the total in row 0

module _ (R : Rule) (t : ℕ) (fits : t < modulus) (same : ClosesAs (by_rule R)) where
  abbrev full : Plain
  full = full_plain lim (in_row 0 t)

  row_fits : (row : ℕ) → in_row 0 t row < modulus
  unfolding in_row
  row_fits row = either (eqb 0 row)
    where
      either : (b : Bool) → cond b t 0 < modulus
      either true = fits
      either false = pow_pos 128

  by_rule_lem : answered (close_by is_charged bellard (plain_view full) t zeros) ≡ answered (close_by R bellard (plain_view full) t zeros)
  by_rule_lem =
      let good = good_full Bellard (in_row 0 t) row_fits in
      let total = spreads.one_row bellard 0 t (lit< tt) fits in
      sym (answer_by bellard full good zeros is_charged ∙ ap (λ (n : ℕ). answered (close_by is_charged bellard (plain_view full) n zeros)) total)
      ∙ same (encode lim full) zeros ∙ answer_by bellard full good zeros R ∙ ap (λ (n : ℕ). answered (close_by R bellard (plain_view full) n zeros)) total

-- Total 48 would settle thirty digits where a term with E of 0 is not charged. Total 49 would be refused where every term is, or every
-- subtracted one, and total 2 ^ 128 - 46 where every added one is.
wrong_rules : (ClosesAs (by_rule above_zero) → ⊥) × (ClosesAs (by_rule every_term) → ⊥) × (ClosesAs (by_rule every_subtracted) → ⊥) × (ClosesAs (by_rule every_added) → ⊥)
unfolding zeros plain_view close_by answered refused_by refusal answer settled_at settled settled_up_to low high sameℤ all_below is_ticket term_count charges side_sum over_rows row_sum sum on_side is_added is_charged above_zero every_term every_subtracted every_added
wrong_rules = (
  λ same. no_digits 8 30 (by_rule_lem above_zero 48 (lit< tt) same),
  λ same. no_digits 8 30 (sym (by_rule_lem every_term 49 (lit< tt) same)),
  λ same. no_digits 8 30 (sym (by_rule_lem every_subtracted 49 (lit< tt) same)),
  λ same. no_digits 8 30 (sym (by_rule_lem every_added (2 ^ 128 - 46) (lit< tt) same)),
)

-- ---- tickets: row 0 and row 1 at p = 1 have sums with other top bytes

one_sum_lem : (w : List ℕ) → WorksAs Whole (one_sum w) → ⊥
unfolding work_call all_left refused_by both_sized is_sized refusal in_range is_ticket part_sum part_first part_end range_sum bound size term_count row_sum sum on_side is_added residue bytes_of
one_sum_lem w same =
    let a = same 1 1 0 0 (replicate 16 0) (replicate 16 0) refl refl refl refl in
    let b = same 1 1 1 0 (replicate 16 0) (replicate 16 0) refl refl refl refl in
    let z = ap (λ (l : List ℕ). get_or l 15 0) (a ∙ sym b) in
    omega (arith, z)

-- ---- halves: those of row 0 at p = 1, C = 1, whose fourteen terms are cut at term 7; the byte that differs is named

cut_in_both_lem : WorksAs Lower cut_in_both → ⊥
unfolding cut_in_both work_call all_left refused_by both_sized is_sized refusal in_range is_ticket part_sum part_first part_end cut range_sum bound size term_count row_sum sum on_side is_added residue bytes_of
cut_in_both_lem same =
    let z : ◌≡◌ {A = ℕ} 231 249 = ap (λ (l : List ℕ). get_or l 6 0) (same 1 1 0 0 (replicate 16 0) (replicate 16 0) refl refl refl refl) in
    omega (arith, z)

cut_in_neither_lem : WorksAs Upper cut_in_neither → ⊥
unfolding cut_in_neither work_call all_left refused_by both_sized is_sized refusal in_range is_ticket part_sum part_first part_end cut range_sum bound size term_count row_sum sum on_side is_added residue bytes_of
cut_in_neither_lem same =
    let z : ◌≡◌ {A = ℕ} 0 255 = ap (λ (l : List ℕ). get_or l 15 0) (same 1 1 0 0 (replicate 16 0) (replicate 16 0) refl refl refl refl) in
    omega (arith, z)

one_half_twice : WorksAs Upper (λ p C row block out count. bytes_left (work_call bellard Lower p C row block out count) 0) → ⊥
unfolding work_call all_left refused_by both_sized is_sized refusal in_range is_ticket part_sum part_first part_end cut range_sum bound size term_count row_sum sum on_side is_added residue bytes_of
one_half_twice same =
    let z : ◌≡◌ {A = ℕ} 0 128 = ap (λ (l : List ℕ). get_or l 15 0) (same 1 1 0 0 (replicate 16 0) (replicate 16 0) refl refl refl refl) in
    omega (arith, z)

own_signs_lem : WorksAs Upper own_signs → ⊥
unfolding own_signs work_call all_left refused_by both_sized is_sized refusal in_range is_ticket part_sum part_first part_end cut range_sum bound size term_count row_sum sum on_side is_added residue bytes_of
own_signs_lem same =
    let z : ◌≡◌ {A = ℕ} 0 255 = ap (λ (l : List ℕ). get_or l 15 0) (same 1 1 0 0 (replicate 16 0) (replicate 16 0) refl refl refl refl) in
    omega (arith, z)

-- ---- squarings

-- a call that is not refused leaves their bytes
left_squarings : (way : Way) (part : Part) → CountsAs way part (part_squarings bellard)
unfolding work_call quote_call all_left refused_by both_sized is_sized refusal
left_squarings by_working part p C row block out count l m r t = rw (l, m, r, t) refl
left_squarings by_quoting part p C row block out count l m r t = rw (m, r, t) refl

counted_rightly : (part : Part) (p C row block : ℕ) → part_squarings bellard part p C row block ≡ counted_by 128 right_of part p C row block
unfolding part_squarings range_squarings squarings counted_by
counted_rightly part p C row block = refl

module _ (way : Way) (part : Part) (W : Part → ℕ → ℕ → ℕ → ℕ → ℕ) (same : CountsAs way part W) where
  both : (p row : ℕ) → in_range lim p 1 ≡ true → is_ticket lim 1 row 0 ≡ true
      → bytes_of 16 (part_squarings bellard part p 1 row 0) ≡ bytes_of 16 (W part p 1 row 0)
  both p row r t =
      sym (left_squarings way part p 1 row 0 (replicate 16 0) (replicate 16 0) refl refl r t) ∙ same p 1 row 0 (replicate 16 0) (replicate 16 0) refl refl r t

  -- it parts from the right one where the lowest bytes differ
  parts_at : (p row : ℕ) → in_range lim p 1 ≡ true → is_ticket lim 1 row 0 ≡ true
      → eqb (get_or (bytes_of 16 (part_squarings bellard part p 1 row 0)) 0 0) (get_or (bytes_of 16 (W part p 1 row 0)) 0 0) ≡ false → ⊥
  parts_at p row r t e = eqb-false _ _ e (ap (λ (l : List ℕ). get_or l 0 0) (both p row r t))

-- At p = 1, C = 1 row 2 has one term with E above 127, which is 130, row 3 one, which is 128, and row 0 has one with E = 127. All stand in the
-- lower half; at p = 51 terms with the same E stand in the upper.
abbrev place : Part → ℕ
place Whole = 1
place Lower = 1
place Upper = 51

near : (part : Part) → in_range lim (place part) 1 ≡ true
unfolding in_range
near Whole = refl
near Lower = refl
near Upper = refl

-- the lowest bytes differ there, in this row
abbrev Differs : (Part → ℕ → ℕ → ℕ → ℕ → ℕ) → ℕ → Part → Type 0
Differs W row part =
    eqb (get_or (bytes_of 16 (part_squarings bellard part (place part) 1 row 0)) 0 0) (get_or (bytes_of 16 (W part (place part) 1 row 0)) 0 0) ≡ false

abbrev NoneCounts : (Part → ℕ → ℕ → ℕ → ℕ → ℕ) → Type 0
NoneCounts W = (way : Way) (part : Part) → CountsAs way part W → ⊥

none_counts : (W : Part → ℕ → ℕ → ℕ → ℕ → ℕ) (row : ℕ) → is_ticket lim 1 row 0 ≡ true → Differs W row Whole → Differs W row Lower
    → Differs W row Upper → NoneCounts W
none_counts W row t whole lower upper way part same = parts_at way part W same (place part) row (near part) t (each part)
  where
    each : (part : Part) → Differs W row part
    each Whole = whole
    each Lower = lower
    each Upper = upper

wrong_counts : NoneCounts (counted_by 128 top_bit_too) × NoneCounts (counted_by 127 right_of) × NoneCounts (counted_by 129 right_of) × NoneCounts (counted_by 128 of_whole_e)
unfolding part_squarings range_squarings squarings counted_by bit_length bits_in sum part_first part_end cut bound term_count is_ticket bytes_of
wrong_counts = (
  none_counts (counted_by 128 top_bit_too) 2 refl refl refl refl,
  none_counts (counted_by 127 right_of) 0 refl refl refl refl,
  none_counts (counted_by 129 right_of) 3 refl refl refl refl,
  none_counts (counted_by 128 of_whole_e) 2 refl refl refl refl,
)

-- each half of row 2 at p = 51 takes some squarings
whole_for_a_half : ((way : Way) → CountsAs way Lower of_whole → ⊥) × ((way : Way) → CountsAs way Upper of_whole → ⊥)
unfolding part_squarings range_squarings squarings bit_length bits_in sum part_first part_end cut bound term_count in_range is_ticket bytes_of
whole_for_a_half = (
  λ way same. parts_at way Lower of_whole same 51 2 refl refl refl,
  λ way same. parts_at way Upper of_whole same 51 2 refl refl refl,
)

-- at p = 2 ^ 60 the ninth byte of row 0's count is 1
in_one_word_lem : (way : Way) → CountsAs way Whole in_one_word → ⊥
unfolding in_one_word AllSquaringsAre SquaringsAre in_range is_ticket bytes_of
in_one_word_lem way same =
    let count : part_squarings bellard Whole (2 ^ 60) 1 0 0 ≡ 27670116110564327790 = squaring_figures_hold.0.1.1.1.1.1.1.0 in
    let e = subst (λ (n : ℕ). bytes_of 16 n ≡ bytes_of 16 (n % 2 ^ 64)) count (both way Whole in_one_word same (2 ^ 60) 0 refl refl) in
    let z : ◌≡◌ {A = ℕ} 1 0 = ap (λ (l : List ℕ). get_or l 8 0) e in
    omega (arith, z)

-- ---- looks: at the sheet of rows 0 and 6 on a fresh ledger of p = 1, C = 1; five tickets would remain, and the total would be 2

looked : Outcome
looked = step_outcome lim (fresh lim 1 1) (looking two_tickets (replicate 16 0))

looked_is : looked ≡ outcome (pos 5) (bytes_of 16 2)
unfolding looked answers step_bytes plain_outcome plain_step plain_post plain_view post_refusal post_entries opened admit including adding look_tests sheet_tests sheet_sized refusal answer in_range is_ticket unmarked_of total_of sum all_below well_formed ascending every entries entries_from sheet_count sheet_pos sheet_blocks row_in block_in sum_in field value_of sheet_of contents_of bodies_of bytes_of
looked_is = ap (λ (l : List Outcome). get_or l 0 (outcome (pos 0) [])) (runs.bellard_runs.looks.as_plain 1 1 refl (looking two_tickets (replicate 16 0) ∷ []))

five_remain : answered (look_call lim (fresh lim 1 1) two_tickets (replicate 16 0)) ≡ pos 5
unfolding looked step_outcome
five_remain = ap (λ (o : Outcome). o.reply) looked_is

unmarked_now_lem : RemainAs unmarked_now → ⊥
unfolding unmarked_of view_of mark_in bit_in is_ticket blocks_in field value_of fresh bytes_of sum
unmarked_now_lem same =
    let z : ◌≡◌ {A = ℕ} 5 7 = same (fresh lim 1 1) two_tickets (replicate 16 0) 5 five_remain in
    omega (arith, z)

total_now_lem : TotalsAs total_now → ⊥
unfolding looked step_outcome total_of row_sum_in field value_of fresh bytes_of sum
total_now_lem same =
    let e = sym (ap (λ (o : Outcome). o.total) looked_is) ∙ same (fresh lim 1 1) two_tickets (replicate 16 0) 5 five_remain in
    let z : ◌≡◌ {A = ℕ} 2 0 = ap (λ (l : List ℕ). get_or l 0 0) e in
    omega (arith, z)

-- no total of 15 bytes is taken
untested : (A : List ℕ → List ℕ → List ℕ → ℕ) → LooksUntested A → ⊥
untested A same =
    no_digits 0 _ (sym (runs.bellard_runs.looks.as_posted.other_size [] [] [] (λ e. omega (arith, e))).0 ∙ same [] [] [])

-- ---- posts: the ticket of row 0 at p = 1, C = 1, with its right sum

one_post_lem : List Post
one_post_lem = ticket 1 1 0 0 (bytes_of 16 (ticket_sum bellard 1 1 0 0)) ∷ []

-- its mark is set
does_nothing_lem : PostsAs does_nothing → ⊥
unfolding one_post_lem leaves post_bytes post_call refused_by all_left post_tests refusal view_of in_order in_range is_ticket all_below pos_in blocks_in mark_in bit_in field value_of fresh enter mark add_to row_sum_in bytes_of ticket_sum range_sum bound size term_count row_sum sum on_side is_added residue
does_nothing_lem same =
    let z : ◌≡◌ {A = ℕ} 1 0 = ap (λ (l : List ℕ). get_or l 128 0) (same 1 1 refl one_post_lem) in
    omega (arith, z)

-- the top byte of row 0's sum is that of its ticket's, 80 in hexadecimal, and not the 24 of the whole run's
fills_first_lem : PostsAs fills_first → ⊥
unfolding one_post_lem leaves fills_first fill_entry post_bytes post_call refused_by all_left post_tests post_refusal post_entries refusal view_of in_order in_range is_ticket all_below pos_in blocks_in mark_in bit_in field value_of fresh enter mark add_to row_sum_in bytes_of all_sums ticket_sum range_sum bound size term_count row_sum sum on_side is_added residue
fills_first_lem same =
    let z : ◌≡◌ {A = ℕ} 128 36 = ap (λ (l : List ℕ). get_or l 31 0) (same 1 1 refl one_post_lem) in
    omega (arith, z)

-- ---- books

withdraws : WithdrawsAs (withdrawn_by row_by_row)
unfolding withdraw_call withdrawn_by row_by_row refused_by answered view_with in_order_with
withdraws ledger book p C row block = refl

-- p = 1, C = 1, every ticket marked, the row sums 5 and six times 0, and 5 kept at one place of the book

module _ (row block : ℕ) where
  kept : ℕ → ℕ → ℕ
  kept = keeping row block 5 (λ r b. 0)

  kept_fits : (r b : ℕ) → kept r b < modulus
  unfolding kept keeping
  kept_fits r b = go (eqb row r && eqb block b)
    where
      go : (c : Bool) → cond c 5 0 < modulus
      go true = lit< tt
      go false = lit< tt

  sums_fit : (r : ℕ) → in_row 0 5 r < modulus
  unfolding in_row
  sums_fit r = go (eqb 0 r)
    where
      go : (c : Bool) → cond c 5 0 < modulus
      go true = lit< tt
      go false = lit< tt

  abbrev marked : Plain
  marked = full_plain lim (in_row 0 5)

  good : Good lim marked
  good = good_full Bellard (in_row 0 5) sums_fit

  ledger_of : List ℕ
  ledger_of = encode lim marked

  book_of : List ℕ
  book_of = encode_book lim kept

  kept_at : (r b : ℕ) → r < 7 → b < 256 → kept_in book_of r b ≡ kept r b
  unfolding book_of
  kept_at r b h l = kept_encode lim kept r b h l (kept_fits r b)

  -- what the tests of a row come to
  adds : (r : ℕ) → r < 7 → adds_up ledger_of book_of r ≡ eqb (sum (kept r) 0 256 % modulus) (in_row 0 5 r)
  unfolding adds_up ledger_of
  adds r h =
      ap₂ (λ (m n : ℕ). eqb (m % modulus) n) (sum_ext (kept_in book_of r) (kept r) 0 256 (λ b l u. kept_at r b h (omega arith))) (sum_encode lim marked good r h)

  zeros_up_to : (n : ℕ) → n ≤ 256 → (r : ℕ) → r < 7
      → all_below n (λ b. bit_in lim ledger_of r b || eqb (kept_in book_of r b) 0) ≡ all_below n (λ b. is_ticket lim 1 r b || eqb (kept r b) 0)
  unfolding ledger_of
  zeros_up_to n few r h =
      all_ext n _ _ (λ b l. ap₂ (λ (x : Bool) (y : ℕ). x || eqb y 0) (bit_encode lim marked good r b h (omega arith)) (kept_at r b h (omega arith)))

  -- the answer to a withdrawal of the ticket of row 0, by a test of the book
  answered_by : (fits : List ℕ → List ℕ → Bool) (c : Bool) → fits ledger_of book_of ≡ c → withdrawn_by fits ledger_of book_of 1 1 0 0 ≡ answer (cond c 0 5) 0
  unfolding withdrawn_by view_with withdraw_tests refusal ledger_of book_of is_ticket in_range
  answered_by fits c e =
      rw (length_encode lim marked good, length_book lim kept, order_encode lim marked good, e, pos_encode lim marked good, blocks_encode lim marked good, mark_encode lim marked good 0 0)
      (go c)
    where
      go : (c : Bool) → tested (withdraw_tests lim (record { sized = true; ordered = c; p = 1; C = 1; marked = λ r b. true }) 1 1 0 0) ≡ answer (cond c 0 5) 0
      go true = refl
      go false = refl

  by_rows : row_by_row ledger_of book_of ≡ all_below 7 (λ r. eqb (sum (kept r) 0 256 % modulus) (in_row 0 5 r) && all_below 256 (λ b. is_ticket lim 1 r b || eqb (kept r b) 0))
  unfolding row_by_row zero_elsewhere
  by_rows = all_ext 7 _ _ (λ r h. ap₂ ◌&&◌ (adds r h) (zeros_up_to 256 (omega arith) r h))

  by_total_lem : against_total ledger_of book_of
      ≡ (eqb (sum (λ r. sum (kept r) 0 256) 0 7 % modulus) (total_of lim (in_row 0 5)) && all_below 7 (λ r. all_below 256 (λ b. is_ticket lim 1 r b || eqb (kept r b) 0)))
  unfolding against_total zero_elsewhere ledger_of
  by_total_lem =
      ap₂ ◌&&◌
      (ap₂ (λ (m n : ℕ). eqb (m % modulus) n)
      (sum_ext (λ r. sum (kept_in book_of r) 0 256) (λ r. sum (kept r) 0 256) 0 7
      (λ r l u. sum_ext (kept_in book_of r) (kept r) 0 256 (λ b m v. kept_at r b (omega arith) (omega arith))))
      (total_encode lim marked good))
      (all_ext 7 _ _ (λ r h. zeros_up_to 256 (omega arith) r h))

  by_blocks : below_c ledger_of book_of ≡ all_below 7 (λ r. eqb (sum (kept r) 0 256 % modulus) (in_row 0 5 r) && all_below 1 (λ b. is_ticket lim 1 r b || eqb (kept r b) 0))
  unfolding below_c ledger_of
  by_blocks = rw (blocks_encode lim marked good) (all_ext 7 _ _ (λ r h. ap₂ ◌&&◌ (adds r h) (zeros_up_to 1 (omega arith) r h)))

  -- where the engine's test fails and another does not, the answers are 5 and 0
  tells_apart : (fits : List ℕ → List ℕ → Bool) → row_by_row ledger_of book_of ≡ false → fits ledger_of book_of ≡ true → WithdrawsAs (withdrawn_by fits) → ⊥
  unfolding answer
  tells_apart fits f t same =
      no_digits 4 0 (sym (answered_by row_by_row false f) ∙ sym (withdraws ledger_of book_of 1 1 0 0) ∙ same ledger_of book_of 1 1 0 0 ∙ answered_by fits true t)

-- the 5 is kept in row 1: the total is right, and rows 0 and 1 are not
against_total_lem : WithdrawsAs (withdrawn_by against_total) → ⊥
unfolding all_below sum kept keeping in_row is_ticket total_of
against_total_lem = tells_apart 1 0 against_total (by_rows 1 0 ∙ refl) (by_total_lem 1 0 ∙ refl)

-- it is kept in row 0, at block 255
below_c_lem : WithdrawsAs (withdrawn_by below_c) → ⊥
unfolding all_below sum kept keeping in_row is_ticket
below_c_lem = tells_apart 0 255 below_c (by_rows 0 255 ∙ refl) (by_blocks 0 255 ∙ refl)

-- ---- sheets of all that stands: p = 1, C = 1, one ticket posted by the book with 0

stands : StandsAs (standing_in lim)
unfolding standing_call standing_sheet answered all_left
stands ledger book out n e = rw (answering.not_refused _ _ n e).0 refl

abbrev one_zero : List Booking
one_zero = posting (ticket 1 1 0 0 (bytes_of 16 0)) ∷ []

abbrev zero_kept : Keeping
zero_kept = keeping_after lim 1 1 one_zero

held_zero : Holding lim (pair_after lim 1 1 one_zero) zero_kept
unfolding in_range
held_zero = runs.bellard_runs.standings.after 1 1 refl one_zero

-- none is left of it where zeros are left out
none_left : zeros_left_out (pair_after lim 1 1 one_zero).ledger (pair_after lim 1 1 one_zero).book ≡ []
unfolding zeros_left_out leaves keep_next taken booking_refusal post_tests plain_view refusal post_entries opened_keeping opened admit_kept admit including keeping in_range is_ticket value_of bytes_of standing_from
none_left =
    let s = zero_kept in
    let o = held_zero.1 in
    ap (λ (q : Pair). zeros_left_out q.ledger q.book) held_zero.0
    ∙ standing_ext _ (λ row block. s.plain.tickets row block && not (eqb (s.kept row block) 0)) _ s.kept 7
    (λ row block h l.
    let e = bit_encode lim s.plain (good_of lim (omega arith) s o) row block h l in
    let x = kept_there lim (omega arith) s o row block h l in
    (ap₂ (λ (b : Bool) (n : ℕ). b && not (eqb n 0)) e x, x))
    ∙ refl

-- the sheet has one ticket, so that byte 10 is 1
one_stands : (length (sheet_of_kept lim zero_kept) ≡ 36) × (get_or (over (sheet_of_kept lim zero_kept) (replicate 36 0)) 10 0 ≡ 1)
unfolding leaves keep_next taken booking_refusal post_tests plain_view refusal post_entries opened_keeping opened admit_kept admit including keeping in_range is_ticket value_of bytes_of standing_from ticket_at sheet_of contents_of bodies_of
one_stands = (refl, refl)

zeros_left_out_lem : StandsAs zeros_left_out → ⊥
unfolding sheet_of bytes_of
zeros_left_out_lem same =
    let s = pair_after lim 1 1 one_zero in
    let out : List ℕ = replicate 36 0 in
    let given = (runs.bellard_runs.standings.stands s zero_kept held_zero).gives.with_room out (subst (λ (n : ℕ). n ≤ 36) (sym one_stands.0) (omega arith)) in
    let wrong = same s.ledger s.book out (length (sheet_of_kept lim zero_kept)) given.0 in
    let z : ◌≡◌ {A = ℕ} 1 0 =
    sym one_stands.1 ∙ ap (λ (l : List ℕ). get_or l 10 0) (sym given.1 ∙ wrong)
    ∙ ap (λ (ts : List Entry). get_or (over (sheet_of (pos_in s.ledger) (blocks_in s.ledger) ts) out) 10 0) none_left in
    omega (arith, z)

-- ---- parts: 243F from position 1 on, and 3E6A from position 3 on, which differ at position 4

handed_at_twelve_lem : HandsAs handed_at_twelve → ⊥
unfolding handed_at_twelve part_place overlap_tests overlap_call refused_by refusal in_form all_digits is_digit share holds agree all_below same_at digit_at later skipped further hex_text hex_digit
handed_at_twelve_lem same = let z : ◌≡◌ {A = ℕ} 4 0 = ap (λ (w : Place). w.at) (same (string 4 0x243F 1) (string 4 0x3E6A 3)) in omega (arith, z)

-- ---- arithmetic

pub shut_out : ShutOut
unfolding word_bound bound term_count settled_toward_zero toward_zero settled_at settled settled_up_to low high sameℤ charges side_sum over_rows row_sum sum on_side is_added is_charged
shut_out = record {
  always_nine = always_nine_lem;
  nine_unseen = nine_unseen_lem;
  always_eight = always_eight_lem;
  made_up = made_up_lem;
  one_less = one_less_lem;
  one_set_of_digits = one_set_of_digits;
  row_left_out = row_left_out;
  no_carry = no_carry;
  zero_uncharged = wrong_rules.0;
  every_term = wrong_rules.1;
  every_subtracted = wrong_rules.2;
  every_added = wrong_rules.3;
  one_sum = one_sum_lem;
  cut_in_both = cut_in_both_lem;
  cut_in_neither = cut_in_neither_lem;
  one_half_twice = one_half_twice;
  own_signs = own_signs_lem;
  top_bit_too = wrong_counts.0;
  counted_at_127 = wrong_counts.1;
  not_counted_at_128 = wrong_counts.2;
  of_whole_e = wrong_counts.3;
  in_one_word = in_one_word_lem;
  whole_for_lower = whole_for_a_half.0;
  whole_for_upper = whole_for_a_half.1;
  unmarked_now = unmarked_now_lem;
  total_now = total_now_lem;
  untested = untested;
  does_nothing = does_nothing_lem;
  fills_first = fills_first_lem;
  against_total = against_total_lem;
  below_c = below_c_lem;
  zeros_left_out = zeros_left_out_lem;
  handed_at_twelve = handed_at_twelve_lem;
  product_in_a_word = (refl, λ e. omega (arith, e));
  rounded_toward_zero = (refl, refl);
}

look_is : (ledger s total : List ℕ) (n : ℕ) → answered (look_call lim ledger s total) ≡ pos n
    → (n ≡ unmarked_in lim (bytes_left (sheet_post_call lim ledger s) 0)) × (bytes_left (look_call lim ledger s total) 0 ≡ bytes_of 16 (total_in lim (bytes_left (sheet_post_call lim ledger s) 0)))
unfolding look_call answered all_left
look_is ledger s total n e =
    let w = answering.not_refused _ _ n e in
    (sym w.1, sym (answering.changed _ _ total w.0))

pub met : Met
met = record {
  answers = λ p C range posts f out room. refl;
  leaves = λ p C range posts f out room. refl;
  closes = λ s digits. refl;
  works = λ part p C row block out count l m r t. refl;
  counts = left_squarings;
  counts_by = λ way part p C row block out count l m r t.
      left_squarings way part p C row block out count l m r t ∙ ap (bytes_of 16) (counted_rightly part p C row block);
  remain = λ ledger s total n e. (look_is ledger s total n e).0;
  totals = λ ledger s total n e. (look_is ledger s total n e).1;
  posts = λ p C range posts. refl;
  withdraws = withdraws;
  stands = stands;
  hands = λ a b. refl;
}
