-- The wrong engines that document 01 names under "Traps of this arithmetic" and "For those who test", where no edit of the code can be
-- them, wrong totals of the row sums, wrong halves of a ticket, wrong rules of charging, wrong counts of squarings, wrong looks, wrong tests of a book, wrong sheets
-- of what stands, and wrong parts of two strings: each is written down by what it answers or leaves, and `ShutOut` says that the engine is none of them. Nothing of the engine rests on these definitions.
use Rattle.std.specs.Prelude.{◌≡◌, Bool, true, not, cond, ◌&&◌, ◌||◌, ℕ, zero, suc, ◌+◌, ◌*◌, ◌-◌, ◌/◌, ◌%◌, ◌^◌, ◌<◌, eqb, leb, ltb, ℤ, pos, negsuc, neg_ℤ, length, drop}
use mathlib.Core.List.{List, [], ◌∷◌, ◌++◌, foldl}
use Rattle.std.proofs.Math.IntN.{sub_ℕ}
use Rattle.algebra.specs.Bits.{bit_length}
use Rattle.algebra.specs.Machine.{Machine, leaves}
use Rattle.algebra.specs.Sum.{sum}
use Rattle.algebra.specs.Test.{all_below}
use Rattle.algebra.specs.Whole.{residue, sameℤ}
use Rattle.words.specs.Bytes.{bytes_of}
use Rattle.series.specs.Series.{plus, minus, modulus, row_count, row_at, rise, fall, is_added, term_count, size, row_sum, range_sum}
use Rattle.series.specs.Bellard.{bellard}
use Rattle.digits.specs.Digits.{unit_at}
use Rattle.interval.specs.Interval.{Rule, is_charged, every_term}
use Rattle.run.specs.Refusal.{◌⇐◌, refusal, answer, tested}
use Rattle.run.specs.Run.{Limits, limits_of, in_range, is_ticket, bound, Entry}
use Rattle.run.specs.Call.{bytes_left, refused_by, answered}
use Rattle.ticket.specs.Parts.{cut, part_first, part_count, part_squarings}
use Rattle.ticket.specs.Work.{work_call, quote_call}
use Rattle.ticket.specs.declared.Part.{Part}
use Rattle.ticket.specs.declared.Part.TheVariants.{Whole, Lower, Upper}
use Rattle.ledger.specs.Ledger.{ledger_size, view_of, pos_in, blocks_in, row_sum_in, total_of, total_in, bit_in, in_order, fresh, enter}
use Rattle.sheet.specs.Sheet.{sheet_of}
use Rattle.sheet.specs.Calls.{over}
use Rattle.posting.specs.Posts.{Post, post_refusal, post_entries, post_answer, post_bytes, ledger_after}
use Rattle.posting.specs.Calls.{sheet_post_call}
use Rattle.book.specs.Book.{kept_in, adds_up, zero_elsewhere, view_with}
use Rattle.booking.specs.Calls.{withdraw_tests, withdraw_call}
use Rattle.standing.specs.Standing.{standing, standing_in, standing_call}
use Rattle.look.specs.Look.{unmarked_in, look_call}
use Rattle.closing.specs.Closing.{low_of, high_of, settled_at, close_by, close_call}
use Rattle.overlap.specs.Strings.{Laid, second_further, skipped}
use Rattle.overlap.specs.Calls.{Place, place, part_place}
use Rattle.overlap.specs.Overlaps.{refused_with}
use Rattle.settlement.specs.Settlement.{Filled, all_sums}

abbrev pub lim : Limits
lim = limits_of bellard

-- ---- closings, by what they answer to a ledger and the bytes lent for the digits, and by what they leave in these

-- the engine's closing of every filled run answers as A does
abbrev pub AnswersAs : (List ℕ → List ℕ → ℤ) → Type 0
AnswersAs A =
    (p C : ℕ) → in_range lim p C ≡ true → (posts : List Post) → Filled bellard p C posts → (out : List ℕ) → length out ≡ 32
    → answered (close_call bellard (ledger_after lim p C posts) out) ≡ A (ledger_after lim p C posts) out

-- it leaves the bytes that B leaves
abbrev pub LeavesAs : (List ℕ → List ℕ → List ℕ) → Type 0
LeavesAs B =
    (p C : ℕ) → in_range lim p C ≡ true → (posts : List Post) → Filled bellard p C posts → (out : List ℕ) → length out ≡ 32
    → bytes_left (close_call bellard (ledger_after lim p C posts) out) 0 ≡ B (ledger_after lim p C posts) out

-- always 9
abbrev pub always_nine : List ℕ → List ℕ → ℤ
always_nine s digits = neg_ℤ (pos 9)

-- refusal 1 of a closing
abbrev pub wrong_size : List ℕ → List ℕ → Bool
wrong_size s digits = not (eqb (length s) (ledger_size lim)) || not (eqb (length digits) 32)

-- 9 before looking: where the sizes are right, nothing else is looked at
unfoldable pub nine_unseen : List ℕ → List ℕ → ℤ
nine_unseen s digits = answer (refusal ((1 ⇐ wrong_size s digits) ∷ (9 ⇐ true) ∷ [])) 0

-- 8 on a full ledger, as on every other that is in order
unfoldable pub always_eight : List ℕ → List ℕ → ℤ
always_eight s digits =
    answer (refusal ((1 ⇐ wrong_size s digits) ∷ (5 ⇐ not (in_order lim s)) ∷ (8 ⇐ true) ∷ [])) 0

-- a made-up d: one number for all ledgers that settle a digit
unfoldable pub made_up : ℕ → List ℕ → List ℕ → ℤ
made_up d s digits = answer (refused_by (close_by is_charged bellard (view_of lim s) (total_in lim s) digits)) d

-- a made-up d: one less than the greatest that the distance settles
unfoldable pub one_less : List ℕ → List ℕ → ℤ
one_less s digits = answer (refused_by (close_by is_charged bellard (view_of lim s) (total_in lim s) digits)) (settled_at is_charged bellard (pos_in s) (total_in lim s) - 1)

-- one set of digits for all positions
abbrev pub same_digits : List ℕ → List ℕ → List ℕ → List ℕ
same_digits w s digits = w ++ drop (length w) digits

-- a closing by another total than that of the row sums: T makes it of the sums (document 02, slip 1)
unfoldable pub by_total : ((ℕ → ℕ) → ℕ) → List ℕ → List ℕ → List ℕ
by_total T s digits = bytes_left (close_by is_charged bellard (view_of lim s) (T (row_sum_in s)) digits) 0

-- a row is left out
unfoldable pub without_row : ℕ → (ℕ → ℕ) → ℕ
without_row row sums = total_of lim (λ r. cond (eqb row r) 0 (sums r))

-- the two words are added up apart, with no carry from the lower to the upper
unfoldable pub without_carry : (ℕ → ℕ) → ℕ
without_carry sums = sum (λ r. sums r / 2 ^ 64) 0 7 % 2 ^ 64 * 2 ^ 64 + sum (λ r. sums r % 2 ^ 64) 0 7 % 2 ^ 64

-- ---- rules of charging (document 02, slip 5)

-- the engine's closing of every ledger, filled or not, answers as A does
abbrev pub ClosesAs : (List ℕ → List ℕ → ℤ) → Type 0
ClosesAs A = (s digits : List ℕ) → answered (close_call bellard s digits) ≡ A s digits

-- a closing by a rule
abbrev pub by_rule : Rule → List ℕ → List ℕ → ℤ
by_rule R s digits = answered (close_by R bellard (view_of lim s) (total_in lim s) digits)

-- a term with E of 0 is not charged: the bound would still hold
unfoldable pub above_zero : Rule
above_zero F p r k = ltb (fall F k) (rise p r)

-- every added term is charged, or every subtracted one; on the other side those with E of 0 or more
unfoldable pub every_added : Rule
every_added F p r k = is_added F r k || is_charged F p r k

unfoldable pub every_subtracted : Rule
every_subtracted F p r k = not (is_added F r k) || is_charged F p r k

-- ---- tickets

-- the engine's working of this part of every ticket leaves the bytes that W leaves
abbrev pub WorksAs : Part → (ℕ → ℕ → ℕ → ℕ → List ℕ → List ℕ → List ℕ) → Type 0
WorksAs part W =
    (p C row block : ℕ) (out count : List ℕ) → length out ≡ 16 → length count ≡ 16 → in_range lim p C ≡ true → is_ticket lim C row block ≡ true
    → bytes_left (work_call bellard part p C row block out count) 0 ≡ W p C row block out count

-- one sum for all tickets
abbrev pub one_sum : List ℕ → ℕ → ℕ → ℕ → ℕ → List ℕ → List ℕ → List ℕ
one_sum w p C row block out count = w

-- halves, by their sums (document 02, slip 3): the term at the cut is given to the lower half, too
unfoldable pub cut_in_both : ℕ → ℕ → ℕ → ℕ → List ℕ → List ℕ → List ℕ
cut_in_both p C row block out count =
    let first = bound (term_count bellard p) C block in
    bytes_of 16 (range_sum bellard p (row_at bellard row) first (cut bellard p C block + 1 - first))

-- it is left out of the upper half
unfoldable pub cut_in_neither : ℕ → ℕ → ℕ → ℕ → List ℕ → List ℕ → List ℕ
cut_in_neither p C row block out count =
    let end = bound (term_count bellard p) C (block + 1) in
    bytes_of 16 (range_sum bellard p (row_at bellard row) (cut bellard p C block + 1) (end - (cut bellard p C block + 1)))

-- the upper half's signs are counted from its own first term, as if that were term 0
unfoldable pub own_signs : ℕ → ℕ → ℕ → ℕ → List ℕ → List ℕ → List ℕ
own_signs p C row block out count =
    let r = row_at bellard row in
    let sizes : ℕ → ℕ = λ j. size bellard p r (cut bellard p C block + j) in
    let n = bound (term_count bellard p) C (block + 1) - cut bellard p C block in
    bytes_of 16 (residue modulus (sub_ℕ (row_sum bellard plus r sizes 0 n) (row_sum bellard minus r sizes 0 n)))

-- ---- squarings (document 02, slip 7)

-- How a count is had: from the call that works a ticket or a half, or from the one that quotes it.
pub data Way : Type 0 where
  by_working : Way
  by_quoting : Way

-- the bytes that the call leaves for it
abbrev pub count_left : Way → Part → ℕ → ℕ → ℕ → ℕ → List ℕ → List ℕ → List ℕ
count_left by_working part p C row block out count = bytes_left (work_call bellard part p C row block out count) 1
count_left by_quoting part p C row block out count = bytes_left (quote_call bellard part p C row block count) 0

-- the engine's count of this part of every ticket is what W gives
abbrev pub CountsAs : Way → Part → (Part → ℕ → ℕ → ℕ → ℕ → ℕ) → Type 0
CountsAs way part W =
    (p C row block : ℕ) (out count : List ℕ) → length out ≡ 16 → length count ≡ 16 → in_range lim p C ≡ true → is_ticket lim C row block ≡ true
    → count_left way part p C row block out count ≡ bytes_of 16 (W part p C row block)

-- a part's squarings where a term with E of `least` or more takes as many as `of E` says, and any other none
unfoldable pub counted_by : ℕ → (ℕ → ℕ) → Part → ℕ → ℕ → ℕ → ℕ → ℕ
counted_by least of part p C row block =
    let r = row_at bellard row in
    sum (λ k. cond (leb (fall bellard k + least) (rise p r)) (of (rise p r - fall bellard k)) 0) (part_first bellard part p C block)
    (part_count bellard part p C block)

-- the right count is such a one
abbrev pub right_of : ℕ → ℕ
right_of E = bit_length (E - 64) - 1

-- the top bit is counted as well
abbrev pub top_bit_too : ℕ → ℕ
top_bit_too E = bit_length (E - 64)

-- the bit length of E is taken in place of that of E - 64
abbrev pub of_whole_e : ℕ → ℕ
of_whole_e E = bit_length E - 1

-- the count is kept in one word
unfoldable pub in_one_word : Part → ℕ → ℕ → ℕ → ℕ → ℕ
in_one_word part p C row block = part_squarings bellard part p C row block % 2 ^ 64

-- a half is counted as the whole ticket
abbrev pub of_whole : Part → ℕ → ℕ → ℕ → ℕ → ℕ
of_whole part = part_squarings bellard Whole

-- ---- looks (document 02, slip 6), where they are taken

-- the number of tickets that the engine's look at every sheet says would remain is what R gives
abbrev pub RemainAs : (List ℕ → List ℕ → ℕ) → Type 0
RemainAs R = (ledger s total : List ℕ) (n : ℕ) → answered (look_call lim ledger s total) ≡ pos n → n ≡ R ledger s

-- the total that it leaves is what T gives
abbrev pub TotalsAs : (List ℕ → List ℕ → ℕ) → Type 0
TotalsAs T =
    (ledger s total : List ℕ) (n : ℕ) → answered (look_call lim ledger s total) ≡ pos n
    → bytes_left (look_call lim ledger s total) 0 ≡ bytes_of 16 (T ledger s)

-- the sheet plays no part: what is unmarked now, and the total of now
abbrev pub unmarked_now : List ℕ → List ℕ → ℕ
unmarked_now ledger s = unmarked_in lim ledger

abbrev pub total_now : List ℕ → List ℕ → ℕ
total_now ledger s = total_in lim ledger

-- nothing is refused, whatever number is answered
abbrev pub LooksUntested : (List ℕ → List ℕ → List ℕ → ℕ) → Type 0
LooksUntested A = (ledger s total : List ℕ) → answered (look_call lim ledger s total) ≡ pos (A ledger s total)

-- ---- posts, by what they leave of a ledger

-- lists of posts, each of which leaves what P says; what they answer plays no part
abbrev pub leaving : (List ℕ → Post → List ℕ) → Machine (List ℕ) Post ℤ
leaving P = record { next = P; answer = post_answer lim }

-- the engine's posts leave what posts by P leave, for every list on a fresh ledger
abbrev pub PostsAs : (List ℕ → Post → List ℕ) → Type 0
PostsAs P = (p C : ℕ) → in_range lim p C ≡ true → (posts : List Post) → ledger_after lim p C posts ≡ leaves (leaving P) (fresh lim p C) posts

-- a post that does nothing
abbrev pub does_nothing : List ℕ → Post → List ℕ
does_nothing s a = s

-- the first ticket posted fills in the sums of the whole run, each later one is only marked
unfoldable pub fill_entry : List ℕ → Entry → List ℕ
fill_entry s t =
    enter lim s t.row t.block
    (cond (all_below (row_count bellard) (λ row. all_below 256 (λ block. not (bit_in lim s row block)))) (all_sums bellard (pos_in s) (blocks_in s)) 0)

unfoldable pub fills_first : List ℕ → Post → List ℕ
fills_first s a = cond (eqb (post_refusal lim (view_of lim s) a) 0) (foldl fill_entry s (post_entries a)) s

-- ---- withdrawals, by what they answer (document 02, slip 9)

-- the engine answers every withdrawal as A does
abbrev pub WithdrawsAs : (List ℕ → List ℕ → ℕ → ℕ → ℕ → ℕ → ℤ) → Type 0
WithdrawsAs A = (ledger book : List ℕ) (p C row block : ℕ) → answered (withdraw_call lim ledger book p C row block) ≡ A ledger book p C row block

-- by another test of the book: all else is seen of ledger and book as the engine sees it
unfoldable pub withdrawn_by : (List ℕ → List ℕ → Bool) → List ℕ → List ℕ → ℕ → ℕ → ℕ → ℕ → ℤ
withdrawn_by fits ledger book p C row block =
    let v = view_with lim ledger book in
    tested (withdraw_tests lim (record { sized = v.sized; ordered = in_order lim ledger && fits ledger book; p = v.p; C = v.C; marked = v.marked }) p C row block)

-- the engine's own: row by row, and over all 256 blocks
unfoldable pub row_by_row : List ℕ → List ℕ → Bool
row_by_row ledger book = all_below 7 (λ row. adds_up ledger book row && zero_elsewhere lim ledger book row)

-- all that is kept is compared with the total
unfoldable pub against_total : List ℕ → List ℕ → Bool
against_total ledger book = eqb (sum (λ row. sum (kept_in book row) 0 256) 0 7 % modulus) (total_in lim ledger) && all_below 7 (λ row. zero_elsewhere lim ledger book row)

-- what is kept for blocks at C and above is not looked at
unfoldable pub below_c : List ℕ → List ℕ → Bool
below_c ledger book =
    all_below 7 (λ row. adds_up ledger book row && all_below (blocks_in ledger) (λ block. bit_in lim ledger row block || eqb (kept_in book row block) 0))

-- ---- sheets of all that stands, by the tickets that they have

-- where the engine's call is not refused it writes the sheet of the tickets that T gives
abbrev pub StandsAs : (List ℕ → List ℕ → List Entry) → Type 0
StandsAs T =
    (ledger book out : List ℕ) (n : ℕ) → answered (standing_call lim ledger book out) ≡ pos n
    → bytes_left (standing_call lim ledger book out) 0 ≡ over (sheet_of (pos_in ledger) (blocks_in ledger) (T ledger book)) out

-- tickets that keep zero are left out
unfoldable pub zeros_left_out : List ℕ → List ℕ → List Entry
zeros_left_out ledger book = standing lim (λ row block. bit_in lim ledger row block && not (eqb (kept_in book row block) 0)) (kept_in book)

-- ---- parts of two strings of digits, by where they lie

-- the engine hands out the part that P does
abbrev pub HandsAs : (Laid → Laid → Place) → Type 0
HandsAs P = (a b : Laid) → part_place a b ≡ P a b

-- the part is handed out where 12 is answered, too
unfoldable pub handed_at_twelve : Laid → Laid → Place
handed_at_twelve a b = cond (eqb (refused_with a b) 12) (place (second_further a b) (skipped a b)) (part_place a b)

-- ---- arithmetic

-- block bounds by i * K cut to 64 bits
unfoldable pub word_bound : ℕ → ℕ → ℕ → ℕ
word_bound K C i = i * K % 2 ^ 64 / C

-- the quotient rounded toward 0, and the number of digits settled by it, from 1 to n
unfoldable pub toward_zero : ℤ → ℕ → ℤ
toward_zero (pos n) m = pos (n / m)
toward_zero (negsuc n) m = sub_ℕ 0 (suc n / m)

unfoldable pub settled_toward_zero : ℤ → ℤ → ℕ → ℕ
settled_toward_zero lo hi zero = 0
settled_toward_zero lo hi (suc d) =
    cond (sameℤ (toward_zero lo (unit_at (suc d))) (toward_zero hi (unit_at (suc d)))) (suc d) (settled_toward_zero lo hi d)

-- ---- what is asked of each can be met: the engine's own definitions do

pub record Met : Type 0 where
  pub answers : AnswersAs (λ s digits. answered (close_call bellard s digits))
  pub leaves : LeavesAs (λ s digits. bytes_left (close_call bellard s digits) 0)
  pub closes : ClosesAs (by_rule is_charged)
  pub works : (part : Part) → WorksAs part (λ p C row block out count. bytes_left (work_call bellard part p C row block out count) 0)
  pub counts : (way : Way) (part : Part) → CountsAs way part (part_squarings bellard)
  pub counts_by : (way : Way) (part : Part) → CountsAs way part (counted_by 128 right_of)
  pub remain : RemainAs (λ ledger s. unmarked_in lim (bytes_left (sheet_post_call lim ledger s) 0))
  pub totals : TotalsAs (λ ledger s. total_in lim (bytes_left (sheet_post_call lim ledger s) 0))
  pub posts : PostsAs (post_bytes lim)
  pub withdraws : WithdrawsAs (withdrawn_by row_by_row)
  pub stands : StandsAs (standing_in lim)
  pub hands : HandsAs part_place

-- ---- the engine is none of the wrong ones

pub record ShutOut : Type 0 where
  pub always_nine : AnswersAs always_nine → ⊥
  pub nine_unseen : AnswersAs nine_unseen → ⊥
  pub always_eight : AnswersAs always_eight → ⊥
  pub made_up : (d : ℕ) → AnswersAs (made_up d) → ⊥
  pub one_less : AnswersAs one_less → ⊥
  pub one_set_of_digits : (w : List ℕ) → LeavesAs (same_digits w) → ⊥
  pub row_left_out : (row : ℕ) → row < 7 → LeavesAs (by_total (without_row row)) → ⊥
  pub no_carry : LeavesAs (by_total without_carry) → ⊥
  pub zero_uncharged : ClosesAs (by_rule above_zero) → ⊥
  pub every_term : ClosesAs (by_rule every_term) → ⊥
  pub every_subtracted : ClosesAs (by_rule every_subtracted) → ⊥
  pub every_added : ClosesAs (by_rule every_added) → ⊥
  pub one_sum : (w : List ℕ) → WorksAs Whole (one_sum w) → ⊥
  pub cut_in_both : WorksAs Lower cut_in_both → ⊥
  pub cut_in_neither : WorksAs Upper cut_in_neither → ⊥
  pub one_half_twice : WorksAs Upper (λ p C row block out count. bytes_left (work_call bellard Lower p C row block out count) 0) → ⊥
  pub own_signs : WorksAs Upper own_signs → ⊥
  -- whether a ticket or a half is worked or quoted
  pub top_bit_too : (way : Way) (part : Part) → CountsAs way part (counted_by 128 top_bit_too) → ⊥
  pub counted_at_127 : (way : Way) (part : Part) → CountsAs way part (counted_by 127 right_of) → ⊥
  pub not_counted_at_128 : (way : Way) (part : Part) → CountsAs way part (counted_by 129 right_of) → ⊥
  pub of_whole_e : (way : Way) (part : Part) → CountsAs way part (counted_by 128 of_whole_e) → ⊥
  -- no half takes more than a word holds
  pub in_one_word : (way : Way) → CountsAs way Whole in_one_word → ⊥
  pub whole_for_lower : (way : Way) → CountsAs way Lower of_whole → ⊥
  pub whole_for_upper : (way : Way) → CountsAs way Upper of_whole → ⊥
  pub unmarked_now : RemainAs unmarked_now → ⊥
  pub total_now : TotalsAs total_now → ⊥
  pub untested : (A : List ℕ → List ℕ → List ℕ → ℕ) → LooksUntested A → ⊥
  pub does_nothing : PostsAs does_nothing → ⊥
  pub fills_first : PostsAs fills_first → ⊥
  pub against_total : WithdrawsAs (withdrawn_by against_total) → ⊥
  pub below_c : WithdrawsAs (withdrawn_by below_c) → ⊥
  pub zeros_left_out : StandsAs zeros_left_out → ⊥
  pub handed_at_twelve : HandsAs handed_at_twelve → ⊥
  -- at p = 2 ^ 60, C = 256, block 39 would be empty; it is not
  pub product_in_a_word : let K = term_count bellard (2 ^ 60) in
      (word_bound K 256 40 - word_bound K 256 39 ≡ 0) × (bound K 256 40 - bound K 256 39 ≡ 0 → ⊥)
  -- at p = 1, total 0 would settle thirty digits; it settles none
  pub rounded_toward_zero : (settled_toward_zero (low_of is_charged bellard 1 0) (high_of is_charged bellard 1 0) 32 ≡ 30) × (settled_at is_charged bellard 1 0 ≡ 0)
