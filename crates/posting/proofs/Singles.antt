-- Posting a sheet equals posting its tickets one by one, in order, on any ledger: where the sheet is taken, each of these posts is taken
-- too, and the same bytes are left.
-- Assumes nothing.
use mathlib.Core.Path.{◌≡◌, refl, sym, ap, ap₂, ◌∙◌, subst}
use mathlib.Core.Bool.{true, false}
use mathlib.Core.List.{List, [], ◌∷◌, foldl}
use Prim.Native.Nat.{ℕ, zero, suc, ◌+◌, ◌*◌, ◌^◌, ◌<◌}
use borrow.Author.Tests.{eq-eqb, eqb-true}
use lib.IntN.{ℤ, pos}
use lib.ListN.{length, replicate}
use Rattle.words.specs.Bytes.{bytes_of, AllBytes}
use Rattle.words.proofs.Bytes.{length_bytes, value_bytes, field_lt}
use Rattle.series.specs.Series.{modulus}
use Rattle.algebra.specs.Machine.{leaves, answers}
use Rattle.run.specs.Refusal.{refusal, answer}
use Rattle.run.specs.Run.{Entry, Limits, is_ticket}
use Rattle.run.proofs.Answering as answering
use Rattle.run.specs.Call.{answered, refused_by, bytes_left}
use Rattle.sheet.specs.Sheet.{sheet_count, sheet_blocks, sum_in, entries_from, entries}
use Rattle.ledger.specs.Ledger.{View, view_of, ledger_size}
use Rattle.ledger.specs.Plain.{Plain, plain_view, admit, encode, decode}
use Rattle.ledger.specs.Calls.{post_tests}
use Rattle.ledger.proofs.Image.{Good, view_encode, good_admit}
use Rattle.ledger.proofs.Decode.{encode_decode, good_decode}
use Rattle.posting.specs.Calls.{sheet_post_call}
use Rattle.posting.specs.Posts.{ticket, sheet, post_refusal, post_entries, post_bytes, plain_answer, plain_post, on_bytes, on_plain, singles, OneByOne}
use Rattle.posting.proofs.Testing.{sheet_taken}
use Rattle.posting.proofs.Simulation.{Ready, post_ready, step, posts_agree}

-- a single post of a ticket of the run, with its p and C and a sum of 16 bytes, is refused only where the ticket is in the set
pub not_refused : (lim : Limits) (s : Plain) (q D row block : ℕ) (x : List ℕ) → Good lim s → q ≡ s.p → D ≡ s.C → length x ≡ 16
    → is_ticket lim s.C row block ≡ true → s.tickets row block ≡ false → post_refusal lim (plain_view s) (ticket q D row block x) ≡ 0
unfolding post_refusal post_tests plain_view refusal
not_refused lim s q D row block x g eq eD l h new =
    rw (eq, eD, l, g.range, h, eq-eqb s.p s.p refl, eq-eqb s.C s.C refl, new) refl

-- every sum fits its 16 bytes, as the sums of a sheet do
abbrev pub SumsFit : List Entry → Type 0
SumsFit [] = Unit {0}
SumsFit (t ∷ ts) = (t.sum < modulus) × SumsFit ts

pub sums_fit : (s : List ℕ) → AllBytes s → (n i : ℕ) → SumsFit (entries_from s i n)
unfolding entries_from sum_in
sums_fit s h zero i = tt
sums_fit s h (suc n) i = (field_lt s (16 + 4 * sheet_count s + 16 * i) 16 h, sums_fit s h n (suc i))

module _ (lim : Limits) where
  pub one_taken : (s : Plain) (t : Entry) → Good lim s → is_ticket lim s.C t.row t.block ≡ true → s.tickets t.row t.block ≡ false
      → post_refusal lim (plain_view s) (ticket s.p s.C t.row t.block (bytes_of 16 t.sum)) ≡ 0
  one_taken s t g h new =
      not_refused lim s s.p s.C t.row t.block (bytes_of 16 t.sum) g refl refl (length_bytes 16 t.sum) h new

  one_post_lem : (s : Plain) (t : Entry) → Good lim s → is_ticket lim s.C t.row t.block ≡ true → s.tickets t.row t.block ≡ false
      → t.sum < modulus → plain_post lim s (ticket s.p s.C t.row t.block (bytes_of 16 t.sum)) ≡ admit s t
  unfolding plain_post post_entries
  one_post_lem s t g h new fit =
      rw (one_taken s t g h new)
      (ap (λ (n : ℕ). admit s (record { row = t.row; block = t.block; sum = n })) (value_bytes 16 t.sum fit))

  -- tickets that are ready go in one by one, and each is answered 0
  all_taken : (s : Plain) (ts : List Entry) → Good lim s → Ready lim s ts → SumsFit ts
      → (leaves (on_plain lim) s (singles s.p s.C ts) ≡ foldl admit s ts)
      × (answers (on_plain lim) s (singles s.p s.C ts) ≡ replicate (length ts) (pos 0))
  unfolding leaves answers plain_answer answer singles admit
  all_taken s [] g r f = (refl, refl)
  all_taken s (t ∷ ts) g r f =
      let here = one_post_lem s t g r.0 r.1 f.0 in
      let rest = all_taken (admit s t) ts (good_admit lim s t g r.0) r.2 f.1 in (
        ap (λ (x : Plain). leaves (on_plain lim) x (singles s.p s.C ts)) here ∙ rest.0,
        ap₂ (λ (x : ℤ) (l : List ℤ). x ∷ l) (ap (λ (n : ℕ). answer n 0) (one_taken s t g r.0 r.1))
            (ap (λ (x : Plain). answers (on_plain lim) x (singles s.p s.C ts)) here ∙ rest.1),
      )

  -- a sheet that the plain ledger takes
  plain_singles : (s : Plain) (b : List ℕ) → Good lim s → AllBytes b → post_refusal lim (plain_view s) (sheet b) ≡ 0
      → (leaves (on_plain lim) s (singles s.p s.C (entries b)) ≡ plain_post lim s (sheet b))
      × (answers (on_plain lim) s (singles s.p s.C (entries b)) ≡ replicate (length (entries b)) (pos 0))
  unfolding plain_post post_entries entries
  plain_singles s b g h e =
      let a = all_taken s (entries b) g (post_ready lim s (sheet b) e) (sums_fit b h (sheet_count b) 0) in
      (rw e a.0, a.1)

  -- on the bytes of a plain ledger
  encoded_singles : (s : Plain) (b : List ℕ) → Good lim s → AllBytes b → post_refusal lim (plain_view s) (sheet b) ≡ 0
      → (leaves (on_bytes lim) (encode lim s) (singles s.p s.C (entries b)) ≡ bytes_left (sheet_post_call lim (encode lim s) b) 0)
      × (answers (on_bytes lim) (encode lim s) (singles s.p s.C (entries b)) ≡ replicate (length (entries b)) (pos 0))
  unfolding post_refusal post_bytes
  encoded_singles s b g h e =
      let a = plain_singles s b g h e in
      let posts = singles s.p s.C (entries b) in
      let all = posts_agree lim (encode lim s) s (refl, g) posts in
      (all.1.0 ∙ ap (encode lim) a.0 ∙ sym (step lim s (sheet b) g).0, all.0 ∙ a.1)

-- a ledger that takes a sheet has its size and is in order, so it holds a plain ledger, which takes the sheet as well
pub record Held (lim : Limits) (ledger b : List ℕ) : Type 0 where
  pub good : Good lim (decode lim ledger)
  pub again : encode lim (decode lim ledger) ≡ ledger
  pub taken : post_refusal lim (plain_view (decode lim ledger)) (sheet b) ≡ 0

pub held : (lim : Limits) → lim.last < 2 ^ 64 → (ledger b : List ℕ) → AllBytes ledger → answered (sheet_post_call lim ledger b) ≡ pos 0 → Held lim ledger b
unfolding sheet_post_call refused_by answered post_refusal view_of
held lim fits ledger b bytes e =
    let passed = (answering.not_refused _ 0 0 e).0 in
    let t = sheet_taken lim (view_of lim ledger) b passed in
    let sized = eqb-true (length ledger) (ledger_size lim) t.sized in
    let g = good_decode lim ledger bytes sized t.ordered fits in
    let same = encode_decode lim ledger bytes sized t.ordered in
    let seen : view_of lim ledger ≡ plain_view (decode lim ledger) = ap (view_of lim) (sym same) ∙ view_encode lim (decode lim ledger) g in
    record { good = g; again = same; taken = ap (λ (v : View). post_refusal lim v (sheet b)) (sym seen) ∙ passed }

pub sheet_as_singles : (lim : Limits) → lim.last < 2 ^ 64 → OneByOne lim
unfolding plain_view post_refusal
sheet_as_singles lim fits ledger b bytes sheet-bytes e =
    let h = held lim fits ledger b bytes e in
    let s = decode lim ledger in
    let t = sheet_taken lim (plain_view s) b h.taken in
    let P : List ℕ → ℕ → ℕ → Type 0 =
    (λ l p C. (leaves (on_bytes lim) l (singles p C (entries b)) ≡ bytes_left (sheet_post_call lim l b) 0)
    × (answers (on_bytes lim) l (singles p C (entries b)) ≡ replicate (length (entries b)) (pos 0))) in
    subst (λ (p : ℕ). P ledger p (sheet_blocks b)) (sym t.same_p)
    (subst (λ (C : ℕ). P ledger s.p C) (sym t.same_c)
    (subst (λ (l : List ℕ). P l s.p s.C) h.again (encoded_singles lim s b h.good sheet-bytes h.taken)))
