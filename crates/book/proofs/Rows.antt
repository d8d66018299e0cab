-- The rows of a book beside those of a ledger: their tests, block by block and row by row, as the loops meet them.
-- Assumes nothing.
use mathlib.Core.Path.{◌≡◌, refl, sym, ap, ap₂, ◌∙◌}
use mathlib.Core.Bool.{Bool, true, false, cond, ◌&&◌, ◌||◌}
use mathlib.Core.List.{List}
use Prim.Native.Nat.{ℕ, ◌+◌, ◌%◌, ◌<◌}
use borrow.Author.Tests.{lt-ltb}
use lib.Dec.{eqb}
use Rattle.algebra.specs.Sum.{sum}
use Rattle.algebra.specs.Test.{all_below}
use Rattle.algebra.proofs.Booleans.{and_both, left_fails, right_fails}
use Rattle.algebra.proofs.Below.{below_false, below_next}
use Rattle.words.specs.Words.{joined}
use Rattle.words.proofs.Joined.{joined_zero}
use Rattle.series.specs.Series.{modulus}
use Rattle.run.specs.Run.{Limits}
use Rattle.ledger.specs.Ledger.{row_sum_in, bit_in}
use Rattle.ledger.specs.RowSums.{held_in}
use Rattle.book.specs.Book.{kept_in, adds_up, zero_elsewhere}

-- ---- one place of a row

abbrev pub zero_at : Limits → List ℕ → List ℕ → ℕ → ℕ → Bool
zero_at lim ledger book row block = bit_in lim ledger row block || eqb (kept_in book row block) 0

module _ (lim : Limits) (ledger book : List ℕ) (row block : ℕ) (b : Bool) (eb : b ≡ bit_in lim ledger row block) where
  pub bit_next : b ≡ true → all_below block (zero_at lim ledger book row) ≡ true → all_below (block + 1) (zero_at lim ledger book row) ≡ true
  bit_next t h = below_next block (zero_at lim ledger book row) h (rw (sym eb ∙ t) refl)

  module _ (off : b ≡ false) (k : ℕ) (ek : k ≡ kept_in book row block) (z : Bool) (ez : z ≡ eqb k (joined 0 0)) where
    decided : zero_at lim ledger book row block ≡ z
    decided = rw (sym eb ∙ off) (sym (ez ∙ ap₂ eqb ek joined_zero))

    pub zero_next : z ≡ true → all_below block (zero_at lim ledger book row) ≡ true → all_below (block + 1) (zero_at lim ledger book row) ≡ true
    zero_next t h = below_next block (zero_at lim ledger book row) h (decided ∙ t)

    pub not_zero : block < 256 → z ≡ false → false ≡ zero_elsewhere lim ledger book row
    unfolding zero_elsewhere
    not_zero h t = sym (below_false 256 (zero_at lim ledger book row) block h (decided ∙ t))

-- ---- one row

abbrev pub agrees_at : Limits → List ℕ → List ℕ → ℕ → Bool
agrees_at lim ledger book row = adds_up ledger book row && zero_elsewhere lim ledger book row

module _ (lim : Limits) (ledger book : List ℕ) (row : ℕ) (h : row < lim.rows) (t : ℕ) (et : t ≡ sum (kept_in book row) 0 256 % modulus)
    (x : ℕ) (ex : x ≡ held_in lim.rows ledger row) (b : Bool) (eb : b ≡ eqb t x) where
  compared : adds_up ledger book row ≡ b
  unfolding adds_up held_in
  compared = sym (eb ∙ ap₂ eqb et (ex ∙ ap (λ (l : Bool). cond l (row_sum_in ledger row) 0) (lt-ltb row lim.rows h)))

  pub other_sum : b ≡ false → false ≡ all_below lim.rows (agrees_at lim ledger book)
  other_sum f = sym (below_false lim.rows (agrees_at lim ledger book) row h (left_fails _ _ (compared ∙ f)))

  module _ (z : Bool) (ez : z ≡ zero_elsewhere lim ledger book row) where
    pub not_zeros : z ≡ false → false ≡ all_below lim.rows (agrees_at lim ledger book)
    not_zeros f = sym (below_false lim.rows (agrees_at lim ledger book) row h (right_fails (adds_up ledger book row) _ (sym ez ∙ f)))

    pub row_next : b ≡ true → z ≡ true → all_below row (agrees_at lim ledger book) ≡ true → all_below (row + 1) (agrees_at lim ledger book) ≡ true
    row_next f g so_far = below_next row (agrees_at lim ledger book) so_far (and_both (adds_up ledger book row) _ (compared ∙ f) (sym ez ∙ g))
