-- The plain ledger that keeps its sums: a ticket put in and taken out again, taken out and put in again with the sum that was kept, and two of them
-- taken out in either order.
-- Assumes nothing.
use mathlib.Core.Path.{◌≡◌, refl, sym, ap, ◌∙◌, subst}
use mathlib.Core.Bool.{Bool, true, false, not, cond, ◌&&◌}
use Prim.Native.Nat.{ℕ, ◌+◌, ◌-◌, ◌%◌}
use native.Mathlib.Nat.{mod-eq_of_lt, mod-mod}
use borrow.Author.Tests.{eqb-true, eqb-false}
use lib.Dec.{eqb}
use lib.Pow.{pow_pos}
use Rattle.algebra.proofs.Booleans.{at_or_else}
use Rattle.algebra.proofs.Cong.{taken_out, put_back, rem_swap}
use Rattle.series.specs.Series.{modulus}
use Rattle.run.specs.Run.{Entry, Limits}
use Rattle.ledger.specs.Plain.{admit, including, adding}
use Rattle.ledger.proofs.RowSums.{adding_here, adding_else}
use Rattle.ledger.proofs.Image.{including_here, including_else}
use Rattle.book.specs.Book.{opposite}
use Rattle.book.specs.Kept.{Keeping, keeping, excluding, admit_kept, dismiss, release, Sound}
use Rattle.book.proofs.Image.{keeping_here, keeping_else, excluding_here, excluding_else}

-- x added to a row, then y, which come to nothing
back_again : (row x y : ℕ) (v : ℕ → ℕ) → ((v row + x) % modulus + y) % modulus ≡ v row → (r : ℕ) → adding row y (adding row x v) r ≡ v r
back_again row x y v e r = go (eqb row r) refl
  where
    go : (b : Bool) → eqb row r ≡ b → adding row y (adding row x v) r ≡ v r
    go true f =
        subst (λ (n : ℕ). adding row y (adding row x v) n ≡ v n) (eqb-true row r f)
        (adding_here row y (adding row x v) ∙ ap (λ (n : ℕ). (n + y) % modulus) (adding_here row x v) ∙ e)
    go false f = let ne = eqb-false row r f in adding_else row y (adding row x v) r ne ∙ adding_else row x v r ne

module _ (lim : Limits) (k : Keeping) (o : Sound lim k) where
  abbrev set : ℕ → ℕ → Bool
  set = k.plain.tickets

  -- ---- put in, and taken out again

  module _ (t : Entry) (new : set t.row t.block ≡ false) where
    set_in_out : (r b : ℕ) → excluding t.row t.block (including t set) r b ≡ set r b
    set_in_out r b =
        at_or_else t.row t.block r b (λ r b. excluding t.row t.block (including t set) r b ≡ set r b)
        (excluding_here t.row t.block (including t set) ∙ sym new)
        (λ ne. excluding_else t.row t.block (including t set) r b ne ∙ sym (including_else t set r b ne))

    kept_in_out : (r b : ℕ) → keeping t.row t.block 0 (keeping t.row t.block (t.sum % modulus) k.kept) r b ≡ k.kept r b
    kept_in_out r b =
        let kept = keeping t.row t.block (t.sum % modulus) k.kept in
        at_or_else t.row t.block r b (λ r b. keeping t.row t.block 0 kept r b ≡ k.kept r b)
        (keeping_here t.row t.block 0 kept ∙ sym (o.off t.row t.block new))
        (λ ne. sym (keeping_else t.row t.block (t.sum % modulus) k.kept r b ne ∙ keeping_else t.row t.block 0 kept r b ne))

    sums_in_out : (r : ℕ) → adding t.row (opposite (keeping t.row t.block (t.sum % modulus) k.kept t.row t.block)) (adding t.row t.sum k.plain.sums) r ≡ k.plain.sums r
    unfolding opposite
    sums_in_out r =
        rw (keeping_here t.row t.block (t.sum % modulus) k.kept, mod-mod t.sum modulus)
        (back_again t.row t.sum (modulus - t.sum % modulus) k.plain.sums
        (sym (taken_out modulus (k.plain.sums t.row) t.sum (pow_pos 128)) ∙ mod-eq_of_lt (o.sums_in t.row)) r)

    pub in_and_out : release (admit_kept k t) t.row t.block ≡ k
    unfolding release admit_kept dismiss admit
    in_and_out = λ i. record {
      plain = record { p = k.plain.p; C = k.plain.C; tickets = λ r b. set_in_out r b i; sums = λ r. sums_in_out r i };
      kept = λ r b. kept_in_out r b i;
    }

  -- ---- taken out, and put in again

  module _ (row block : ℕ) (there : set row block ≡ true) where
    again : Entry
    again = record { row = row; block = block; sum = k.kept row block }

    set_out_in : (r b : ℕ) → including again (excluding row block set) r b ≡ set r b
    unfolding again
    set_out_in r b =
        at_or_else row block r b (λ r b. including again (excluding row block set) r b ≡ set r b)
        (including_here again (excluding row block set) ∙ sym there)
        (λ ne. sym (including_else again (excluding row block set) r b ne) ∙ excluding_else row block set r b ne)

    kept_out_in : (r b : ℕ) → keeping row block (k.kept row block % modulus) (keeping row block 0 k.kept) r b ≡ k.kept r b
    kept_out_in r b =
        at_or_else row block r b (λ r b. keeping row block (k.kept row block % modulus) (keeping row block 0 k.kept) r b ≡ k.kept r b)
        (keeping_here row block (k.kept row block % modulus) (keeping row block 0 k.kept) ∙ mod-eq_of_lt (o.kept_in row block))
        (λ ne. sym (keeping_else row block 0 k.kept r b ne ∙ keeping_else row block (k.kept row block % modulus) (keeping row block 0 k.kept) r b ne))

    sums_out_in : (r : ℕ) → adding row (k.kept row block) (adding row (opposite (k.kept row block)) k.plain.sums) r ≡ k.plain.sums r
    unfolding opposite
    sums_out_in r =
        back_again row (modulus - k.kept row block % modulus) (k.kept row block) k.plain.sums
        (sym (put_back modulus (k.plain.sums row) (k.kept row block) (pow_pos 128)) ∙ mod-eq_of_lt (o.sums_in row)) r

    pub out_and_in : admit_kept (release k row block) (record { row = row; block = block; sum = k.kept row block }) ≡ k
    unfolding release admit_kept dismiss admit again
    out_and_in = λ i. record {
      plain = record { p = k.plain.p; C = k.plain.C; tickets = λ r b. set_out_in r b i; sums = λ r. sums_out_in r i };
      kept = λ r b. kept_out_in r b i;
    }

-- ---- two taken out

-- in either order, whatever is added
adding_swap : (row x row' y : ℕ) (v : ℕ → ℕ) (r : ℕ) → adding row' y (adding row x v) r ≡ adding row x (adding row' y v) r
unfolding adding
adding_swap row x row' y v r = go (eqb row r) (eqb row' r)
  where
    go : (a b : Bool) → cond b ((cond a ((v r + x) % modulus) (v r) + y) % modulus) (cond a ((v r + x) % modulus) (v r))
        ≡ cond a ((cond b ((v r + y) % modulus) (v r) + x) % modulus) (cond b ((v r + y) % modulus) (v r))
    go true true = rem_swap modulus (v r) x y
    go true false = refl
    go false true = refl
    go false false = refl

module _ (k : Keeping) (row block row' block' : ℕ) (apart : (row ≡ row') × (block ≡ block') → ⊥) where
  sets_swap : (r b : ℕ) → excluding row' block' (excluding row block k.plain.tickets) r b ≡ excluding row block (excluding row' block' k.plain.tickets) r b
  unfolding excluding
  sets_swap r b = go (eqb row r && eqb block b) (eqb row' r && eqb block' b) (k.plain.tickets r b)
    where
      go : (a c s : Bool) → (not c && (not a && s)) ≡ (not a && (not c && s))
      go true true s = refl
      go true false s = refl
      go false true s = refl
      go false false s = refl

  kept_swap : (r b : ℕ) → keeping row' block' 0 (keeping row block 0 k.kept) r b ≡ keeping row block 0 (keeping row' block' 0 k.kept) r b
  unfolding keeping
  kept_swap r b = go (eqb row r && eqb block b) (eqb row' r && eqb block' b)
    where
      go : (a c : Bool) → cond c 0 (cond a 0 (k.kept r b)) ≡ cond a 0 (cond c 0 (k.kept r b))
      go true true = refl
      go true false = refl
      go false true = refl
      go false false = refl

  sums_swap : (r : ℕ) → adding row' (opposite (keeping row block 0 k.kept row' block')) (adding row (opposite (k.kept row block)) k.plain.sums) r
      ≡ adding row (opposite (keeping row' block' 0 k.kept row block)) (adding row' (opposite (k.kept row' block')) k.plain.sums) r
  sums_swap r =
      rw (← keeping_else row block 0 k.kept row' block' (λ q. apart (sym q.0, sym q.1)), ← keeping_else row' block' 0 k.kept row block apart)
      (adding_swap row (opposite (k.kept row block)) row' (opposite (k.kept row' block')) k.plain.sums r)

  pub out_swap : release (release k row block) row' block' ≡ release (release k row' block') row block
  unfolding release dismiss
  out_swap = λ i. record {
    plain = record { p = k.plain.p; C = k.plain.C; tickets = λ r b. sets_swap r b i; sums = λ r. sums_swap r i };
    kept = λ r b. kept_swap r b i;
  }
