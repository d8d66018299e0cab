-- Refusals and answers: a test that does not apply, what a call answers and leaves by the number of its refusal, and the number by
-- what it answered.
-- Assumes nothing.
use mathlib.Core.Path.{◌≡◌, refl, sym, ap}
use mathlib.Core.Bool.{Bool, true, false, cond}
use mathlib.Core.List.{List, [], ◌∷◌, ◌++◌}
use Prim.Native.Nat.{ℕ, zero, suc, ◌<◌, ◌≤◌}
use native.Mathlib.Omega.{arith}
use borrow.Author.Tests.{ne_eqb}
use lib.Dec.{eqb, lit<, lit≤}
use lib.IntN.{pos, negsuc, neg_ℤ}
use Rattle.std.specs.Prelude.{Err}
use Rattle.run.specs.Refusal.{Test, last_number, ◌⇐◌, refusal, answer}
use Rattle.run.specs.Answers.{number_of, answer_of}
use Rattle.run.specs.declared.Refusal.{Refusal}
use Rattle.run.specs.declared.Refusal.TheVariants.{WrongSize, OutOfRange, Malformed, NoTicket, OutOfOrder, OtherRun, Marked, Unmarked, Unsettled, BadString, Apart, Different, Unposted}

-- where nothing is refused, the first test does not apply, nor does one after it
pub passes : (n : ℕ) (b : Bool) (ts : List Test) → refusal ((suc n ⇐ b) ∷ ts) ≡ 0 → (b ≡ false) × (refusal ts ≡ 0)
unfolding refusal
passes n true ts e = absurd (let z : suc n ≡ 0 = e in omega arith)
passes n false ts e = (refl, e)

-- a test that does not apply may be left out, and a refusal by the first tests stands whatever comes after them
pub skipped : (n : ℕ) (b : Bool) (ts : List Test) → b ≡ false → refusal ((n ⇐ b) ∷ ts) ≡ refusal ts
unfolding refusal
skipped n b ts e = rw e refl

pub refused_first : (ts us : List Test) (n : ℕ) → refusal ts ≡ suc n → refusal (ts ++ us) ≡ suc n
unfolding refusal
refused_first [] us n e = absurd (let z : 0 ≡ suc n = e in omega arith)
refused_first (t ∷ ts) us n e = go t.applies (refused_first ts us n) e
  where
    go : (b : Bool) → (refusal ts ≡ suc n → refusal (ts ++ us) ≡ suc n) → cond b t.number (refusal ts) ≡ suc n
        → cond b t.number (refusal (ts ++ us)) ≡ suc n
    go true later f = f
    go false later f = later f

-- ---- from the number

pub refused : (number n value : ℕ) → number ≡ suc n → negsuc n ≡ answer number value
unfolding answer
refused number n value e = rw e refl

pub finished : (number value : ℕ) → number ≡ 0 → pos value ≡ answer number value
unfolding answer
finished number value e = rw e refl

pub negated : (n value : ℕ) → (n ≡ 0 → ⊥) → answer n value ≡ neg_ℤ (pos n)
unfolding answer
negated zero value f = absurd (f refl)
negated (suc n) value f = refl

-- a buffer, and the bytes that it gets where the call is not refused
pub stays : (number : ℕ) (new old : List ℕ) → (number ≡ 0 → ⊥) → cond (eqb number 0) new old ≡ old
stays number new old f = rw (ne_eqb number 0 f) refl

pub kept : (number n : ℕ) (new old : List ℕ) → number ≡ suc n → old ≡ cond (eqb number 0) new old
kept number n new old e = sym (stays number new old (λ z. omega arith))

pub changed : (number : ℕ) (new old : List ℕ) → number ≡ 0 → new ≡ cond (eqb number 0) new old
changed number new old e = rw e refl

-- ---- from the answer

-- every refusal has a number of the table
pub in_table : (r : Refusal) → (0 < number_of r) × (number_of r ≤ last_number)
in_table WrongSize = (lit< tt, lit≤ tt)
in_table OutOfRange = (lit< tt, lit≤ tt)
in_table Malformed = (lit< tt, lit≤ tt)
in_table NoTicket = (lit< tt, lit≤ tt)
in_table OutOfOrder = (lit< tt, lit≤ tt)
in_table OtherRun = (lit< tt, lit≤ tt)
in_table Marked = (lit< tt, lit≤ tt)
in_table Unmarked = (lit< tt, lit≤ tt)
in_table Unsettled = (lit< tt, lit≤ tt)
in_table BadString = (lit< tt, lit≤ tt)
in_table Apart = (lit< tt, lit≤ tt)
in_table Different = (lit< tt, lit≤ tt)
in_table Unposted = (lit< tt, lit≤ tt)

below_zero : (n value : ℕ) → 0 < n → neg_ℤ (pos n) ≡ pos value → ⊥
below_zero zero value h e = omega arith
below_zero (suc n) value h e = let z : ◌≡◌ {A = ℕ} 0 1 = cc in omega arith

-- a call that answered a value was not refused
pub not_refused : (number value n : ℕ) → answer number value ≡ pos n → (number ≡ 0) × (value ≡ n)
unfolding answer
not_refused zero value n e = (refl, cc)
not_refused (suc m) value n e = absurd (let z : ◌≡◌ {A = ℕ} 0 1 = cc in omega arith)

-- one that answered a number negated was refused by it
pub refused_by_lem : (number value n : ℕ) → 0 < n → answer number value ≡ neg_ℤ (pos n) → number ≡ n
unfolding answer
refused_by_lem zero value n h e = absurd (below_zero n value h (sym e))
refused_by_lem (suc m) value zero h e = omega arith
refused_by_lem (suc m) value (suc n) h e = let q : m ≡ n = cc in ap suc q

pub was_finished : (v number value : ℕ) → pos v ≡ answer number value → (number ≡ 0) × (v ≡ value)
was_finished v number value e =
    let n = not_refused number value v (sym e) in
    (n.0, sym n.1)

-- a refusal has some number, whatever the call's value
pub was_number : (r : Refusal) (number value : ℕ) → answer_of (Err r) ≡ answer number value
    → (n : ℕ) × (number ≡ suc n) × (negsuc n ≡ answer_of (Err r))
unfolding answer
was_number r zero value e = absurd (below_zero (number_of r) value (in_table r).0 e)
was_number r (suc n) value e = (n, refl, sym e)
