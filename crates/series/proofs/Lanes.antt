-- An array of numbers that is filled lane by lane.
-- Assumes nothing.
use Rattle.std.proofs.Common.{◌≡◌, ℕ, ◌+◌, ◌<◌, ◌≢◌, List, length, get_or, set, below_more, arith, get_or-set_other, get_or-set_same, refl}

-- one lane more has its number
pub filled : (f : ℕ → ℕ) (l : List ℕ) (j : ℕ) → j < length l → ((i : ℕ) → i < j → get_or l i 0 ≡ f i)
    → (i : ℕ) → i < j + 1 → get_or (set l j (f j)) i 0 ≡ f i
filled f l j h w = below_more _ _ (λ i u. let other : i ≢ j = omega arith in rw get_or-set_other (w i u)) (rw get_or-set_same refl)
