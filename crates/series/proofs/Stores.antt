-- What a store gives: the size of a term that it holds.
-- Assumes nothing.
use Rattle.std.proofs.Common.{◌≡◌, ℕ, ◌+◌, ◌<◌, List, subst}
use Rattle.montgomery.specs.declared.Quotient.{Quotient}
use Rattle.lanes.specs.Lanes.{quotient}
use Rattle.series.specs.Results.{SizeOf}
use Rattle.series.specs.declared.terms.Numbers.{Numbers}

-- that of term k, i places behind the first
pub held_at : (n m : Numbers) (sizes : List Quotient) (first held k i : ℕ) → ((j : ℕ) → j < held → SizeOf n (first + j) (quotient sizes j))
    → n ≡ m → first + i ≡ k → i < held → SizeOf m k (quotient sizes i)
held_at n m sizes first held k i each same at h =
    subst (λ (x : Numbers). SizeOf x k (quotient sizes i)) same (subst (λ (t : ℕ). SizeOf n t (quotient sizes i)) at (each i h))
