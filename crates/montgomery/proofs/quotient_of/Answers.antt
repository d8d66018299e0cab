-- `montgomery::quotient_of` meets its contract: 2^128 divides 2^(64 + f), and 2^64 * 2^f is 2^(64 + f).
-- Assumes nothing.
use Rattle.std.proofs.Common.{◌≡◌, ℕ, ◌+◌, ◌-◌, ◌%◌, ◌^◌, ◌≤◌, sym, ap, ◌∙◌, arith, pow-add}
use Rattle.algebra.proofs.Cong.{to-%, of_eq, trans, multiple}
use Rattle.montgomery.specs.Modulus.{montgomery}
use Rattle.montgomery.proofs.quotient_of.Goals as goal

full : (f : ℕ) → 64 ≤ f → 2 ^ (64 + f) % 2 ^ 128 ≡ 0
full f l =
    let sum : f - 64 + 128 ≡ 64 + f = omega arith in
    to-% {b = 0} (trans (of_eq (ap (λ t. 2 ^ t) (sym sum) ∙ pow-add 2 (f - 64) 128)) (multiple (2 ^ 128) (2 ^ (f - 64))))

plain : (f n r : ℕ) → r ≡ montgomery n (2 ^ f) → 2 ^ (64 + f) % n ≡ r
plain f n r p = sym (p ∙ ap (λ t. t % n) (sym (pow-add 2 64 f)))

pub returns : goal.returns
returns c = (λ f l p. c.divide.ensures (2 ^ (64 + f)) (full f l) (plain f _ _ p), c.squarings.ensures)
