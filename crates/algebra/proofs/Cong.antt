-- Congruence modulo n over ℕ, with a witness on each side: so that it is symmetric with no subtraction, and each law is one call of `omega`.
-- Assumes nothing.
use mathlib.Core.Path.{◌≡◌, refl, sym, ap, ap₂, ◌∙◌}
use Prim.Native.Nat.{ℕ, ◌+◌, ◌*◌, ◌-◌, ◌/◌, ◌%◌, ◌<◌}
use native.Mathlib.Nat.{add-mul-mod_self_right, div-add-mod', mod-eq_of_lt, mod-lt}
use native.Mathlib.Omega.{arith}

pub record Mod (n a b : ℕ) : Type 0 where
  pub k : ℕ
  pub j : ℕ
  pub eq : a + k * n ≡ b + j * n

-- to and from remainders
pub to-% : {n a b : ℕ} → Mod n a b → a % n ≡ b % n
to-% {n} {a} {b} p = sym (add-mul-mod_self_right a p.k n) ∙ ap (λ t. t % n) p.eq ∙ add-mul-mod_self_right b p.j n

pub of-% : (n a b : ℕ) → a % n ≡ b % n → Mod n a b
of-% n a b e = record { k = b / n; j = a / n; eq = omega (arith, div-add-mod' a n, div-add-mod' b n) }

pub rem : (n a : ℕ) → Mod n (a % n) a
rem n a = record { k = a / n; j = 0; eq = omega (arith, div-add-mod' a n) }

-- an equivalence
pub of_eq : {n a b : ℕ} → a ≡ b → Mod n a b
of_eq e = record { k = 0; j = 0; eq = omega arith }

pub symm : {n a b : ℕ} → Mod n a b → Mod n b a
symm p = record { k = p.j; j = p.k; eq = sym p.eq }

pub trans : {n a b c : ℕ} → Mod n a b → Mod n b c → Mod n a c
trans p q = record { k = p.k + q.k; j = p.j + q.j; eq = omega arith }

-- sums and products
pub plus : {n a b c d : ℕ} → Mod n a b → Mod n c d → Mod n (a + c) (b + d)
plus p q = record { k = p.k + q.k; j = p.j + q.j; eq = omega arith }

pub times : {n a b c d : ℕ} → Mod n a b → Mod n c d → Mod n (a * c) (b * d)
times {n} {a} {b} {c} {d} p q =
    record {
      k = a * q.k + p.k * c + p.k * q.k * n;
      j = b * q.j + p.j * d + p.j * q.j * n;
      eq = omega (arith, ap₂ ◌*◌ p.eq q.eq);
    }

-- a common factor that has an inverse may be struck out
pub cancel : {n a b : ℕ} (c i : ℕ) → Mod n (c * i) 1 → Mod n (a * c) (b * c) → Mod n a b
cancel {n} {a} {b} c i u p = trans (symm (whole a)) (trans (times p (of_eq {a = i} refl)) (whole b))
  where
    whole : (x : ℕ) → Mod n (x * c * i) x
    whole x = record { k = x * u.k; j = x * u.j; eq = omega (arith, ap (λ t. x * t) u.eq) }

-- a divisor of the modulus
pub down : (n d : ℕ) {a b : ℕ} → Mod (n * d) a b → Mod n a b
down n d p = record { k = p.k * d; j = p.j * d; eq = omega (arith, p.eq) }

pub refl_mod : {n : ℕ} (a : ℕ) → Mod n a a
refl_mod a = of_eq refl

-- both sides and the modulus times a number
pub scaled : (c : ℕ) {n a b : ℕ} → Mod n a b → Mod (n * c) (a * c) (b * c)
scaled c p = record { k = p.k; j = p.j; eq = omega (arith, ap (λ t. t * c) p.eq) }

-- what is below the modulus is the remainder of what it is congruent to
pub is-% : {n a b : ℕ} → a < n → Mod n a b → a ≡ b % n
is-% h p = sym (mod-eq_of_lt h) ∙ to-% p

-- a remainder, named
pub wrapped : (n : ℕ) {a b : ℕ} → a ≡ b % n → Mod n a b
wrapped n {a} {b} e = trans (of_eq e) (rem n b)

-- a common summand may be struck out
pub less : {n a b : ℕ} (c : ℕ) → Mod n (a + c) (b + c) → Mod n a b
less c p = record { k = p.k; j = p.j; eq = omega (arith, p.eq) }

-- zero is a multiple
pub multiple : (n q : ℕ) → Mod n (q * n) 0
multiple n q = record { k = 0; j = q; eq = omega arith }

-- ---- x taken out of a sum modulo n: what is left of n past the remainder of x is added

opposite : (n x : ℕ) → 0 < n → Mod n (x + (n - x % n)) 0
opposite n x h = record { k = 0; j = x / n + 1; eq = omega (arith, div-add-mod' x n, mod-lt x h) }

pub taken_out : (n s x : ℕ) → 0 < n → s % n ≡ ((s + x) % n + (n - x % n)) % n
taken_out n s x h =
    let whole : s + x + (n - x % n) ≡ s + (x + (n - x % n)) = omega arith in
    let none : s + 0 ≡ s = omega arith in
    sym (to-% (trans (plus (rem n (s + x)) (of_eq {a = n - x % n} refl)) (trans (of_eq whole) (trans (plus (of_eq {a = s} refl) (opposite n x h)) (of_eq none)))))

pub put_back : (n s x : ℕ) → 0 < n → s % n ≡ ((s + (n - x % n)) % n + x) % n
put_back n s x h =
    let whole : s + (n - x % n) + x ≡ s + (x + (n - x % n)) = omega arith in
    let none : s + 0 ≡ s = omega arith in
    sym (to-% (trans (plus (rem n (s + (n - x % n))) (of_eq {a = x} refl)) (trans (of_eq whole) (trans (plus (of_eq {a = s} refl) (opposite n x h)) (of_eq none)))))

-- of two summands either may be a remainder, and two that are added one after the other may change places
pub rem_either : (n s x : ℕ) → (s + x % n) % n ≡ (s % n + x) % n
rem_either n s x = to-% (trans (plus (of_eq {a = s} refl) (rem n x)) (symm (plus (rem n s) (of_eq {a = x} refl))))

pub rem_swap : (n s x y : ℕ) → ((s + x) % n + y) % n ≡ ((s + y) % n + x) % n
rem_swap n s x y =
    let e : s + x + y ≡ s + y + x = omega arith in
    to-% (trans (plus (rem n (s + x)) (of_eq {a = y} refl)) (trans (of_eq e) (symm (plus (rem n (s + y)) (of_eq {a = x} refl)))))
