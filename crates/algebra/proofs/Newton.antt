-- Newton's iteration for an inverse modulo a power: a step squares the modulus.
-- Assumes nothing.
use mathlib.Core.Path.{◌≡◌, ap}
use Prim.Native.Nat.{ℕ, ◌+◌, ◌*◌}
use native.Mathlib.Omega.{arith}
use Rattle.algebra.proofs.Cong.{Mod}

pub newton : {m : ℕ} (n x r : ℕ) → Mod m (n * x) 1 → Mod (m * m) (r + x * (n * x)) (2 * x) → Mod (m * m) (n * r) 1
newton {m} n x r p q =
    let square : n * x * (n * x) + 1 + 2 * (p.j * p.k) * (m * m) ≡ 2 * (n * x) + (p.j * p.j + p.k * p.k) * (m * m) =
    omega (arith, ap (λ t. t * (n * x + p.j * m)) p.eq, ap (λ t. t * (1 + p.k * m)) p.eq) in
    record {
      k = p.j * p.j + p.k * p.k + n * q.k;
      j = 2 * (p.j * p.k) + n * q.j;
      eq = omega (arith, ap (λ t. n * t) q.eq, square);
    }
