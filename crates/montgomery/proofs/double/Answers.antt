-- `montgomery::double` meets its contract: shifted by the bit, the residue is below 2 * n.
-- Assumes nothing.
use Rattle.std.proofs.Common.{ℕ, zero, suc, ◌*◌, ◌%◌, ◌^◌, ◌<◌, ◌≤◌, arith, rules}
use Rattle.montgomery.proofs.Reducing.{ordered}
use Rattle.montgomery.proofs.double.Goals as goal

-- the shift, for each of the two bits
module _ (x n : ℕ) (l : x < n) (s : n < 2 ^ 63) where
  below : (b : ℕ) → b ≤ 1 → x * 2 ^ b % 2 ^ 64 < 2 * n
  below zero h = omega arith
  below (suc zero) h = omega arith
  below (suc (suc b)) h = omega arith

pub smaller-requires : goal.smaller-requires
smaller-requires c =
    let b : c.wrapping_sub-z.result < 2 ^ 64 = search rules in
    ordered _ _ _ (below _ _ c.requires.0 c.requires.1 _ c.requires.2) c.requires.1 b c.wrapping_sub-z.ensures
