-- `overlap::Laid::holds` meets its contract.
-- Assumes nothing.
use mathlib.Core.Path.{◌≡◌, refl, ◌∙◌}
use mathlib.Core.Bool.{Bool, true, false}
use Prim.Native.Nat.{ℕ, ◌-◌, ◌≤◌, ◌<◌}
use native.Mathlib.Omega.{arith}
use borrow.Author.Tests.{ltb-true, ltb-false, lt-ltb, le-ltb, le-leb, lt-leb}
use lib.Dec.{ltb}
use lib.ListN.{length}
use Rattle.overlap.specs.Strings.{Laid, laid, end, holds}
use Rattle.overlap.proofs.Laid.holds.Goals as goal

before : (s : Laid) (n : ℕ) → n < s.from → false ≡ holds s n
unfolding holds
before s n h = rw (lt-leb s.from n h) refl

from-there : (s : Laid) (n : ℕ) → s.from ≤ n → ltb (n - s.from) (length s.digits) ≡ holds s n
unfolding holds
from-there s n h = rw (le-leb s.from n h) (go (ltb n (end s)) refl)
  where
    go : (b : Bool) → ltb n (end s) ≡ b → ltb (n - s.from) (length s.digits) ≡ b
    go true e = let l = ltb-true n (end s) e in lt-ltb (n - s.from) (length s.digits) (omega arith)
    go false e = let l = ltb-false n (end s) e in le-ltb (n - s.from) (length s.digits) (omega arith)

pub returns-then-self-n : goal.returns-then-self-n
returns-then-self-n c = from-there _ _ c.if-self-n.true

pub returns-else-self-n : goal.returns-else-self-n
returns-else-self-n c =
    let s = laid c.args.self.now.digits.now c.args.self.now.from in
    lt-leb _ _ c.if-self-n.false ∙ before s _ c.if-self-n.false
