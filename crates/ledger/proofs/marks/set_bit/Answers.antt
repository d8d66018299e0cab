-- `ledger::marks::set_bit` meets its contract: the byte of the mark stays a byte, since its bit is not set.
-- Assumes nothing.
use mathlib.Core.Path.{◌≡◌, sym, ap₂, subst}
use mathlib.Core.Bool.{false}
use mathlib.Core.List.{List}
use Prim.Native.Nat.{ℕ, ◌+◌, ◌*◌, ◌/◌, ◌%◌, ◌^◌, ◌<◌}
use borrow.Author.Rules.{rules}
use lib.ListN.{get_or, set}
use Rattle.run.specs.Run.{Limits}
use Rattle.ledger.specs.Ledger.{marks_at, bit_in, mark}
use Rattle.ledger.proofs.Posting.{mark_fits}
use Rattle.ledger.proofs.marks.set_bit.Goals as goal

-- where the byte stands, as the code finds it
module _ (lim : Limits) (s : List ℕ) (start row block : ℕ) (at-marks : start ≡ marks_at lim)
    (small : get_or s (start + (32 * row + block / 8)) 0 < 256) (off : bit_in lim s row block ≡ false) where
  abbrev q : ℕ
  q = 32 * row + block / 8

  both : (1 * 2 ^ (block % 8) % 256 ≡ 2 ^ (block % 8)) × (get_or s (marks_at lim + q) 0 + 1 * 2 ^ (block % 8) % 256 < 256)
  both = mark_fits lim s row block (subst (λ (n : ℕ). get_or s (n + q) 0 < 256) at-marks small) off

  fits : get_or s (start + q) 0 + 1 * 2 ^ (block % 8) % 256 < 256
  fits = subst (λ (n : ℕ). get_or s (n + q) 0 + 1 * 2 ^ (block % 8) % 256 < 256) (sym at-marks) both.1

  law : set s (start + q) (get_or s (start + q) 0 + 1 * 2 ^ (block % 8) % 256) ≡ mark lim s row block
  unfolding mark
  law = ap₂ (λ (n x : ℕ). set s (n + q) (get_or s (n + q) 0 + x)) at-marks both.0

pub overflow_add-byte : goal.overflow_add-byte
overflow_add-byte c =
    let h = fits _ _ _ _ c.args.block c.start.ensures (search rules) c.requires.1 in
    search (rules, h)

pub returns : goal.returns
returns c = law _ _ _ _ _ c.start.ensures (search rules) c.requires.1
