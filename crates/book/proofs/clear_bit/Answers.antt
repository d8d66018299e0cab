-- `book::clear_bit` meets its contract: the byte of the mark is large enough, since its bit is set.
-- Assumes nothing.
use mathlib.Core.Path.{◌≡◌, sym, ap₂, subst}
use mathlib.Core.Bool.{true}
use mathlib.Core.List.{List}
use Prim.Native.Nat.{ℕ, ◌+◌, ◌*◌, ◌-◌, ◌/◌, ◌%◌, ◌^◌, ◌≤◌, ◌<◌}
use borrow.Author.Rules.{rules}
use lib.ListN.{get_or, set}
use Rattle.run.specs.Run.{Limits}
use Rattle.ledger.specs.Ledger.{marks_at, bit_in}
use Rattle.book.specs.Book.{unmark}
use Rattle.book.proofs.Removing.{unmark_fits}
use Rattle.book.proofs.clear_bit.Goals as goal

-- where the byte stands, as the code finds it
module _ (lim : Limits) (s : List ℕ) (start row block : ℕ) (at-marks : start ≡ marks_at lim)
    (small : get_or s (start + (32 * row + block / 8)) 0 < 256) (on : bit_in lim s row block ≡ true) where
  abbrev q : ℕ
  q = 32 * row + block / 8

  both : (1 * 2 ^ (block % 8) % 256 ≡ 2 ^ (block % 8)) × (1 * 2 ^ (block % 8) % 256 ≤ get_or s (marks_at lim + q) 0)
  both = unmark_fits lim s row block (subst (λ (n : ℕ). get_or s (n + q) 0 < 256) at-marks small) on

  fits : 1 * 2 ^ (block % 8) % 256 ≤ get_or s (start + q) 0
  fits = subst (λ (n : ℕ). 1 * 2 ^ (block % 8) % 256 ≤ get_or s (n + q) 0) (sym at-marks) both.1

  law : set s (start + q) (get_or s (start + q) 0 - 1 * 2 ^ (block % 8) % 256) ≡ unmark lim s row block
  unfolding unmark
  law = ap₂ (λ (n x : ℕ). set s (n + q) (get_or s (n + q) 0 - x)) at-marks both.0

pub overflow_sub-byte : goal.overflow_sub-byte
overflow_sub-byte c =
    let h = fits _ _ _ _ c.args.block c.start.ensures (search rules) c.requires.1 in
    search (rules, h)

pub returns : goal.returns
returns c = law _ _ _ _ _ c.start.ensures (search rules) c.requires.1
