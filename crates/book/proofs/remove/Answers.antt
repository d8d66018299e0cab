-- `book::remove` meets its contract: the ledger's own sums with one of them changed, put back after the bit is cleared.
-- Assumes nothing.
use mathlib.Core.Path.{◌≡◌}
use Prim.Native.Nat.{◌≤◌, ◌<◌}
use native.Mathlib.Omega.{arith}
use borrow.Author.Rules.{rules}
use lib.ListN.{length}
use Rattle.words.specs.Bytes.{AllBytes}
use Rattle.words.proofs.Joined.{joined_lt}
use Rattle.series.specs.Names.{formula_of}
use Rattle.series.proofs.FewRows.{few_rows}
use Rattle.run.specs.Run.{limits_of}
use Rattle.ledger.specs.Ledger.{marks_at}
use Rattle.ledger.specs.RowSums.{value_at}
use Rattle.book.proofs.Removing.{one_taken, removed}
use Rattle.book.proofs.remove.Goals as goal

-- the difference is below 2 ^ 128, since both words of the call's result fit (`ok`)
pub returns : goal.returns
unfolding AllBytes value_at
returns c =
    let size : marks_at (limits_of (formula_of c.args.f)) ≤ length c.args.ledger.now = omega (arith, c.requires.sized) in
    let seven : length c.sums-sums.result ≡ 7 = search rules in
    let small : c.args.row < 7 = (omega (arith, few_rows c.args.f, c.requires.row_in)) in
    let fits = c.sub.type_inv.1.1 in
    let bytes : AllBytes c.args.ledger.now = search rules in
    removed _ c.args.ledger.now _ _ _ _ _ (value_at c.sums-sums.result) _ size bytes c.requires.row_in
    c.sums-sums.ensures
    (one_taken c.sums-sums.result _ _ _ (omega (arith, small, seven)) (joined_lt _ _ fits.0.1 fits.1.0.1) c.sub.ensures)
    c.clear_bit.ensures c.put.ensures
