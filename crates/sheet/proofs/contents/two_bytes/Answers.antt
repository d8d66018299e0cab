-- `sheet::contents::two_bytes` meets its contract.
-- Assumes nothing.
use native.Mathlib.Omega.{arith}
use Rattle.words.specs.Bytes.{AllBytes}
use Rattle.words.proofs.Bytes.{field_lt}
use Rattle.sheet.proofs.contents.two_bytes.Goals as goal

pub returns : goal.returns
unfolding AllBytes
returns c =
    let low = field_lt c.args.s.now c.args.at 2 (λ i. (c.type_inv.s i).fits) in
    (c.get.ensures, omega (arith, low))
