-- `words::get` meets its contract: what was read stands above the bytes that are left.
-- Assumes nothing.
use Rattle.std.proofs.Common.{◌≡◌, ◌+◌, ◌*◌, ◌^◌, length}
use Rattle.words.specs.Bytes.{value_of, field}
use Rattle.words.proofs.get.Given as goal

abbrev pub invariant-loop-byte : goal.invariant-loop-byte
invariant-loop-byte l =
    let rest = l.byte-iterator.iter.rest.now in
    field l.s l.at l.width ≡ value_of rest + 256 ^ length rest * l.x
