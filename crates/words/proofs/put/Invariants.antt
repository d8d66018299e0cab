-- `words::put` meets its contract: the bytes before the index are those of x, and the rest is x without them.
-- Assumes nothing.
use Rattle.std.proofs.Common.{◌≡◌, ℕ, ◌/◌, ◌^◌, ◌<◌, get_or}
use Rattle.words.specs.Bytes.{bytes_of}
use Rattle.words.proofs.put.Given as goal

abbrev pub invariant-loop-byte : goal.invariant-loop-byte
invariant-loop-byte l =
    record {
      rest : l.rest ≡ l.x / 256 ^ l.byte-index;
      written : (k : ℕ) → k < l.byte-index → get_or l.byte-items k 0 ≡ get_or (bytes_of l.width l.x) k 0;
    }
