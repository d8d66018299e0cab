-- A number of two words.
use Rattle.std.specs.Prelude.{ℕ, ◌+◌, ◌*◌, ◌^◌}

-- shut, so that `omega` does not meet 2 ^ 64 as a factor in every place where a word is known
unfoldable pub joined : ℕ → ℕ → ℕ
joined hi lo = hi * 2 ^ 64 + lo
