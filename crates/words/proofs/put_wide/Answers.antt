-- `words::put_wide` meets its contract: the bytes of the upper word stand above those of the lower.
-- Assumes nothing.
use Rattle.std.proofs.Common.{◌≡◌, ℕ, ◌+◌, ◌*◌, ◌^◌, ◌<◌, ◌≤◌, List, ◌++◌, length, take, drop, refl, sym, ap, ◌∙◌, append_assoc, arith, length-append, length-take, rules}
use Rattle.words.specs.Words.{joined}
use Rattle.words.specs.Bytes.{bytes_of}
use Rattle.words.proofs.Bytes.{length_bytes, bytes_join, write_next}
use Rattle.words.proofs.put_wide.Goals as goal

law : (s s₁ s₂ : List ℕ) (at hi lo : ℕ) → at + 16 ≤ length s → lo < 2 ^ 64 → s₁ ≡ take at s ++ bytes_of 8 lo ++ drop (at + 8) s
    → s₂ ≡ take (at + 8) s₁ ++ bytes_of 8 hi ++ drop (at + 8 + 8) s₁ → s₂ ≡ take at s ++ bytes_of 16 (joined hi lo) ++ drop (at + 16) s
unfolding joined
law s s₁ s₂ at hi lo h l e₁ e₂ =
    let size : length (take at s ++ bytes_of 8 lo) ≡ at + 8 = omega (arith, length-append (take at s) (bytes_of 8 lo), length-take at s, length_bytes 8 lo) in
    let ends : at + 8 + 8 ≡ at + 16 = omega arith in
    let sum : lo + 256 ^ 8 * hi ≡ hi * 2 ^ 64 + lo = omega arith in
    let both : bytes_of 8 lo ++ bytes_of 8 hi ≡ bytes_of 16 (hi * 2 ^ 64 + lo) = sym (bytes_join 8 8 lo hi l) ∙ ap (bytes_of 16) sum in
    e₂ ∙ write_next (take at s ++ bytes_of 8 lo) s s₁ (bytes_of 8 hi) (at + 8) 8 size e₁
    ∙ rw (append_assoc (take at s) (bytes_of 8 lo) (bytes_of 8 hi), both, ends) refl

pub returns : goal.returns
returns c =
    let h : c.args.x.lo < 2 ^ 64 = search rules in
    law _ _ _ _ _ _ c.requires h c.put.ensures c.put-2.ensures
