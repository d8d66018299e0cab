-- `overlap::put_place` meets its contract: each number is written after the one before it.
-- Assumes nothing.
use mathlib.Core.Path.{◌≡◌, refl, ap, ◌∙◌}
use mathlib.Core.List.{List, ◌++◌, append-nil}
use Prim.Native.Nat.{ℕ, ◌+◌}
use native.Mathlib.Omega.{arith}
use lib.ListN.{length, take, drop, drop_of_length-le}
use Rattle.words.specs.Bytes.{bytes_of}
use Rattle.words.proofs.Bytes.{write_next}
use Rattle.overlap.proofs.put_place.Goals as goal

law : (x y z : ℕ) (s s₁ s₂ s₃ : List ℕ) → length s ≡ 24 → s₁ ≡ take 0 s ++ bytes_of 8 x ++ drop (0 + 8) s
    → s₂ ≡ take 8 s₁ ++ bytes_of 8 y ++ drop (8 + 8) s₁ → s₃ ≡ take 16 s₂ ++ bytes_of 8 z ++ drop (16 + 8) s₂
    → s₃ ≡ bytes_of 8 x ++ bytes_of 8 y ++ bytes_of 8 z
unfolding bytes_of
law x y z s s₁ s₂ s₃ h e₁ e₂ e₃ =
    let d₂ = e₂ ∙ write_next (bytes_of 8 x) s s₁ (bytes_of 8 y) 8 8 refl e₁ in
    e₃ ∙ write_next (bytes_of 8 x ++ bytes_of 8 y) s s₂ (bytes_of 8 z) 16 8 refl d₂
    ∙ ap (λ (l : List ℕ). (bytes_of 8 x ++ bytes_of 8 y ++ bytes_of 8 z) ++ l) (drop_of_length-le s {i = 24} (omega arith))
    ∙ append-nil (bytes_of 8 x ++ bytes_of 8 y ++ bytes_of 8 z)

pub returns : goal.returns
returns c =
    law _ _ _ c.args.out.now _ _ _ c.requires c.put.ensures c.put-2.ensures c.put-3.ensures
