-- `sheet::layout::put_head` meets its contract: each field is written after the one before it.
-- Assumes nothing.
use mathlib.Core.Path.{◌≡◌, refl, ◌∙◌}
use mathlib.Core.List.{List, ◌++◌}
use Prim.Native.Nat.{ℕ, ◌+◌}
use lib.ListN.{take, drop}
use Rattle.words.specs.Bytes.{bytes_of}
use Rattle.words.proofs.Bytes.{write_next}
use Rattle.sheet.proofs.layout.put_head.Goals as goal

law : (p C e : ℕ) (s s₁ s₂ s₃ s₄ : List ℕ) → s₁ ≡ take 0 s ++ bytes_of 8 p ++ drop (0 + 8) s → s₂ ≡ take 8 s₁ ++ bytes_of 2 C ++ drop (8 + 2) s₁
    → s₃ ≡ take 10 s₂ ++ bytes_of 2 e ++ drop (10 + 2) s₂ → s₄ ≡ take 12 s₃ ++ bytes_of 4 0 ++ drop (12 + 4) s₃
    → s₄ ≡ bytes_of 8 p ++ bytes_of 2 C ++ bytes_of 2 e ++ bytes_of 4 0 ++ drop 16 s
unfolding bytes_of
law p C e s s₁ s₂ s₃ s₄ e₁ e₂ e₃ e₄ =
    let d₂ = e₂ ∙ write_next (bytes_of 8 p) s s₁ (bytes_of 2 C) 8 2 refl e₁ in
    let d₃ = e₃ ∙ write_next (bytes_of 8 p ++ bytes_of 2 C) s s₂ (bytes_of 2 e) 10 2 refl d₂ in
    e₄ ∙ write_next (bytes_of 8 p ++ bytes_of 2 C ++ bytes_of 2 e) s s₃ (bytes_of 4 0) 12 4 refl d₃

pub returns : goal.returns
returns c =
    law _ _ _ c.args.out.now _ _ _ _ c.put.ensures c.put-2.ensures c.put-3.ensures c.put-4.ensures
