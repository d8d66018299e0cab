-- The three ways through opening: what is answered, and what the ledger holds then.
-- Assumes nothing.
use mathlib.Core.Path.{◌≡◌, refl, sym, ap, ◌∙◌}
use mathlib.Core.Bool.{true, false}
use mathlib.Core.List.{List, [], ◌∷◌, ◌++◌}
use Prim.Native.Nat.{ℕ, ◌+◌, ◌*◌}
use native.Mathlib.Omega.{arith}
use borrow.Author.Tests.{eq-eqb, ne_eqb}
use lib.IntN.{pos, negsuc}
use lib.ListN.{length, take, drop, replicate, replicate-append-replicate}
use Rattle.words.specs.Bytes.{bytes_of}
use Rattle.run.specs.Refusal.{refusal}
use Rattle.run.specs.Run.{Limits, in_range}
use Rattle.run.specs.Call.{refused_by, Does}
use Rattle.run.proofs.Calls.{refuses, finishes}
use Rattle.ledger.specs.Ledger.{ledger_size, fresh}
use Rattle.ledger.specs.Calls.{open_call}

-- zeros with p and C written over the first of them are a fresh ledger
written : (lim : Limits) (p C : ℕ) (s₁ s₂ s₃ : List ℕ) → s₁ ≡ replicate (ledger_size lim) 0
    → s₂ ≡ take 0 s₁ ++ bytes_of 8 p ++ drop (0 + 8) s₁ → s₃ ≡ take 8 s₂ ++ bytes_of 2 C ++ drop (8 + 2) s₂ → s₃ ≡ fresh lim p C
unfolding fresh bytes_of
written lim p C s₁ s₂ s₃ e₁ e₂ e₃ =
    let m = 48 * lim.rows in
    let n : ledger_size lim ≡ 16 + m = omega arith in
    let z : s₁ ≡ replicate 16 0 ++ replicate m 0 = e₁ ∙ ap (λ (k : ℕ). replicate k 0) n ∙ sym (replicate-append-replicate 16 m 0) in
    rw (e₃, e₂, z) refl

module _ (lim : Limits) (p C : ℕ) (s : List ℕ) where
  pub wrong_size_lem : (length s ≡ ledger_size lim → ⊥) → Does (open_call lim p C s) (negsuc 0) (s ∷ [])
  unfolding open_call refused_by refusal
  wrong_size_lem h = refuses (open_call lim p C s) 0 (rw (ne_eqb _ _ h) refl)

  pub out_of_range : length s ≡ ledger_size lim → in_range lim p C ≡ false → Does (open_call lim p C s) (negsuc 1) (s ∷ [])
  unfolding open_call refused_by refusal
  out_of_range h r = refuses (open_call lim p C s) 1 (rw (eq-eqb _ _ h, r) refl)

  pub opened : length s ≡ ledger_size lim → in_range lim p C ≡ true → (s₁ s₂ s₃ : List ℕ) → s₁ ≡ replicate (length s) 0
      → s₂ ≡ take 0 s₁ ++ bytes_of 8 p ++ drop (0 + 8) s₁ → s₃ ≡ take 8 s₂ ++ bytes_of 2 C ++ drop (8 + 2) s₂
      → Does (open_call lim p C s) (pos 0) (s₃ ∷ [])
  unfolding open_call refused_by refusal
  opened h r s₁ s₂ s₃ e₁ e₂ e₃ =
      let f = finishes (open_call lim p C s) (rw (eq-eqb _ _ h, r) refl) in
      (f.0, ap (λ (b : List ℕ). b ∷ []) (written lim p C s₁ s₂ s₃ (e₁ ∙ ap (λ (k : ℕ). replicate k 0) h) e₂ e₃) ∙ f.1)
