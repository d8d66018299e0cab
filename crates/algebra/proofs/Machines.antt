-- Two machines that agree at each step agree on every list of inputs. What `Alike` says of their states is kept by each step, and makes both
-- answer the same. And what a list of inputs leaves behind another.
-- Assumes nothing.
use mathlib.Core.Path.{◌≡◌, refl, ap₂}
use mathlib.Core.List.{List, [], ◌∷◌, ◌++◌}
use Rattle.algebra.specs.Machine.{Machine, leaves, answers}

module _ {S T I A : Type 0} (m : Machine S I A) (n : Machine T I A) (Alike : S → T → Type 0)
    (step : (s : S) (t : T) (i : I) → Alike s t → (m.answer s i ≡ n.answer t i) × Alike (m.next s i) (n.next t i)) where
  pub agree : (s : S) (t : T) → Alike s t → (is : List I) → (answers m s is ≡ answers n t is) × Alike (leaves m s is) (leaves n t is)
  unfolding leaves answers
  agree s t r [] = (refl, r)
  agree s t r (i ∷ is) =
      let h = step s t i r in
      let rest = agree (m.next s i) (n.next t i) h.1 is in
      (ap₂ (λ (a : A) (l : List A). a ∷ l) h.0 rest.0, rest.1)

pub leaves_append : {S I A : Type 0} (m : Machine S I A) (s : S) (is js : List I) → leaves m s (is ++ js) ≡ leaves m (leaves m s is) js
unfolding leaves
leaves_append m s [] js = refl
leaves_append m s (i ∷ is) js = leaves_append m (m.next s i) is js
