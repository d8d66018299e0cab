-- A machine that takes inputs one after another: a state, the state that each input leaves, and what it answers.
use Rattle.std.specs.Prelude.{List, [], ◌∷◌, ◌++◌}

pub record Machine (State Input Answer : Type 0) : Type 0 where
  pub next : State → Input → State
  pub answer : State → Input → Answer

-- what a list of inputs leaves, each taken on what the one before it left
unfoldable pub leaves : {S I A : Type 0} → Machine S I A → S → List I → S
leaves m s [] = s
leaves m s (i ∷ is) = leaves m (m.next s i) is

-- what it answers, in order
unfoldable pub answers : {S I A : Type 0} → Machine S I A → S → List I → List A
answers m s [] = []
answers m s (i ∷ is) = m.answer s i ∷ answers m (m.next s i) is

-- answers that are lists, one behind the other
unfoldable pub in_one_list : {A : Type 0} → List (List A) → List A
in_one_list [] = []
in_one_list (l ∷ ls) = l ++ in_one_list ls
