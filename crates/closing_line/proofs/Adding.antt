-- Words added to a buffer one after another: the one that a loop has written, and what stands there after several.
-- Assumes nothing.
use mathlib.Core.Path.{◌≡◌, ap, ◌∙◌}
use mathlib.Core.List.{List, [], ◌∷◌, ◌++◌, append_assoc}
use Prim.Native.Nat.{ℕ, ◌+◌, ◌<◌}
use native.Mathlib.Numerals.{add-one}
use native.Mathlib.Omega.{arith}
use lib.ListN.{length, take, set, length-append, length-take}
use lib.Seq.{paste, take_all, take-suc-set, take-paste, length-paste}
use Rattle.io.specs.Counts.{IsPrefixLen}
use Rattle.closing_line.specs.Line.{Added, word}

-- the text was pasted over d from `at` on, and the character that ends it is stored behind it
pub ended : (d : List ℕ) (at : ℕ) (text s : List ℕ) (i end : ℕ) → at + length text < length d → i ≡ length text → s ≡ paste d at text i
    → Added d at (word text end) (set s (at + i) end) (at + i + 1)
ended d at text s i end h e p =
    let l : length s ≡ length d = ap length p ∙ length-paste d at text i (omega arith) (omega arith) in
    record {
      ends = omega (arith, length-append text (end ∷ []));
      reads =
          ap (λ (k : ℕ). take k (set s (at + i) end)) (add-one (at + i))
          ∙ take-suc-set s (at + i) end (omega arith)
          ∙ ap (λ (t : List ℕ). t ++ end ∷ []) (ap (take (at + i)) p ∙ take-paste d at text i (omega arith) (omega arith) ∙ ap (λ (t : List ℕ). take at d ++ t) (take_all i text (omega arith)))
          ∙ append_assoc (take at d) text (end ∷ []);
    }

-- one text behind another
pub join : {b m a : List ℕ} {at e n : ℕ} {t u : List ℕ} → Added b at t m e → Added m e u a n → Added b at (t ++ u) a n
join {b} {at = at} {t = t} {u = u} p q = record {
  ends = omega (arith, p.ends, q.ends, length-append t u);
  reads = q.reads ∙ ap (λ (l : List ℕ). l ++ u) p.reads ∙ append_assoc (take at b) t u;
}

-- a text that starts the buffer
pub whole : {b a t : List ℕ} {n : ℕ} → Added b 0 t a n → IsPrefixLen n a × (take n a ≡ t)
whole {a = a} {n = n} p =
    let l = ap length p.reads in
    ((omega (arith, l, p.ends, length-take n a), omega (arith, l, p.ends)), p.reads)
