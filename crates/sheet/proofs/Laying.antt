-- Loops that lay tickets out: each turn writes one entry of the contents and one body. After i turns the first i entries stand over the output as it was
-- found, and so do the first i bodies. The output is taken as two parts, which meet where the bodies begin.
-- Assumes nothing.
use mathlib.Core.Path.{◌≡◌, refl, sym, ap, ap₂, ◌∙◌}
use mathlib.Core.List.{List, [], ◌++◌, append-nil, append_assoc}
use Prim.Native.Nat.{ℕ, ◌+◌, ◌*◌, ◌<◌, ◌≤◌}
use native.Mathlib.Omega.{arith}
use lib.ListN.{length, get_or, take, drop, take-append-drop, drop_of_length-le}
use lib.Seq.{length-take-le, take-take, drop-drop, take-append-le, drop-append-le, take-append-add, drop-append-add}
use Rattle.words.specs.Bytes.{bytes_of}
use Rattle.words.proofs.Bytes.{write_next}
use Rattle.run.specs.Run.{Entry}
use Rattle.sheet.specs.Sheet.{line, contents_of, bodies_of, sheet_of}
use Rattle.sheet.specs.Calls.{over}
use Rattle.sheet.proofs.Sheets.{length_sheet}
use Rattle.sheet.proofs.Each.{nothing}
use Rattle.sheet.proofs.Over.{contents, bodies, over_to, start, turn, length_over, finish}

-- ---- a write to one of two parts leaves the other as it is

in_front : (f g x : List ℕ) (n w : ℕ) → n + w ≤ length f
    → take n (f ++ g) ++ x ++ drop (n + w) (f ++ g) ≡ (take n f ++ x ++ drop (n + w) f) ++ g
in_front f g x n w h =
    ap₂ (λ (a b : List ℕ). a ++ x ++ b) (take-append-le n f g (omega arith)) (drop-append-le (n + w) f g h)
    ∙ sym (append_assoc (take n f ++ x) (drop (n + w) f) g)

behind : (f g x : List ℕ) (base n w : ℕ) → length f ≡ base
    → take (base + n) (f ++ g) ++ x ++ drop (base + n + w) (f ++ g) ≡ f ++ (take n g ++ x ++ drop (n + w) g)
behind f g x base n w h =
    let end : base + n + w ≡ length f + (n + w) = omega arith in
    ap₂ (λ (a b : List ℕ). a ++ x ++ b) (ap (λ (k : ℕ). take (k + n) (f ++ g)) (sym h) ∙ take-append-add f g n)
    (ap (λ (k : ℕ). drop k (f ++ g)) end ∙ drop-append-add f g (n + w))
    ∙ ap (λ (a : List ℕ). a ++ drop (n + w) g) (append_assoc f (take n g) x) ∙ append_assoc f (take n g ++ x) (drop (n + w) g)

-- ---- the loop

-- the first i of e tickets, over what was found
unfoldable pub laid_to : List Entry → ℕ → List ℕ → ℕ → List ℕ
laid_to ts e old i = over_to contents_of 4 ts (take (16 + 4 * e) old) 16 i ++ over_to bodies_of 16 ts (drop (16 + 4 * e) old) 0 i

pub none_laid : (ts : List Entry) (e : ℕ) (old : List ℕ) → old ≡ laid_to ts e old 0
unfolding laid_to
none_laid ts e old =
    sym (take-append-drop (16 + 4 * e) old)
    ∙ ap₂ ◌++◌ (start contents ts (take (16 + 4 * e) old) 16) (start bodies ts (drop (16 + 4 * e) old) 0)

module _ (ts : List Entry) (e : ℕ) (count : length ts ≡ e) (old : List ℕ) (room : 16 + 20 * e ≤ length old) where
  front_length : length (take (16 + 4 * e) old) ≡ 16 + 4 * e
  front_length = length-take-le (16 + 4 * e) old (omega arith)

  pub one_laid : (l m n : List ℕ) (i x : ℕ) (t : Entry) → i < e → get_or ts i nothing ≡ t → x ≡ t.sum → l ≡ laid_to ts e old i
      → m ≡ take (16 + 4 * i) l ++ line t.row t.block ++ drop (16 + 4 * i + 4) l
      → n ≡ take (16 + 4 * e + 16 * i) m ++ bytes_of 16 x ++ drop (16 + 4 * e + 16 * i + 16) m → n ≡ laid_to ts e old (i + 1)
  unfolding laid_to
  one_laid l m n i x t h et ex el em en =
      let front = take (16 + 4 * e) old in
      let back = drop (16 + 4 * e) old in
      let f = over_to contents_of 4 ts front 16 i in
      let g = over_to bodies_of 16 ts back 0 i in
      let size : length f ≡ 16 + 4 * e = length_over contents ts front 16 i (omega arith) (omega (arith, front_length)) ∙ front_length in
      let next : length (over_to contents_of 4 ts front 16 (i + 1)) ≡ 16 + 4 * e =
      length_over contents ts front 16 (i + 1) (omega arith) (omega (arith, front_length)) ∙ front_length in
      let entry : m ≡ over_to contents_of 4 ts front 16 (i + 1) ++ g =
      em ∙ ap (λ (a : List ℕ). take (16 + 4 * i) a ++ line t.row t.block ++ drop (16 + 4 * i + 4) a) el
      ∙ in_front f g (line t.row t.block) (16 + 4 * i) 4 (omega (arith, size))
      ∙ ap (λ (a : List ℕ). a ++ g)
      (turn contents ts front 16 f _ (line t.row t.block) i (16 + 4 * i) (omega (arith, front_length)) (omega arith) refl
      (ap (λ (u : Entry). line u.row u.block) (sym et)) refl refl) in
      en ∙ ap (λ (a : List ℕ). take (16 + 4 * e + 16 * i) a ++ bytes_of 16 x ++ drop (16 + 4 * e + 16 * i + 16) a) entry
      ∙ behind (over_to contents_of 4 ts front 16 (i + 1)) g (bytes_of 16 x) (16 + 4 * e) (16 * i) 16 next
      ∙ ap (λ (a : List ℕ). over_to contents_of 4 ts front 16 (i + 1) ++ a)
      (turn bodies ts back 0 g _ (bytes_of 16 x) i (16 * i) (omega arith) (omega arith) (omega arith)
      (ap (bytes_of 16) (ex ∙ ap (λ (u : Entry). u.sum) (sym et))) refl refl)

  pub all_laid : (l : List ℕ) (i : ℕ) → i ≡ e → l ≡ laid_to ts e old i
      → l ≡ take 16 old ++ contents_of ts ++ bodies_of ts ++ drop (16 + 20 * e) old
  unfolding laid_to
  all_laid l i q el =
      let front = take (16 + 4 * e) old in
      let back = drop (16 + 4 * e) old in
      let end : 16 + 4 * e + (0 + 16 * i) ≡ 16 + 20 * e = omega arith in
      let none : drop (16 + 4 * i) front ≡ [] = drop_of_length-le front {i = 16 + 4 * i} (omega (arith, front_length)) in
      let entries : over_to contents_of 4 ts front 16 i ≡ take 16 old ++ contents_of ts =
      finish contents ts front 16 _ i (count ∙ sym q) refl
      ∙ ap₂ (λ (a b : List ℕ). a ++ contents_of ts ++ b) (take-take 16 (16 + 4 * e) old (omega arith)) none ∙ append-nil (take 16 old ++ contents_of ts) in
      let sums : over_to bodies_of 16 ts back 0 i ≡ bodies_of ts ++ drop (16 + 20 * e) old =
      finish bodies ts back 0 _ i (count ∙ sym q) refl
      ∙ ap (λ (a : List ℕ). bodies_of ts ++ a) (drop-drop (0 + 16 * i) (16 + 4 * e) old ∙ ap (λ (n : ℕ). drop n old) end) in
      el ∙ ap₂ ◌++◌ entries sums ∙ sym (append_assoc (take 16 old ++ contents_of ts) (bodies_of ts) (drop (16 + 20 * e) old))

-- ---- the sheet

-- the head, and then the tickets
pub whole : (p C e : ℕ) (ts : List Entry) (out o₁ o₂ : List ℕ) → length ts ≡ e
    → o₁ ≡ bytes_of 8 p ++ bytes_of 2 C ++ bytes_of 2 e ++ bytes_of 4 0 ++ drop 16 out
    → o₂ ≡ take 16 o₁ ++ contents_of ts ++ bodies_of ts ++ drop (16 + 20 * e) o₁ → o₂ ≡ over (sheet_of p C ts) out
unfolding sheet_of bytes_of
whole p C e ts out o₁ o₂ count e₁ e₂ =
    let head = bytes_of 8 p ++ bytes_of 2 C ++ bytes_of 2 e ++ bytes_of 4 0 in
    e₂ ∙ ap (λ (a : List ℕ). a ++ drop (16 + 20 * e) o₁) (append_assoc (take 16 o₁) (contents_of ts) (bodies_of ts))
    ∙ write_next head out o₁ (contents_of ts ++ bodies_of ts) 16 (20 * e) refl e₁
    ∙ ap₂ (λ (k n : ℕ). bytes_of 8 p ++ bytes_of 2 C ++ bytes_of 2 k ++ bytes_of 4 0 ++ contents_of ts ++ bodies_of ts ++ drop n out) (sym count)
    (ap (λ (n : ℕ). 16 + 20 * n) (sym count) ∙ sym (length_sheet p C ts))
