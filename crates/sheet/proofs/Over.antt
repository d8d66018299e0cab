-- Loops that write an output entry by entry: after i turns the text of the first i entries stands over the output as it was found.
-- One law for lists, contents and bodies.
-- Assumes nothing.
use mathlib.Core.Path.{◌≡◌, refl, sym, ap, ap₂, ◌∙◌}
use mathlib.Core.List.{List, [], ◌∷◌, ◌++◌, append-nil, append_assoc}
use Prim.Native.Nat.{ℕ, ◌+◌, ◌*◌, ◌/◌, ◌%◌, ◌<◌, ◌≤◌}
use native.Mathlib.Numerals.{add-one}
use native.Mathlib.Omega.{arith}
use lib.ListN.{length, get_or, take, drop, length-append, length-drop, take-append-drop}
use lib.Seq.{take_all, take-suc, length-take-le}
use Rattle.words.specs.Bytes.{bytes_of}
use Rattle.words.proofs.Bytes.{write_next}
use Rattle.run.specs.Run.{Entry}
use Rattle.sheet.specs.Sheet.{key, line, contents_of, bodies_of, list_of}
use Rattle.sheet.specs.Calls.{over}
use Rattle.sheet.proofs.Sheets.{length_contents, length_list, length_bodies}
use Rattle.sheet.proofs.Each.{nothing}

-- ---- texts that are made entry by entry, w bytes for each

pub record Entrywise (text : List Entry → List ℕ) (one : Entry → List ℕ) (w : ℕ) : Type 0 where
  pub none : text [] ≡ []
  pub next : (ts : List Entry) (t : Entry) → text (ts ++ (t ∷ [])) ≡ text ts ++ one t
  pub size : (ts : List Entry) → length (text ts) ≡ w * length ts

list_next : (ts : List Entry) (t : Entry) → list_of (ts ++ (t ∷ [])) ≡ list_of ts ++ bytes_of 2 (key t)
unfolding list_of
list_next [] t = append-nil (bytes_of 2 (key t))
list_next (u ∷ ts) t =
    ap (λ (l : List ℕ). bytes_of 2 (key u) ++ l) (list_next ts t) ∙ sym (append_assoc (bytes_of 2 (key u)) (list_of ts) (bytes_of 2 (key t)))

pub lists : Entrywise list_of (λ t. bytes_of 2 (key t)) 2
unfolding list_of
lists = record { none = refl; next = list_next; size = length_list }

bodies_next : (ts : List Entry) (t : Entry) → bodies_of (ts ++ (t ∷ [])) ≡ bodies_of ts ++ bytes_of 16 t.sum
unfolding bodies_of
bodies_next [] t = append-nil (bytes_of 16 t.sum)
bodies_next (u ∷ ts) t =
    ap (λ (l : List ℕ). bytes_of 16 u.sum ++ l) (bodies_next ts t) ∙ sym (append_assoc (bytes_of 16 u.sum) (bodies_of ts) (bytes_of 16 t.sum))

pub bodies : Entrywise bodies_of (λ t. bytes_of 16 t.sum) 16
unfolding bodies_of
bodies = record { none = refl; next = bodies_next; size = length_bodies }

contents_next : (ts : List Entry) (t : Entry) → contents_of (ts ++ (t ∷ [])) ≡ contents_of ts ++ line t.row t.block
unfolding contents_of
contents_next [] t = append-nil (line t.row t.block)
contents_next (u ∷ ts) t =
    ap (λ (l : List ℕ). line u.row u.block ++ l) (contents_next ts t)
    ∙ sym (append_assoc (line u.row u.block) (contents_of ts) (line t.row t.block))

pub contents : Entrywise contents_of (λ t. line t.row t.block) 4
unfolding contents_of
contents = record { none = refl; next = contents_next; size = length_contents }

pub line_is : (row block : ℕ) → row < 256 → bytes_of 4 (row + 65536 * block) ≡ line row block
unfolding bytes_of
line_is row block h =
    let x = row + 65536 * block in
    let q : x / 256 ≡ 256 * block = omega arith in
    let z : 256 * block % 256 ≡ 0 = omega arith in
    let y : 256 * block / 256 ≡ block = omega arith in
    let a : x % 256 ≡ row = omega arith in
    let b : x / 256 % 256 ≡ 0 = ap (λ (n : ℕ). n % 256) q ∙ z in
    let c : x / 256 / 256 ≡ block = ap (λ (n : ℕ). n / 256) q ∙ y in
    rw (a, b, c) refl

-- ---- the loop

-- the text of the first i entries of ts over what was found, from `base` on
abbrev pub over_to : (List Entry → List ℕ) → ℕ → List Entry → List ℕ → ℕ → ℕ → List ℕ
over_to text w ts old base i = take base old ++ text (take i ts) ++ drop (base + w * i) old

module _ {text : List Entry → List ℕ} {one : Entry → List ℕ} {w : ℕ} (k : Entrywise text one w) (ts : List Entry) (old : List ℕ) (base : ℕ) where
  pub start : old ≡ over_to text w ts old base 0
  start =
      let at : base + w * 0 ≡ base = omega arith in
      sym (ap₂ (λ (a : List ℕ) (n : ℕ). take base old ++ a ++ drop n old) k.none at
      ∙ ap (λ (a : List ℕ). a ++ drop base old) (append-nil (take base old)) ∙ take-append-drop base old)

  pub turn : (l m x : List ℕ) (i n : ℕ) → base ≤ length old → i < length ts → n ≡ base + w * i → x ≡ one (get_or ts i nothing)
      → l ≡ over_to text w ts old base i → m ≡ take n l ++ x ++ drop (n + w) l → m ≡ over_to text w ts old base (i + 1)
  turn l m x i n room h en ex el em =
      let done = take base old ++ text (take i ts) in
      let few : length (take i ts) ≡ i = length-take-le i ts (omega arith) in
      let long : length done ≡ n =
      length-append (take base old) (text (take i ts)) ∙ ap₂ ◌+◌ (length-take-le base old room) (k.size (take i ts) ∙ ap (λ (j : ℕ). w * j) few) ∙ sym en in
      let at : n + w ≡ base + w * (i + 1) = omega arith in
      let more : text (take i ts) ++ x ≡ text (take (i + 1) ts) =
      ap (λ (y : List ℕ). text (take i ts) ++ y) ex ∙ sym (k.next (take i ts) (get_or ts i nothing))
      ∙ ap text (sym (take-suc ts i nothing h) ∙ ap (λ (j : ℕ). take j ts) (sym (add-one i))) in
      em ∙ write_next done old l x n w long (el ∙ ap (λ (j : ℕ). done ++ drop j old) (sym en))
      ∙ ap₂ (λ (a : List ℕ) (j : ℕ). a ++ drop j old)
      (append_assoc (take base old) (text (take i ts)) x ∙ ap (λ (y : List ℕ). take base old ++ y) more) at

  pub length_over : (i : ℕ) → i ≤ length ts → base + w * i ≤ length old → length (over_to text w ts old base i) ≡ length old
  length_over i h room =
      let few : length (take i ts) ≡ i = length-take-le i ts h in
      let front : length (take base old) ≡ base = length-take-le base old (omega arith) in
      let written : length (text (take i ts)) ≡ w * i = k.size (take i ts) ∙ ap (λ (j : ℕ). w * j) few in
      let a = length-append (take base old) (text (take i ts)) in
      let b = length-append (take base old ++ text (take i ts)) (drop (base + w * i) old) in
      omega (arith, a, b, length-drop (base + w * i) old)

  pub finish : (l : List ℕ) (i : ℕ) → length ts ≡ i → l ≡ over_to text w ts old base i → l ≡ take base old ++ text ts ++ drop (base + w * i) old
  finish l i h e = e ∙ ap (λ (us : List Entry). take base old ++ text us ++ drop (base + w * i) old) (take_all i ts (omega arith))

-- from the front of the output on
pub finish_front : {text : List Entry → List ℕ} {one : Entry → List ℕ} {w : ℕ} (k : Entrywise text one w) (ts : List Entry) (old l : List ℕ) (i : ℕ)
    → length ts ≡ i → l ≡ over_to text w ts old 0 i → l ≡ over (text ts) old
finish_front {text} {one} {w} k ts old l i h e =
    let at : 0 + w * i ≡ w * i = omega arith in
    finish k ts old 0 l i h e ∙ ap (λ (n : ℕ). text ts ++ drop n old) (at ∙ ap (λ (n : ℕ). w * n) (sym h) ∙ sym (k.size ts))
