-- Laws of little-endian bytes: written and read back, cut in two, and as a loop writes or reads them.
-- Assumes nothing.
use Rattle.std.proofs.Common.{◌≡◌, ℕ, zero, suc, ◌+◌, ◌*◌, ◌/◌, ◌%◌, ◌^◌, ◌<◌, ◌≤◌, Bool, true, false, ltb, List, [], ◌∷◌, ◌++◌, length, get_or, take, drop, set, sym, refl, ap, ◌∙◌, ap₂, append_assoc, append-nil, le_of_suc-le-suc, not-suc-le-zero, div-add-mod', zero-add, div-one, add-one, arith, length-drop, drop_of_length-le, length-take, get_or-drop, take_all, drop-cons, get_or-take, drop-drop, take_at, take-add, drop_at, ltb-false, ltb-true}
use native.Mathlib.Nat.{pow-le-pow_right, div-div-eq-div-mul, pow-zero, pow-succ', add-mul-div_left, div-eq_of_lt}
use lib.ListN.{get_or-eq_default}
use lib.Seq.{paste, paste-suc}
use Rattle.words.specs.Bytes.{bytes_of, value_of, field, AllBytes}

-- ---- the bytes of a number

pub length_bytes : (w x : ℕ) → length (bytes_of w x) ≡ w
unfolding bytes_of
length_bytes zero x = refl
length_bytes (suc w) x = ap suc (length_bytes w (x / 256))

-- written over all of a slice
pub over_all : (s : List ℕ) (w x : ℕ) → length s ≡ w → take 0 s ++ bytes_of w x ++ drop (0 + w) s ≡ bytes_of w x
over_all s w x h = ap (λ (l : List ℕ). bytes_of w x ++ l) (drop_of_length-le s {i = 0 + w} (omega arith)) ∙ append-nil (bytes_of w x)

pub bytes_at : (w x i : ℕ) → i < w → get_or (bytes_of w x) i 0 ≡ x / 256 ^ i % 256
unfolding bytes_of
bytes_at zero x i h = absurd (not-suc-le-zero h)
bytes_at (suc w) x zero h = ap (λ (n : ℕ). n % 256) (sym (div-one x))
bytes_at (suc w) x (suc i) h =
    bytes_at w (x / 256) i (le_of_suc-le-suc h)
    ∙ ap (λ (n : ℕ). n % 256) (div-div-eq-div-mul x 256 (256 ^ i) ∙ ap (λ (n : ℕ). x / n) (sym (pow-succ' 256 i)))

-- the lower v bytes, and the w above them
pub bytes_add : (v w x : ℕ) → bytes_of (v + w) x ≡ bytes_of v x ++ bytes_of w (x / 256 ^ v)
unfolding bytes_of
bytes_add zero w x = ap₂ bytes_of (zero-add w) (sym (div-one x))
bytes_add (suc v) w x =
    let e : suc v + w ≡ suc (v + w) = omega arith in
    ap (λ (n : ℕ). bytes_of n x) e
    ∙ ap (λ (l : List ℕ). x % 256 ∷ l)
    (bytes_add v w (x / 256) ∙ ap (λ (n : ℕ). bytes_of v (x / 256) ++ bytes_of w n) (div-div-eq-div-mul x 256 (256 ^ v) ∙ ap (λ (n : ℕ). x / n) (sym (pow-succ' 256 v))))

-- what is above w bytes is not among them
pub bytes_low : (w x y : ℕ) → bytes_of w (x + 256 ^ w * y) ≡ bytes_of w x
unfolding bytes_of
bytes_low zero x y = refl
bytes_low (suc w) x y =
    let p : 256 ^ suc w * y ≡ 256 * (256 ^ w * y) = omega (arith, ap (λ (n : ℕ). n * y) (pow-succ' 256 w)) in
    let e : (x + 256 ^ suc w * y) % 256 ≡ x % 256 = omega arith in
    let f : (x + 256 ^ suc w * y) / 256 ≡ x / 256 + 256 ^ w * y = omega arith in
    ap₂ (λ (n : ℕ) (l : List ℕ). n ∷ l) e (ap (bytes_of w) f ∙ bytes_low w (x / 256) y)

pub bytes_rem : (w x : ℕ) → bytes_of w (x % 256 ^ w) ≡ bytes_of w x
bytes_rem w x =
    let m = 256 ^ w in
    let e : x % m + m * (x / m) ≡ x = omega (arith, div-add-mod' x m) in
    sym (bytes_low w (x % m) (x / m)) ∙ ap (bytes_of w) e

-- two numbers, one above the other
pub bytes_join : (v w x y : ℕ) → x < 256 ^ v → bytes_of (v + w) (x + 256 ^ v * y) ≡ bytes_of v x ++ bytes_of w y
bytes_join v w x y h =
    bytes_add v w (x + 256 ^ v * y)
    ∙ ap₂ (λ (l : List ℕ) (n : ℕ). l ++ bytes_of w n) (bytes_low v x y) (add-mul-div_left x y {y = 256 ^ v} (omega arith) ∙ ap (λ (n : ℕ). n + y) (div-eq_of_lt h) ∙ zero-add y)

-- ---- the number of the bytes

-- reading back what was written
pub value_bytes : (w x : ℕ) → x < 256 ^ w → value_of (bytes_of w x) ≡ x
unfolding bytes_of value_of
value_bytes zero x h = omega (arith, pow-zero 256)
value_bytes (suc w) x h =
    let i : x / 256 < 256 ^ w = omega (arith, pow-succ' 256 w) in
    omega (arith, value_bytes w (x / 256) i)

pub value_append : (a b : List ℕ) → value_of (a ++ b) ≡ value_of a + 256 ^ length a * value_of b
unfolding value_of
value_append [] b = omega (arith, pow-zero 256)
value_append (x ∷ a) b =
    omega (arith, value_append a b, ap (λ (n : ℕ). n * value_of b) (pow-succ' 256 (length a)))

pub value_lt : (l : List ℕ) → AllBytes l → value_of l < 256 ^ length l
unfolding value_of AllBytes
value_lt [] h = omega (arith, pow-zero 256)
value_lt (b ∷ l) h =
    let k : b < 256 = h 0 in
    omega (arith, value_lt l (λ i. h (suc i)), pow-succ' 256 (length l))

-- writing again what was read
pub bytes_value : (l : List ℕ) → AllBytes l → bytes_of (length l) (value_of l) ≡ l
unfolding bytes_of value_of AllBytes
bytes_value [] h = refl
bytes_value (b ∷ l) h =
    let k : b < 256 = h 0 in
    let e : (b + 256 * value_of l) % 256 ≡ b = omega arith in
    let f : (b + 256 * value_of l) / 256 ≡ value_of l = omega arith in
    ap₂ (λ (x : ℕ) (y : List ℕ). x ∷ y) e (ap (bytes_of (length l)) f ∙ bytes_value l (λ i. h (suc i)))

pub all_bytes : (w x : ℕ) → AllBytes (bytes_of w x)
unfolding bytes_of AllBytes
all_bytes zero x i = omega arith
all_bytes (suc w) x zero = omega arith
all_bytes (suc w) x (suc i) = all_bytes w (x / 256) i

-- ---- a part of the bytes

pub part_bytes : (s : List ℕ) (at w : ℕ) → AllBytes s → AllBytes (take w (drop at s))
unfolding AllBytes
part_bytes s at w h i = go (ltb i w) refl
  where
    go : (b : Bool) → ltb i w ≡ b → get_or (take w (drop at s)) i 0 < 256
    go true e = rw (get_or-take w (drop at s) i 0 (ltb-true i w e), get_or-drop at s i 0) (h (at + i))
    go false e =
        let l = ltb-false i w e in
        rw (get_or-eq_default (take w (drop at s)) 0 {n = i} (omega (arith, length-take w (drop at s)))) (omega arith)

pub length_part : (s : List ℕ) (at w : ℕ) → at + w ≤ length s → length (take w (drop at s)) ≡ w
length_part s at w h = omega (arith, length-take w (drop at s), length-drop at s)

-- two neighbouring parts
pub part_join : (s : List ℕ) (at v w : ℕ) → take v (drop at s) ++ take w (drop (at + v) s) ≡ take (v + w) (drop at s)
part_join s at v w = sym (take-add v w (drop at s) ∙ ap (λ (x : List ℕ). take v (drop at s) ++ take w x) (drop-drop v at s))

-- a field written again
pub field_again : (s : List ℕ) (at w : ℕ) → AllBytes s → at + w ≤ length s → bytes_of w (field s at w) ≡ take w (drop at s)
unfolding field
field_again s at w h l =
    ap (λ (n : ℕ). bytes_of n (value_of (take w (drop at s)))) (sym (length_part s at w l))
    ∙ bytes_value (take w (drop at s)) (part_bytes s at w h)

-- a field's number fits its width, also where the bytes end before the field does
pub field_lt : (s : List ℕ) (at w : ℕ) → AllBytes s → field s at w < 256 ^ w
unfolding field
field_lt s at w h =
    let l = value_lt (take w (drop at s)) (part_bytes s at w h) in
    let n : length (take w (drop at s)) ≤ w = omega (arith, length-take w (drop at s)) in
    let m = pow-le-pow_right {n = 256} (omega arith) n in
    omega (arith, l, m)

-- a field of v + w bytes is one of v and one of w above it
pub field_add : (s : List ℕ) (at v w : ℕ) → at + v ≤ length s → field s at (v + w) ≡ field s at v + 256 ^ v * field s (at + v) w
unfolding field
field_add s at v w h =
    ap value_of (take-add v w (drop at s) ∙ ap (λ (l : List ℕ). take v (drop at s) ++ take w l) (drop-drop v at s))
    ∙ value_append (take v (drop at s)) (take w (drop (at + v) s))
    ∙ ap (λ (n : ℕ). value_of (take v (drop at s)) + 256 ^ n * value_of (take w (drop (at + v) s))) (length_part s at v h)

-- the field that was written there
pub field_written : (a b : List ℕ) (at w x : ℕ) → length a ≡ at → x < 256 ^ w → field (a ++ bytes_of w x ++ b) at w ≡ x
unfolding field
field_written a b at w x h l =
    ap value_of (ap (take w) (ap (drop at) (append_assoc a (bytes_of w x) b) ∙ drop_at a (bytes_of w x ++ b) at h) ∙ take_at (bytes_of w x) b w (length_bytes w x))
    ∙ value_bytes w x l

-- ---- one after the other

-- x written after what is written already, which is n bytes
pub write_next : (done old l x : List ℕ) (n w : ℕ) → length done ≡ n → l ≡ done ++ drop n old
    → take n l ++ x ++ drop (n + w) l ≡ done ++ x ++ drop (n + w) old
write_next done old l x n w h e =
    ap₂ (λ (a b : List ℕ). a ++ x ++ b) (ap (take n) e ∙ take_at done (drop n old) n h)
    (sym (drop-drop w n l) ∙ ap (drop w) (ap (drop n) e ∙ drop_at done (drop n old) n h) ∙ drop-drop w n old)

-- ---- loops

pub field_none : (s : List ℕ) (at : ℕ) → field s at 0 ≡ 0
unfolding field value_of
field_none s at = refl

-- one byte more below: a reading loop goes down from the top
pub field_next : (s : List ℕ) (at w : ℕ) → at < length s → field s at (w + 1) ≡ get_or s at 0 + 256 * field s (at + 1) w
unfolding field value_of
field_next s at w h = rw (add-one w, add-one at, drop-cons s at 0 h) refl

-- a store in a loop that writes src over d from `at` on
pub paste_step : (d : List ℕ) (at : ℕ) (src s : List ℕ) (i v : ℕ) → at + i < length d → i < length src → get_or src i 0 ≡ v
    → s ≡ paste d at src i → set s (at + i) v ≡ paste d at src (i + 1)
paste_step d at src s i v hd hs e p = rw (p, ← e, add-one i) (paste-suc d at src i 0 hd hs)

pub paste_full : (d : List ℕ) (at : ℕ) (src : List ℕ) (n : ℕ) → length src ≡ n → paste d at src n ≡ take at d ++ src ++ drop (at + n) d
paste_full d at src n e = ap (λ (l : List ℕ). take at d ++ l ++ drop (at + n) d) (take_all n src (omega arith))
