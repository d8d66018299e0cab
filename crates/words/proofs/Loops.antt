-- The loops of `put` and `get`: a number is written from its lowest byte on, and read from its uppermost.
-- Assumes nothing.
use Rattle.std.proofs.Common.{◌≡◌, ℕ, ◌+◌, ◌*◌, ◌-◌, ◌^◌, ◌<◌, ◌≤◌, List, [], ◌∷◌, ◌++◌, length, get_or, Fits, w8, take, drop, ap, ◌∙◌, arith, length-append, mul-le-mul_right, pow-add, ◌/◌, ◌%◌, ◌≢◌, set, sym, pow-suc, add-one, length-take, length-drop, get_or-set_other, get_or-set_same, below_more}
use native.Mathlib.Nat.{pow-le-pow_right, div-div-eq-div-mul}
use Rattle.words.specs.Bytes.{value_of, field, AllBytes, bytes_of}
use Rattle.words.proofs.Bytes.{value_append, field_lt, length_bytes, bytes_at, paste_full}
use lib.Seq.{ext_get_or}
use Rattle.std.proofs.lemmas.Slice.{put_mid-paste}
use borrow.Rule.Slice.PartMut.{put_mid}

-- ---- written

-- one byte more
pub lower : (x i rest : ℕ) → rest ≡ x / 256 ^ i → rest / 256 ≡ x / 256 ^ (i + 1)
lower x i rest e =
    ap (λ (n : ℕ). n / 256) e ∙ div-div-eq-div-mul x (256 ^ i) 256
    ∙ ap (λ (n : ℕ). x / n) (sym (pow-suc 256 i) ∙ ap (λ (n : ℕ). 256 ^ n) (sym (add-one i)))

pub written : (w x i rest : ℕ) (items : List ℕ) → length items ≡ w → i < w → rest ≡ x / 256 ^ i
    → ((k : ℕ) → k < i → get_or items k 0 ≡ get_or (bytes_of w x) k 0)
    → (k : ℕ) → k < i + 1 → get_or (set items i (rest % 256)) k 0 ≡ get_or (bytes_of w x) k 0
written w x i rest items l h e before =
    below_more _ _
    (λ k m. let ne : k ≢ i = omega arith in rw get_or-set_other (before k m))
    (let lt : i < length items = omega arith in rw get_or-set_same (ap (λ (n : ℕ). n % 256) e ∙ sym (bytes_at w x i h)))

-- all of it
pub wrote : (s items : List ℕ) (at w x i : ℕ) → at + w ≤ length s → length items ≡ length (take (at + w - at) (drop at s))
    → length (take (at + w - at) (drop at s)) ≤ i → ((k : ℕ) → k < i → get_or items k 0 ≡ get_or (bytes_of w x) k 0)
    → put_mid at (at + w - at) s items ≡ take at s ++ bytes_of w x ++ drop (at + w) s
wrote s items at w x i h l far before =
    let size : length items ≡ w = omega (arith, length-take {A = ℕ}, length-drop {A = ℕ}) in
    let all : items ≡ bytes_of w x = ext_get_or 0 _ _ (size ∙ sym (length_bytes w x)) (λ k m. before k (omega arith)) in
    put_mid-paste _ _ _ _ (bytes_of w x) w all (omega arith) (sym (length_bytes w x)) ∙ paste_full s at (bytes_of w x) w (length_bytes w x)

-- ---- read

-- a turn takes the uppermost byte that is left
pub turn : (value x b y : ℕ) (old rest : List ℕ) → old ≡ rest ++ b ∷ [] → y ≡ b → value ≡ value_of old + 256 ^ length old * x
    → value ≡ value_of rest + 256 ^ length rest * (x * 256 + y)
unfolding value_of
turn value x b y old rest e f h =
    let p = rw (e, length-append, value_append, pow-add) at h in
    rw f (omega (arith, p))

-- a field of 8 bytes or fewer is a word, and so is what was read of it
pub fits : (s : List ℕ) (at w x b y : ℕ) (old rest : List ℕ) → old ≡ rest ++ b ∷ [] → y ≡ b → field s at w ≡ value_of old + 256 ^ length old * x
    → ((i : ℕ) → Fits w8 (get_or s i 0)) → w ≤ 8 → x * 256 + y < 2 ^ 64
unfolding AllBytes
fits s at w x b y old rest e f h bytes k =
    let l = field_lt s at w (λ i. (bytes i).fits) in
    let m = pow-le-pow_right {n = 256} (omega arith) {j = 8} k in
    let o = pow-le-pow_right {n = 256} (omega arith) {i = 0} {j = length rest} (omega arith) in
    let p : 1 * (x * 256 + y) ≤ 256 ^ length rest * (x * 256 + y) = mul-le-mul_right (x * 256 + y) o in
    let t = turn _ x b y old rest e f h in
    omega (arith, l, m, p, t)

-- nothing is read yet
pub begun : (s part : List ℕ) (at w : ℕ) → part ≡ take (at + w - at) (drop at s) → field s at w ≡ value_of part + 256 ^ length part * 0
unfolding field
begun s part at w e = let all : at + w - at ≡ w = omega arith in rw (e, all) (omega arith)

-- nothing is left
pub ended : (value x : ℕ) (rest : List ℕ) → length rest ≡ 0 → value ≡ value_of rest + 256 ^ length rest * x → x ≡ value
unfolding value_of
ended value x [] e h = omega (arith, h)
ended value x (b ∷ rest) e h = absurd (omega (arith, e))
