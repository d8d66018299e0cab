-- The highest hexadecimal digits of numbers of two words: one digit, how many two numbers share, and their characters.
-- Assumes nothing.
use mathlib.Core.Path.{◌≡◌, refl, sym, ap, ◌∙◌, subst}
use Prim.Native.Nat.{ℕ, zero, suc, ◌+◌, ◌*◌, ◌-◌, ◌/◌, ◌%◌, ◌^◌, ◌<◌, ◌≤◌, min}
use native.Mathlib.Nat.{div-div-eq-div-mul, div-eq_of_lt, div-lt_iff_lt-mul, le-div_iff_mul-le, le_of_suc-le-suc, lt_of_not-le, min-eq_left, not-suc-le-zero}
use native.Mathlib.Omega.{arith}
use lib.IntN.{ℤ, pos, negsuc, sub_ℕ, pos-ne-negsuc}
use lib.ListN.{length, get_or, take, length-take}
use lib.Pow.{shr-shr, high, low, field, mod-mod-pow}
use lib.Seq.{ext_get_or, get_or-take}
use Rattle.algebra.specs.Whole.{residue}
use Rattle.algebra.proofs.Integers.{sub_cases}
use Rattle.words.specs.Words.{joined}
use Rattle.digits.specs.Digits.{unit_at, Settles, settled, hex_digit, hex_text, low_digits}
use Rattle.digits.proofs.Settled.{greatest, none_settled, sixteens, coarser, fewer}

-- ---- one digit

pub digit_high : (hi lo i : ℕ) → lo < 2 ^ 64 → i < 16 → hi / 2 ^ (60 - 4 * i) % 16 ≡ joined hi lo / unit_at (i + 1) % 16
unfolding joined
digit_high hi lo i h l =
    let q : 128 - 4 * (i + 1) ≡ 64 + (60 - 4 * i) = omega arith in
    rw (q, ← shr-shr (hi * 2 ^ 64 + lo) 64 (60 - 4 * i), high hi 64 h) refl

-- what stands above a digit does not matter to it
digit_kept : (x m k : ℕ) → 4 + k ≤ m → x % 2 ^ m / 2 ^ k % 16 ≡ x / 2 ^ k % 16
digit_kept x m k h =
    let j = m - (4 + k) in
    let q : m ≡ j + 4 + k = omega arith in
    ap (λ (n : ℕ). x % 2 ^ n / 2 ^ k % 16) q ∙ ap (λ (n : ℕ). n % 16) (field x (j + 4) k) ∙ mod-mod-pow (x / 2 ^ k) j 4

pub digit_low : (hi lo i : ℕ) → lo < 2 ^ 64 → 16 ≤ i → i < 32 → lo / 2 ^ (124 - 4 * i) % 16 ≡ joined hi lo / unit_at (i + 1) % 16
unfolding joined
digit_low hi lo i h l m =
    let k = 124 - 4 * i in
    let q : 128 - 4 * (i + 1) ≡ k = omega arith in
    ap (λ (n : ℕ). n / 2 ^ k % 16) (sym (low hi 64 h)) ∙ digit_kept (hi * 2 ^ 64 + lo) 64 k (omega arith)
    ∙ ap (λ (n : ℕ). (hi * 2 ^ 64 + lo) / 2 ^ n % 16) (sym q)

-- ---- the digits that two numbers share

-- the same quotient by 2 ^ (128 - 4 d)
pub Share : ℕ → ℕ → ℕ → Type 0
Share L H d = L / unit_at d ≡ H / unit_at d

pub share_none : (L H : ℕ) → L < 2 ^ 128 → H < 2 ^ 128 → Share L H 0
unfolding Share
share_none L H l h = div-eq_of_lt l ∙ sym (div-eq_of_lt h)

down_one : (x d : ℕ) → d < 32 → x / unit_at d ≡ x / unit_at (d + 1) / 16
down_one x d h =
    let q : d + 1 - d ≡ 1 = omega arith in
    let e : unit_at (d + 1) * 16 ≡ unit_at d = ap (λ (n : ℕ). unit_at (d + 1) * 16 ^ n) (sym q) ∙ coarser d (d + 1) (omega arith) (omega arith) in
    sym (div-div-eq-div-mul x (unit_at (d + 1)) 16 ∙ ap (λ (n : ℕ). x / n) e)

pub share_next : (L H d : ℕ) → d < 32 → Share L H d → L / unit_at (d + 1) % 16 ≡ H / unit_at (d + 1) % 16 → Share L H (d + 1)
unfolding Share
share_next L H d h s e =
    let l = down_one L d h in
    let m = down_one H d h in
    let a = L / unit_at (d + 1) in
    let b = H / unit_at (d + 1) in
    let f : a / 16 ≡ b / 16 = sym l ∙ s ∙ m in
    let g : a % 16 ≡ b % 16 = e in
    close a b f g
  where
    close : (a b : ℕ) → a / 16 ≡ b / 16 → a % 16 ≡ b % 16 → a ≡ b
    close a b f g = omega arith

pub share_stops : (L H d : ℕ) → (L / unit_at (d + 1) % 16 ≡ H / unit_at (d + 1) % 16 → ⊥) → Share L H (d + 1) → ⊥
unfolding Share
share_stops L H d n s = n (ap (λ (x : ℕ). x % 16) s)

settles_share : (L H d : ℕ) → Settles (pos L) (pos H) d → Share L H d
unfolding Settles Share
settles_share L H d s = let e = s.2 in cc

-- the number of digits shared is the number settled
pub shared_is : (L H d : ℕ) → d ≤ 32 → Share L H d → (d < 32 → Share L H (d + 1) → ⊥) → d ≡ settled (pos L) (pos H)
unfolding Settles Share
shared_is L H zero h s n =
    sym (none_settled (pos L) (pos H) (λ e t.
    let o = t.0 in n (omega arith) (settles_share L H 1 (fewer (pos L) (pos H) e 1 t (omega arith) (omega arith)))))
shared_is L H (suc d) h s n =
    sym (greatest (pos L) (pos H) (suc d) (record {
      settles = (omega arith, h, ap pos s);
      most = λ e t. le_of_suc-le-suc (lt_of_not-le (λ l.
          let u = t.1 in n (omega arith) (settles_share L H (suc d + 1) (fewer (pos L) (pos H) e (suc d + 1) t (omega arith) (omega arith)))));
    }))

-- ---- ends that part in the first digit

-- below 0
pub negative_none : (T b H : ℕ) → T < b → 0 ≡ settled (sub_ℕ T b) (pos H)
unfolding Settles
negative_none T b H h =
    sub_cases T b (λ z. 0 ≡ settled z (pos H))
    (λ l. sym (none_settled (negsuc (b - suc T)) (pos H) (λ d s. pos-ne-negsuc (H / unit_at d) ((b - suc T) / unit_at d) (sym s.2))))
    (λ l. absurd (omega arith))

-- at 2 ^ 128 or above
pub over_none : (L H : ℕ) → L < 2 ^ 128 → 2 ^ 128 ≤ H → 0 ≡ settled (pos L) (pos H)
unfolding Settles Share
over_none L H l h =
    sym (none_settled (pos L) (pos H) (λ d s.
    let o = s.0 in apart (2 ^ 124) L H l h (settles_share L H 1 (fewer (pos L) (pos H) d 1 s (omega arith) (omega arith)))))
  where
    apart : (U L H : ℕ) → L < 16 * U → 16 * U ≤ H → L / U ≡ H / U → ⊥
    apart U L H a b e =
        let u : 0 < U = omega arith in
        let x : L / U < 16 = (div-lt_iff_lt-mul u).1 a in
        let y : 16 ≤ H / U = (le-div_iff_mul-le u).1 b in
        omega (arith, x, y, e)

-- ---- the characters of the d highest digits

length_text : (d x : ℕ) → length (hex_text d x) ≡ d
unfolding hex_text
length_text zero x = refl
length_text (suc d) x = ap suc (length_text d x)

text_at : (d x i : ℕ) → i < d → get_or (hex_text d x) i 0 ≡ hex_digit (x / 16 ^ (d - (i + 1)) % 16)
unfolding hex_text
text_at zero x i h = absurd (not-suc-le-zero h)
text_at (suc d) x zero h =
    let q : d ≡ suc d - (0 + 1) = omega arith in
    ap (λ (n : ℕ). hex_digit (x / 16 ^ n % 16)) q
text_at (suc d) x (suc i) h =
    let q : d - (i + 1) ≡ suc d - (suc i + 1) = omega arith in
    text_at d x i (le_of_suc-le-suc h) ∙ ap (λ (n : ℕ). hex_digit (x / 16 ^ n % 16)) q

-- a digit of the lowest d is one of the number
digit_of_rest : (x d j : ℕ) → j < d → x % 16 ^ d / 16 ^ j % 16 ≡ x / 16 ^ j % 16
digit_of_rest x d j h = rw (← sixteens d, ← sixteens j) (digit_kept x (4 * d) (4 * j) (omega arith))

pub text_digit : (x d i : ℕ) → d ≤ 32 → i < d → get_or (low_digits d (pos (x / unit_at d))) i 0 ≡ hex_digit (x / unit_at (i + 1) % 16)
unfolding low_digits residue
text_digit x d i h l =
    let j = d - (i + 1) in
    text_at d (x / unit_at d % 16 ^ d) i l
    ∙ ap hex_digit (digit_of_rest (x / unit_at d) d j (omega arith)
    ∙ ap (λ (n : ℕ). n % 16) (div-div-eq-div-mul x (unit_at d) (16 ^ j) ∙ ap (λ (n : ℕ). x / n) (coarser (i + 1) d (omega arith) h)))

pub length_low : (d : ℕ) (z : ℤ) → length (low_digits d z) ≡ d
unfolding low_digits
length_low d z = length_text d (residue (16 ^ d) z)

-- the first d of more digits
pub fewer_digits : (x d e : ℕ) → d ≤ e → e ≤ 32 → take d (low_digits e (pos (x / unit_at e))) ≡ low_digits d (pos (x / unit_at d))
fewer_digits x d e h l =
    let long = length_low e (pos (x / unit_at e)) in
    let short = length_low d (pos (x / unit_at d)) in
    let size : length (take d (low_digits e (pos (x / unit_at e)))) ≡ d = length-take d _ ∙ ap (min d) long ∙ min-eq_left h in
    ext_get_or 0 _ _ (size ∙ sym short) (λ i m.
    let j : i < d = subst (λ (n : ℕ). i < n) size m in
    get_or-take d _ i 0 j ∙ text_digit x e i l (omega arith) ∙ sym (text_digit x d i (omega arith) j))
