-- Whole numbers as differences of naturals, so that `omega` can prove what is stated of them.
-- Assumes nothing.
use mathlib.Core.Path.{◌≡◌, refl, sym, ap, ◌∙◌}
use mathlib.Core.Bool.{Bool, true, false, cond, not}
use Prim.Native.Nat.{ℕ, zero, suc, ◌+◌, ◌*◌, ◌-◌, ◌/◌, ◌%◌, ◌≤◌, ◌<◌}
use native.Mathlib.Nat.{mod-add-div, mod-lt, div-mul-le_self, lt-div-mul-add, add-mul-mod_self_left, mod-eq_of_lt}
use native.Mathlib.Omega.{arith}
use lib.Dec.{T, ltb, le→leb, ltb→lt, nltb→le}
use lib.IntN.{ℤ, pos, negsuc, sub_ℕ, neg_ℤ, ◌+ℤ◌, ◌*ℤ◌}
use lib.Signed.{◌≤ℤ◌}
use Rattle.algebra.specs.Whole.{quotient, residue}

-- z is a less b
abbrev pub IsDiff : ℤ → ℕ → ℕ → Type 0
IsDiff (pos n) a b = a ≡ n + b
IsDiff (negsuc n) a b = b ≡ a + suc n

pub record Diff (z : ℤ) (a b : ℕ) : Type 0 where
  pub is : IsDiff z a b

cases : (c : Bool) (x y : ℤ) (P : ℤ → Type 0) → (T c → P x) → (T (not c) → P y) → P (cond c x y)
cases true x y P f g = f tt
cases false x y P f g = g tt

-- `sub_ℕ a b` by its two cases
pub sub_cases : (a b : ℕ) (P : ℤ → Type 0) → (a < b → P (negsuc (b - suc a))) → (b ≤ a → P (pos (a - b))) → P (sub_ℕ a b)
sub_cases a b P f g = cases (ltb a b) (negsuc (b - suc a)) (pos (a - b)) P (λ t. f (ltb→lt a b t)) (λ t. g (nltb→le a b t))

pub sub_pos : (a b : ℕ) → b ≤ a → sub_ℕ a b ≡ pos (a - b)
sub_pos a b h = sub_cases a b (λ z. z ≡ pos (a - b)) (λ l. absurd (omega arith)) (λ l. refl)

pub diff_sub : (a b : ℕ) → Diff (sub_ℕ a b) a b
diff_sub a b = sub_cases a b (λ z. Diff z a b) (λ h. omega arith) (λ h. omega arith)

pub diff_add : (x y : ℤ) {a b c d : ℕ} → Diff x a b → Diff y c d → Diff (x +ℤ y) (a + c) (b + d)
diff_add (pos m) (pos n) h k = omega arith
diff_add (pos m) (negsuc n) {a} {b} {c} {d} h k = sub_cases m (suc n) (λ z. Diff z (a + c) (b + d)) (λ l. omega arith) (λ l. omega arith)
diff_add (negsuc m) (pos n) {a} {b} {c} {d} h k = sub_cases n (suc m) (λ z. Diff z (a + c) (b + d)) (λ l. omega arith) (λ l. omega arith)
diff_add (negsuc m) (negsuc n) h k = omega arith

pub diff_neg : (x : ℤ) {a b : ℕ} → Diff x a b → Diff (neg_ℤ x) b a
diff_neg (pos zero) h = omega arith
diff_neg (pos (suc n)) h = omega arith
diff_neg (negsuc n) h = omega arith

neg_mul : (n a b : ℕ) → b ≡ a + n → Diff (neg_ℤ (pos n)) a b
neg_mul zero a b h = omega arith
neg_mul (suc n) a b h = omega arith

pub diff_mul_pos : (x : ℤ) (w : ℕ) {a b : ℕ} → Diff x a b → Diff (x *ℤ pos w) (a * w) (b * w)
diff_mul_pos (pos n) w h = let e = ap (λ (k : ℕ). k * w) h.is in omega (arith, e)
diff_mul_pos (negsuc n) w h = let e = ap (λ (k : ℕ). k * w) h.is in neg_mul (suc n * w) _ _ (omega (arith, e))

pub diff_pos_mul : (w : ℕ) (x : ℤ) {a b : ℕ} → Diff x a b → Diff (pos w *ℤ x) (w * a) (w * b)
diff_pos_mul w (pos n) h = let e = ap (λ (k : ℕ). w * k) h.is in omega (arith, e)
diff_pos_mul w (negsuc n) h = let e = ap (λ (k : ℕ). w * k) h.is in neg_mul (w * suc n) _ _ (omega (arith, e))

pub diff_le : (x y : ℤ) {a b c d : ℕ} → Diff x a b → Diff y c d → a + d ≤ c + b → x ≤ℤ y
diff_le (pos m) (pos n) h k l = record { le = le→leb m n (omega arith) }
diff_le (pos m) (negsuc n) h k l = absurd (omega arith)
diff_le (negsuc m) (pos n) h k l = record { le = tt }
diff_le (negsuc m) (negsuc n) h k l = record { le = le→leb n m (omega arith) }

-- a difference that stands for a number
pub above : ℤ → ℕ
above (pos n) = n
above (negsuc n) = 0

pub beneath : ℤ → ℕ
beneath (pos n) = 0
beneath (negsuc n) = suc n

pub diff_self : (x : ℤ) → Diff x (above x) (beneath x)
unfolding above beneath
diff_self (pos n) = omega arith
diff_self (negsuc n) = omega arith

-- a quotient rounded down, between its own multiple and the next
pub floor_low : (x : ℤ) (W : ℕ) {a b s t : ℕ} → 0 < W → Diff x a b → Diff (quotient x W) s t → s * W + b ≤ a + t * W
floor_low (pos n) W w h k = let l = div-mul-le_self n W in let e = ap (λ (i : ℕ). i * W) k.is in omega (arith, l, e)
floor_low (negsuc n) W w h k = let l = lt-div-mul-add {a = n} w in let e = ap (λ (i : ℕ). i * W) k.is in omega (arith, l, e)

pub floor_high : (x : ℤ) (W : ℕ) {a b s t : ℕ} → 0 < W → Diff x a b → Diff (quotient x W) s t → a + t * W < b + suc s * W
floor_high (pos n) W w h k = let l = lt-div-mul-add {a = n} w in let e = ap (λ (i : ℕ). i * W) k.is in omega (arith, l, e)
floor_high (negsuc n) W w h k = let l = div-mul-le_self n W in let e = ap (λ (i : ℕ). i * W) k.is in omega (arith, l, e)

-- residues: below m, and equal where the numbers differ by multiples of m
pub residue_lt : (m : ℕ) (x : ℤ) → 0 < m → residue m x < m
unfolding residue
residue_lt m (pos n) h = mod-lt n h
residue_lt m (negsuc n) h = omega arith

pub turns : ℕ → ℤ → ℕ
turns m (pos n) = 0
turns m (negsuc n) = n / m + 1

pub back : ℕ → ℤ → ℕ
back m (pos n) = n / m
back m (negsuc n) = 0

-- s - t and the residue differ by whole multiples of m
pub residue_is : (m : ℕ) (x : ℤ) {s t : ℕ} → 0 < m → Diff x s t → s + m * turns m x ≡ t + residue m x + m * back m x
unfolding residue turns back
residue_is m (pos n) h k = let e = mod-add-div n m in omega (arith, e)
residue_is m (negsuc n) h k = let e = mod-add-div n m in let l = mod-lt n h in omega (arith, e, l)

pub same_residue : (m r r' i j : ℕ) → r < m → r' < m → r + m * i ≡ r' + m * j → r ≡ r'
same_residue m r r' i j h h' e =
    sym (mod-eq_of_lt h) ∙ sym (add-mul-mod_self_left r m i) ∙ ap (λ (n : ℕ). n % m) e ∙ add-mul-mod_self_left r' m j ∙ mod-eq_of_lt h'

pub residue_eq : (m : ℕ) (x y : ℤ) {s t s' t' : ℕ} (i j : ℕ) → 0 < m → Diff x s t → Diff y s' t' → s + t' + m * i ≡ s' + t + m * j
    → residue m x ≡ residue m y
residue_eq m x y {s} {t} {s'} {t'} i j h dx dy e =
    let ex = residue_is m x h dx in
    let ey = residue_is m y h dy in
    same_residue m (residue m x) (residue m y) (back m x + turns m y + i) (back m y + turns m x + j)
    (residue_lt m x h) (residue_lt m y h) (omega (arith, ex, ey, e))
