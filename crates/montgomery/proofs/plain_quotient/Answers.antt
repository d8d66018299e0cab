-- `montgomery::plain_quotient` meets its contract: q and r are the quotient and the remainder of 2^counter.
-- Assumes nothing.
use Rattle.std.proofs.Common.{◌≡◌, ℕ, ◌+◌, ◌-◌, ◌*◌, ◌/◌, ◌%◌, ◌^◌, ◌<◌, ◌≤◌, sym, ap, ◌∙◌, mod-lt, pow-suc, div-add-mod', add-one, arith}
use lib.Arith.{digits_div, digits_mod}
use Rattle.words.specs.Words.{joined}
use Rattle.words.specs.declared.Wide.{Wide}
use Rattle.algebra.proofs.Cong.{Mod, to-%, wrapped, refl_mod, of_eq, trans, plus}
use Rattle.montgomery.proofs.plain_quotient.Goals.{else-n-r, then-n-r}
use Rattle.montgomery.proofs.plain_quotient.Goals as goal

-- a turn: d is what is left of twice the remainder, and b the next bit of the quotient
module _ (M n i q r b d : ℕ) (h : d < n) (s : d + b * n ≡ r + r) (r-is : r ≡ 2 ^ i % n) (q-is : q ≡ 2 ^ i / n % M) where
  whole : (2 ^ i / n + 2 ^ i / n + b) * n + d ≡ 2 ^ (i + 1)
  whole = rw (add-one i, pow-suc 2 i) (omega (arith, div-add-mod' (2 ^ i) n))

  remainder : d ≡ 2 ^ (i + 1) % n
  remainder = sym (digits_mod (2 ^ i / n + 2 ^ i / n + b) h) ∙ ap (λ x. x % n) whole

  quotient : (x y : ℕ) → y ≡ x % M → Mod M x (q + q + b) → y ≡ 2 ^ (i + 1) / n % M
  quotient x y e p =
      let same : 2 ^ (i + 1) / n ≡ 2 ^ i / n + 2 ^ i / n + b = ap (λ t. t / n) (sym whole) ∙ digits_div (2 ^ i / n + 2 ^ i / n + b) h in
      rw same (e ∙ to-% (trans p (plus (plus (wrapped M q-is) (wrapped M q-is)) (refl_mod b))))

module _ (M n i q r q₁ : ℕ) (l : r < n) (r-is : r ≡ 2 ^ i % n) (q-is : q ≡ 2 ^ i / n % M) (e : q₁ ≡ (q + q) % M) where
  clear : r + r < n → (r + r ≡ 2 ^ (i + 1) % n) × (q₁ ≡ 2 ^ (i + 1) / n % M)
  clear h = (
    remainder M n i q r 0 (r + r) h (omega arith) r-is q-is,
    quotient M n i q r 0 (r + r) h (omega arith) r-is q-is (q + q) q₁ e (of_eq (omega arith)),
  )

  set : (q₂ one : ℕ) → one ≡ 1 → n ≤ r + r → q₂ ≡ (q₁ + one) % M → (r + r - n ≡ 2 ^ (i + 1) % n) × (q₂ ≡ 2 ^ (i + 1) / n % M)
  set q₂ one o h f =
      let d = r + r - n in
      let s : d + 1 * n ≡ r + r = omega arith in (
        remainder M n i q r 1 d (omega arith) s r-is q-is,
        quotient M n i q r 1 d (omega arith) s r-is q-is (q₁ + one) q₂ f (plus (wrapped M e) (of_eq o)),
      )

small : (n i r : ℕ) → 0 < n → n < 2 ^ 63 → r ≡ 2 ^ i % n → (r < n) × (r + r < 2 ^ 64)
small n i r h l e = let m : r < n = rw e (mod-lt (2 ^ i) h) in (m, omega arith)

pub loop-preserved : goal.loop-preserved
loop-preserved c =
    let l = (small _ _ _ c.requires.0 c.requires.1 c.loop.invariant.0).0 in
    (elim c.if-n-r.branch [
      | then-n-r w ↦ let r = set (2 ^ 128) _ c.loop.counter _ _ _ l c.loop.invariant.0 c.loop.invariant.1 c.add-q.ensures _ _ w.from.ensures w.if-n-r.true w.add-q-then-n-r.ensures in
          (w.r-is ∙ r.0, ap (λ (z : Wide). joined z.hi z.lo) w.q-is ∙ r.1)
      | else-n-r w ↦ let r = clear (2 ^ 128) _ c.loop.counter _ _ _ l c.loop.invariant.0 c.loop.invariant.1 c.add-q.ensures w.if-n-r.false in
          (w.r-is ∙ r.0, ap (λ (z : Wide). joined z.hi z.lo) w.q-is ∙ r.1)
    ])
