-- The squarings of a range of terms, by bit lengths: where E - 64 lies between two powers of two that follow one another, the terms are a
-- range, and each takes the same number of squarings. The range is cut at these places, from the least power to the greatest.
-- Assumes nothing.
use Rattle.std.proofs.Common.{◌≡◌, ℕ, zero, suc, ◌+◌, ◌-◌, ◌*◌, ◌/◌, ◌^◌, ◌<◌, ◌≤◌, min, max, Bool, true, false, cond, leb, sym, refl, ap, ◌∙◌, ap₂, le_refl, mod-lt, mul-le-mul_left, pow-suc, div-add-mod', zero-mul, add-one, arith, pow_pos, pow_mono, le-leb, leb-false, leb-true}
use Rattle.std.proofs.lemmas.Grind.{common_steps}
use Rattle.algebra.specs.Bits.{bit_length}
use Rattle.algebra.specs.Sum.{sum}
use Rattle.algebra.proofs.Bits.{length_is}
use Rattle.algebra.proofs.Sums.{sum_same, sum_split}
use Rattle.series.specs.Series.{Formula, Row, rise, fall}
use Rattle.series.specs.Squarings.{squarings, range_squarings, reaching, cut_at, of_length, by_lengths, Short, SquaringsAgree}
use Rattle.series.proofs.RangeSquarings.{none, at_most}

module _ (F : Formula) (p : ℕ) (r : Row) where
  some : (k b : ℕ) → 6 ≤ b → fall F k + (64 + 2 ^ b) ≤ rise p r → rise p r < fall F k + (64 + 2 ^ (b + 1)) → squarings F p r k ≡ b
  unfolding squarings
  some k b h l u =
      let big : 64 ≤ 2 ^ b = pow_mono {i = 6} h in
      let is : bit_length (rise p r - fall F k - 64) ≡ b + 1 = length_is _ b (omega arith) (omega arith) in
      let at_least : leb (fall F k + 128) (rise p r) ≡ true = le-leb (fall F k + 128) (rise p r) (omega arith) in
      rw (at_least, is) (omega arith)

  -- ---- the terms with an E of at least `least`

  module _ (s : 0 < F.step) (least k : ℕ) where
    reached : k < reaching F p r least → fall F k + least ≤ rise p r
    unfolding reaching
    reached = grind (arith, common_steps)

    unreached : reaching F p r least ≤ k → rise p r < fall F k + least
    unfolding reaching
    unreached = go (leb least (rise p r)) refl
      where
        go : (t : Bool) → leb least (rise p r) ≡ t → cond t ((rise p r - least) / F.step + 1) 0 ≤ k → rise p r < fall F k + least
        go true e l =
            omega (arith, mul-le-mul_left F.step l, div-add-mod' (rise p r - least) F.step, mod-lt (rise p r - least) s)
        go false e l = omega (arith, leb-false least (rise p r) e)

  -- ---- a range of terms

  module _ (s : 0 < F.step) (first end : ℕ) (o : first ≤ end) where
    abbrev cut : ℕ → ℕ
    cut = cut_at F p r first end

    abbrev limit : ℕ → ℕ
    limit b = reaching F p r (64 + 2 ^ b)

    inside : (b : ℕ) → (first ≤ cut b) × (cut b ≤ end)
    unfolding cut_at
    inside b = (omega arith, omega arith)

    above : (b k : ℕ) → k < cut b → first ≤ k → k < limit b
    unfolding cut_at
    above b k l h = omega arith

    below : (b k : ℕ) → cut b ≤ k → k < end → limit b ≤ k
    unfolding cut_at
    below b k l h = omega arith

    -- the places fall
    pub falling : (b : ℕ) → cut (b + 1) ≤ cut b
    unfolding cut_at
    falling b = go (leb (limit (b + 1)) (limit b)) refl
      where
        go : (t : Bool) → leb (limit (b + 1)) (limit b) ≡ t → min (max first (limit (b + 1))) end ≤ min (max first (limit b)) end
        go true e = omega (arith, leb-true (limit (b + 1)) (limit b) e)
        go false e =
            let l = reached s (64 + 2 ^ (b + 1)) (limit b) (leb-false (limit (b + 1)) (limit b) e) in
            let u = unreached s (64 + 2 ^ b) (limit b) (le_refl _) in
            let twice : 2 ^ (b + 1) ≡ 2 ^ b * 2 = ap (λ (n : ℕ). 2 ^ n) (add-one b) ∙ pow-suc 2 b in
            absurd (omega (arith, l, u, twice, pow_pos b))

    -- the terms between two of them
    between : (b : ℕ) → 6 ≤ b → sum (squarings F p r) (cut (b + 1)) (of_length F p r first end b) ≡ b * of_length F p r first end b
    unfolding of_length
    between b h =
        sum_same (squarings F p r) b (cut (b + 1)) (cut b - cut (b + 1))
        (λ k l u. let f = falling b in
        some k b h
        (reached s (64 + 2 ^ b) k (above b k (omega (arith, u, f)) (omega (arith, l, (inside (b + 1)).0))))
        (unreached s (64 + 2 ^ (b + 1)) k (below (b + 1) k l (omega (arith, u, f, (inside b).1)))))

    lengths : (b : ℕ) → end - cut (b + 1) ≡ of_length F p r first end b + (end - cut b)
    unfolding of_length
    lengths b = omega (arith, falling b, (inside b).1)

    place : (b : ℕ) → cut (b + 1) + of_length F p r first end b ≡ cut b
    unfolding of_length
    place b = omega (arith, falling b)

    -- all from the place of 2 ^ b on
    from : (c : ℕ) → sum (squarings F p r) (cut (6 + c)) (end - cut (6 + c)) ≡ sum (λ b. b * of_length F p r first end b) 6 c
    unfolding sum
    from zero =
        sum_same (squarings F p r) 0 (cut 6) (end - cut 6)
        (λ k l u. none F p r k (unreached s (64 + 2 ^ 6) k (below 6 k l (omega (arith, u, (inside 6).1)))))
        ∙ zero-mul (end - cut 6)
    from (suc c) =
        let b = 6 + c in
        let n = of_length F p r first end b in
        let split : end - cut (b + 1) ≡ n + (end - cut b) = lengths b in
        let at : cut (b + 1) + n ≡ cut b = place b in
        let next : 6 + suc c ≡ b + 1 = omega arith in
        ap (λ (i : ℕ). sum (squarings F p r) (cut i) (end - cut i)) next
        ∙ ap (sum (squarings F p r) (cut (b + 1))) split
        ∙ sum_split (squarings F p r) (cut (b + 1)) n (end - cut b)
        ∙ ap₂ ◌+◌ (between b (omega arith)) (ap (λ (i : ℕ). sum (squarings F p r) i (end - cut b)) at ∙ from c)
        ∙ omega arith

    start : Short p r → cut 63 ≡ first
    unfolding cut_at reaching
    start h = grind (arith, common_steps)

    pub by_lengths_lem : Short p r → by_lengths F p r first end ≡ range_squarings F p r first (end - first)
    unfolding by_lengths range_squarings
    by_lengths_lem h = sym (from 57) ∙ ap (λ (i : ℕ). sum (squarings F p r) i (end - i)) (start h)

pub squarings_agree : SquaringsAgree
squarings_agree F p r s h = record { by_lengths = λ first end o. by_lengths_lem F p r s first end o h; at_most = at_most F p r h }
