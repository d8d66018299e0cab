-- The part of two strings: where it lies, what it holds, and what becomes of it where the strings are swapped or equal.
-- Assumes nothing.
use mathlib.Core.Path.{◌≡◌, refl, sym, ap, ◌∙◌}
use mathlib.Core.Bool.{Bool, true, false, not, cond}
use mathlib.Core.List.{List, []}
use mathlib.Core.Logic.{◌⊎◌, inl, inr, ⊎_elim}
use Prim.Native.Nat.{ℕ, ◌+◌, ◌-◌, ◌<◌, ◌≤◌}
use native.Mathlib.Omega.{arith}
use borrow.Author.Tests.{ltb-true, ltb-false, lt-ltb, le-ltb, eqb-true, eqb-false, eq-eqb, ne_eqb}
use lib.Dec.{ltb, eqb}
use lib.ListN.{length, get_or, drop, length-drop}
use lib.Seq.{drop-length, get_or-drop, ext_get_or}
use Rattle.run.specs.Refusal.{refusal}
use Rattle.run.specs.Call.{refused_by}
use Rattle.overlap.specs.Strings.{Laid, laid, end, digit_at, in_form, later, first_shared, second_further, further, skipped, stretch}
use Rattle.overlap.specs.Calls.{overlap_tests, overlap_call, Place, place, part_place, digits_of, part_of}
use Rattle.overlap.specs.Overlaps.{refused_with, Shared, Handed, Swapped, OverItself}
use Rattle.overlap.proofs.Strings.{Later, is_later, held, holds_at, short, first_shared_lem, numbers}

-- ---- the string that reaches further

pub record Further (a b s : Laid) : Type 0 where
  pub starts : s.from ≤ first_shared a b
  pub left : end a ≤ end s
  pub right : end b ≤ end s
  pub one : (s ≡ a) ⊎ (s ≡ b)

pub is_further : (a b : Laid) → Further a b (further a b)
unfolding further
is_further a b = go (ltb (end a) (end b)) refl (is_later a.from b.from)
  where
    go : (t : Bool) → ltb (end a) (end b) ≡ t → Later a.from b.from (first_shared a b) → Further a b (cond t b a)
    go true e l = let h = ltb-true (end a) (end b) e in record { starts = l.right; left = omega arith; right = omega arith; one = inr refl }
    go false e l = let h = ltb-false (end a) (end b) e in record { starts = l.left; left = omega arith; right = omega arith; one = inl refl }

-- ---- the place

module _ (a b : Laid) where
  pub place_taken : refused_with a b ≡ 0 → part_place a b ≡ place (second_further a b) (skipped a b)
  unfolding part_place overlap_call refused_by
  place_taken e = rw (eq-eqb (refusal (overlap_tests a b)) 0 e) refl

  pub place_refused : (refused_with a b ≡ 0 → ⊥) → part_place a b ≡ place false (length a.digits)
  unfolding part_place overlap_call refused_by
  place_refused f = rw (ne_eqb (refusal (overlap_tests a b)) 0 f) refl

  pub part_taken : refused_with a b ≡ 0 → part_of a b ≡ stretch a b
  unfolding stretch further
  part_taken e = ap (digits_of a b) (place_taken e) ∙ go (second_further a b)
    where
      go : (t : Bool) → drop (skipped a b) (cond t b.digits a.digits) ≡ drop (skipped a b) (cond t b a).digits
      go true = refl
      go false = refl

  part_refused : (refused_with a b ≡ 0 → ⊥) → part_of a b ≡ []
  part_refused f = ap (digits_of a b) (place_refused f) ∙ drop-length a.digits

  module _ (e : refused_with a b ≡ 0) where
    pub there : Shared a b (first_shared a b)
    there =
        let n = ((numbers a b).none.0 e).1 in
        let l = is_later a.from b.from in
        let f = first_shared_lem a b n.0 n.1 in
        let x = held a n.0 n.1.0 in
        let y = held b n.0 n.1.1 in
        (holds_at a _ l.left (omega (arith, x, f)), holds_at b _ l.right (omega (arith, y, f)))

    -- its length, without a difference
    part_length : first_shared a b + length (part_of a b) ≡ end (further a b)
    unfolding skipped stretch
    part_length =
        let w = is_further a b in
        let starts = w.starts in
        let left = w.left in
        let x = held a _ there.0 in
        let long = ap length (part_taken e) ∙ length-drop (skipped a b) (further a b).digits in
        omega (arith, long, x)

    part_digit : (n : ℕ) → first_shared a b ≤ n → digit_at (laid (part_of a b) (first_shared a b)) n ≡ digit_at (further a b) n
    unfolding digit_at skipped stretch
    part_digit n h =
        let starts = (is_further a b).starts in
        let at : skipped a b + (n - first_shared a b) ≡ n - (further a b).from = omega arith in
        ap (λ (l : List ℕ). get_or l (n - first_shared a b) 0) (part_taken e)
        ∙ get_or-drop (skipped a b) (further a b).digits (n - first_shared a b) 0
        ∙ ap (λ (i : ℕ). get_or (further a b).digits i 0) at

    of_both : (n : ℕ) → Shared a b n
        → (digit_at (laid (part_of a b) (first_shared a b)) n ≡ digit_at a n) × (digit_at (laid (part_of a b) (first_shared a b)) n ≡ digit_at b n)
    of_both n h =
        let same = ((numbers a b).none.0 e).2 n h in
        let part = part_digit n (first_shared_lem a b n h) in
        ⊎_elim
        (λ q. let own = part ∙ ap (λ (s : Laid). digit_at s n) q in (own, own ∙ same))
        (λ q. let own = part ∙ ap (λ (s : Laid). digit_at s n) q in (own ∙ sym same, own))
        (is_further a b).one

  pub handed : Handed a b
  handed = record {
    empty = (λ q e. let l = part_length e in let x = held a _ (there e).0 in let w = (is_further a b).left in let z = ap length q in omega (arith, l, x, w, z), part_refused);
    part = part_taken;
    held = there;
    first = first_shared_lem a b;
    to_the_end = part_length;
    furthest = ((is_further a b).left, (is_further a b).right);
    of_its_string = part_digit;
    of_both = of_both;
  }

-- ---- swapped

strict : (m n : ℕ) → n ≤ m → (m ≡ n → ⊥) → n < m
strict m n h f = go (ltb n m) refl
  where
    go : (t : Bool) → ltb n m ≡ t → n < m
    go true e = ltb-true n m e
    go false e = let l = ltb-false n m e in absurd (f (omega arith))

later_swap : (m n : ℕ) → later n m ≡ later m n
later_swap m n =
    let x = is_later m n in
    let y = is_later n m in
    let xl = x.left in
    let xr = x.right in
    let yl = y.left in
    let yr = y.right in
    ⊎_elim (λ e. ⊎_elim (λ f. omega arith) (λ f. omega arith) y.one) (λ e. ⊎_elim (λ f. omega arith) (λ f. omega arith) y.one) x.one

module _ (a b : Laid) where
  swap_number : refused_with b a ≡ refused_with a b
  swap_number =
      let x = numbers a b in
      let y = numbers b a in
      ⊎_elim
      (λ e. let h = x.none.0 e in y.none.1 ((h.0.1, h.0.0), (h.1.0, (h.1.1.1, h.1.1.0)), λ n t. sym (h.2 n (t.1, t.0))) ∙ sym e)
      (⊎_elim
      (λ e. let h = x.ten.0 e in y.ten.1 (λ f. h (f.1, f.0)) ∙ sym e)
      (⊎_elim
      (λ e. let h = x.eleven.0 e in y.eleven.1 ((h.0.1, h.0.0), λ n t. h.1 n (t.1, t.0)) ∙ sym e)
      (λ e. let h = x.twelve.0 e in y.twelve.1 ((h.0.1, h.0.0), (h.1.0, (h.1.1.1, h.1.1.0), λ q. h.1.2 (sym q))) ∙ sym e)))
      x.no_other

  -- where one reaches further it does so from either side
  module _ (apart : end a ≡ end b → ⊥) where
    other_side : second_further b a ≡ not (second_further a b)
    other_side = go (ltb (end a) (end b)) refl
      where
        go : (t : Bool) → ltb (end a) (end b) ≡ t → ltb (end b) (end a) ≡ not t
        go true e = let h = ltb-true (end a) (end b) e in le-ltb (end b) (end a) (omega arith)
        go false e = lt-ltb _ _ (strict _ _ (ltb-false _ _ e) apart)

    same_further : further b a ≡ further a b
    unfolding further
    same_further = ap (λ (t : Bool). cond t a b) other_side ∙ go (second_further a b)
      where
        go : (t : Bool) → cond (not t) a b ≡ cond t b a
        go true = refl
        go false = refl

    same_skipped : skipped b a ≡ skipped a b
    unfolding skipped
    same_skipped = rw (same_further, later_swap a.from b.from) refl

    same_stretch : stretch b a ≡ stretch a b
    unfolding stretch
    same_stretch = rw (same_skipped, same_further) refl

  -- where both end together the digits of the two parts are at the same positions, which both strings hold
  at_index : (ds : List ℕ) (m i : ℕ) → m ≡ first_shared a b → digit_at (laid ds m) (first_shared a b + i) ≡ get_or ds i 0
  unfolding digit_at
  at_index ds m i t = ap (λ (j : ℕ). get_or ds j 0) (omega (arith, t))

  together : end a ≡ end b → refused_with a b ≡ 0 → part_of b a ≡ part_of a b
  together q e =
      let f = swap_number ∙ e in
      let la = part_length a b e in
      let lb = part_length b a f in
      let wa = is_further a b in
      let wb = is_further b a in
      let s = later_swap a.from b.from in
      let ea : end (further a b) ≡ end a = ⊎_elim (λ t. ap end t) (λ t. ap end t ∙ sym q) wa.one in
      let eb : end (further b a) ≡ end a = ⊎_elim (λ t. ap end t ∙ sym q) (λ t. ap end t) wb.one in
      let same : length (part_of b a) ≡ length (part_of a b) = omega arith in
      ext_get_or 0 (part_of b a) (part_of a b) same (λ i h. digit i (omega (arith, h, la, ea)))
    where
      digit : (i : ℕ) → first_shared a b + i < end a → get_or (part_of b a) i 0 ≡ get_or (part_of a b) i 0
      digit i h =
          let n = first_shared a b + i in
          let l = is_later a.from b.from in
          let both : Shared a b n = (holds_at a n (omega (arith, l.left)) h, holds_at b n (omega (arith, l.right)) (omega (arith, h, q))) in
          sym (at_index (part_of b a) (first_shared b a) i (later_swap a.from b.from)) ∙ (of_both b a (swap_number ∙ e) n (both.1, both.0)).1
          ∙ sym (of_both a b e n both).0 ∙ at_index (part_of a b) (first_shared a b) i refl

  swap_digits : part_of b a ≡ part_of a b
  swap_digits = go (eqb (refused_with a b) 0) refl
    where
      taken : refused_with a b ≡ 0 → (t : Bool) → eqb (end a) (end b) ≡ t → part_of b a ≡ part_of a b
      taken e true q = together (eqb-true _ _ q) e
      taken e false q = part_taken b a (swap_number ∙ e) ∙ same_stretch (eqb-false _ _ q) ∙ sym (part_taken a b e)

      go : (t : Bool) → eqb (refused_with a b) 0 ≡ t → part_of b a ≡ part_of a b
      go true e = taken (eqb-true _ _ e) (eqb (end a) (end b)) refl
      go false e = part_refused b a (λ z. eqb-false _ _ e (sym swap_number ∙ z)) ∙ sym (part_refused a b (eqb-false _ _ e))

  none_further : end a ≡ end b → (part_place a b).second ≡ false
  none_further q = go (eqb (refused_with a b) 0) refl
    where
      go : (t : Bool) → eqb (refused_with a b) 0 ≡ t → (part_place a b).second ≡ false
      go true e = ap (λ (w : Place). w.second) (place_taken a b (eqb-true _ _ e)) ∙ le-ltb (end a) (end b) (omega (arith, q))
      go false e = ap (λ (w : Place). w.second) (place_refused a b (eqb-false _ _ e))

  pub swapped : Swapped a b
  swapped = record {
    same_number = swap_number;
    same_digits = swap_digits;
    same_string = λ e apart.
        let here = place_taken a b e in
        place_taken b a (swap_number ∙ e) ∙ rw (other_side apart, same_skipped apart) refl
        ∙ ap (λ (w : Place). place (not w.second) w.at) (sym here);
    ending_together = none_further;
  }

-- ---- a string over itself

pub over_itself : (a : Laid) → in_form a ≡ true → OverItself a
unfolding skipped further later
over_itself a f = record {
  taken = taken;
  whole = whole;
  digits = ap (digits_of a a) whole;
}
  where
    taken : refused_with a a ≡ 0
    taken =
        let some = (short a f).some in
        let there = holds_at a a.from (omega arith) (omega arith) in
        (numbers a a).none.1 ((f, f), (a.from, (there, there)), λ n h. refl)

    whole : part_place a a ≡ place false 0
    whole =
        place_taken a a taken
        ∙ rw (le-ltb (end a) (end a) (omega arith), le-ltb a.from a.from (omega arith)) (ap (place false) (omega arith))
