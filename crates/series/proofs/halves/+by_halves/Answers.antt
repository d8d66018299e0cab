-- `series::halves::by_halves` meets its contract: the sums of the two parts make that of the whole.
-- Assumes nothing.
use Rattle.std.proofs.Common.{◌≡◌, ℕ, ◌+◌, ◌-◌, ◌/◌, ◌%◌, ◌∙◌, ap, ap₂}
use Rattle.series.specs.Series.{modulus}
use Rattle.series.specs.Results.{SumOf}
use Rattle.series.specs.declared.workable.Terms.{Terms}
use Rattle.series.proofs.ByHalves.{halved}
use Rattle.series.proofs.RangeSquarings.{halved_count}
use Rattle.series.proofs.halves.+by_halves.Goals as goal
use Rattle.series.proofs.halves.+by_halves.Goals.{then-half-lt2, else-half-lt2, then-rest-lt2, else-rest-lt2}

pub returns : goal.returns
returns t c =
    let terms = c.args.store.now.terms in
    let half = c.args.count / 2 in
    let lower : (c.if-half-lt2.store.terms ≡ terms) × SumOf terms.numbers c.args.first half c.if-half-lt2.lower =
    elim c.if-half-lt2.branch [
      | then-half-lt2 w ↦ rw (w.store-is, w.lower-is) w.one_or_none-lower.ensures
      | else-half-lt2 w ↦ rw (w.store-is, w.lower-is) w.by_halves-lower.ensures
    ] in
    let same = ap (λ (t : Terms). t.numbers) lower.0 in
    let upper : (c.if-rest-lt2.store.terms ≡ c.if-half-lt2.store.terms) × SumOf c.if-half-lt2.store.terms.numbers (c.args.first + half) (c.args.count - half) c.if-rest-lt2.upper =
    elim c.if-rest-lt2.branch [
      | then-rest-lt2 w ↦ rw (w.store-is, w.upper-is) w.one_or_none-upper.ensures
      | else-rest-lt2 w ↦ rw (w.store-is, w.upper-is) w.by_halves-upper.ensures
    ] in (
      upper.0 ∙ lower.0,
      λ F p r h.
          let l = lower.1 F p r h in
          let u = upper.1 F p r (same ∙ h) in (
            c.add.ensures ∙ ap₂ (λ (x y : ℕ). (x + y) % modulus) l.0 u.0 ∙ halved F p r _ _,
            c.add-2.ensures ∙ ap₂ (λ (x y : ℕ). (x + y) % modulus) l.1 u.1 ∙ halved_count F p r _ _,
          ),
    )
