-- `series::store::Store::size_of` meets its contract: the term is held, or it is the first that the filled store holds.
-- Assumes nothing.
use Rattle.std.proofs.Common.{◌≡◌, ◌+◌, ◌<◌, refl, ap, arith}
use Rattle.series.specs.declared.workable.Terms.{Terms}
use Rattle.series.proofs.Stores.{held_at}
use Rattle.series.proofs.store.Store.size_of.Goals as goal
use Rattle.series.proofs.store.Store.size_of.Goals.{then-self-place, else-self-place}

-- where the difference is a place that is held, it did not wrap, as the terms are before 2 ^ 63
pub returns : goal.returns
returns c =
    let old = c.args.self.now in
    let end_fits = old.terms.workable.end_fits in
    let within = old.within in
    let s = c.if-self-place.self in
    let place = c.if-self-place.place in
    let found : (s.terms ≡ old.terms) × (s.first + place ≡ c.args.k) × (place < s.held) =
    elim c.if-self-place.branch [
      | then-self-place w ↦ rw (w.self-is, w.place-is) (w.fill.ensures.0, omega arith, w.fill.ensures.2)
      | else-self-place w ↦ rw (w.self-is, w.place-is) (refl, omega arith, omega arith)
    ] in
    (found.0, held_at _ _ _ _ _ _ _ s.each (ap (λ (t : Terms). t.numbers) found.0) found.1 found.2)
