-- `closing_line::put_number` meets its contract: what `io::decimal` writes is the number in decimal.
-- Assumes nothing.
use Rattle.closing_line.proofs.Places.{number_added}
use Rattle.closing_line.proofs.put_number.Goals as goal

pub returns : goal.returns
returns c =
    let e = c.decimal-count.ensures in
    let added = number_added c.args.x _ c.args.end _ c.ranges.x.fits e.len e.digits e.in_bounds.1 c.put_word.ensures in
    record { few = added.0; adds = added.1 }
