-- `closing_line::put_refused` meets its contract: two words, one after the other.
-- Assumes nothing.
use Rattle.closing_line.specs.Line.{refused_line}
use Rattle.closing_line.proofs.Adding.{join, whole}
use Rattle.closing_line.proofs.put_refused.Goals as goal

pub returns : goal.returns
unfolding refused_line
returns c =
    let line = whole (join c.put_word-second.ensures c.put_number.ensures.adds) in
    record { counts = line.0; reads = line.1 }
