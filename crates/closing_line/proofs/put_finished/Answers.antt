-- `closing_line::put_finished` meets its contract: three words, one after another.
-- Assumes nothing.
use Rattle.closing_line.specs.Line.{finished_line}
use Rattle.closing_line.proofs.Adding.{join, whole}
use Rattle.closing_line.proofs.put_finished.Goals as goal

pub returns : goal.returns
unfolding finished_line
returns c =
    let line = whole (join (join c.put_number-second.ensures.adds c.put_number-third.ensures.adds) c.put_word.ensures) in
    record { counts = line.0; reads = line.1 }
