-- `sheet::layout::put_line` meets its contract: the four bytes are those of row + 65536 * block.
-- Assumes nothing.
use Rattle.sheet.proofs.Over.{line_is}
use Rattle.sheet.proofs.layout.put_line.Goals as goal

pub returns : goal.returns
returns c =
    rw (line_is c.args.row c.args.block c.requires.0) at c.put.ensures
