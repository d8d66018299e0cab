-- `book::kept` meets its contract: the number is read where the ticket's sum stands.
-- Assumes nothing.
use Rattle.book.specs.Book.{kept_in}
use Rattle.book.proofs.kept.Goals as goal

pub returns : goal.returns
unfolding kept_in
returns c = c.get_wide.ensures
