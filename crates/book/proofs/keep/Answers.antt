-- `book::keep` meets its contract: the number is written where the ticket's sum stands.
-- Assumes nothing.
use borrow.Author.Rules.{rules}
use Rattle.book.specs.Book as definition
use Rattle.book.proofs.keep.Goals as goal

pub returns : goal.returns
unfolding definition.keep
returns c = search rules
