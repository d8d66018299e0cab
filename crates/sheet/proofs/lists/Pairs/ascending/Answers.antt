-- `sheet::lists::Pairs::ascending` meets its contract: each pair is compared with the one before it.
-- Assumes nothing.
use Rattle.std.proofs.Common.{refl, ◌∙◌, rules}
use borrow.Author.Tests.{tests}
use Rattle.std.proofs.lemmas.Iterator.{YieldsList-from_range}
use Rattle.std.proofs.lemmas.Iterator.Search.{all_from_yields_List}
use Rattle.sheet.proofs.Each.{pairs_neighbours}
use Rattle.sheet.proofs.lists.Pairs.ascending.Goals as goal

pub returns : goal.returns
returns c = λ F p C.
    all_from_yields_List _ _ _ c.all.result c.all.ensures.ran (YieldsList-from_range 1 _ _ refl refl) (λ x b q k. search (rules, tests))
    ∙ pairs_neighbours F p C _ _ c.args.self.now.even
