-- `sheet::lists::Pairs::all_tickets` meets its contract: each pair is tested.
-- Assumes nothing.
use Rattle.std.proofs.Common.{refl, sym, ◌∙◌, rules}
use borrow.Author.Tests.{tests}
use Rattle.std.proofs.lemmas.Iterator.{YieldsList-from_range}
use Rattle.std.proofs.lemmas.Iterator.Search.{all_from_yields_List}
use Rattle.sheet.proofs.Each.{all_in, tickets_listed}
use Rattle.sheet.proofs.lists.Pairs.all_tickets.Goals as goal

pub returns : goal.returns
returns c = λ p.
    all_from_yields_List _ _ _ c.all.result c.all.ensures.ran (YieldsList-from_range 0 _ _ refl refl) (λ x b q k. search (rules, tests))
    ∙ all_in _ _ ∙ sym (tickets_listed _ p _ _ _ c.args.self.now.even _)
