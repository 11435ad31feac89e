use Rattle.std.proofs.Common.{nat_lt, rules, tests}
use Rattle.std.proofs.lemmas.Iterator.{YieldsList-from_map}
use Rattle.std.proofs.lemmas.Iterator.Adapters.{YieldsList-from_rev_slice}
use Rattle.std.proofs.lemmas.Iterator.Consumers.{YieldsList-at}
use Rattle.std.proofs.lemmas.Iterator.Search.{find_from_yields_List}
use Rattle.page.proofs.Slices.{last_find}
use Rattle.page.proofs.part.last_before.Goals as goal

pub returns : goal.returns
returns c =
    last_find c.args.index c.args.words.now c.find.result
    (find_from_yields_List (λ x. nat_lt x c.args.index) _ _ _ c.find.ensures.ran (YieldsList-from_map _ (λ x. x) (YieldsList-at c.map.ensures.source (YieldsList-from_rev_slice c.args.words.now cc)) c.map.ensures.closure (λ x r q k. search rules)) (λ x b q k. search (rules, tests)))
