use Rattle.std.proofs.Common.{not, nat_lt, rules, tests}
use Rattle.std.proofs.lemmas.Iterator.{YieldsList-from_slice, YieldsList-from_map}
use Rattle.std.proofs.lemmas.Iterator.Consumers.{YieldsList-at}
use Rattle.std.proofs.lemmas.Iterator.Search.{find_from_yields_List}
use Rattle.page.proofs.Slices.{first_find}
use Rattle.page.proofs.part.first_from.Goals as goal

pub returns : goal.returns
returns c =
    first_find c.args.index c.args.words.now c.find.result
    (find_from_yields_List (λ x. not (nat_lt x c.args.index)) _ _ _ c.find.ensures.ran (YieldsList-from_map _ (λ x. x) (YieldsList-at c.map.ensures.source (YieldsList-from_slice c.args.words.now cc)) c.map.ensures.closure (λ x r q k. search rules)) (λ x b q k. search (rules, tests)))
