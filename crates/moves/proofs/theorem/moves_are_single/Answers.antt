use Rattle.moves.proofs.Laws.{singles}
use Rattle.moves.proofs.theorem.moves_are_single.Goals as goal

pub returns : goal.returns
returns c = singles
