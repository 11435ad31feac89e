use Rattle.index.proofs.Laws.{singles}
use Rattle.index.proofs.theorem.indexes_stand.Goals as goal

pub returns : goal.returns
returns c = singles
