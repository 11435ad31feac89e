use Rattle.position.proofs.Laws.{laws}
use Rattle.position.proofs.theorem.positions_stand.Goals as goal

pub returns : goal.returns
returns c = laws
