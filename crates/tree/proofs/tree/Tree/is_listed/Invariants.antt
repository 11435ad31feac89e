use Rattle.std.proofs.Common.{◌<◌, length}
use Rattle.tree.specs.Walk.{On, answers}
use Rattle.tree.proofs.tree.Tree.is_listed.Given as goal

abbrev pub invariant-loop-current : goal.invariant-loop-current
invariant-loop-current g l =
    (l.current.0 < length l.self.rows.now)
    × (On l.self.rows.now (answers (g.F.Filter.answer l.filter) l.self.rows.now) l.base.0 l.current.0 → On l.self.rows.now (answers (g.F.Filter.answer l.filter) l.self.rows.now) l.base.0 l.initial.current.0)
    × (On l.self.rows.now (answers (g.F.Filter.answer l.filter) l.self.rows.now) l.base.0 l.initial.current.0 → On l.self.rows.now (answers (g.F.Filter.answer l.filter) l.self.rows.now) l.base.0 l.current.0)

abbrev pub decreases-loop-current : goal.decreases-loop-current
decreases-loop-current g l = l.current.0
