use Rattle.rows.specs.Judge.{Sound}
use Rattle.rows.proofs.Tests.{granted}
use Rattle.rows.proofs.Judges.{one_more}
use Rattle.rows.proofs.node.Tables.verdict.Goals as goal

pub loop-id-preserved : goal.loop-id-preserved
loop-id-preserved c = one_more (Sound c.args.self.now) c.loop-id.id c.loop-id.invariant (granted c.sound.result c.sound.ensures c.if-not-sound.false)
