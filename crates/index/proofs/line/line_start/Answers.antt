use Rattle.std.proofs.Common.{rules}
use Rattle.index.proofs.Walks.{falls, here_of}
use Rattle.index.proofs.LineIndexes.{finding_more, finding_none, finding_found}
use Rattle.index.proofs.line.line_start.Goals as goal

pub returns-in_err-next : goal.returns-in_err-next
returns-in_err-next g c =
    let s = c.args.s.now in
    let none = finding_none (g.S.Source.doc s) (g.S.Source.sound s) c.args.index c.loop-left.row.0 c.loop-left.left c.loop-left.invariant c.loop-left-test.true c.in_err-next.ensures in
    search (rules, none)

pub loop-left-smaller : goal.loop-left-smaller
loop-left-smaller g c =
    let s = c.args.s.now in
    let xs = (g.S.Source.doc s).runs in
    let r = c.loop-left.row.0 in
    falls xs r (here_of xs r 0 (g.S.Source.sound s).runs c.loop-left.invariant.within) c.in_ok-next.next (g.S.Source.sound s).listed c.in_ok-next.ensures

pub loop-left-preserved : goal.loop-left-preserved
loop-left-preserved g c =
    let s = c.args.s.now in
    let v = c.line_ends-left.ensures in
    finding_more (g.S.Source.doc s) (g.S.Source.sound s) c.args.index c.loop-left.row.0 c.loop-left.left c.loop-left.invariant c.line_ends-left.result c.in_ok-next.next c.loop-left-test.true v.small v.value c.in_ok-next.ensures

pub returns : goal.returns
returns g c =
    let s = c.args.s.now in
    finding_found (g.S.Source.doc s) (g.S.Source.sound s) c.args.index c.loop-left.row.0 c.loop-left.left c.loop-left.invariant c.loop-left-test.false
