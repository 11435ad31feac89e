use Rattle.std.proofs.Common.{◌≡◌, ◌+◌, ◌<◌, sym, ◌∙◌, arith, rules}
use Rattle.position.specs.Places.{Lawful}
use Rattle.index.proofs.Walks.{falls, here_of, ahead_here, ahead_next}
use Rattle.index.proofs.LineIndexes.{counts_more, counts_end}
use Rattle.index.proofs.line.to_line_index.Goals as goal

pub returns-in_err-next : goal.returns-in_err-next
returns-in_err-next g c =
    let d = g.S.Source.doc c.args.s.now in
    let p = c.args.p in
    let on : c.loop-p.row.0 ≡ p.row.0 → ⊥ = search (rules, c.loop-p-test.ensures) in
    let misplaced : Lawful d p → ⊥ = λ l. ahead_next d.runs c.loop-p.row.0 p.row.0 p.index on c.loop-p.invariant.1.ahead (sym c.in_err-next.ensures.ok_part ∙ c.next.ensures) in
    search (rules, misplaced)

pub overflow_add-lines : goal.overflow_add-lines
overflow_add-lines g c =
    let s = c.args.s.now in
    let f = (g.S.Source.sound s).few in
    let r = c.loop-p.invariant.1.room in
    let v = c.line_ends-lines.ensures.small in
    let z : c.loop-p.lines + c.line_ends-lines.result < 18446744073709551616 = omega (arith, f, r, v) in
    record { fits = z }

pub loop-p-smaller : goal.loop-p-smaller
loop-p-smaller g c =
    let s = c.args.s.now in
    let d = g.S.Source.doc s in
    let p = c.args.p in
    let r = c.loop-p.row.0 in
    falls d.runs r (here_of d.runs r 0 (g.S.Source.sound s).runs (ahead_here d.runs r p.row.0 p.index c.loop-p.invariant.1.ahead)) c.in_ok-next.next (g.S.Source.sound s).listed (sym c.in_ok-next.ensures.ok_part ∙ c.next.ensures)

pub loop-p-preserved : goal.loop-p-preserved
loop-p-preserved g c =
    let s = c.args.s.now in
    let p = c.args.p in
    let v = c.line_ends-lines.ensures in
    (c.loop-p.invariant.0, counts_more (g.S.Source.doc s) (g.S.Source.sound s) p.row.0 p.index c.loop-p.row.0 c.loop-p.lines c.line_ends-lines.result c.loop-p.invariant.1 v.value c.in_ok-next.next v.small (search (rules, c.loop-p-test.ensures)) (sym c.in_ok-next.ensures.ok_part ∙ c.next.ensures))

pub returns : goal.returns
returns g c =
    let s = c.args.s.now in
    let p = c.args.p in
    (c.loop-p.invariant.0, counts_end (g.S.Source.doc s) (g.S.Source.sound s) p.row.0 p.index c.loop-p.row.0 c.loop-p.lines c.loop-p.invariant.1 (search (rules, c.loop-p-test.ensures)))
