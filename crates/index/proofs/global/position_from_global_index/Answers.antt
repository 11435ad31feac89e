use Rattle.std.proofs.Common.{sym, refl, ◌∙◌, subst}
use Rattle.source.specs.Runs.{characters_in}
use Rattle.position.specs.Places.{at}
use Rattle.index.specs.Measured.{Holds, HeldIn}
use Rattle.index.proofs.Walks.{falls, here_of}
use Rattle.index.proofs.Indexes.{units_of}
use Rattle.index.proofs.Searches.{seeks_more, seeks_found, seeks_end, seeks_beyond, seeks_held}
use Rattle.index.proofs.global.position_from_global_index.Goals as goal

pub returns-then-left-units : goal.returns-then-left-units
returns-then-left-units g c =
    let s = c.args.s.now in
    let d = g.S.Source.doc s in
    subst (λ o. Holds g.M.Measure.units d c.args.index (at o c.loop-n.row.0 c.in_ok-index.index)) (sym c.root-root.ensures)
    (seeks_found g.M.Measure.units d (g.S.Source.sound s) c.args.index c.loop-n.row.0 c.loop-n.left c.in_ok-n.n c.in_ok-units.units c.loop-n.invariant (sym c.in_ok-n.ensures.ok_part ∙ c.character_count.ensures) (units_of g.M.Measure.units (g.S.Source.doc s) (g.S.Source.sound s) c.loop-n.row.0 c.in_ok-n.n c.in_ok-units.units c.character_count.result c.run_units.result c.in_ok-n.ensures.ok_part c.in_ok-units.ensures.ok_part c.character_count.ensures c.run_units.ensures) c.in_ok-index.index (subst (HeldIn g.M.Measure.units (characters_in (g.S.Source.doc s).runs c.loop-n.row.0) c.loop-n.left) c.in_ok-index.ensures.ok_part (c.held_in.ensures (sym c.in_ok-n.ensures.ok_part ∙ c.character_count.ensures))))

pub returns-in_err-index : goal.returns-in_err-index
returns-in_err-index g c =
    let s = c.args.s.now in
    absurd (seeks_held g.M.Measure.units (g.S.Source.doc s) (g.S.Source.sound s) c.args.index c.loop-n.row.0 c.loop-n.left c.in_ok-n.n c.in_ok-units.units c.loop-n.invariant (sym c.in_ok-n.ensures.ok_part ∙ c.character_count.ensures) (units_of g.M.Measure.units (g.S.Source.doc s) (g.S.Source.sound s) c.loop-n.row.0 c.in_ok-n.n c.in_ok-units.units c.character_count.result c.run_units.result c.in_ok-n.ensures.ok_part c.in_ok-units.ensures.ok_part c.character_count.ensures c.run_units.ensures) c.if-left-units.true (subst (HeldIn g.M.Measure.units (characters_in (g.S.Source.doc s).runs c.loop-n.row.0) c.loop-n.left) c.in_err-index.ensures.ok_part (c.held_in.ensures (sym c.in_ok-n.ensures.ok_part ∙ c.character_count.ensures))))

pub returns-then-left-units-2 : goal.returns-then-left-units-2
returns-then-left-units-2 g c =
    let s = c.args.s.now in
    let d = g.S.Source.doc s in
    subst (λ o. Holds g.M.Measure.units d c.args.index (at o c.loop-n.row.0 c.in_ok-n.n)) (sym c.root-root.ensures)
    (seeks_end g.M.Measure.units d (g.S.Source.sound s) c.args.index c.loop-n.row.0 c.loop-n.left c.in_ok-n.n c.in_ok-units.units c.loop-n.invariant (sym c.in_ok-n.ensures.ok_part ∙ c.character_count.ensures) (units_of g.M.Measure.units (g.S.Source.doc s) (g.S.Source.sound s) c.loop-n.row.0 c.in_ok-n.n c.in_ok-units.units c.character_count.result c.run_units.result c.in_ok-n.ensures.ok_part c.in_ok-units.ensures.ok_part c.character_count.ensures c.run_units.ensures) c.in_default.ensures c.if-left-units-2.true)

pub returns-else-left-units-2 : goal.returns-else-left-units-2
returns-else-left-units-2 g c =
    let s = c.args.s.now in
    let d = g.S.Source.doc s in
    (refl, seeks_beyond g.M.Measure.units d (g.S.Source.sound s) c.args.index c.loop-n.row.0 c.loop-n.left c.in_ok-n.n c.in_ok-units.units c.loop-n.invariant (sym c.in_ok-n.ensures.ok_part ∙ c.character_count.ensures) (units_of g.M.Measure.units (g.S.Source.doc s) (g.S.Source.sound s) c.loop-n.row.0 c.in_ok-n.n c.in_ok-units.units c.character_count.result c.run_units.result c.in_ok-n.ensures.ok_part c.in_ok-units.ensures.ok_part c.character_count.ensures c.run_units.ensures) c.in_default.ensures c.if-left-units.false c.if-left-units-2.false)

pub loop-n-smaller : goal.loop-n-smaller
loop-n-smaller g c =
    let s = c.args.s.now in
    let xs = (g.S.Source.doc s).runs in
    let r = c.loop-n.row.0 in
    falls xs r (here_of xs r 0 (g.S.Source.sound s).runs c.loop-n.invariant.within) c.in-Some.next (g.S.Source.sound s).listed c.in-Some.ensures

pub loop-n-preserved : goal.loop-n-preserved
loop-n-preserved g c =
    let s = c.args.s.now in
    seeks_more g.M.Measure.units (g.S.Source.doc s) (g.S.Source.sound s) c.args.index c.loop-n.row.0 c.loop-n.left c.in_ok-n.n c.in_ok-units.units c.loop-n.invariant (sym c.in_ok-n.ensures.ok_part ∙ c.character_count.ensures) (units_of g.M.Measure.units (g.S.Source.doc s) (g.S.Source.sound s) c.loop-n.row.0 c.in_ok-n.n c.in_ok-units.units c.character_count.result c.run_units.result c.in_ok-n.ensures.ok_part c.in_ok-units.ensures.ok_part c.character_count.ensures c.run_units.ensures) c.in-Some.next c.if-left-units.false c.in-Some.ensures
