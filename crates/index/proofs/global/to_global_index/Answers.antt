use Rattle.std.proofs.Common.{◌≡◌, Some, None, sym, ◌∙◌, subst, rules}
use Rattle.source.specs.Runs.{characters_in, count_in, next_in}
use Rattle.source.specs.Pieces.{Within}
use Rattle.position.specs.Places.{Lawful}
use Rattle.index.specs.Measured.{RunUnits}
use Rattle.index.proofs.Sums.{sum_all}
use Rattle.index.proofs.Walks.{falls, here_of, ahead_here, ahead_next}
use Rattle.index.proofs.Indexes.{toward_fits, toward_more, toward_end, toward_last, front_units, units_of, index_is}
use Rattle.index.proofs.global.to_global_index.Given as given
use Rattle.index.proofs.global.to_global_index.Goals as goal

pub returns-in_err-n : goal.returns-in_err-n
returns-in_err-n g c =
    let d = g.S.Source.doc c.args.s.now in
    let p = c.args.p in
    let none : None ≡ count_in d.runs c.loop-row.row.0 = sym c.in_err-n.ensures.ok_part ∙ c.character_count.ensures in
    let misplaced : Lawful d p → ⊥ = λ l. subst (Within 0) (sym none) (ahead_here d.runs c.loop-row.row.0 p.row.0 p.index c.loop-row.invariant.1.ahead) in
    search (rules, misplaced)

passed : (g : given.Over) (c : goal.In_ok-next g) → (c.loop-row.row.0 ≡ c.args.p.row.0 → ⊥)
passed g c = search (rules, c.loop-row-test.ensures)

counted : (g : given.Over) (c : goal.In_ok-next g) → Some c.in_ok-n.n ≡ count_in (g.S.Source.doc c.args.s.now).runs c.loop-row.row.0
counted g c = sym c.in_ok-n.ensures.ok_part ∙ c.character_count.ensures

followed : (g : given.Over) (c : goal.In_ok-next g) → Some c.in_ok-next.next ≡ next_in (g.S.Source.doc c.args.s.now).runs c.loop-row.row.0
followed g c = sym c.in_ok-next.ensures.ok_part ∙ c.next.ensures

whole : (g : given.Over) (c : goal.In_ok-next g) → c.in_ok-units.units ≡ sum_all g.M.Measure.units (characters_in (g.S.Source.doc c.args.s.now).runs c.loop-row.row.0)
whole g c =
    let s = c.args.s.now in
    units_of g.M.Measure.units (g.S.Source.doc s) (g.S.Source.sound s) c.loop-row.row.0 c.in_ok-n.n c.in_ok-units.units c.character_count.result c.run_units.result c.in_ok-n.ensures.ok_part c.in_ok-units.ensures.ok_part c.character_count.ensures c.run_units.ensures

pub returns-in_err-next : goal.returns-in_err-next
returns-in_err-next g c =
    let d = g.S.Source.doc c.args.s.now in
    let p = c.args.p in
    let on : c.loop-row.row.0 ≡ p.row.0 → ⊥ = search (rules, c.loop-row-test.ensures) in
    let misplaced : Lawful d p → ⊥ = λ l. ahead_next d.runs c.loop-row.row.0 p.row.0 p.index on c.loop-row.invariant.1.ahead (sym c.in_err-next.ensures.ok_part ∙ c.next.ensures) in
    search (rules, misplaced)

pub overflow_add-sum : goal.overflow_add-sum
overflow_add-sum g c =
    let s = c.args.s.now in
    let p = c.args.p in
    record { fits = toward_fits g.M.Measure.units g.met.M.Measure.most (g.S.Source.doc s) (g.S.Source.sound s) p.row.0 p.index c.loop-row.row.0 c.loop-row.sum c.loop-row.invariant.1 c.in_ok-n.n c.in_ok-units.units (counted g c) (whole g c) }

pub loop-row-smaller : goal.loop-row-smaller
loop-row-smaller g c =
    let s = c.args.s.now in
    let d = g.S.Source.doc s in
    let p = c.args.p in
    let r = c.loop-row.row.0 in
    falls d.runs r (here_of d.runs r 0 (g.S.Source.sound s).runs (ahead_here d.runs r p.row.0 p.index c.loop-row.invariant.1.ahead)) c.in_ok-next.next (g.S.Source.sound s).listed (followed g c)

pub loop-row-preserved : goal.loop-row-preserved
loop-row-preserved g c =
    let s = c.args.s.now in
    let p = c.args.p in
    (c.loop-row.invariant.0, toward_more g.M.Measure.units g.met.M.Measure.most (g.S.Source.doc s) (g.S.Source.sound s) p.row.0 p.index c.loop-row.row.0 c.loop-row.sum c.loop-row.invariant.1 c.in_ok-n.n c.in_ok-units.units c.in_ok-next.next (counted g c) (whole g c) (passed g c) (followed g c))

own : (g : given.Over) (c : goal.In_ok-own g) → RunUnits g.M.Measure.units (g.S.Source.doc c.args.s.now) c.loop-row.row.0 0 c.args.p.index (Some c.in_ok-own.own)
own g c = subst (RunUnits g.M.Measure.units (g.S.Source.doc c.args.s.now) c.loop-row.row.0 0 c.args.p.index) c.in_ok-own.ensures.ok_part c.run_units-2.ensures

arrived : (g : given.Over) (c : goal.In_ok-own g) → c.loop-row.row.0 ≡ c.args.p.row.0
arrived g c = search (rules, c.loop-row-test.ensures)

pub overflow_add-result : goal.overflow_add-result
overflow_add-result g c =
    let s = c.args.s.now in
    let d = g.S.Source.doc s in
    let p = c.args.p in
    let r = c.loop-row.row.0 in
    record { fits = toward_last g.M.Measure.units g.met.M.Measure.most d (g.S.Source.sound s) p.row.0 p.index r c.loop-row.sum c.loop-row.invariant.1 c.in_ok-own.own (arrived g c) (front_units g.M.Measure.units d (g.S.Source.sound s) r p.index c.in_ok-own.own (own g c)) }

pub returns : goal.returns
returns g c =
    let s = c.args.s.now in
    let d = g.S.Source.doc s in
    let p = c.args.p in
    let r = c.loop-row.row.0 in
    let l = c.loop-row.invariant.0 in
    (l, toward_end g.M.Measure.units g.met.M.Measure.most d (g.S.Source.sound s) p.row.0 p.index r c.loop-row.sum c.loop-row.invariant.1 c.in_ok-own.own (arrived g c) (front_units g.M.Measure.units d (g.S.Source.sound s) r p.index c.in_ok-own.own (own g c)) ∙ index_is g.M.Measure.units d (g.S.Source.sound s) p l)
