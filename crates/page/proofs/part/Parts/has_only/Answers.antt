use Rattle.std.proofs.Common.{◌∙◌, ap, sym, take}
use Rattle.page.proofs.Slices.{refuse, unlike, alike, are_more, are_back, sum_more}
use Rattle.page.proofs.part.Parts.has_only.Goals as goal

pub returns-then-ne : goal.returns-then-ne
returns-then-ne c =
    let front = c.split_at.ensures.front ∙ ap (λ n. take n c.loop-n.rest.now) c.from.ensures in
    refuse (λ a. unlike c.split_at.result.0.now c.args.character.now c.if-ne.ensures (front ∙ (are_more c.args.character.now c.loop-n.rest.now c.args.self.now.lengths.now c.loop-n.n-index c.loop-n-test.true (c.loop-n.invariant.same.0 a)).0))

pub loop-n-preserved : goal.loop-n-preserved
loop-n-preserved c =
    let front = c.split_at.ensures.front ∙ ap (λ n. take n c.loop-n.rest.now) c.from.ensures in
    let e = sym front ∙ alike c.split_at.result.0.now c.args.character.now c.if-ne.ensures in
    rw (c.split_at.ensures.back, c.from.ensures) (record {
      within = sum_more c.args.character.now c.loop-n.rest.now c.args.self.now.lengths.now c.loop-n.n-index c.loop-n-test.true c.loop-n.invariant.within;
      same = (
        λ a. (are_more c.args.character.now c.loop-n.rest.now c.args.self.now.lengths.now c.loop-n.n-index c.loop-n-test.true (c.loop-n.invariant.same.0 a)).1,
        λ a. c.loop-n.invariant.same.1 (are_back c.args.character.now c.loop-n.rest.now c.args.self.now.lengths.now c.loop-n.n-index c.loop-n-test.true e a),
      );
    })
