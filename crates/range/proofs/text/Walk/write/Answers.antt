use Rattle.std.proofs.Common.{◌+◌, ◌-◌, [], length, sym, ◌∙◌, subst, arith, length-drop, length-take}
use borrow.Rule.Slice.PartMut.{put_mid}
use Rattle.std.proofs.lemmas.List.{append-nil}
use Rattle.range.specs.Texts.{bytes_in, text_of}
use Rattle.range.specs.Walks.{front}
use Rattle.range.proofs.Buffers.{Wrote, wrote_all, room_for, wrote_rest}
use Rattle.range.proofs.text.Walk.write.Goals as goal

pub put-requires : goal.put-requires
put-requires g c =
    let l = c.loop-piece in
    let room = room_for (g.S.Source.doc l.rest.source.now) (g.S.Source.sound l.rest.source.now) _ l.rest.range l.at c.args.buffer.now l.buffer c.in-Ok.piece.now l.rest.walked l.invariant.2 c.requires.room c.in-Ok.ensures.1 in
    simp (length-take, length-drop) (omega (arith, room))

pub loop-piece-preserved : goal.loop-piece-preserved
loop-piece-preserved g c =
    let l = c.loop-piece in
    let d = g.S.Source.doc l.rest.source.now in
    let all = bytes_in (g.S.Source.doc c.args.self.source.now) c.args.self.range in
    let next = c.in-Some.next in
    let tail = c.in-Some.ensures in
    let wrote = wrote_rest d (g.S.Source.sound l.rest.source.now) all l.rest.range l.at c.args.buffer.now l.buffer c.in-Ok.piece.now l.rest.walked l.invariant.2 c.requires.room c.in-Ok.ensures.1 (text_of d next.range) c.put.new.out tail.rest.1 c.put.ensures in
    (tail.same.0 ∙ l.invariant.0, tail.same.1 ∙ l.invariant.1, subst (λ s. Wrote all (bytes_in (g.S.Source.doc s.now) next.range) (l.at + length c.in-Ok.piece.now) c.args.buffer.now (put_mid l.at (length l.buffer - l.at) l.buffer c.put.new.out)) (sym tail.same.0) wrote)

pub returns-in-None : goal.returns-in-None
returns-in-None g c =
    let l = c.loop-piece in
    let d = g.S.Source.doc l.rest.source.now in
    let all = bytes_in (g.S.Source.doc c.args.self.source.now) c.args.self.range in
    wrote_all all c.args.buffer.now (put_mid l.at (length l.buffer - l.at) l.buffer c.put.new.out) (l.at + length c.in-Ok.piece.now)
    (wrote_rest d (g.S.Source.sound l.rest.source.now) all l.rest.range l.at c.args.buffer.now l.buffer c.in-Ok.piece.now l.rest.walked l.invariant.2 c.requires.room c.in-Ok.ensures.1 [] c.put.new.out (c.in-None.ensures.rest ∙ sym (append-nil (front d l.rest.range))) c.put.ensures)
