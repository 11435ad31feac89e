use Rattle.std.proofs.Common.{◌≡◌, ◌+◌, drop, sym, ap, ◌∙◌}
use Rattle.std.proofs.lemmas.List.{drop_more, drop_all}
use Rattle.unicode_text.specs.declared.utf8.State.TheVariants.{Start}
use Rattle.unicode_text.specs.States.{passes}
use Rattle.unicode_text.proofs.Rows.{sound, complete}
use Rattle.unicode_text.proofs.Encodings.{spelt, spelt_fits, spelt_once}
use Rattle.unicode_text.proofs.utf8.is_utf8.Goals as goal

pub loop-byte-preserved : goal.loop-byte-preserved
loop-byte-preserved c =
    let e = drop_more c.args.text.now c.loop-byte.byte-index 0 c.loop-byte-test.true in
    ap (λ t. passes t (drop (c.loop-byte.byte-index + 1) c.args.text.now)) c.step.ensures
    ∙ sym (ap (passes c.loop-byte.check.state) e) ∙ c.loop-byte.invariant

-- the answer is whether the whole text passes from the start
answer : (c : goal.After-is_complete) → passes Start c.args.text.now ≡ c.is_complete.result
answer c =
    sym c.loop-byte.invariant
    ∙ ap (passes c.loop-byte.check.state) (drop_all c.loop-byte.byte-index c.args.text.now c.loop-byte-test.false)
    ∙ sym c.is_complete.ensures

pub returns : goal.returns
returns c = record {
  table = (λ h. sound Start c.args.text.now (answer c ∙ h), λ w. sym (answer c) ∙ complete w);
  spelt = λ h. spelt (sound Start c.args.text.now (answer c ∙ h));
  only = λ cs h. (sym (answer c) ∙ complete (spelt_fits h), spelt_once h);
}
