-- Why each move leaves one answer.
use Rattle.std.proofs.Common.{◌≡◌, ℕ, zero, suc, ◌<◌, Bool, sym, ap, ◌∙◌, subst, ⊎_elim, arith}
use Rattle.std.proofs.lemmas.Bool.{both_ways, cases_lt}
use Rattle.source.specs.Runs.{Document}
use Rattle.position.specs.declared.position.Position.{Position}
use Rattle.position.specs.Places.{Lawful, offset, offset_in, place, total}
use Rattle.starts.specs.Starts.{starts_paragraph, ends_paragraph}
use Rattle.position.specs.Laws.{Single}
use Rattle.position.proofs.Laws.{answers_single}
use Rattle.unit.specs.Stops.{Stops}
use Rattle.unit.specs.Marks.{lines}
use Rattle.moves.specs.Arrivals.{After, Until, Arrives, Retreats}
use Rattle.moves.specs.Lines.{EndsLine}
use Rattle.moves.specs.Repeats.{Repeated, Repeats, LineOn, LineBack, end_or_start}
use Rattle.moves.specs.Laws.{Singles}

after_least : (u : Stops) (end a b c : ℕ) → After u end a b → After u end a c → b < c → ⊥
after_least u end a b c x y h =
    let i = y.inside in
    let f = x.from in
    let g = x.after (omega arith) in
    both_ways (u.stop b) (y.skips b g h) (x.lands (omega arith))

after_single : (u : Stops) (end a b c : ℕ) → After u end a b → After u end a c → b ≡ c
after_single u end a b c x y =
    ⊎_elim (λ h. absurd (after_least u end a b c x y h))
    (λ h. ⊎_elim (λ g. absurd (after_least u end a c b y x g)) (λ g. omega arith) (cases_lt c b))
    (cases_lt b c)

until_most : (u : Stops) (a b c : ℕ) → Until u a b → Until u a c → b < c → ⊥
until_most u a b c x y h =
    let i = y.inside in
    let g = y.before (omega arith) in
    both_ways (u.stop c) (x.skips c h g) y.lands

until_single : (u : Stops) (a b c : ℕ) → Until u a b → Until u a c → b ≡ c
until_single u a b c x y =
    ⊎_elim (λ h. absurd (until_most u a b c x y h))
    (λ h. ⊎_elim (λ g. absurd (until_most u a c b y x g)) (λ g. omega arith) (cases_lt c b))
    (cases_lt b c)

arrives_single : (d : Document) (u : Stops) (a : ℕ) → Single Position (Arrives d u a)
arrives_single d u a x y v w = v.lands ∙ ap (place d) (after_single u (total d) a v.to w.to v.moves w.moves) ∙ sym w.lands

retreats_single : (d : Document) (u : Stops) (a : ℕ) → Single Position (Retreats d u a)
retreats_single d u a x y v w = v.lands ∙ ap (place d) (until_single u a v.to w.to v.moves w.moves) ∙ sym w.lands

-- a move with one answer comes to one position when made again
repeats_single : (Move : Position → Position → Type 0) (stop : Position → Bool) → ((p : Position) → Single Position (Move p)) →
    (i j : ℕ) (p x y : Position) → Repeated Move stop i p x → Repeated Move stop j p y → x ≡ y
repeats_single Move stop one zero zero p x y a b = one p x y a.0 b.0
repeats_single Move stop one zero (suc j) p x y a b =
    absurd (both_ways (stop x) (ap stop (one p x b.0 a.0 b.1) ∙ b.2) a.1)
repeats_single Move stop one (suc i) zero p x y a b =
    absurd (both_ways (stop y) (ap stop (one p y a.0 b.0 a.1) ∙ a.2) b.1)
repeats_single Move stop one (suc i) (suc j) p x y a b =
    repeats_single Move stop one i j a.0 x y a.3 (subst (λ m. Repeated Move stop j m y) (one p b.0 a.0 b.1 a.1) b.3)

pub singles : (d : Document) (p : Position) → Singles d p
singles d p = record {
  arrives = λ u a. answers_single Position (Lawful d p) (Arrives d u a) (arrives_single d u a);
  retreats = λ u a. answers_single Position (Lawful d p) (Retreats d u a) (retreats_single d u a);
  ends = answers_single Position (Lawful d p) (EndsLine d p) (λ x y a b. a ∙ sym b);
  paragraph_start = answers_single Position (Lawful d p) (Repeats (LineOn d) (end_or_start d) p)
      (λ x y a b. repeats_single (LineOn d) (end_or_start d) (λ m. arrives_single d (lines d) (offset_in d.runs m.row.0 0)) a.times b.times p x y a.moves b.moves);
  paragraph_end = answers_single Position (Lawful d p) (Repeats (EndsLine d) (ends_paragraph d) p)
      (λ x y a b. repeats_single (EndsLine d) (ends_paragraph d) (λ m t u v w. v ∙ sym w) a.times b.times p x y a.moves b.moves);
  paragraph_back = answers_single Position (Lawful d p) (Repeats (LineBack d) (starts_paragraph d) p)
      (λ x y a b. repeats_single (LineBack d) (starts_paragraph d) (λ m. retreats_single d (lines d) (offset d m)) a.times b.times p x y a.moves b.moves);
}
