-- Why a unit's stops leave each of its moves one answer.
use Rattle.std.proofs.Common.{◌≡◌, ℕ, ◌<◌, Ok, Err, Result, sym, ap, ◌∙◌, ⊎_elim, arith}
use Rattle.std.proofs.lemmas.Bool.{both_ways, cases_lt}
use Rattle.rows.specs.declared.refusal.Refusal.{Refusal}
use Rattle.rows.specs.declared.refusal.Refusal.TheVariants.{AtEnd, AtStart}
use Rattle.source.specs.Runs.{Document}
use Rattle.position.specs.declared.position.Position.{Position}
use Rattle.position.specs.Places.{offset, place, total}
use Rattle.position.specs.Laws.{Single}
use Rattle.position.proofs.Laws.{why_forward, why_backward, same_refusal, no_refusal}
use Rattle.unit.specs.Stops.{Stops, Forward, Backward}
use Rattle.unit.specs.Moves.{Goes, Returns, GoesOn, GoesBack}
use Rattle.unit.specs.Laws.{Singles}

-- no stop is passed over
pub forward_least : (u : Stops) (end a b c : ℕ) → Forward u end a b → Forward u end a c → b < c → ⊥
forward_least u end a b c x y h =
    let i = y.inside in
    both_ways (u.stop b) (y.skips b x.after h) (x.lands (omega arith))

pub forward_single : (u : Stops) (end a b c : ℕ) → Forward u end a b → Forward u end a c → b ≡ c
forward_single u end a b c x y =
    ⊎_elim (λ h. absurd (forward_least u end a b c x y h))
    (λ h. ⊎_elim (λ g. absurd (forward_least u end a c b y x g)) (λ g. omega arith) (cases_lt c b))
    (cases_lt b c)

pub backward_most : (u : Stops) (a b c : ℕ) → Backward u a b → Backward u a c → b < c → ⊥
backward_most u a b c x y h = both_ways (u.stop c) (x.skips c h y.before) y.lands

pub backward_single : (u : Stops) (a b c : ℕ) → Backward u a b → Backward u a c → b ≡ c
backward_single u a b c x y =
    ⊎_elim (λ h. absurd (backward_most u a b c x y h))
    (λ h. ⊎_elim (λ g. absurd (backward_most u a c b y x g)) (λ g. omega arith) (cases_lt c b))
    (cases_lt b c)

module _ (d : Document) (u : Stops) (p : Position) where
  goes_before : (q : Position) → Goes d u p q → offset d p ≡ total d → ⊥
  goes_before q w e = let a = w.moves.after in let b = w.moves.inside in omega arith

  returns_after : (q : Position) → Returns d u p q → offset d p ≡ 0 → ⊥
  returns_after q w e = let a = w.moves.before in omega arith

  on_single : Single (Result Position Refusal) (GoesOn d u p)
  on_single (Ok x) (Ok y) a b = ap Ok (a.lands ∙ ap (place d) (forward_single u (total d) (offset d p) a.to b.to a.moves b.moves) ∙ sym b.lands)
  on_single (Ok x) (Err f) a b = absurd (no_refusal d p f AtEnd (offset d p ≡ total d) a.lawful (goes_before x a) (why_forward d p f b))
  on_single (Err e) (Ok y) a b = absurd (no_refusal d p e AtEnd (offset d p ≡ total d) b.lawful (goes_before y b) (why_forward d p e a))
  on_single (Err e) (Err f) a b = ap Err (same_refusal d p e f AtEnd (offset d p ≡ total d) (why_forward d p e a) (why_forward d p f b))

  back_single : Single (Result Position Refusal) (GoesBack d u p)
  back_single (Ok x) (Ok y) a b = ap Ok (a.lands ∙ ap (place d) (backward_single u (offset d p) a.to b.to a.moves b.moves) ∙ sym b.lands)
  back_single (Ok x) (Err f) a b = absurd (no_refusal d p f AtStart (offset d p ≡ 0) a.lawful (returns_after x a) (why_backward d p f b))
  back_single (Err e) (Ok y) a b = absurd (no_refusal d p e AtStart (offset d p ≡ 0) b.lawful (returns_after y b) (why_backward d p e a))
  back_single (Err e) (Err f) a b = ap Err (same_refusal d p e f AtStart (offset d p ≡ 0) (why_backward d p e a) (why_backward d p f b))

pub singles : (d : Document) (u : Stops) (p : Position) → Singles d u p
singles d u p = record { forward = on_single d u p; backward = back_single d u p }
