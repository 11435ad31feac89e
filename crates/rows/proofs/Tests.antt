-- What a test that decides a fact tells.
use Rattle.std.proofs.Common.{◌≡◌, Bool, true, false, Decides, sym, ◌∙◌}
use Rattle.std.proofs.lemmas.Bool.{false≢true}

pub refuse : {P : Type 0} → (P → ⊥) → Decides false P
refuse h = (λ e. absurd (false≢true e), λ p. absurd (h p))

pub granted : {P : Type 0} (b : Bool) → Decides b P → b ≡ true → P
granted b d e = d.0 e

pub denied : {P : Type 0} (b : Bool) → Decides b P → b ≡ false → P → ⊥
denied b d e p = false≢true (sym e ∙ d.1 p)
