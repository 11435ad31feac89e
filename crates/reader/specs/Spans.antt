-- A unit's spans: each stop before the end place opens one, up to the next stop, else to the end place.
use Rattle.std.specs.Prelude.{◌≡◌, ℕ, zero, suc, cond, List, [], ◌∷◌}
use Rattle.unit.specs.Stops.{Stops, Forward}

-- A stretch from one place to another.
pub record Span : Type 0 where
  pub from : ℕ
  pub to : ℕ

-- The stops among the n places from k on.
abbrev pub stops_from : Stops → ℕ → ℕ → List ℕ
stops_from u k zero = []
stops_from u k (suc n) = cond (u.stop k) (k ∷ stops_from u (suc k) n) (stops_from u (suc k) n)

-- The spans that stops open: each up to the next, the last up to the end place.
abbrev pub opened : ℕ → List ℕ → List Span
opened end [] = []
opened end (a ∷ []) = record { from = a; to = end } ∷ []
opened end (a ∷ b ∷ bs) = record { from = a; to = b } ∷ opened end (b ∷ bs)

-- The unit's spans of a document whose end place this is, in order.
abbrev pub spans : Stops → ℕ → List Span
spans u end = opened end (stops_from u 0 end)

-- The spans follow one another from a place to the end place, each by one move forward of the unit.
abbrev pub Chain : Stops → ℕ → ℕ → List Span → Type 0
Chain u end a [] = a ≡ end
Chain u end a (x ∷ xs) = (x.from ≡ a) × Forward u end a x.to × Chain u end x.to xs
