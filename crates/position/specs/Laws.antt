-- What holds of every document: places and positions answer one another, and each question has one answer.
use Rattle.std.specs.Prelude.{◌≡◌, ℕ, ◌≤◌, Bool, Result}
use Rattle.std.specs.declared.cmp.Ordering.{Ordering}
use Rattle.rows.specs.declared.refusal.Refusal.{Refusal}
use Rattle.source.specs.Runs.{Document}
use Rattle.position.specs.declared.position.Position.{Position}
use Rattle.position.specs.Places.{Lawful, offset, total, place, to_start, document_start, document_end, Answers, BiasedStart, BiasedEnd, NextPlace, PreviousPlace}
use Rattle.position.specs.Orders.{Compares, Ordered}

-- Two answers that fit are equal.
abbrev pub Single : (A : Type 0) → (A → Type 0) → Type 0
Single A B = (x y : A) → B x → B y → x ≡ y

-- Each call's contract leaves it one answer.
pub record Singles (d : Document) (p q : Position) : Type 0 where
  pub start : Single (Result Position Refusal) (Answers (Lawful d p) (BiasedStart d p))
  pub end : Single (Result Position Refusal) (Answers (Lawful d p) (BiasedEnd d p))
  pub next : Single (Result Position Refusal) (NextPlace d p)
  pub previous : Single (Result Position Refusal) (PreviousPlace d p)
  pub judged : (b : Bool) → Single (Result Bool Refusal) (Answers (Lawful d p) (λ r. r ≡ b))
  pub ordered : Single (Result Ordering Refusal) (Answers (Lawful d p × Lawful d q) (Ordered d p q))
  -- the ordering alone is fixed by the places
  pub compares : Single Ordering (Compares (offset d p) (offset d q))

-- Every place up to the end place has its position, and each position its place.
pub record Named (d : Document) : Type 0 where
  pub lawful : (k : ℕ) → k ≤ total d → Lawful d (place d k)
  pub named : (k : ℕ) → k ≤ total d → offset d (place d k) ≡ k
  pub inside : (p : Position) → Lawful d p → offset d p ≤ total d
  pub biased : (p : Position) → Lawful d p → place d (offset d p) ≡ to_start d p
  pub first : document_start d ≡ place d 0
  pub last : document_end d ≡ place d (total d)

-- Both, of every document that a source may have.
pub record Laws (d : Document) : Type 0 where
  pub places : Named d
  pub answers : (p q : Position) → Singles d p q
