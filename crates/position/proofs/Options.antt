-- What may be there and what may not.
use Rattle.std.proofs.Common.{◌≡◌, ℕ, ◌≤◌, Some, None, Option, refl, ap, arith}
use Rattle.rows.specs.declared.node.NodeId.{NodeId}
use Rattle.source.specs.Runs.{row_id}
use Rattle.source.specs.Pieces.{Within}

pub some_same : {A : Type 0} (m n : A) → Some m ≡ Some n → m ≡ n
some_same m n e = ap (or m) e
  where
    or : {A : Type 0} → A → Option A → A
    or a None = a
    or a (Some b) = b

pub not_none : {A : Type 0} (n : A) → Some n ≡ None → ⊥
not_none n e = let z : ◌≡◌ {A = ℕ} 1 0 = ap number e in omega arith
  where
    number : {A : Type 0} → Option A → ℕ
    number None = 0
    number (Some a) = 1

-- the same row, as the code has it and as the runs do
pub row_same : (m : NodeId) (n : ℕ) → Some m ≡ Some (row_id n) → m.0 ≡ n
row_same m n e = ap (λ t. t.0) (some_same m (row_id n) e)

pub count_of : (i : ℕ) (o : Option ℕ) → Within i o → (n : ℕ) × (Some n ≡ o) × (i ≤ n)
count_of i None w = absurd w
count_of i (Some n) w = (n, refl, w)

pub within_zero : (i : ℕ) (o : Option ℕ) → Within i o → Within 0 o
within_zero i None w = w
within_zero i (Some n) w = omega arith
