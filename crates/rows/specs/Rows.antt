-- The rows and child entries of the tables, and what a tree of them must be.
use Rattle.std.specs.Prelude.{◌≡◌, ℕ, zero, suc, ◌+◌, ◌<◌, ◌≤◌, false, cond, List, length, get_or, ◌==◌, slice_index_or}
use Rattle.rows.specs.declared.node.Row.{Row}
use Rattle.rows.specs.declared.node.Part.{Part}
use Rattle.rows.specs.declared.node.NodeId.{NodeId}

-- The empty part.
abbrev pub no_part : Part
no_part = record { start = 0; count = 0 }

-- The row that a number past the table reads as.
abbrev pub no_row : Row
no_row = record { role = 0; hidden = false; tree = record { 0 = 0 }; parent = record { 0 = 0 }; index = 0; previous = record { 0 = 0 }; next = record { 0 = 0 }; children = no_part; text = no_part; lengths = no_part; words = no_part }

-- The row with number r.
abbrev pub row : List Row → ℕ → Row
row rs r = slice_index_or rs r no_row

-- The parent of r.
abbrev pub par : List Row → ℕ → ℕ
par rs r = (row rs r).parent.0

-- The index of r among its parent's children.
abbrev pub index : List Row → ℕ → ℕ
index rs r = (row rs r).index

-- Where r's child entries start.
abbrev pub start : List Row → ℕ → ℕ
start rs r = (row rs r).children.start

-- How many children r has.
abbrev pub count : List Row → ℕ → ℕ
count rs r = (row rs r).children.count

-- The child entry that a number past its table reads as.
abbrev pub no_node : NodeId
no_node = record { 0 = 0 }

-- The child of r at place k.
abbrev pub kid : List Row → List NodeId → ℕ → ℕ → ℕ
kid rs cs r k = (get_or cs (start rs r + k) no_node).0

-- Each row's child entries lie within their table.
abbrev pub Parted : List Row → List NodeId → Type 0
Parted rs cs = (r : ℕ) → r < length rs → start rs r + count rs r ≤ length cs

-- Row 0 has no parent.
abbrev pub Topped : List Row → Type 0
Topped rs = par rs 0 ≡ 65535

-- Any other row's parent has a smaller number.
abbrev pub Rising : List Row → Type 0
Rising rs = (r : ℕ) → 0 < r → r < length rs → par rs r < r

-- A row's index is below its parent's child count.
abbrev pub Indexed : List Row → Type 0
Indexed rs = (r : ℕ) → 0 < r → r < length rs → index rs r < count rs (par rs r)

-- A parent's child at a row's index is that row.
abbrev pub Placed : List Row → List NodeId → Type 0
Placed rs cs = (r : ℕ) → 0 < r → r < length rs → kid rs cs (par rs r) (index rs r) ≡ r

-- Each child entry names a row.
abbrev pub Rowed : List Row → List NodeId → Type 0
Rowed rs cs = (r k : ℕ) → (r < length rs) × (k < count rs r) → kid rs cs r k < length rs

-- Each child entry names a row with that parent.
abbrev pub Parented : List Row → List NodeId → Type 0
Parented rs cs = (r k : ℕ) → (r < length rs) × (k < count rs r) → par rs (kid rs cs r k) ≡ r

-- Each child entry names a row with that place as index.
abbrev pub Ordered : List Row → List NodeId → Type 0
Ordered rs cs = (r k : ℕ) → (r < length rs) × (k < count rs r) → index rs (kid rs cs r k) ≡ k

-- The row n steps up from r, or row 0 where there are fewer.
unfoldable pub lift : List Row → ℕ → ℕ → ℕ
lift rs zero r = r
lift rs (suc n) r = cond (r == 0) 0 (lift rs n (par rs r))

-- No row lies over 64 steps below row 0.
abbrev pub Shallow : List Row → Type 0
Shallow rs = (r : ℕ) → r < length rs → lift rs 64 r ≡ 0

-- All that a walk relies on.
pub record Well (rs : List Row) (cs : List NodeId) : Type 0 where
  pub some : 0 < length rs
  pub few : length rs ≤ 1024
  pub parted : Parted rs cs
  pub topped : Topped rs
  pub rising : Rising rs
  pub indexed : Indexed rs
  pub placed : Placed rs cs
  pub rowed : Rowed rs cs
  pub parented : Parented rs cs
  pub ordered : Ordered rs cs
  pub shallow : Shallow rs
