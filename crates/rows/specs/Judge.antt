-- What judging asks of the tables, row by row, and what it answers.
use Rattle.std.specs.Prelude.{◌≡◌, ℕ, ◌+◌, ◌<◌, ◌≤◌, ◌⊎◌, List, length, Ok, Err, Result, ⊤, ◌≢◌}
use Rattle.rows.specs.declared.node.NodeId.{NodeId}
use Rattle.rows.specs.declared.node.Part.{Part}
use Rattle.rows.specs.declared.node.Row.{Row}
use Rattle.rows.specs.declared.node.Tables.{Tables}
use Rattle.rows.specs.declared.refusal.Refusal.{Refusal}
use Rattle.rows.specs.declared.refusal.Refusal.TheVariants.{BadTables, BadRow, BadRoot, BadRun, BadWords, BadLine, AtEnd, AtStart, Misplaced, Beyond, Needed}
use Rattle.rows.specs.Rows.{row, par, index, count, kid, lift}

-- The rows of the tables.
abbrev pub rows_in : Tables → List Row
rows_in t = t.rows.now

-- The child entries of the tables.
abbrev pub entries_in : Tables → List NodeId
entries_in t = t.children.now

-- The tree number of r.
abbrev pub tree_of : List Row → ℕ → ℕ
tree_of rs r = (row rs r).tree.0

-- The part lies within a table of n entries; an empty part too needs its start there.
abbrev pub Within : Part → ℕ → Type 0
Within p n = p.start + p.count ≤ n

-- r's role is one of the seven, and a text run has no children.
abbrev pub RoleAt : List Row → ℕ → Type 0
RoleAt rs r = ((row rs r).role ≤ 6) × ((row rs r).role ≡ 1 → count rs r ≡ 0)

-- r's parts lie within their tables.
pub record PartsAt (t : Tables) (r : ℕ) : Type 0 where
  pub children : Within (row (rows_in t) r).children (length (entries_in t))
  pub text : Within (row (rows_in t) r).text (length t.text.now)
  pub lengths : Within (row (rows_in t) r).lengths (length t.lengths.now)
  pub words : Within (row (rows_in t) r).words (length t.words.now)

-- Row 0 alone has no parent, and any other parent has a smaller number.
abbrev pub RisingAt : List Row → ℕ → Type 0
RisingAt rs r = (r ≡ 0 → par rs r ≡ 65535) × (0 < r → par rs r < r)

-- The parent's child at r's index is r. Where the entry there is wrong, the parent is at fault as
-- well, and has the smaller number: so it is the parent that a refusal names.
abbrev pub PlacedAt : List Row → List NodeId → ℕ → Type 0
PlacedAt rs cs r = 0 < r → (index rs r < count rs (par rs r)) × (kid rs cs (par rs r) (index rs r) ≡ r)

-- r's entry at place k names a row with r as parent and k as index.
abbrev pub EntryAt : List Row → List NodeId → ℕ → ℕ → Type 0
EntryAt rs cs r k = (kid rs cs r k < length rs) × (par rs (kid rs cs r k) ≡ r) × (index rs (kid rs cs r k) ≡ k)

-- Each of r's entries is right.
abbrev pub EnteredAt : List Row → List NodeId → ℕ → Type 0
EnteredAt rs cs r = (k : ℕ) → k < count rs r → EntryAt rs cs r k

-- r has its parent's tree number, or is an only child, which makes the parent a graft.
abbrev pub GraftedAt : List Row → ℕ → Type 0
GraftedAt rs r = 0 < r → (tree_of rs r ≡ tree_of rs (par rs r)) ⊎ (count rs (par rs r) ≡ 1)

-- r is topmost for its tree number: it is row 0, or has another tree number than its parent.
abbrev pub Topmost : List Row → ℕ → Type 0
Topmost rs r = 0 < r → tree_of rs r ≢ tree_of rs (par rs r)

-- q is topmost for r's tree number.
abbrev pub Rivals : List Row → ℕ → ℕ → Type 0
Rivals rs r q = Topmost rs q × (tree_of rs q ≡ tree_of rs r)

-- If r is topmost for its tree number, no smaller row is.
abbrev pub LoneAt : List Row → ℕ → Type 0
LoneAt rs r = Topmost rs r → (q : ℕ) → q < r → Rivals rs r q → ⊥

-- r lies at most 64 steps below row 0.
abbrev pub ShallowAt : List Row → ℕ → Type 0
ShallowAt rs r = lift rs 64 r ≡ 0

-- No sentence is broken at r.
pub record Sound (t : Tables) (r : ℕ) : Type 0 where
  pub role : RoleAt (rows_in t) r
  pub parts : PartsAt t r
  pub rising : RisingAt (rows_in t) r
  pub placed : PlacedAt (rows_in t) (entries_in t) r
  pub entered : EnteredAt (rows_in t) (entries_in t) r
  pub grafted : GraftedAt (rows_in t) r
  pub lone : LoneAt (rows_in t) r
  pub shallow : ShallowAt (rows_in t) r

-- The tables have rows, none too many entries, and the root is a row.
pub record Sized (t : Tables) (root : ℕ) : Type 0 where
  pub some : 0 < length (rows_in t)
  pub few : length (rows_in t) ≤ 1024
  pub children : length (entries_in t) ≤ 1024
  pub text : length t.text.now ≤ 32768
  pub lengths : length t.lengths.now ≤ 32768
  pub words : length t.words.now ≤ 32768
  pub rooted : root < length (rows_in t)

-- The tables have their sizes, and every row is sound.
abbrev pub WellFormed : Tables → ℕ → Type 0
WellFormed t root = Sized t root × ((r : ℕ) → r < length (rows_in t) → Sound t r)

-- A refusal is for the sizes, or else for the smallest row at fault.
abbrev pub Refused : Tables → ℕ → Refusal → Type 0
Refused t root BadTables = Sized t root → ⊥
Refused t root (BadRow r) = Sized t root × (r.0 < length (rows_in t)) × (Sound t r.0 → ⊥) × ((q : ℕ) → q < r.0 → Sound t q)
Refused t root (BadRoot r) = ⊥
Refused t root (BadRun r) = ⊥
Refused t root (BadWords r) = ⊥
Refused t root (BadLine r) = ⊥
Refused t root AtEnd = ⊥
Refused t root AtStart = ⊥
Refused t root Misplaced = ⊥
Refused t root Beyond = ⊥
Refused t root (Needed n) = ⊥

-- Well-formed tables are accepted, and any others get their refusal.
abbrev pub Verdict : Tables → ℕ → Result ⊤ Refusal → Type 0
Verdict t root (Ok done) = WellFormed t root
Verdict t root (Err e) = Refused t root e
