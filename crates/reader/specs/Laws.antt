-- What holds of a reader after any list of calls, refused ones included.
use Rattle.std.specs.Prelude.{◌≡◌, ℕ, ◌+◌, ◌≤◌, ◌↔◌, List, [], ◌∷◌, ◌++◌, length, take, Some, None, Ok, Err, Option, Result}
use Rattle.rows.specs.declared.refusal.Refusal.{Refusal}
use Rattle.rows.specs.declared.refusal.Refusal.TheVariants.{AtEnd, AtStart, Needed}
use Rattle.source.specs.Runs.{Document}
use Rattle.source.specs.Pieces.{bytes_of}
use Rattle.position.specs.Places.{Lawful, offset, total}
use Rattle.unit.specs.Stops.{Stops}
use Rattle.range.specs.declared.range.Range.{Range}
use Rattle.range.specs.Texts.{between, text_of, Short, Written, Texts}
use Rattle.reader.specs.Spans.{Span, spans, Chain}
use Rattle.index.specs.Measured.{measured}
use Rattle.reader.specs.Indexes.{index_of}
use Rattle.reader.specs.Steps.{Call, read_on, read_back, set_start, set_end, Answer, piece, done, refused, Step, fresh}

-- A call of a history: its answer, and the range that it left.
pub record Entry : Type 0 where
  pub call : Call
  pub answer : Answer
  pub after : Range

-- Each call of the history was answered as it must be, from the range s on.
abbrev pub Valid : Document → Range → List Entry → Type 0
Valid d s [] = Unit {0}
Valid d s (e ∷ es) = Step d s e.call e.answer e.after × Valid d e.after es

-- The range after the history.
abbrev pub final : Range → List Entry → Range
final s [] = s
final s (e ∷ es) = final e.after es

-- Both ends are positions of the document, and the start is not after the end.
pub record Orderly (d : Document) (s : Range) : Type 0 where
  pub start : Lawful d s.start
  pub end : Lawful d s.end
  pub ordered : offset d s.start ≤ offset d s.end

-- Both ends stand at the place.
abbrev pub StandsAt : Document → ℕ → Range → Type 0
StandsAt d k s = (offset d s.start ≡ k) × (offset d s.end ≡ k)

-- A call for the text gives the range's bytes, or says how many are needed, and nothing else.
abbrev pub Told : Document → Range → List ℕ → List ℕ → Result ℕ Refusal → List ℕ → Type 0
Told d t strip before (Ok n) after = Written d t strip before n after
Told d t strip before (Err e) after = (after ≡ before) × ((n : ℕ) × (e ≡ Needed n) × Short d t strip (length before) n)

-- The buffer that a call was handed; none where it takes none.
abbrev pub handed : Call → List ℕ
handed (read_on u p b) = b
handed (read_back u p b) = b
handed (set_start p) = []
handed (set_end p) = []

-- The refusal, where the answer is one.
abbrev pub why : Answer → Option Refusal
why (piece n a) = None
why done = None
why (refused e a) = Some e

-- A refused call of any kind, or an accepted read-on.
abbrev pub OnOrRefused : Call → Answer → Type 0
OnOrRefused c (refused e a) = Unit {0}
OnOrRefused c done = ⊥
OnOrRefused (read_on u p b) (piece n a) = Unit {0}
OnOrRefused (read_back u p b) (piece n a) = ⊥
OnOrRefused (set_start p) (piece n a) = ⊥
OnOrRefused (set_end p) (piece n a) = ⊥

-- A refused call of any kind, or an accepted read-back.
abbrev pub BackOrRefused : Call → Answer → Type 0
BackOrRefused c (refused e a) = Unit {0}
BackOrRefused c done = ⊥
BackOrRefused (read_on u p b) (piece n a) = ⊥
BackOrRefused (read_back u p b) (piece n a) = Unit {0}
BackOrRefused (set_start p) (piece n a) = ⊥
BackOrRefused (set_end p) (piece n a) = ⊥

-- A refused call of any kind, or an accepted read-on by this unit.
abbrev pub OnBy : Stops → Call → Answer → Type 0
OnBy u c (refused e a) = Unit {0}
OnBy u c done = ⊥
OnBy u (read_on v p b) (piece n a) = v ≡ u
OnBy u (read_back v p b) (piece n a) = ⊥
OnBy u (set_start p) (piece n a) = ⊥
OnBy u (set_end p) (piece n a) = ⊥

-- A refused call of any kind, or an accepted read-back by this unit.
abbrev pub BackBy : Stops → Call → Answer → Type 0
BackBy u c (refused e a) = Unit {0}
BackBy u c done = ⊥
BackBy u (read_on v p b) (piece n a) = ⊥
BackBy u (read_back v p b) (piece n a) = v ≡ u
BackBy u (set_start p) (piece n a) = ⊥
BackBy u (set_end p) (piece n a) = ⊥

-- P of every call of the stretch.
abbrev pub All : (Call → Answer → Type 0) → List Entry → Type 0
All P [] = Unit {0}
All P (e ∷ es) = P e.call e.answer × All P es

-- A read's piece: the bytes that stand in the buffer after the call, as many as its answer says.
abbrev pub piece_of : Answer → List ℕ
piece_of (piece n a) = take n a
piece_of done = []
piece_of (refused e a) = []

-- The pieces of a stretch, joined.
abbrev pub onward : List Entry → List ℕ
onward [] = []
onward (e ∷ es) = piece_of e.answer ++ onward es

-- The pieces of a stretch, joined latest first.
abbrev pub backward : List Entry → List ℕ
backward [] = []
backward (e ∷ es) = backward es ++ piece_of e.answer

-- The range that a read left, as a span; none where nothing was read.
abbrev pub read_if : Document → Answer → Range → List Span
read_if d (piece n a) t = record { from = offset d t.start; to = offset d t.end } ∷ []
read_if d done t = []
read_if d (refused e a) t = []

-- The spans that a stretch reads, in the order of the calls.
abbrev pub reads : Document → List Entry → List Span
reads d [] = []
reads d (e ∷ es) = read_if d e.answer e.after ++ reads d es

-- The spans that a stretch reads, latest first.
abbrev pub reads_back : Document → List Entry → List Span
reads_back d [] = []
reads_back d (e ∷ es) = reads_back d es ++ read_if d e.answer e.after

-- From the range s each read-on by the unit is refused with 7 exactly when no span remains.
abbrev pub EndsOn : Document → Stops → Range → List Span → Type 0
EndsOn d u s rest = (p b : List ℕ) (a : Answer) (t : Range) → Step d s (read_on u p b) a t → (why a ≡ Some AtEnd) ↔ (rest ≡ [])

-- From the range s each read-back by the unit is refused with 8 exactly when no span remains.
abbrev pub EndsBack : Document → Stops → Range → List Span → Type 0
EndsBack d u s rest = (p b : List ℕ) (a : Answer) (t : Range) → Step d s (read_back u p b) a t → (why a ≡ Some AtStart) ↔ (rest ≡ [])

-- What holds of the range s, which a history left.
pub record Point (d : Document) (s : Range) : Type 0 where
  pub orderly : Orderly d s
  -- whatever strip and buffer the text is asked with, its answer is the characters between the ends, or
  -- how many bytes are needed, and it is the only one
  pub texts : (strip before after : List ℕ) (r : Result ℕ Refusal) → Texts d s strip before r after → Told d s strip before r after
  pub one_text : (strip before a b : List ℕ) (r q : Result ℕ Refusal) → Texts d s strip before r a → Texts d s strip before q b → (r ≡ q) × (a ≡ b)
  -- for every measure the global indexes of the ends differ by what those characters measure
  pub indexes : (units : ℕ → ℕ) → index_of units d s.end ≡ index_of units d s.start + measured units (text_of d s)
  -- a refused call changes neither the range nor the buffer
  pub unchanged : (c : Call) (e : Refusal) (a : List ℕ) (t : Range) → Step d s c (refused e a) t → (t ≡ s) × (a ≡ handed c)
  -- one answer fits each call, and one range after it
  pub one_step : (c : Call) (a b : Answer) (t w : Range) → Step d s c a t → Step d s c b w → (a ≡ b) × (t ≡ w)

-- What holds of a stretch k of calls behind a history h.
pub record Stretch (d : Document) (h k : List Entry) : Type 0 where
  pub before : Point d (final (fresh d) h)
  pub after : Point d (final (fresh d) (h ++ k))
  -- with no accepted call but read-ons, units mixed, the pieces join to the text from old end to new
  pub joins_on : All OnOrRefused k → onward k ≡ bytes_of (between d (offset d (final (fresh d) h).end) (offset d (final (fresh d) (h ++ k)).end))
  -- with no accepted call but read-backs they join, latest first, to the text from new start to old
  pub joins_back : All BackOrRefused k → backward k ≡ bytes_of (between d (offset d (final (fresh d) (h ++ k)).start) (offset d (final (fresh d) h).start))
  -- by one unit from the document's start its spans are read in order from the first, none twice or
  -- left out, and the next read-on gets 7 exactly when none remains
  pub spans_on : (u : Stops) → StandsAt d 0 (final (fresh d) h) → All (OnBy u) k →
      (rest : List Span) × (spans u (total d) ≡ reads d k ++ rest) × EndsOn d u (final (fresh d) (h ++ k)) rest
  -- by one unit from the document's end its spans are read in reverse from the last, none twice or left
  -- out, and the next read-back gets 8 exactly when none remains
  pub spans_back : (u : Stops) → StandsAt d (total d) (final (fresh d) h) → All (BackBy u) k →
      (rest : List Span) × (spans u (total d) ≡ rest ++ reads_back d k) × EndsBack d u (final (fresh d) (h ++ k)) rest

-- What holds of every reader of the document that was just opened, whatever is called on it.
pub record Reads (d : Document) : Type 0 where
  pub stretches : (h k : List Entry) → Valid d (fresh d) (h ++ k) → Stretch d h k
  -- the spans of a unit are its moves forward from the first place to the end place
  pub chains : (u : Stops) → Chain u (total d) 0 (spans u (total d))
