-- The layers over a source: masked, unworded, and a choice of both made while the program runs.
use Rattle.std.specs.Prelude.{true, List, [], ◌∷◌}
use Rattle.source.specs.declared.layered.Layered.{Layered}
use Rattle.source.specs.declared.layered.Layer.{Layer}
use Rattle.source.specs.declared.layered.Layer.TheVariants.{Plain, Unworded, Masked}
use Rattle.source.specs.Runs.{Run, Document, count}
use Rattle.source.specs.Pieces.{bullets}

-- f of each element.
abbrev pub each : {A B : Type 0} → (A → B) → List A → List B
each f [] = []
each f (x ∷ xs) = f x ∷ each f xs

-- The run with each character the bullet, all else the same.
abbrev pub masked_run : Run → Run
masked_run x = record { row = x.row; characters = bullets (count x); words = x.words; joined = x.joined; breaks = x.breaks }

-- The document masked: each character is the bullet, all else the same.
abbrev pub masked_doc : Document → Document
masked_doc d = record { root = d.root; masked = true; runs = each masked_run d.runs }

-- The run without word starts, all else the same.
abbrev pub unworded_run : Run → Run
unworded_run x = record { row = x.row; characters = x.characters; words = []; joined = x.joined; breaks = x.breaks }

-- The document without word starts, all else the same.
abbrev pub unworded_doc : Document → Document
unworded_doc d = record { root = d.root; masked = d.masked; runs = each unworded_run d.runs }

-- What a pile of layers means by how much of it is read, over a document.
abbrev pub doc_through : Layer → Document → Document
doc_through Plain d = d
doc_through Unworded d = unworded_doc d
doc_through Masked d = masked_doc (unworded_doc d)

-- What a pile of layers means, where m says what the source below them means.
abbrev pub layered_doc : {S : Type 0} → (S → Document) → Layered S → Document
layered_doc m l = doc_through l.layer (m l.stack.inner.inner)
