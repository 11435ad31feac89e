-- A layer over a sound document is sound.
use Rattle.std.specs.Prelude.{◌≡◌, ℕ, zero, suc, ◌<◌, ◌≤◌, List, [], ◌∷◌, length, refl}
use Rattle.std.proofs.Common.{sym, ap, subst, ◌∙◌, lit<, lit≤}
use Rattle.unicode_text.specs.Table.WellFormed.{empty, row4}
use Rattle.source.specs.declared.layered.Layered.{Layered}
use Rattle.source.specs.declared.layered.Layer.{Layer}
use Rattle.source.specs.declared.layered.Layer.TheVariants.{Plain, Unworded, Masked}
use Rattle.source.specs.Runs.{Run, Document, count, bullet, Every, Character, Rising, SoundRun, Lacks, Listed, Bulleted, Sound}
use Rattle.source.specs.Pieces.{bullets}
use Rattle.source.specs.Layers.{each, masked_run, masked_doc, unworded_run, unworded_doc, doc_through, layered_doc}

-- So many bullets are that many.
pub bullets_length : (n : ℕ) → length (bullets n) ≡ n
bullets_length zero = refl
bullets_length (suc n) = ap suc (bullets_length n)

-- f of each element keeps their number.
pub each_length : {A B : Type 0} (f : A → B) (xs : List A) → length (each f xs) ≡ length xs
each_length f [] = refl
each_length f (x ∷ xs) = ap suc (each_length f xs)

-- What f makes of every element, it makes of every element of the list.
each_every : {A B : Type 0} (P : A → Type 0) (Q : B → Type 0) (f : A → B) → ((x : A) → P x → Q (f x)) → (xs : List A) → Every P xs → Every Q (each f xs)
each_every P Q f h [] e = tt
each_every P Q f h (x ∷ xs) e = (h x e.0, each_every P Q f h xs e.1)

-- A change of runs that keeps rows, joins and counts.
pub record Keeps (f : Run → Run) : Type 0 where
  pub row : (x : Run) → (f x).row ≡ x.row
  pub joined : (x : Run) → (f x).joined ≡ x.joined
  pub counted : (x : Run) → count (f x) ≡ count x

module _ (f : Run → Run) (k : Keeps f) where
  keeps_lacks : (r : ℕ) (xs : List Run) → Lacks r xs → Lacks r (each f xs)
  keeps_lacks r [] h = tt
  keeps_lacks r (x ∷ xs) h = (λ e. h.0 (sym (k.row x) ∙ e), keeps_lacks r xs h.1)

  -- It keeps a source's list one.
  pub keeps_listed : (xs : List Run) → Listed xs → Listed (each f xs)
  keeps_listed [] h = h
  keeps_listed (x ∷ []) h = k.joined x ∙ h
  keeps_listed (x ∷ y ∷ ys) h = (
    subst (λ n. 0 < n) (sym (k.counted x)) h.0,
    subst (λ r. Lacks r (each f (y ∷ ys))) (sym (k.row x)) (keeps_lacks x.row (y ∷ ys) h.1),
    keeps_listed (y ∷ ys) h.2,
  )

-- The bullet is a character.
bullet_character : Character bullet
bullet_character = record {
  some = lit< tt;
  short = lit≤ tt;
  whole = row4 (lit≤ tt, lit≤ tt) (lit≤ tt, lit≤ tt) (lit≤ tt, lit≤ tt) empty;
}

bullets_every : (P : List ℕ → Type 0) → P bullet → (n : ℕ) → Every P (bullets n)
bullets_every P h zero = tt
bullets_every P h (suc n) = (h, bullets_every P h n)

-- Masking keeps rows, joins and counts.
pub masked_keeps : Keeps masked_run
masked_keeps = record { row = λ x. refl; joined = λ x. refl; counted = λ x. bullets_length (count x) }

-- So does unwording.
pub unworded_keeps : Keeps unworded_run
unworded_keeps = record { row = λ x. refl; joined = λ x. refl; counted = λ x. refl }

masked_run_lem : (x : Run) → SoundRun x → SoundRun (masked_run x)
masked_run_lem x h = record {
  few = subst (λ n. n ≤ 255) (sym (bullets_length (count x))) h.few;
  characters = bullets_every Character bullet_character (count x);
  words = subst (λ n. Rising 0 n x.words) (sym (bullets_length (count x))) h.words;
}

all_bulleted : (xs : List Run) → Every Bulleted (each masked_run xs)
all_bulleted [] = tt
all_bulleted (x ∷ xs) = (bullets_every (λ c. c ≡ bullet) refl (count x), all_bulleted xs)

-- A masked source is sound.
pub masked_sound : (d : Document) → Sound d → Sound (masked_doc d)
masked_sound d h = record {
  few = subst (λ n. n ≤ 1024) (sym (each_length masked_run d.runs)) h.few;
  listed = keeps_listed masked_run masked_keeps d.runs h.listed;
  runs = each_every SoundRun SoundRun masked_run masked_run_lem d.runs h.runs;
  bulleted = λ e. all_bulleted d.runs;
}

unworded_run_lem : (x : Run) → SoundRun x → SoundRun (unworded_run x)
unworded_run_lem x h = record { few = h.few; characters = h.characters; words = tt }

-- An unworded source is sound.
pub unworded_sound : (d : Document) → Sound d → Sound (unworded_doc d)
unworded_sound d h = record {
  few = subst (λ n. n ≤ 1024) (sym (each_length unworded_run d.runs)) h.few;
  listed = keeps_listed unworded_run unworded_keeps d.runs h.listed;
  runs = each_every SoundRun SoundRun unworded_run unworded_run_lem d.runs h.runs;
  bulleted = λ e. each_every Bulleted Bulleted unworded_run (λ x b. b) d.runs (h.bulleted e);
}

through_sound : (l : Layer) (d : Document) → Sound d → Sound (doc_through l d)
through_sound Plain d h = h
through_sound Unworded d h = unworded_sound d h
through_sound Masked d h = masked_sound (unworded_doc d) (unworded_sound d h)

-- A pile of layers is sound, however much of it is read.
pub layered_sound : {S : Type 0} (m : S → Document) → ((s : S) → Sound (m s)) → (l : Layered S) → Sound (layered_doc m l)
layered_sound m h l = through_sound l.layer (m l.stack.inner.inner) (h l.stack.inner.inner)
