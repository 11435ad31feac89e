-- Which sources are piled up over a page.
use Rattle.std.specs.Prelude.{◌≡◌, ℕ, List}
use Rattle.std.specs.Option.{IsSomeAnd}
use Rattle.rows.specs.Rows.{row}
use Rattle.source.specs.declared.layered.Layered.{Layered}
use Rattle.source.specs.declared.layered.Layer.{Layer}
use Rattle.source.specs.declared.layered.Layer.TheVariants.{Plain, Unworded, Masked}
use Rattle.source.specs.Runs.{Run, Every}
use Rattle.page.specs.declared.draft.Draft.{Draft}
use Rattle.page.specs.declared.page.Page.{Page}
use Rattle.page.specs.Texts.{AllAre}
use Rattle.page.specs.Sheets.{sheet_of}
use Rattle.page.specs.Pages.{page_doc}

-- The draft's root is a password input.
abbrev pub HasPassword : Draft → Type 0
HasPassword d = (row (sheet_of d).rows d.root.0).role ≡ 5

-- The page's root is a password input; the blank page has no such root.
abbrev pub IsPassword : Page → Type 0
IsPassword p = IsSomeAnd p.draft (λ d. HasPassword d)

-- There is one string that every character of the runs is: no two characters differ.
abbrev pub Uniform : List Run → Type 0
Uniform xs = (c : List ℕ) × Every (λ x. AllAre c x.characters) xs

-- A password root reads through unworded, and through masked above it when two characters under the
-- root differ; any other page is read as it is.
abbrev pub LayerOf : Page → Layer → Type 0
LayerOf p Plain = IsPassword p → ⊥
LayerOf p Unworded = IsPassword p × Uniform (page_doc p).runs
LayerOf p Masked = IsPassword p × (Uniform (page_doc p).runs → ⊥)

-- The pile over a page, and how much of it is read.
abbrev pub Layers : Page → Layered Page → Type 0
Layers p l = (l.stack.inner.inner ≡ p) × LayerOf p l.layer
