-- From one place to a later one the global index grows by what stands between.
use Rattle.std.proofs.Common.{◌≡◌, ℕ, ◌+◌, ◌-◌, ◌≤◌, take, drop, ap, ◌∙◌, arith}
use Rattle.source.specs.Runs.{Document, Sound, Character}
use Rattle.position.specs.Places.{characters_of}
use Rattle.range.specs.Texts.{between}
use Rattle.range.proofs.Characters.{characters_sound}
use Rattle.index.specs.Measured.{measured, index_at}
use Rattle.index.proofs.Sums.{sum_all, measured_all, all_take, every_take, every_drop}

pub index_more : (u : ℕ → ℕ) (d : Document) (a b : ℕ) → Sound d → a ≤ b → index_at u d b ≡ index_at u d a + measured u (between d a b)
index_more u d a b s h =
    let cs = characters_of d.runs in
    let every = characters_sound d.runs s.runs in
    let same : b ≡ a + (b - a) = omega arith in
    let x = measured_all u (take a cs) (every_take Character cs a every) in
    let y = measured_all u (take (b - a) (drop a cs)) (every_take Character (drop a cs) (b - a) (every_drop Character cs a every)) in
    let z = measured_all u (take b cs) (every_take Character cs b every) ∙ ap (λ n. sum_all u (take n cs)) same ∙ all_take u cs a (b - a) in
    omega arith
