-- Steps up from a row, towards row 0.
use Rattle.std.proofs.Common.{◌≡◌, ℕ, zero, suc, ◌-◌, ◌<◌, cond, List, refl, ap, ◌∙◌, arith}
use Rattle.std.proofs.lemmas.Bool.{ne_eqb}
use Rattle.rows.specs.declared.node.Row.{Row}
use Rattle.rows.specs.Rows.{par, lift}

module _ (rs : List Row) where
  pub lift_top : (n : ℕ) → lift rs n 0 ≡ 0
  unfolding lift
  lift_top zero = refl
  lift_top (suc n) = refl

  pub lift_none : (n r : ℕ) → n ≡ 0 → lift rs n r ≡ r
  unfolding lift
  lift_none zero r e = refl
  lift_none (suc n) r e = absurd (omega arith)

  pub lift_low : (n r : ℕ) → r < 1 → lift rs n r ≡ 0
  lift_low n r h = let e : r ≡ 0 = omega arith in ap (lift rs n) e ∙ lift_top n

  pub lift_step : (n r : ℕ) → 0 < n → 0 < r → lift rs n r ≡ lift rs (n - 1) (par rs r)
  unfolding lift
  lift_step zero r a b = absurd (omega arith)
  lift_step (suc n) r a b =
      let e : n ≡ suc n - 1 = omega arith in
      ap (λ t. cond t 0 (lift rs n (par rs r))) (ne_eqb r 0 (λ z. omega arith)) ∙ ap (λ m. lift rs m (par rs r)) e
