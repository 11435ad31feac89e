-- What is left of a text behind a scalar: its measure, and whether it is well-formed.
use Rattle.std.proofs.Common.{◌≡◌, ℕ, ◌+◌, ◌<◌, ◌≤◌, List, [], ◌∷◌, ◌++◌, length, drop, Some, None, sym, ap, ◌∙◌, subst, arith, length-append, length-drop}
use Rattle.std.proofs.lemmas.List.{append_cancel_left, drop_all}
use Rattle.unicode_text.specs.declared.scalar.Scalar.{Scalar}
use Rattle.unicode_text.specs.Table.{WellFormed}
use Rattle.unicode_text.specs.Table.WellFormed.{empty}
use Rattle.unicode_text.specs.Scalars.{IsScalar, Scalars, encode, encodings, Spells, scalars, StandsAt}
use Rattle.unicode_text.specs.Measures.{total}
use Rattle.unicode_text.proofs.Encodings.{reads, fits, spelt, encodings_fit}
use Rattle.unicode_text.proofs.Cuts.{encode_some}

-- a well-formed text is well-formed behind its first scalar
pub well_behind : (c : ℕ) (s : List ℕ) → IsScalar c → WellFormed (encode c ++ s) → WellFormed s
well_behind c s i w =
    let p = spelt w in
    let r = reads c s i in
    let b = p.bytes ∙ ap encodings r in
    let cs = subst Scalars r p.scalars in
    subst (λ (x : List ℕ). WellFormed x) (sym (append_cancel_left (encode c) s (encodings (scalars s)) b)) (encodings_fit (scalars s) cs.1)

module _ (t : List ℕ) (at : ℕ) where
  module _ (x : Scalar) (h : StandsAt t at (Some x)) where
    -- the scalars from the offset on
    from_here : scalars (drop at t) ≡ x.value ∷ scalars (drop (at + x.length) t)
    from_here = ap scalars h.2 ∙ reads x.value (drop (at + x.length) t) h.0

    pub sum_more : (u : ℕ → ℕ) (sum all : ℕ) → sum + total u (scalars (drop at t)) ≡ all → (sum + u x.value) + total u (scalars (drop (at + x.length) t)) ≡ all
    sum_more u sum all e = let m = ap (total u) from_here in omega arith

    pub well_more : WellFormed (drop at t) → WellFormed (drop (at + x.length) t)
    well_more w = well_behind x.value (drop (at + x.length) t) h.0 (subst (λ (s : List ℕ). WellFormed s) h.2 w)

    pub well_less : WellFormed (drop (at + x.length) t) → WellFormed (drop at t)
    well_less w = subst (λ (s : List ℕ). WellFormed s) (sym h.2) (fits x.value (drop (at + x.length) t) h.0 w)

    pub some_bytes : 0 < x.length
    some_bytes = let n = encode_some x.value h.0 in let l = h.1 in omega arith

    pub within : at < length t → at + x.length ≤ length t
    within l =
        let n = encode_some x.value h.0 in
        let m = h.1 in
        let e = sym (length-drop at t) ∙ ap length h.2 ∙ length-append (encode x.value) (drop (at + x.length) t) in
        omega arith

  -- where no scalar stands before the end, what is left is ill-formed
  pub no_well : at < length t → StandsAt t at None → WellFormed (drop at t) → ⊥
  no_well l n w = go (scalars (drop at t)) (spelt w)
    where
      go : (cs : List ℕ) → Spells cs (drop at t) → ⊥
      go [] p = let e = sym (length-drop at t) ∙ ap length p.bytes in omega arith
      go (c ∷ cs) p = n c (encodings cs) p.scalars.0 p.bytes

  pub done : length t ≤ at → WellFormed (drop at t)
  done h = subst (λ (s : List ℕ). WellFormed s) (sym (drop_all at t h)) empty

  pub sum_all_lem : length t ≤ at → (u : ℕ → ℕ) (sum all : ℕ) → sum + total u (scalars (drop at t)) ≡ all → sum ≡ all
  unfolding scalars
  sum_all_lem h u sum all e = let z = ap (λ (s : List ℕ). total u (scalars s)) (drop_all at t h) in omega arith
