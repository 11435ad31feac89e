-- A run's parts as slices: loops over them.
use Rattle.std.proofs.Common.{sum, Bool, ⊎_elim, length-drop, option_map, Bor, Option, map, nat_eq, nat_lt, slice_get, reverse, not, ◌≡◌, ℕ, suc, ◌+◌, ◌-◌, ◌<◌, ◌≤◌, true, false, cond, List, [], ◌∷◌, length, get_or, take, drop, Some, None, Decides, sym, refl, ap, ◌∙◌, subst, arith}
use Rattle.std.specs.Option.{option_eq, option_copied, option_or}
use lib.Pointwise.{pointwise}
use Rattle.std.proofs.lemmas.Iterator.Adapters.{option_map_id}
use Rattle.std.proofs.lemmas.List.Folds.{find-append}
use Rattle.std.proofs.lemmas.List.Sums.{sum_by-cons}
use Rattle.std.proofs.lemmas.Slice.Eq.{slice_eq-Decides}
use Rattle.std.proofs.lemmas.Bool.Decides.{Decides-eqb}
use Rattle.std.specs.List.{find}
use Rattle.std.proofs.lemmas.List.{drop_more, map-id, reverse-append}
use Rattle.std.proofs.lemmas.Bool.{false≢true, cases_Bool}
use Rattle.source.specs.Runs.{first_from, or_lower, last_below}
use Rattle.page.specs.Texts.{cut, AllAre, feeds}

pub refuse : {P : Type 0} → (P → ⊥) → Decides false P
refuse h = (λ e. absurd (false≢true e), λ p. absurd (h p))

pub accept : {P : Type 0} → P → Decides true P
accept h = (λ e. h, λ p. refl)

-- Each of two facts gives the other.
abbrev pub Same : Type 0 → Type 0 → Type 0
Same P Q = (P → Q) × (Q → P)

-- A last element that is a line feed.
last_feeds : (bs : List ℕ) → option_eq nat_eq (slice_get bs (length bs - 1)) (Some 0x0A) ≡ feeds bs
last_feeds [] = refl
last_feeds (b ∷ []) = refl
last_feeds (b ∷ c ∷ bs) =
    let e : length (b ∷ c ∷ bs) - 1 ≡ suc (length (c ∷ bs) - 1) = omega arith in
    ap (λ n. option_eq nat_eq (slice_get (b ∷ c ∷ bs) n) (Some 0x0A)) e ∙ last_feeds (c ∷ bs)

pub feeds_last : (bs : List ℕ) (o : Option (Bor ℕ)) (x : Bor ℕ) → x.now ≡ 0x0A → option_copied o ≡ slice_get bs (length bs - 1) → option_eq (λ y z. nat_eq y.now z.now) o (Some x) ≡ feeds bs
feeds_last bs o x e h = behind o x ∙ (λ i. option_eq nat_eq (h i) (Some (e i))) ∙ last_feeds bs
  where
    behind : (o : Option (Bor ℕ)) (x : Bor ℕ) → option_eq (λ y z. nat_eq y.now z.now) o (Some x) ≡ option_eq nat_eq (option_copied o) (Some x.now)
    behind None x = refl
    behind (Some y) x = refl

turned : {A : Type 0} (b : Bool) (x y : A) → cond (not b) x y ≡ cond b y x
turned true x y = refl
turned false x y = refl

-- The first word start that is not below an index, as it is looked for.
pub first_find : (i : ℕ) (ws : List ℕ) (o : Option ℕ) → option_map (λ x. x) o ≡ find (λ x. not (nat_lt x i)) (map (λ x. x) ws) → o ≡ first_from i ws
first_find i ws o e = sym (option_map_id o) ∙ e ∙ go ws
  where
    go : (xs : List ℕ) → find (λ x. not (nat_lt x i)) (map (λ x. x) xs) ≡ first_from i xs
    go [] = refl
    go (x ∷ xs) = turned (nat_lt x i) (Some x) (find (λ y. not (nat_lt y i)) (map (λ y. y) xs)) ∙ ap (λ z. cond (nat_lt x i) z (Some x)) (go xs)

-- The last one below it is the first in reverse.
pub last_find : (i : ℕ) (ws : List ℕ) (o : Option ℕ) → option_map (λ x. x) o ≡ find (λ x. nat_lt x i) (map (λ x. x) (reverse ws)) → o ≡ last_below i ws
last_find i ws o e = sym (option_map_id o) ∙ e ∙ ap (find (λ x. nat_lt x i)) (map-id (reverse ws)) ∙ go ws
  where
    either : (x : ℕ) (p : Option ℕ) → option_or p (cond (nat_lt x i) (Some x) None) ≡ or_lower i x p
    either x None = refl
    either x (Some y) = refl

    go : (xs : List ℕ) → find (λ x. nat_lt x i) (reverse xs) ≡ last_below i xs
    go [] = refl
    go (x ∷ xs) =
        ap (find (λ y. nat_lt y i)) (reverse-append (x ∷ []) xs)
        ∙ find-append (λ y. nat_lt y i) (reverse xs) (x ∷ [])
        ∙ ap (λ z. option_or z (cond (nat_lt x i) (Some x) None)) (go xs)
        ∙ either x (last_below i xs)

-- Two slices that are compared.
module _ (xs ys : List ℕ) where
  compared : Decides (pointwise nat_eq xs ys) (xs ≡ ys)
  compared = slice_eq-Decides Decides-eqb xs ys (pointwise nat_eq xs ys) refl

  pub unlike : true ≡ not (pointwise nat_eq xs ys) → xs ≡ ys → ⊥
  unlike t e = false≢true (sym (t ∙ ap not (compared.1 e)))

  pub alike : false ≡ not (pointwise nat_eq xs ys) → xs ≡ ys
  alike t = ⊎_elim (λ q. compared.0 q) (λ q. absurd (false≢true (t ∙ ap not q))) (cases_Bool (pointwise nat_eq xs ys))

-- The characters from the place k on are c just if the next is, and those behind it are.
module _ (c bs ns : List ℕ) (k : ℕ) (h : k < length ns) where
  pub are_more : AllAre c (cut (drop k ns) bs) → (take (get_or ns k 0) bs ≡ c) × AllAre c (cut (drop (k + 1) ns) (drop (get_or ns k 0) bs))
  are_more a = subst (λ (l : List ℕ). AllAre c (cut l bs)) (drop_more ns k 0 h) a

  pub are_back : take (get_or ns k 0) bs ≡ c → AllAre c (cut (drop (k + 1) ns) (drop (get_or ns k 0) bs)) → AllAre c (cut (drop k ns) bs)
  are_back e a = subst (λ (l : List ℕ). AllAre c (cut l bs)) (sym (drop_more ns k 0 h)) (e, a)

  pub sum_more : sum (drop k ns) ≤ length bs → sum (drop (k + 1) ns) ≤ length (drop (get_or ns k 0) bs)
  sum_more s =
      let e = ap sum (drop_more ns k 0 h) in
      let p = sum_by-cons (λ x. x) (get_or ns k 0) (drop (k + 1) ns) in
      let l = length-drop (get_or ns k 0) bs in
      omega (arith, s, e, p, l)
