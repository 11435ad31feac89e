-- A unit's spans, from a place on and up to a place.
use Rattle.std.proofs.Common.{◌≡◌, ℕ, zero, suc, ◌+◌, ◌-◌, ◌<◌, ◌≤◌, true, false, List, [], ◌∷◌, ◌++◌, sym, refl, ap, ◌∙◌, subst, ⊎_elim, add-zero, add-suc, suc-add, zero-add, arith}
use Rattle.std.proofs.lemmas.Bool.{cond-true, cond-false, cases_lt, cases_Bool}
use Rattle.unit.specs.Stops.{Stops, Forward, Backward}
use Rattle.reader.specs.Spans.{Span, stops_from, opened, spans, Chain}

pub stops_skip : (u : Stops) (n m k : ℕ) → ((j : ℕ) → k ≤ j → j < k + n → u.stop j ≡ false) → stops_from u k (n + m) ≡ stops_from u (k + n) m
stops_skip u zero m k h = rw (zero-add m, add-zero k)
stops_skip u (suc n) m k h =
    ap (stops_from u k) (suc-add n m)
    ∙ cond-false (u.stop k) (k ∷ stops_from u (suc k) (n + m)) (stops_from u (suc k) (n + m)) (h k (omega arith) (omega arith))
    ∙ stops_skip u n m (suc k) (λ j a b. h j (omega arith) (omega arith))
    ∙ ap (λ i. stops_from u i m) (suc-add k n ∙ sym (add-suc k n))

pub stops_here : (u : Stops) (k n : ℕ) → u.stop k ≡ true → 0 < n → stops_from u k n ≡ k ∷ stops_from u (suc k) (n - 1)
stops_here u k zero s h = absurd (omega arith)
stops_here u k (suc n) s h =
    cond-true (u.stop k) (k ∷ stops_from u (suc k) n) (stops_from u (suc k) n) s
    ∙ ap (λ i. k ∷ stops_from u (suc k) i) (omega arith)

pub stops_on : (u : Stops) (end a b : ℕ) → Forward u end a b → u.stop a ≡ true → stops_from u a (end - a) ≡ a ∷ stops_from u b (end - b)
stops_on u end a b f s =
    let i = f.inside in
    let g = f.after in
    stops_here u a (end - a) s (omega arith)
    ∙ ap (λ n. a ∷ stops_from u (suc a) n) (omega arith)
    ∙ ap (λ l. a ∷ l) (stops_skip u (b - suc a) (end - b) (suc a) (λ j p q. f.skips j (omega arith) (omega arith)))
    ∙ ap (λ n. a ∷ stops_from u n (end - b)) (omega arith)

-- the spans from place a on
abbrev pub from : Stops → ℕ → ℕ → List Span
from u end a = opened end (stops_from u a (end - a))

abbrev pub span : ℕ → ℕ → Span
span a b = record { from = a; to = b }

pub from_end : (u : Stops) (end : ℕ) → from u end end ≡ []
from_end u end = let e : end - end ≡ 0 = omega arith in ap (λ n. opened end (stops_from u end n)) e

pub from_on : (u : Stops) (end a b : ℕ) → Forward u end a b → u.stop a ≡ true → from u end a ≡ span a b ∷ from u end b
from_on u end a b f s =
    ⊎_elim
    (λ l.
    let e = stops_here u b (end - b) (f.lands l) (omega arith) in
    ap (opened end) (stops_on u end a b f s ∙ ap (λ x. a ∷ x) e)
    ∙ ap (λ x. span a b ∷ opened end x) (sym e))
    (λ l.
    let i = f.inside in
    let q : end - b ≡ 0 = omega arith in
    let e : stops_from u b (end - b) ≡ [] = ap (stops_from u b) q in
    let z : end ≡ b = omega arith in
    ap (opened end) (stops_on u end a b f s ∙ ap (λ x. a ∷ x) e)
    ∙ ap (λ n. span a n ∷ []) z
    ∙ ap (λ x. span a b ∷ opened end x) (sym e))
    (cases_lt b end)

abbrev empty : List Span → Type 0
empty [] = Unit {0}
empty (x ∷ xs) = ⊥

opened_some : (end a : ℕ) (l : List ℕ) → opened end (a ∷ l) ≡ [] → ⊥
opened_some end a [] e = subst empty (sym e) tt
opened_some end a (b ∷ bs) e = subst empty (sym e) tt

-- some span is left before the end
pub from_some : (u : Stops) (end a : ℕ) → a < end → u.stop a ≡ true → from u end a ≡ [] → ⊥
from_some u end a h s e =
    opened_some end a (stops_from u (suc a) ((end - a) - 1)) (ap (opened end) (sym (stops_here u a (end - a) s (omega arith))) ∙ e)

-- the spans before place a, the last of them closed by a
abbrev pub upto : Stops → ℕ → List Span
upto u a = opened a (stops_from u 0 a)

stops_append : (u : Stops) (m n k : ℕ) → stops_from u k (m + n) ≡ stops_from u k m ++ stops_from u (k + m) n
stops_append u zero n k = rw (zero-add n, add-zero k)
stops_append u (suc m) n k =
    let ih = stops_append u m n (suc k) ∙ ap (λ i. stops_from u (suc k) m ++ stops_from u i n) (suc-add k m ∙ sym (add-suc k m)) in
    ap (stops_from u k) (suc-add m n)
    ∙ ⊎_elim
    (λ t. cond-true (u.stop k) (k ∷ stops_from u (suc k) (m + n)) (stops_from u (suc k) (m + n)) t
    ∙ ap (λ l. k ∷ l) ih
    ∙ ap (λ l. l ++ stops_from u (k + suc m) n) (sym (cond-true (u.stop k) (k ∷ stops_from u (suc k) m) (stops_from u (suc k) m) t)))
    (λ t. cond-false (u.stop k) (k ∷ stops_from u (suc k) (m + n)) (stops_from u (suc k) (m + n)) t
    ∙ ih
    ∙ ap (λ l. l ++ stops_from u (k + suc m) n) (sym (cond-false (u.stop k) (k ∷ stops_from u (suc k) m) (stops_from u (suc k) m) t)))
    (cases_Bool (u.stop k))

opened_push : (a b : ℕ) (l : List ℕ) → opened a (l ++ (b ∷ [])) ≡ opened b l ++ (span b a ∷ [])
opened_push a b [] = refl
opened_push a b (x ∷ []) = refl
opened_push a b (x ∷ y ∷ l) = ap (λ z. span x y ∷ z) (opened_push a b (y ∷ l))

stops_last : (u : Stops) (a b : ℕ) → Backward u a b → stops_from u b (a - b) ≡ b ∷ []
stops_last u a b f =
    let h = f.before in
    let e : (a - b) - 1 ≡ (a - suc b) + 0 = omega arith in
    stops_here u b (a - b) f.lands (omega arith)
    ∙ ap (λ n. b ∷ stops_from u (suc b) n) e
    ∙ ap (λ l. b ∷ l) (stops_skip u (a - suc b) 0 (suc b) (λ j p q. f.skips j (omega arith) (omega arith)))

pub upto_back : (u : Stops) (a b : ℕ) → Backward u a b → upto u a ≡ upto u b ++ (span b a ∷ [])
upto_back u a b f =
    let h = f.before in
    let e : a ≡ b + (a - b) = omega arith in
    let z : stops_from u 0 a ≡ stops_from u 0 b ++ (b ∷ []) =
    ap (stops_from u 0) e ∙ stops_append u b (a - b) 0 ∙ ap (λ i. stops_from u 0 b ++ stops_from u i (a - b)) (zero-add b) ∙ ap (λ l. stops_from u 0 b ++ l) (stops_last u a b f) in
    ap (opened a) z ∙ opened_push a b (stops_from u 0 b)

pub upto_some : (u : Stops) (a : ℕ) → 0 < a → upto u a ≡ [] → ⊥
upto_some u a h e = opened_some a 0 (stops_from u 1 (a - 1)) (ap (opened a) (sym (stops_here u 0 a u.first h)) ∙ e)

-- the first stop behind a place, else the end place
ahead : (u : Stops) (end a n k : ℕ) → k + n ≡ end → a < k → ((j : ℕ) → a < j → j < k → u.stop j ≡ false) → (b : ℕ) × Forward u end a b
ahead u end a zero k e h w = (k, record { after = h; inside = omega arith; lands = λ l. absurd (omega arith); skips = w })
ahead u end a (suc n) k e h w =
    ⊎_elim
    (λ t. (k, record { after = h; inside = omega arith; lands = λ l. t; skips = w }))
    (λ t.
    ahead u end a n (suc k) (omega arith) (omega arith)
    (λ j p q. ⊎_elim (λ l. w j p l) (λ l. let z : k ≡ j = omega arith in subst (λ i. u.stop i ≡ false) z t) (cases_lt j k)))
    (cases_Bool (u.stop k))

-- the spans from a place on follow one another to the end place
chain_end : (u : Stops) (end a : ℕ) → end ≤ a → a ≤ end → Chain u end a (from u end a)
chain_end u end a k h =
    let z : end ≡ a = omega arith in
    subst (λ b. Chain u end b (from u end b)) z (subst (Chain u end end) (sym (from_end u end)) refl)

chain_from : (u : Stops) (end n a : ℕ) → end ≤ a + n → a ≤ end → (a < end → u.stop a ≡ true) → Chain u end a (from u end a)
chain_from u end zero a k h s = chain_end u end a (omega arith) h
chain_from u end (suc n) a k h s =
    ⊎_elim
    (λ l.
    let w = ahead u end a (end - suc a) (suc a) (omega arith) (omega arith) (λ j p q. absurd (omega arith)) in
    let f = w.1 in
    let i = f.after in
    subst (Chain u end a) (sym (from_on u end a w.0 f (s l)))
    (refl, f, chain_from u end n w.0 (omega arith) f.inside f.lands))
    (λ l. chain_end u end a l h)
    (cases_lt a end)

pub chain_all : (u : Stops) (end : ℕ) → Chain u end 0 (spans u end)
chain_all u end =
    let e : end - 0 ≡ end = omega arith in
    subst (λ n. Chain u end 0 (opened end (stops_from u 0 n))) e (chain_from u end end 0 (omega arith) (omega arith) (λ l. u.first))
