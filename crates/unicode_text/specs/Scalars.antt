-- The Unicode Standard, Table 3-6: scalar values and the bytes that encode them in UTF-8.
use Rattle.std.specs.Prelude.{◌≡◌, ℕ, ◌+◌, ◌*◌, ◌/◌, ◌%◌, ◌<◌, ◌≤◌, Bool, true, cond, not, ◌&&◌, ◌⊎◌, List, [], ◌∷◌, ◌++◌, length, drop, Some, None, Option, ◌≢◌, nat_le, nat_lt, slice_index}
use Rattle.std.specs.List.{flat_map}
use Rattle.unicode_text.specs.declared.scalar.Scalar.{Scalar}

-- A Unicode scalar value: U+0000 to U+D7FF, or U+E000 to U+10FFFF.
abbrev pub IsScalar : ℕ → Type 0
IsScalar c = (c ≤ 0xD7FF) ⊎ ((0xE000 ≤ c) × (c ≤ 0x10FFFF))

-- Every number of the list is a scalar value.
abbrev pub Scalars : List ℕ → Type 0
Scalars [] = Unit {0}
Scalars (c ∷ cs) = IsScalar c × Scalars cs

-- The six low bits of a scalar's k-th group from its end, behind the mark of a trailing byte.
abbrev pub trailing : ℕ → ℕ
trailing bits = 0x80 + bits % 0x40

-- The bytes that encode a scalar, by its size.
unfoldable pub encode : ℕ → List ℕ
encode c =
    cond (nat_lt c 0x80) (c ∷ [])
    (cond (nat_lt c 0x800) ((0xC0 + c / 0x40) ∷ trailing c ∷ [])
    (cond (nat_lt c 0x1_0000) ((0xE0 + c / 0x1000) ∷ trailing (c / 0x40) ∷ trailing c ∷ [])
    ((0xF0 + c / 0x4_0000) ∷ trailing (c / 0x1000) ∷ trailing (c / 0x40) ∷ trailing c ∷ [])))

-- The encodings of the scalars, one behind the other.
abbrev pub encodings : List ℕ → List ℕ
encodings cs = flat_map encode cs

-- The text is exactly the encodings of these scalars.
pub record Spells (cs t : List ℕ) : Type 0 where
  pub scalars : Scalars cs
  pub bytes : t ≡ encodings cs

-- A byte with which the encoding of a scalar begins: none from 80 to BF.
abbrev pub begins : ℕ → Bool
begins b = not (nat_le 0x80 b && nat_le b 0xBF)

-- The six bits of the trailing byte at place k.
abbrev pub bits : List ℕ → ℕ → ℕ
bits s k = slice_index s k % 0x40

-- The number whose encoding begins with b and goes on with s.
unfoldable pub decode : ℕ → List ℕ → ℕ
decode b s =
    cond (nat_lt b 0x80) b
    (cond (nat_lt b 0xE0) ((b % 0x20) * 0x40 + bits s 0)
    (cond (nat_lt b 0xF0) ((b % 0x10) * 0x1000 + bits s 0 * 0x40 + bits s 1)
    ((b % 0x08) * 0x4_0000 + bits s 0 * 0x1000 + bits s 1 * 0x40 + bits s 2)))

-- The scalars of a text: one for each byte with which an encoding begins.
unfoldable pub scalars : List ℕ → List ℕ
scalars [] = []
scalars (b ∷ s) = cond (begins b) (decode b s ∷ scalars s) (scalars s)

-- What stands at an offset: nothing where no scalar's encoding begins there, else that scalar and the
-- number of bytes of its encoding.
abbrev pub StandsAt : List ℕ → ℕ → Option Scalar → Type 0
StandsAt t at None = (c : ℕ) (s : List ℕ) → IsScalar c → drop at t ≢ encode c ++ s
StandsAt t at (Some x) = IsScalar x.value × (x.length ≡ length (encode x.value)) × (drop at t ≡ encode x.value ++ drop (at + x.length) t)

-- The offset is the text's end, or that of a byte with which an encoding begins.
abbrev pub Cut : List ℕ → ℕ → Type 0
Cut t at = (at ≤ length t) × (at < length t → begins (slice_index t at) ≡ true)

-- The offset falls between two scalars of the text, before the first or behind the last.
abbrev pub Between : List ℕ → ℕ → Type 0
Between t at = (before : List ℕ) × (behind : List ℕ) × (scalars t ≡ before ++ behind) × (length (encodings before) ≡ at)
