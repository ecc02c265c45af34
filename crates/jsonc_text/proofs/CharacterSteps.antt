-- Steps over the characters of a text, by places in its bytes.
use Rattle.std.proofs.Common.{ℕ, ◌+◌, ◌<◌, ◌≤◌, ◌≡◌, ◌∙◌, sym, ap, refl, List, [], ◌∷◌, ◌++◌, length, drop, get_or, IsUtf8, chars, IsTrue, add-one, Bool, IsCharBoundary, encode_utf8, Option, Some, None, IfSome, MatchOption}
use Rattle.std.proofs.lemmas.Str.{chars_past_char, chars-nil, IsUtf8-drop, IsCharBoundary-before_ascii, IsCharBoundary-after_ascii, encode_ascii, drop_past_char, IsCharBoundary-past_char}
use Rattle.std.proofs.Math.Seq.{drop-cons}
use Rattle.std.proofs.Math.ListN.{drop_of_length-le}
use Rattle.std.specs.Char.{len_utf8}
use Rattle.jsonc_text.specs.Text.{rest, next, no, Many, stop, step}
use Rattle.jsonc_text.specs.Chars.{Steps}

-- nothing stands at the end
pub rest_end : (bytes : List ℕ) (i : ℕ) → length bytes ≤ i → rest bytes i ≡ []
rest_end bytes i h = ap chars (drop_of_length-le bytes h) ∙ chars-nil

pub no_at_end : (p : ℕ → Bool) (bytes : List ℕ) (i : ℕ) → length bytes ≤ i → IsTrue (no p (next (rest bytes i)))
no_at_end p bytes i h = rw (rest_end bytes i h) refl

-- the bytes of a character are a step
pub steps_char : (bytes tail : List ℕ) (i c : ℕ) → IsUtf8 bytes → IsCharBoundary bytes i → drop i bytes ≡ encode_utf8 c ++ tail → Steps bytes i c (i + len_utf8 c)
steps_char bytes tail i c u b e = (
  chars_past_char (drop i bytes) tail c (IsUtf8-drop bytes i u b) e ∙ ap (λ t. c ∷ chars t) (sym (drop_past_char bytes tail i c e)),
  IsCharBoundary-past_char bytes tail i c b.0 (IsUtf8-drop bytes i u b) e,
)

-- an ASCII byte is that character
pub steps_ascii : (bytes : List ℕ) (i : ℕ) → IsUtf8 bytes → i < length bytes → get_or bytes i 0 < 128 → Steps bytes i (get_or bytes i 0) (i + 1)
steps_ascii bytes i u l a =
    let b = IsCharBoundary-before_ascii bytes i l a in
    let e : drop i bytes ≡ encode_utf8 (get_or bytes i 0) ++ drop (i + 1) bytes = rw (encode_ascii (get_or bytes i 0) a, add-one) (drop-cons bytes i 0 l) in (
      chars_past_char (drop i bytes) (drop (i + 1) bytes) (get_or bytes i 0) (IsUtf8-drop bytes i u b) e,
      IsCharBoundary-after_ascii bytes i u l a,
    )

pub many_append : {p : ℕ → Bool} {t u r : List ℕ} → Many p t u → Many p u r → Many p t r
many_append stop h = h
many_append (step e g) h = step e (many_append g h)

-- one more character that passes
pub many_push : (p : ℕ → Bool) (bytes : List ℕ) (start i c j : ℕ) → Many p (rest bytes start) (rest bytes i) → IsTrue (p c) → Steps bytes i c j → Many p (rest bytes start) (rest bytes j)
many_push p bytes start i c j many h one = many_append many (rw one.0 (step h stop))

-- one more that passes, at its byte
pub many_step : (p : ℕ → Bool) (bytes : List ℕ) (start i : ℕ) → IsUtf8 bytes → i < length bytes → get_or bytes i 0 < 128 → IsTrue (p (get_or bytes i 0)) → Many p (rest bytes start) (rest bytes i) → Many p (rest bytes start) (rest bytes (i + 1))
many_step p bytes start i u l a h many = many_push p bytes start i (get_or bytes i 0) (i + 1) many h (steps_ascii bytes i u l a)

-- for `next` of `chars`
pub some_of_match : {X : Type 0} (r : Option X) (A : Type 0) (B P : X → Type 0) → MatchOption r A B → ((x : X) → B x → P x) → IfSome r P
some_of_match None A B P m f = tt
some_of_match (Some x) A B P m f = f x m
