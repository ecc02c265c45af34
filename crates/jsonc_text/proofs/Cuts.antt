-- What stands between two places of a text: its characters, and its bytes.
use Rattle.std.proofs.Common.{ℕ, ◌+◌, ◌<◌, ◌≤◌, ◌≡◌, ◌∙◌, sym, ap, refl, List, [], ◌∷◌, ◌++◌, length, drop, arith, IsUtf8, chars, Bool, IsCharBoundary, encode_utf8, encode_utf8_all, length-append, length-drop, slice_range, take, ◌⊎◌, inl, inr, add-zero, subst}
use Rattle.std.proofs.lemmas.Str.{IsUtf8-drop, IsUtf8-between, encodes-chars, encodes-append, chars-append, length-encode, IsUtf8-take, IsCharBoundary-end}
use Rattle.std.proofs.lemmas.Bool.{cases_lt}
use Rattle.std.proofs.lemmas.List.{append_cancel_right, take-append-drop}
use Rattle.std.proofs.lemmas.List.Folds.{drop_split}
use Rattle.std.specs.Char.{len_utf8}
use Rattle.jsonc_text.specs.Text.{rest, Many, stop, step, byte_length, Spans}
use Rattle.jsonc_text.specs.Chars.{Steps}
use Rattle.jsonc_text.proofs.CharacterSteps.{rest_end, steps_char}

pub byte_length-append : (s t : List ℕ) → byte_length (s ++ t) ≡ byte_length s + byte_length t
byte_length-append s t = ap length (encodes-append s t) ∙ length-append (encode_utf8_all s) (encode_utf8_all t)

pub byte_length-one : (c : ℕ) → byte_length (c ∷ []) ≡ len_utf8 c
byte_length-one c = omega (arith, length-append (encode_utf8 c) [], length-encode c)

-- the bytes from a place on are the encoding of what stands there
pub rest_encodes : (bytes : List ℕ) (i : ℕ) → IsUtf8 bytes → IsCharBoundary bytes i → encode_utf8_all (rest bytes i) ≡ drop i bytes
rest_encodes bytes i u b = encodes-chars (drop i bytes) (IsUtf8-drop bytes i u b)

drop_parts : (bytes s : List ℕ) (i j : ℕ) → IsUtf8 bytes → IsCharBoundary bytes i → IsCharBoundary bytes j → rest bytes i ≡ s ++ rest bytes j → drop i bytes ≡ encode_utf8_all s ++ drop j bytes
drop_parts bytes s i j u b d e =
    sym (rest_encodes bytes i u b) ∙ ap encode_utf8_all e ∙ encodes-append s (rest bytes j) ∙ ap (λ t. encode_utf8_all s ++ t) (rest_encodes bytes j u d)

-- the place after the characters s
pub place_after : (bytes s : List ℕ) (i j : ℕ) → IsUtf8 bytes → IsCharBoundary bytes i → IsCharBoundary bytes j → rest bytes i ≡ s ++ rest bytes j → j ≡ i + byte_length s
place_after bytes s i j u b d e =
    omega (arith, ap length (drop_parts bytes s i j u b d e), length-drop i bytes, length-drop j bytes, length-append (encode_utf8_all s) (drop j bytes), b.0, d.0)

-- the bytes between two places are the encoding of the characters between them, and the other way
pub chars_between : (bytes : List ℕ) (i j : ℕ) → IsUtf8 bytes → Spans bytes i j → rest bytes i ≡ chars (slice_range bytes i j) ++ rest bytes j
chars_between bytes i j u h =
    ap chars (drop_split bytes i j h.order) ∙ chars-append (slice_range bytes i j) (drop j bytes) (IsUtf8-between bytes i j u h.order h.from h.to)

pub slice_encodes : (bytes s : List ℕ) (i j : ℕ) → IsUtf8 bytes → IsCharBoundary bytes i → IsCharBoundary bytes j → rest bytes i ≡ s ++ rest bytes j → slice_range bytes i j ≡ encode_utf8_all s
slice_encodes bytes s i j u b d e =
    let after : j ≡ i + byte_length s = place_after bytes s i j u b d e in
    append_cancel_right (slice_range bytes i j) (encode_utf8_all s) (drop j bytes) (sym (drop_split bytes i j (omega arith)) ∙ drop_parts bytes s i j u b d e)

pub slice_chars : (bytes s : List ℕ) (i j : ℕ) → IsUtf8 bytes → IsCharBoundary bytes i → IsCharBoundary bytes j → rest bytes i ≡ s ++ rest bytes j → chars (slice_range bytes i j) ≡ s
slice_chars bytes s i j u b d e =
    let after : j ≡ i + byte_length s = place_after bytes s i j u b d e in
    let spans : Spans bytes i j = record { from = b; to = d; order = omega arith } in
    append_cancel_right (chars (slice_range bytes i j)) s (rest bytes j) (sym (chars_between bytes i j u spans) ∙ e)

-- the order of the two places is that of what stands there
pub spans : (bytes s : List ℕ) (i j : ℕ) → IsUtf8 bytes → IsCharBoundary bytes i → IsCharBoundary bytes j → rest bytes i ≡ s ++ rest bytes j → Spans bytes i j
spans bytes s i j u b d e =
    let after : j ≡ i + byte_length s = place_after bytes s i j u b d e in
    record { from = b; to = d; order = omega arith }

-- one place has what stands there, and nothing stands at the end alone
pub same_place : (bytes : List ℕ) (i j : ℕ) → IsUtf8 bytes → IsCharBoundary bytes i → IsCharBoundary bytes j → rest bytes i ≡ rest bytes j → i ≡ j
same_place bytes i j u b d e =
    let after : j ≡ i + byte_length [] = place_after bytes [] i j u b d e in
    omega (arith, after)

pub end_place : (bytes : List ℕ) (i : ℕ) → IsUtf8 bytes → IsCharBoundary bytes i → rest bytes i ≡ [] → i ≡ length bytes
end_place bytes i u b e = same_place bytes i (length bytes) u b (IsCharBoundary-end bytes) (e ∙ sym (rest_end bytes (length bytes) (omega arith)))

pub within_text : (bytes s : List ℕ) (i c : ℕ) → IsCharBoundary bytes i → rest bytes i ≡ c ∷ s → i < length bytes
within_text bytes s i c b e = within (cases_lt i (length bytes))
  where
    within : (i < length bytes) ⊎ (length bytes ≤ i) → i < length bytes
    within (inl h) = h
    within (inr h) = let z : [] ≡ c ∷ s = sym (rest_end bytes i h) ∙ e in cc

-- a step leads on by the bytes of its character
pub step_place : (bytes : List ℕ) (i c j : ℕ) → IsUtf8 bytes → IsCharBoundary bytes i → Steps bytes i c j → j ≡ i + len_utf8 c
step_place bytes i c j u b s = place_after bytes (c ∷ []) i j u b s.1 s.0 ∙ ap (λ n. i + n) (byte_length-one c)

-- characters that pass a test, as a list
pub many_split : (p : ℕ → Bool) {t r : List ℕ} → Many p t r → (s : List ℕ) × (t ≡ s ++ r) × Many p s []
many_split p stop = ([], refl, stop)
many_split p (step {c = c} h m) = let more = many_split p m in (c ∷ more.0, ap (λ t. c ∷ t) more.1, step h more.2)

pub many_spans : (p : ℕ → Bool) (bytes : List ℕ) (i j : ℕ) → IsUtf8 bytes → IsCharBoundary bytes i → IsCharBoundary bytes j → Many p (rest bytes i) (rest bytes j) → Spans bytes i j
many_spans p bytes i j u b d m = let part = many_split p m in spans bytes part.0 i j u b d part.1

-- the characters of a text before a place, and after it
pub chars_at : (bytes : List ℕ) (i : ℕ) → IsUtf8 bytes → IsCharBoundary bytes i → chars bytes ≡ chars (take i bytes) ++ rest bytes i
chars_at bytes i u b = ap chars (sym (take-append-drop i bytes)) ∙ chars-append (take i bytes) (drop i bytes) (IsUtf8-take bytes i u b)

-- the characters s at a place lead to the place after them
first_step : (bytes t : List ℕ) (i c : ℕ) → IsUtf8 bytes → IsCharBoundary bytes i → rest bytes i ≡ c ∷ t → Steps bytes i c (i + len_utf8 c) × (rest bytes (i + len_utf8 c) ≡ t)
first_step bytes t i c u b e =
    let same : drop i bytes ≡ encode_utf8 c ++ encode_utf8_all t = sym (rest_encodes bytes i u b) ∙ ap encode_utf8_all e in
    let one : Steps bytes i c (i + len_utf8 c) = steps_char bytes (encode_utf8_all t) i c u b same in
    let both : c ∷ rest bytes (i + len_utf8 c) ≡ c ∷ t = sym one.0 ∙ e in
    (one, cc)

pub rest_past : (bytes s r : List ℕ) (i : ℕ) → IsUtf8 bytes → IsCharBoundary bytes i → rest bytes i ≡ s ++ r → (rest bytes (i + byte_length s) ≡ r) × IsCharBoundary bytes (i + byte_length s)
rest_past bytes [] r i u b e = rw (add-zero i) (e, b)
rest_past bytes (c ∷ s) r i u b e =
    let one = first_step bytes (s ++ r) i c u b e in
    let more = rest_past bytes s r (i + len_utf8 c) u one.0.1 one.1 in
    let same : i + len_utf8 c + byte_length s ≡ i + byte_length (c ∷ s) = omega (arith, length-append (encode_utf8 c) (encode_utf8_all s), length-encode c) in
    let P : ℕ → Type 0 = λ j. (rest bytes j ≡ r) × IsCharBoundary bytes j in
    subst P same more
