-- Texts of ASCII, keywords and the characters of words at a place.
use Rattle.std.proofs.Common.{ℕ, ◌+◌, ◌<◌, ◌≤◌, ◌≡◌, ◌∙◌, sym, ap, refl, List, [], ◌∷◌, ◌++◌, length, drop, take, get_or, arith, IsUtf8, IsTrue, Bool, true, false, not, IsCharBoundary, chars, encode_utf8_all, ◌||◌, ◌==◌}
use Rattle.std.specs.Str.{IsAscii}
use Rattle.std.proofs.Math.Seq.{take-append_seam}
use Rattle.std.proofs.lemmas.List.{take-append-drop, drop-drop, length-take, append_cancel_left}
use Rattle.std.proofs.lemmas.Str.{IsUtf8-drop, IsUtf8-from_ascii, IsCharBoundary-from_rest, IsCharBoundary-from_take, chars-append, chars-IsAscii, encodes-append, encodes-IsAscii}
use Rattle.jsonc_text.specs.Text.{rest, next, no, starts, Many, stop, step, is_digit}
use Rattle.jsonc_text.specs.Chars.{Steps}
use Rattle.jsonc_text.specs.string.Between.{Between, LacksAt}
use Rattle.jsonc_scan.specs.Between.{IsAlone, PassesWord}
use Rattle.jsonc_text.specs.Words.{goes_on, EndsWord, begins_word, is_in_word}
use Rattle.jsonc_text.proofs.CharacterSteps.{steps_ascii}
use Rattle.jsonc_text.proofs.Cuts.{rest_encodes}
use Rattle.jsonc_text.proofs.Basics.{or_left, no_starts, starts_also, tails}
use Rattle.jsonc_text.proofs.UniqueGaps.{many_unique}
use Rattle.jsonc_text.proofs.UniqueWords.{ends_word}

-- the bytes of w stand at the place i
abbrev HasBytes : List ℕ → ℕ → List ℕ → Type 0
HasBytes bytes i w = take (length w) (drop i bytes) ≡ w

bytes_after : (bytes w : List ℕ) (i : ℕ) → HasBytes bytes i w → drop i bytes ≡ w ++ drop (i + length w) bytes
bytes_after bytes w i e =
    sym (take-append-drop (length w) (drop i bytes)) ∙ ap (λ t. t ++ drop (length w) (drop i bytes)) e ∙ ap (λ t. w ++ t) (drop-drop (length w) i bytes)

pub text_here : (bytes w : List ℕ) (i : ℕ) → IsUtf8 bytes → IsAscii w → IsCharBoundary bytes i → HasBytes bytes i w → (rest bytes i ≡ w ++ rest bytes (i + length w)) × IsCharBoundary bytes (i + length w)
text_here bytes w i u a b e =
    let few : length w ≤ length (drop i bytes) = omega (arith, sym (length-take (length w) (drop i bytes)) ∙ ap length e) in
    let piece : IsUtf8 (take (length w) (drop i bytes)) = rw e (IsUtf8-from_ascii w a) in (
      ap chars (bytes_after bytes w i e) ∙ chars-append w (drop (i + length w) bytes) (IsUtf8-from_ascii w a) ∙ ap (λ t. t ++ rest bytes (i + length w)) (chars-IsAscii w a),
      IsCharBoundary-from_rest bytes i (length w) b.0 (IsCharBoundary-from_take (drop i bytes) (length w) (IsUtf8-drop bytes i u b) few piece),
    )

pub bytes_here : (bytes w r : List ℕ) (i : ℕ) → IsUtf8 bytes → IsAscii w → IsCharBoundary bytes i → rest bytes i ≡ w ++ r → HasBytes bytes i w
bytes_here bytes w r i u a b e =
    let same : drop i bytes ≡ w ++ encode_utf8_all r = sym (rest_encodes bytes i u b) ∙ ap encode_utf8_all e ∙ encodes-append w r ∙ ap (λ t. t ++ encode_utf8_all r) (encodes-IsAscii w a) in
    ap (take (length w)) same ∙ take-append_seam w (encode_utf8_all r)

-- where a keyword would go on it does not end
pub not_alone : (bytes w r : List ℕ) (i j k c : ℕ) → rest bytes i ≡ w ++ rest bytes j → Steps bytes j c k → goes_on c ≡ true → IsAlone w (rest bytes i) r → ⊥
not_alone bytes w r i j k c e s g h =
    let same : r ≡ c ∷ rest bytes k = append_cancel_left w r (rest bytes j) (sym h.0 ∙ e) ∙ s.0 in
    let stops : IsTrue (not (goes_on c)) = rw same at h.1 in
    let both : true ≡ false = sym stops ∙ ap not g in cc

pub alone_before : (bytes w : List ℕ) (i j k c : ℕ) → i < j → IsCharBoundary bytes j → rest bytes i ≡ w ++ rest bytes j → Steps bytes j c k → goes_on c ≡ false → Between (IsAlone w) bytes i j
alone_before bytes w i j k c l b e s g =
    record { boundary = b; order = l; piece = (e, rw s.0 (ap not g)) }

-- the same, where the byte after it is one of ASCII
pub alone_before_byte : (text bytes w : List ℕ) (i : ℕ) → bytes ≡ text → IsUtf8 text → (rest text i ≡ w ++ rest text (i + length w)) × IsCharBoundary text (i + length w) → 0 < length w
    → i + length w < length bytes → get_or bytes (i + length w) 0 < 128 → goes_on (get_or bytes (i + length w) 0) ≡ false → Between (IsAlone w) text i (i + length w)
alone_before_byte text bytes w i same u here some more small ends =
    let byte = get_or text (i + length w) 0 in
    let steps : Steps text (i + length w) byte (i + length w + 1) = steps_ascii text (i + length w) u (rw same at more) (rw same at small) in
    alone_before text w i (i + length w) (i + length w + 1) byte (omega arith) here.1 here.0 steps (rw same at ends)

pub alone_at_end : (bytes w : List ℕ) (i j : ℕ) → i < j → IsCharBoundary bytes j → rest bytes i ≡ w ++ rest bytes j → rest bytes j ≡ [] → Between (IsAlone w) bytes i j
alone_at_end bytes w i j l b e z = record { boundary = b; order = l; piece = (e, rw z refl) }

-- a character that fails the test, or none
pub lacks_char : (p : ℕ → Bool) (bytes : List ℕ) (i c j : ℕ) → Steps bytes i c j → p c ≡ false → LacksAt p bytes i
lacks_char p bytes i c j s f = rw s.0 (ap not f)

pub lacks_at_end : (p : ℕ → Bool) (bytes : List ℕ) (i : ℕ) → rest bytes i ≡ [] → LacksAt p bytes i
lacks_at_end p bytes i z = rw z refl

-- a word that begins with a character and goes on with others
pub word_passed : (bytes : List ℕ) (i j k c : ℕ) → IsTrue (begins_word c) → Steps bytes i c j → i < j → IsCharBoundary bytes k → j ≤ k → Many is_in_word (rest bytes j) (rest bytes k) → EndsWord (next (rest bytes k)) → Between PassesWord bytes i k
word_passed bytes i j k c h s l b m many n =
    let within : IsTrue (is_in_word c) = or_left (begins_word c || is_digit c) (c == 0x2D) (or_left (begins_word c) (is_digit c) h) in
    record {
      boundary = b;
      order = omega arith;
      piece = record { begins = rw s.0 h; goes_on = rw s.0 (step within many); ends = n };
    }

-- all characters of a word were passed, and what follows ends none
pub not_passed : (bytes : List ℕ) (i j k c : ℕ) → Steps bytes i c j → Many is_in_word (rest bytes j) (rest bytes k) → LacksAt is_in_word bytes k → (EndsWord (next (rest bytes k)) → ⊥) → (r : List ℕ) → PassesWord (rest bytes i) r → ⊥
not_passed bytes i j k c s many n no_end r w = no_end (rw same at w.ends)
  where
    tail : {t : List ℕ} → t ≡ c ∷ rest bytes j → IsTrue (starts begins_word (next t)) → Many is_in_word t r → IsTrue (no is_in_word (next r)) → Many is_in_word (rest bytes j) r
    tail {t} e b stop d = absurd (no_starts is_in_word (next t) d (starts_also begins_word is_in_word (λ x h. or_left (begins_word x || is_digit x) (x == 0x2D) (or_left (begins_word x) (is_digit x) h)) (next t) b))
    tail e b (step h m) d = rw (tails e) at m

    same : r ≡ rest bytes k
    same = many_unique (tail s.0 w.begins w.goes_on (ends_word (next r) w.ends)) many (ends_word (next r) w.ends) n
