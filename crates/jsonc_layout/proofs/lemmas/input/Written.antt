-- The bytes that are written for characters.
use Rattle.std.proofs.Common.{ℕ, ◌≡◌, ◌/◌, ◌%◌, ◌<◌, ◌∙◌, sym, ap, subst, refl, false, Option, Some, None, Result, Ok, Err, IfOk, OnOk, if◌then◌else◌, List, [], ◌∷◌, ◌++◌, IsTrue, arith, encode_utf8, encode_utf8_all}
use Rattle.std.proofs.lemmas.Grind.{flat_map-append}
use Rattle.std.proofs.lemmas.List.{append-nil}
use Rattle.std.proofs.lemmas.Str.Ascii.{encode_ascii}
use Rattle.std.proofs.lemmas.Str.{encodes-append}
use lib.Utf8.{encode}
use Rattle.std.specs.Char.{is_control}
use Rattle.std.specs.Fmt.{digit_glyph, AppendsText, ◌++?◌}
use Rattle.jsonc_text.specs.Spelling.{short_escape_of, unit_escape, spelled_by, spelled_char, spelled_inside, spelled}
use Rattle.jsonc_layout.proofs.lemmas.input.Spelled.{control_small}

glyph_ascii : (k : ℕ) → k < 16 → digit_glyph false k < 128
glyph_ascii k h = grind arith

sixteenth : (c : ℕ) → c < 256 → c / 16 < 16
sixteenth c h = omega arith

unit_encoded : (a b : ℕ) → a < 128 → b < 128 → encode_utf8_all (0x5C ∷ 0x75 ∷ 0x30 ∷ 0x30 ∷ a ∷ b ∷ []) ≡ 0x5C ∷ 0x75 ∷ 0x30 ∷ 0x30 ∷ a ∷ b ∷ []
unfolding encode
unit_encoded a b h g = rw (encode_ascii a h, encode_ascii b g) refl

pub control_bytes : (c : ℕ) → short_escape_of c ≡ None → IsTrue (is_control c) → encode_utf8_all (spelled_char c) ≡ unit_escape c
control_bytes c e h =
    ap (λ o. encode_utf8_all (spelled_by o c)) e
    ∙ ap (λ b. encode_utf8_all (if b then unit_escape c else c ∷ [])) h
    ∙ unit_encoded _ _ (glyph_ascii (c / 16) (sixteenth c (control_small c h))) (glyph_ascii (c % 16) (omega arith))

pub control_written : {E : Type 0} (r : Result (Unit {0}) E) (old new : List ℕ) (o : Option (List ℕ)) (c : ℕ) → o ≡ Some (digit_glyph false (c / 16) ∷ digit_glyph false (c % 16) ∷ []) → short_escape_of c ≡ None → IsTrue (is_control c)
    → OnOk r (AppendsText old new (Some (0x5C ∷ 0x75 ∷ 0x30 ∷ 0x30 ∷ []) ++? o)) → IfOk r (λ x. new ≡ old ++ encode_utf8_all (spelled_char c))
control_written (Err x) old new o c d e h w = tt
control_written (Ok x) old new o c d e h w =
    let written : new ≡ old ++ unit_escape c = subst (λ p. AppendsText old new (Some (0x5C ∷ 0x75 ∷ 0x30 ∷ 0x30 ∷ []) ++? p)) d w in
    written ∙ ap (λ b. old ++ b) (sym (control_bytes c e h))

inside_push : (v : List ℕ) (c : ℕ) → spelled_inside (v ++ c ∷ []) ≡ spelled_inside v ++ spelled_char c
inside_push v c = flat_map-append spelled_char v (c ∷ []) ∙ ap (λ t. spelled_inside v ++ t) (append-nil (spelled_char c))

-- one more character
pub more_written : (old new : List ℕ) (v : List ℕ) (c : ℕ) → old ≡ encode_utf8_all (0x22 ∷ spelled_inside v) → new ≡ old ++ encode_utf8_all (spelled_char c) → new ≡ encode_utf8_all (0x22 ∷ spelled_inside (v ++ c ∷ []))
more_written old new v c e w =
    w ∙ ap (λ b. b ++ encode_utf8_all (spelled_char c)) e
    ∙ sym (encodes-append (0x22 ∷ spelled_inside v) (spelled_char c))
    ∙ ap (λ t. encode_utf8_all (0x22 ∷ t)) (sym (inside_push v c))

-- and the closing quote
pub all_written : (old new : List ℕ) (v cs : List ℕ) → v ≡ cs → old ≡ encode_utf8_all (0x22 ∷ spelled_inside v) → new ≡ old ++ encode_utf8 0x22 → new ≡ encode_utf8_all (spelled cs)
all_written old new v cs s e w =
    w ∙ ap (λ b. old ++ b) (sym (append-nil (encode_utf8 0x22))) ∙ ap (λ b. b ++ encode_utf8_all (0x22 ∷ [])) e
    ∙ sym (encodes-append (0x22 ∷ spelled_inside v) (0x22 ∷ []))
    ∙ ap (λ t. encode_utf8_all (spelled t)) s
