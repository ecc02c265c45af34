-- Which strings are those of JSON, and what is spelled is one.
use Rattle.std.proofs.Common.{ℕ, ◌≡◌, ◌≢◌, ◌/◌, ◌%◌, ◌<◌, ◌∙◌, sym, ap, refl, Bool, true, false, not, ◌&&◌, ◌==◌, List, [], ◌∷◌, ◌++◌, append_assoc, Option, Some, None, IsTrue, append-nil, arith, subst, chars, encode_utf8_all, IsAscii, IsUtf8, if◌then◌else◌}
use Rattle.std.specs.Prelude.{nat_lt}
use Rattle.std.proofs.lemmas.Str.{IsUtf8-from_ascii, chars-IsAscii, chars-append, encodes-chars}
use Rattle.std.proofs.lemmas.Str.Ascii.{IsAscii-cons, IsAscii-nil, encode_ascii}
use Rattle.std.specs.Char.{is_control}
use Rattle.std.specs.Fmt.{digit_glyph}
use Rattle.jsonc_text.specs.Options.{all_on}
use Rattle.jsonc_text.specs.Spelling.{short_escape_of, spelled, spelled_by, spelled_char, spelled_inside, unit_escape}
use Rattle.jsonc_text.specs.Strings.{AreHex4, IsString, Piece, Pieces, extended, line_end, meaning}
use Rattle.jsonc_text.specs.Text.{is_hex_digit}
use Rattle.jsonc_text.specs.string.Escapes.{is_plain}
use Rattle.jsonc_text.proofs.Basics.{and_both, test_eq}
use Rattle.jsonc_text.proofs.lemmas.string.Escapes.{hex_parts}
use Rattle.jsonc_layout.proofs.lemmas.input.Spelled.{control_small, inside_decodes}
use Rattle.jsonc_engine.specs.Json.{Character, Characters, Quoted, is_unescaped}
use Rattle.jsonc_engine.specs.Plain.{is_json, may_stand, plain_from}

-- no control character and no backslash
record Passes (c : ℕ) : Type 0 where
  above : IsTrue (nat_lt 0x1F c)
  other : (c == 0x5C) ≡ false

pass : (c : ℕ) (r : List ℕ) → Passes c → plain_from false (c ∷ r) ≡ plain_from false r
pass c r p = rw (p.above, p.other) refl

hex_passes : (c : ℕ) → IsTrue (is_hex_digit c) → Passes c
hex_passes c h = record { above = above c h; other = other c h }
  where
    above : (c : ℕ) → IsTrue (is_hex_digit c) → IsTrue (nat_lt 0x1F c)
    above c h = grind arith

    other : (c : ℕ) → IsTrue (is_hex_digit c) → (c == 0x5C) ≡ false
    other c h = grind arith

pass_four : (a b c d : ℕ) (r : List ℕ) → AreHex4 a b c d → plain_from false (a ∷ b ∷ c ∷ d ∷ r) ≡ plain_from false r
pass_four a b c d r h =
    let k = hex_parts a b c d h in
    pass a (b ∷ c ∷ d ∷ r) (hex_passes a k.0) ∙ pass b (c ∷ d ∷ r) (hex_passes b k.1) ∙ pass c (d ∷ r) (hex_passes c k.2) ∙ pass d r (hex_passes d k.3)

not_it : (c k : ℕ) → c ≢ k → (c == k) ≡ false
not_it c k h = grind arith

unescaped_is : (c : ℕ) → IsTrue (nat_lt 0x1F c) → c ≢ 0x22 → c ≢ 0x5C → IsTrue (is_unescaped c)
unescaped_is c h a b = rw (h, not_it c 0x22 a, not_it c 0x5C b) refl

escape_of_json : (c : ℕ) (r : List ℕ) → IsTrue (plain_from true (c ∷ r)) → IsTrue (is_plain (meaning 0x22 c)) × IsTrue (plain_from false r)
escape_of_json c r h = and_both (is_plain (meaning 0x22 c)) (plain_from false r) h

-- pieces between double quotes that pass are characters of JSON
record Chars (t p v r : List ℕ) : Type 0 where
  first : Characters t p r
  rest : IsTrue (plain_from false r)

one_char : {t r : List ℕ} (c : ℕ) → Character t c r → IsTrue (plain_from false r) → Chars t (c ∷ []) [] r
one_char c x h = record { first = Characters.char x Characters.none; rest = h }

piece_chars : {t p r : List ℕ} → Piece all_on 0x22 t p r → IsTrue (plain_from false t) → Chars t p [] r
piece_chars (Piece.itself {c} {r} a b) h =
    let k = and_both (nat_lt 0x1F c) (plain_from (c == 0x5C) r) h in
    let q = k.1 in
    one_char c (Character.unescaped (unescaped_is c k.0 a b)) (rw (not_it c 0x5C b) at q)
piece_chars (Piece.plain {c} {d} {r} e) h = one_char d (Character.escaped e) (escape_of_json c r h).1
piece_chars (Piece.unit {a} {b} {c} {d} {r} x y) h = one_char _ (Character.unit x y) (rw (pass_four a b c d r x) at h)
piece_chars (Piece.pair {a} {b} {c} {d} {e} {f} {g} {h = i} {r} x y z w) h =
    let k = rw (pass_four a b c d (0x5C ∷ 0x75 ∷ e ∷ f ∷ g ∷ i ∷ r) x) at h in
    one_char _ (Character.pair x y z w) (rw (pass_four e f g i r z) at k)
piece_chars (Piece.other {c} {d} {r} o e) h = let k : IsTrue (is_plain (extended d)) = rw e at ((escape_of_json c r h).0) in cc
piece_chars (Piece.zero o s) h = cc
piece_chars (Piece.byte o s) h = cc
piece_chars (Piece.line {c} {r} o e) h = let k : IsTrue (is_plain line_end) = rw e at ((escape_of_json c r h).0) in cc
piece_chars (Piece.lone_cr o s) h = cc
piece_chars (Piece.cr_lf o) h = cc

join : {t u r p v : List ℕ} → Characters t p u → Characters u v r → Characters t (p ++ v) r
join Characters.none b = b
join (Characters.char x a) b = Characters.char x (join a b)

pub pieces_chars : {t v r : List ℕ} → Pieces all_on 0x22 t v r → IsTrue (plain_from false t) → Characters t v r
pieces_chars Pieces.done h = Characters.none
pieces_chars {t} {v} {r} (Pieces.piece p m e) h =
    let k = piece_chars p h in
    subst (λ w. Characters t w r) (sym e) (join k.first (pieces_chars m k.rest))

-- and characters of JSON pass
passes_unescaped : (c : ℕ) → IsTrue (is_unescaped c) → Passes c
passes_unescaped c h = record { above = above c h; other = other c h }
  where
    above : (c : ℕ) → IsTrue (is_unescaped c) → IsTrue (nat_lt 0x1F c)
    above c h = grind arith

    other : (c : ℕ) → IsTrue (is_unescaped c) → (c == 0x5C) ≡ false
    other c h = grind arith

char_passes : {t r : List ℕ} {c : ℕ} → Character t c r → plain_from false t ≡ plain_from false r
char_passes (Character.unescaped {c} {r} h) = pass c r (passes_unescaped c h)
char_passes (Character.escaped {c} {d} {r} e) = rw e refl
char_passes (Character.unit {a} {b} {c} {d} {r} x y) = pass_four a b c d r x
char_passes (Character.pair {a} {b} {c} {d} {e} {f} {g} {h} {r} x y z w) =
    pass_four a b c d (0x5C ∷ 0x75 ∷ e ∷ f ∷ g ∷ h ∷ r) x ∙ pass_four e f g h r z

pub chars_pass : {t v r : List ℕ} → Characters t v r → plain_from false t ≡ plain_from false r
chars_pass Characters.none = refl
chars_pass (Characters.char x m) = char_passes x ∙ chars_pass m

pub quoted_passes : {s v : List ℕ} → Quoted s v [] → is_json s ≡ true
quoted_passes (Quoted.quoted m) = chars_pass m

-- a string that passes is one of JSON
pub string_quoted : (s v : List ℕ) → IsString all_on s v [] → is_json s ≡ true → Quoted s v []
string_quoted s v (q, x, o, e, d) h =
    let k = and_both (q == 0x22) (plain_from false (x ++ q ∷ [])) (rw e at h) in
    let same : q ≡ 0x22 = test_eq q 0x22 k.0 in
    let pieces : Pieces all_on 0x22 (x ++ 0x22 ∷ []) v (0x22 ∷ []) = subst (λ q. Pieces all_on q (x ++ q ∷ []) v (q ∷ [])) same d in
    let passes : IsTrue (plain_from false (x ++ 0x22 ∷ [])) = subst (λ q. IsTrue (plain_from false (x ++ q ∷ []))) same k.1 in
    let is : s ≡ 0x22 ∷ (x ++ 0x22 ∷ []) = e ∙ ap (λ q. q ∷ (x ++ q ∷ [])) same in
    subst (λ s. Quoted s v []) (sym is) (Quoted.quoted (pieces_chars pieces passes))

-- what is spelled passes
either : {G : Type 0} (b : Bool) (x y d : Option ℕ) → (if b then x else y) ≡ d → (IsTrue b → x ≡ d → G) → (y ≡ d → G) → G
either true x y d e f g = f refl e
either false x y d e f g = g e

same_escape : (m d : ℕ) → IsTrue (is_plain (meaning 0x22 m)) → Some m ≡ Some d → IsTrue (is_plain (meaning 0x22 d))
same_escape m d h e = let p : m ≡ d = cc in rw (← p) h

short_passes : (c d : ℕ) → short_escape_of c ≡ Some d → IsTrue (is_plain (meaning 0x22 d))
short_passes c d e =
    either (c == 0x22) _ _ _ e (λ _ p. same_escape 0x22 d refl p) (λ e.
    either (c == 0x5C) _ _ _ e (λ _ p. same_escape 0x5C d refl p) (λ e.
    either (c == 0x08) _ _ _ e (λ _ p. same_escape 0x62 d refl p) (λ e.
    either (c == 0x0C) _ _ _ e (λ _ p. same_escape 0x66 d refl p) (λ e.
    either (c == 0x0A) _ _ _ e (λ _ p. same_escape 0x6E d refl p) (λ e.
    either (c == 0x0D) _ _ _ e (λ _ p. same_escape 0x72 d refl p) (λ e.
    either (c == 0x09) _ _ _ e (λ _ p. same_escape 0x74 d refl p) (λ e. let never : ⊥ = cc in absurd never)))))))

no_backslash : (c : ℕ) → short_escape_of c ≡ None → c ≢ 0x5C
no_backslash c e h = let other : short_escape_of c ≡ Some 0x5C = rw h refl in cc

glyph_passes : (k : ℕ) → k < 16 → Passes (digit_glyph false k)
glyph_passes k h = record { above = above k h; other = other k h }
  where
    above : (k : ℕ) → k < 16 → IsTrue (nat_lt 0x1F (digit_glyph false k))
    above k h = grind arith

    other : (k : ℕ) → k < 16 → (digit_glyph false k == 0x5C) ≡ false
    other k h = grind arith

no_control : (c : ℕ) → is_control c ≡ false → IsTrue (nat_lt 0x1F c)
no_control c h = grind arith

unit_passes : (c : ℕ) (r : List ℕ) → c < 256 → plain_from false (unit_escape c ++ r) ≡ plain_from false r
unit_passes c r h =
    let a = digit_glyph false (c / 16) in
    let b = digit_glyph false (c % 16) in
    pass a (b ∷ r) (glyph_passes (c / 16) (omega arith)) ∙ pass b r (glyph_passes (c % 16) (omega arith))

plain_passes : (b : Bool) (c : ℕ) (r : List ℕ) → is_control c ≡ b → short_escape_of c ≡ None → plain_from false ((if b then unit_escape c else c ∷ []) ++ r) ≡ plain_from false r
plain_passes true c r e f = unit_passes c r (control_small c e)
plain_passes false c r e f = pass c r (record { above = no_control c e; other = not_it c 0x5C (no_backslash c f) })

spelled_passes : (s : Option ℕ) (c : ℕ) (r : List ℕ) → short_escape_of c ≡ s → plain_from false (spelled_by s c ++ r) ≡ plain_from false r
spelled_passes (Some d) c r e = rw (short_passes c d e) refl
spelled_passes None c r e = plain_passes (is_control c) c r refl e

inside_passes : (v r : List ℕ) → plain_from false (spelled_inside v ++ r) ≡ plain_from false r
inside_passes [] r = refl
inside_passes (c ∷ v) r =
    ap (plain_from false) (append_assoc (spelled_char c) (spelled_inside v) r)
    ∙ spelled_passes (short_escape_of c) c (spelled_inside v ++ r) refl ∙ inside_passes v r

pub spelled_quoted : (v : List ℕ) → Quoted (spelled v) v []
spelled_quoted v = Quoted.quoted (pieces_chars (inside_decodes all_on v) (inside_passes v (0x22 ∷ [])))

-- whatever follows
char_before : {t r : List ℕ} {c : ℕ} (x : List ℕ) → Character t c r → Character (t ++ x) c (r ++ x)
char_before x (Character.unescaped h) = Character.unescaped h
char_before x (Character.escaped e) = Character.escaped e
char_before x (Character.unit a b) = Character.unit a b
char_before x (Character.pair a b c d) = Character.pair a b c d

chars_before : {t v r : List ℕ} (x : List ℕ) → Characters t v r → Characters (t ++ x) v (r ++ x)
chars_before x Characters.none = Characters.none
chars_before x (Characters.char c m) = Characters.char (char_before x c) (chars_before x m)

pub quoted_before : {s v : List ℕ} (x : List ℕ) → Quoted s v [] → Quoted (s ++ x) v x
quoted_before x (Quoted.quoted m) = Quoted.quoted (chars_before x m)

-- a text that is passed one character after another
abbrev pub IsWalked : List ℕ → Bool → Type 0
IsWalked yielded escaped = (rest : List ℕ) → plain_from false (yielded ++ rest) ≡ plain_from escaped rest

pub plain_step : (yielded : List ℕ) (c : ℕ) (escaped next : Bool) → IsWalked yielded escaped → true ≡ may_stand escaped c → next ≡ (not escaped && c == 0x5C) → IsWalked (yielded ++ c ∷ []) next
plain_step yielded c escaped next h m e rest =
    ap (plain_from false) (append_assoc yielded (c ∷ []) rest) ∙ h (c ∷ rest)
    ∙ ap (λ b. b && plain_from (not escaped && c == 0x5C) rest) (sym m) ∙ ap (λ b. plain_from b rest) (sym e)

pub plain_stop : (all yielded rest : List ℕ) (c : ℕ) (escaped : Bool) → IsWalked yielded escaped → all ≡ yielded ++ c ∷ rest → false ≡ may_stand escaped c → false ≡ plain_from false all
plain_stop all yielded rest c escaped h e m =
    sym (ap (plain_from false) e ∙ h (c ∷ rest) ∙ ap (λ b. b && plain_from (not escaped && c == 0x5C) rest) (sym m))

pub plain_end : (all yielded : List ℕ) (escaped : Bool) → IsWalked yielded escaped → yielded ≡ all → true ≡ plain_from false all
plain_end all yielded escaped h e = sym (ap (plain_from false) (sym e ∙ sym (append-nil yielded)) ∙ h [])

-- the quote, by its byte
pub quote_some : (bs rest : List ℕ) → bs ≡ 0x22 ∷ rest → is_json (chars bs) ≡ plain_from false (chars rest)
quote_some bs rest e =
    ap is_json (ap chars e ∙ chars-append (0x22 ∷ []) rest (IsUtf8-from_ascii (0x22 ∷ []) quote) ∙ ap (λ l. l ++ chars rest) (chars-IsAscii (0x22 ∷ []) quote))
  where
    quote : IsAscii (0x22 ∷ [])
    quote = IsAscii-cons 0x22 [] (omega arith) IsAscii-nil

pub quote_none : (bs : List ℕ) → IsUtf8 bs → ((rest : List ℕ) → bs ≢ 0x22 ∷ rest) → is_json (chars bs) ≡ false
quote_none bs utf8 n = go (chars bs) refl
  where
    go : (cs : List ℕ) → chars bs ≡ cs → is_json cs ≡ false
    go [] e = refl
    go (c ∷ r) e = by (c == 0x22) refl
      where
        by : (b : Bool) → (c == 0x22) ≡ b → (b && plain_from false r) ≡ false
        by false q = refl
        by true q =
            absurd (n (encode_utf8_all r) (
            sym (encodes-chars bs utf8) ∙ ap encode_utf8_all (e ∙ ap (λ c. c ∷ r) (test_eq c 0x22 q))
            ∙ ap (λ x. x ++ encode_utf8_all r) (encode_ascii 0x22 (omega arith))
            ))
