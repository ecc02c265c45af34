-- Where a hexadecimal number is printed last, the text ends in one.
use Rattle.std.proofs.Common.{ℕ, ◌≡◌, ◌∙◌, sym, ap, subst, refl, inl, inr, Bool, true, false, ◌&&◌, ◌==◌, List, [], ◌∷◌, ◌++◌, Option, Some, None, IsTrue, chars, append-nil, arith, if◌then◌else◌}
use Rattle.std.proofs.lemmas.Bool.{false≢true}
use Rattle.std.proofs.lemmas.List.{append_assoc}
use Rattle.jsonc_text.specs.Options.{Options}
use Rattle.jsonc_text.specs.Text.{next, starts}
use Rattle.jsonc_text.specs.Words.{Keyword, begins_word}
use Rattle.jsonc_text.specs.Numbers.{Sign, Unsigned, Whole, Number, is_sign, is_x}
use Rattle.jsonc_text.specs.Lexemes.{LexemeKind, Lexeme}
use Rattle.jsonc_text.specs.Grammar.{may_name}
use Rattle.jsonc_run.specs.texts.Edits.{EndsInHexadecimal}
use Rattle.jsonc_text.proofs.Basics.{Apart, clash, or_cases, test_eq}
use Rattle.jsonc_text.proofs.Begins.{begins_plain_number, plain_number_word}
use Rattle.jsonc_text.proofs.NumberFrames.{number_whole}
use Rattle.jsonc_text.proofs.UniqueNumbers.{hex_no_decimal, unsigned_begins}
use Rattle.jsonc_tree.specs.Content as content
use Rattle.jsonc_tree.specs.Content.{Content, text_of}
use Rattle.jsonc_tree.specs.OrderedTree.{OrderedTree, leaves}
use Rattle.jsonc_sound.specs.Adjacent as adjacent
use Rattle.jsonc_sound.specs.Adjacent.{first_char, last_printed, one_or_none, or_else, EndsBefore, LeavesEnd}
use Rattle.jsonc_sound.specs.Booleans.{begins_hex, is_hexadecimal, is_hex_leaf}
use Rattle.jsonc_sound.specs.SoundTrees.{SoundTree}
use Rattle.jsonc_sound.proofs.NodesAlone.{document_leaves}
use Rattle.jsonc_sound.proofs.Texts.{AllUtf8}
use Rattle.jsonc_run.specs.promise.PlaceLaws.{text_of_leaves}
use Rattle.jsonc_run.proofs.lemmas.promise.Bare.{none_last, one_more}

-- `0x` and what follows
record HexParts (s : List ℕ) : Type 0 where
  mark : ℕ
  digits : List ℕ
  is : s ≡ 0x30 ∷ mark ∷ digits
  marks : IsTrue (is_x mark)

hex_parts : (s : List ℕ) → begins_hex s ≡ true → HexParts s
hex_parts [] e = cc
hex_parts (c ∷ []) e = cc
hex_parts (c ∷ d ∷ s) e = by (c == 0x30) refl e
  where
    by : (b : Bool) → (c == 0x30) ≡ b → b && is_x d ≡ true → HexParts (c ∷ d ∷ s)
    by true p k = record { mark = d; digits = s; is = ap (λ a. a ∷ d ∷ s) (test_eq c 0x30 p); marks = k }
    by false p k = let wrong : false ≡ true = k in cc

abbrev begins_zero : List ℕ → Bool
begins_zero [] = false
begins_zero (c ∷ s) = c == 0x30

zero_first : {s : List ℕ} → HexParts s → begins_zero s ≡ true
zero_first h = ap begins_zero h.is

-- a number that begins so is hexadecimal
unsigned_hex : {o : Options} {signed : Bool} {u : List ℕ} → Unsigned o signed u [] → HexParts u → EndsInHexadecimal u
unsigned_hex (Unsigned.hex {x = x} {t = t} p q g) h = ([], t, x, refl, q, g)
unsigned_hex (Unsigned.decimal {u = v} w f e) h = absurd (hex_no_decimal h.marks (subst (λ t. Whole t v) h.is w))
unsigned_hex (Unsigned.bare_point p g e) h = absurd (false≢true (zero_first h))
unsigned_hex (Unsigned.infinity p n) h = absurd (false≢true (zero_first h))
unsigned_hex (Unsigned.nan p n) h = absurd (false≢true (zero_first h))

behind_sign : (c : ℕ) {u : List ℕ} → EndsInHexadecimal u → EndsInHexadecimal (c ∷ u)
behind_sign c (t, digits, x, is, marks, all) = (c ∷ t, digits, x, ap (λ l. c ∷ l) is, marks, all)

no_sign_there : {o : Options} {signed : Bool} {c : ℕ} {u r : List ℕ} → Unsigned o signed (c ∷ u) r → is_sign c && begins_hex u ≡ true → ⊥
no_sign_there {c = c} {u = u} n e = by (is_sign c) refl e
  where
    by : (b : Bool) → is_sign c ≡ b → b && begins_hex u ≡ true → ⊥
    by true p k = clash (is_sign c) (unsigned_begins n) p
    by false p k = cc

number_hex : {o : Options} (s : List ℕ) → Number o s [] → is_hexadecimal s ≡ true → EndsInHexadecimal s
number_hex s (signed, u, sign, n) e = by s sign n e
  where
    by : {o : Options} {signed : Bool} {u : List ℕ} (s : List ℕ) → Sign o signed s u → Unsigned o signed u [] → is_hexadecimal s ≡ true → EndsInHexadecimal s
    by [] sign n e = cc
    by (c ∷ s) Sign.none n e =
        elim (or_cases (begins_hex (c ∷ s)) (is_sign c && begins_hex s) e) [
          | inl h ↦ unsigned_hex n (hex_parts (c ∷ s) h)
          | inr k ↦ absurd (no_sign_there n k)
        ]
    by (_ ∷ s) Sign.minus n e =
        elim (or_cases (begins_hex (0x2D ∷ s)) (begins_hex s) e) [
          | inl h ↦ absurd (false≢true (zero_first (hex_parts (0x2D ∷ s) h)))
          | inr k ↦ behind_sign 0x2D (unsigned_hex n (hex_parts s k))
        ]
    by (_ ∷ s) (Sign.plus allowed) n e =
        elim (or_cases (begins_hex (0x2B ∷ s)) (begins_hex s) e) [
          | inl h ↦ absurd (false≢true (zero_first (hex_parts (0x2B ∷ s) h)))
          | inr k ↦ behind_sign 0x2B (unsigned_hex n (hex_parts s k))
        ]

-- no word is one
plain_no_word : (c : ℕ) → IsTrue (begins_plain_number c) → IsTrue (begins_word c) → ⊥
unfolding Apart
plain_no_word c g h = plain_number_word c g h

zero_plain : IsTrue (begins_plain_number 0x30)
unfolding begins_plain_number
zero_plain = refl

sign_plain : (c : ℕ) → IsTrue (is_sign c) → IsTrue (begins_plain_number c)
unfolding begins_plain_number
sign_plain c h = grind arith

no_word : (w : List ℕ) → IsTrue (starts begins_word (next w)) → is_hexadecimal w ≡ true → ⊥
no_word [] b e = cc
no_word (c ∷ w) b e =
    elim (or_cases (begins_hex (c ∷ w)) (is_sign c && begins_hex w) e) [
      | inl h ↦
          let first : c ≡ 0x30 = test_eq c 0x30 (zero_first (hex_parts (c ∷ w) h)) in
          plain_no_word 0x30 zero_plain (subst (λ a. IsTrue (begins_word a)) first b)
      | inr k ↦ signed (is_sign c) refl k
    ]
  where
    signed : (d : Bool) → is_sign c ≡ d → d && begins_hex w ≡ true → ⊥
    signed true p k = plain_no_word c (sign_plain c p) b
    signed false p k = cc

name_hex : (o : Options) (k : LexemeKind) (s : List ℕ) → IsTrue (may_name k) → Lexeme o k s [] → is_hexadecimal s ≡ true → EndsInHexadecimal s
name_hex o (LexemeKind.word w) s h (e, lit) k = absurd (no_word w lit.begins (sym (ap is_hexadecimal (e ∙ append-nil w)) ∙ k))
name_hex o (LexemeKind.number w) s h (e, n) k = number_hex s n k
name_hex o (LexemeKind.keyword (Keyword.boolean true)) s h (e, n) k = let wrong : false ≡ true = sym (ap is_hexadecimal e) ∙ k in cc
name_hex o (LexemeKind.keyword (Keyword.boolean false)) s h (e, n) k = let wrong : false ≡ true = sym (ap is_hexadecimal e) ∙ k in cc
name_hex o (LexemeKind.keyword Keyword.null) s h (e, n) k = let wrong : false ≡ true = sym (ap is_hexadecimal e) ∙ k in cc
name_hex o (LexemeKind.string v) s h e k = cc
name_hex o (LexemeKind.punctuation c) s h e k = cc

leaf_hex : (o : Options) (leaf : Content) (n : Option ℕ) → EndsBefore o leaf n → is_hex_leaf (Some leaf) ≡ true → EndsInHexadecimal (chars (text_of leaf))
leaf_hex o (content.number s) n e h = number_hex (chars s) (number_whole (chars s) (one_or_none n) e) h
leaf_hex o (content.word s) n (k, may, lexeme, ends) h = name_hex o k (chars s) may lexeme h
leaf_hex o leaf n e h = let wrong : false ≡ true = h in cc

-- so it is with leaves
abbrev pub AllHex : List Content → Type 0
AllHex [] = Unit {0}
AllHex (leaf ∷ rest) = (is_hex_leaf (Some leaf) ≡ true → EndsInHexadecimal (chars (text_of leaf))) × AllHex rest

all_hex : (o : Options) (row : List Content) (n : Option ℕ) → LeavesEnd o row n → AllHex row
all_hex o [] n e = tt
all_hex o (leaf ∷ rest) n (h, g) = (λ b. leaf_hex o leaf (adjacent.follower rest n) h b, all_hex o rest n g)

pub hex_leaves : (o : Options) {t : OrderedTree} → SoundTree o t → AllHex (leaves t)
hex_leaves o {t} s = all_hex o (leaves t) None (document_leaves o s.shaped)

pub hex_front : (first second : List Content) → AllHex (first ++ second) → AllHex first
hex_front [] second h = tt
hex_front (leaf ∷ first) second h = (h.0, hex_front first second h.1)

behind : (before : List ℕ) {text : List ℕ} → EndsInHexadecimal text → EndsInHexadecimal (before ++ text)
behind before (t, digits, x, is, marks, all) = (before ++ t, digits, x, ap (λ l. before ++ l) is ∙ sym (append_assoc before t (0x30 ∷ x ∷ digits)), marks, all)

pub ends_in_hex : (row : List Content) → AllUtf8 row → AllHex row → is_hex_leaf (last_printed row) ≡ true → EndsInHexadecimal (text_of_leaves row)
ends_in_hex [] u s e = let wrong : false ≡ true = e in cc
ends_in_hex (leaf ∷ rest) u s e = by (last_printed rest) refl e (ends_in_hex rest u.1 s.1)
  where
    own : (b : Bool) → last_printed rest ≡ None → is_hex_leaf (if b then Some leaf else None) ≡ true → EndsInHexadecimal (text_of_leaves (leaf ∷ rest))
    own false seen k = let wrong : false ≡ true = k in cc
    own true seen k =
        let text : text_of_leaves (leaf ∷ rest) ≡ chars (text_of leaf) = one_more leaf rest u ∙ ap (λ l. chars (text_of leaf) ++ l) (none_last rest u.1 seen) ∙ append-nil (chars (text_of leaf)) in
        subst EndsInHexadecimal (sym text) (s.0 k)

    by : (x : Option Content) → last_printed rest ≡ x → is_hex_leaf (or_else x (if starts (λ c. true) (first_char leaf) then Some leaf else None)) ≡ true
        → (is_hex_leaf (last_printed rest) ≡ true → EndsInHexadecimal (text_of_leaves rest)) → EndsInHexadecimal (text_of_leaves (leaf ∷ rest))
    by (Some y) seen k further = subst EndsInHexadecimal (sym (one_more leaf rest u)) (behind (chars (text_of leaf)) (further (ap is_hex_leaf seen ∙ k)))
    by None seen k further = own (starts (λ c. true) (first_char leaf)) seen k
