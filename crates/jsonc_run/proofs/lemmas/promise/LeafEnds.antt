-- How the texts of leaves end.
use Rattle.std.proofs.Common.{ℕ, ◌<◌, ◌≤◌, ◌≡◌, ◌∙◌, sym, ap, subst, refl, inl, inr, Bool, true, false, not, ◌||◌, ◌==◌, List, [], ◌∷◌, ◌++◌, reverse, IsTrue, IsUtf8, chars, encode_utf8_all, arith}
use Rattle.std.proofs.lemmas.List.{append_assoc, append-nil, reverse-append}
use Rattle.std.proofs.lemmas.Str.{chars-nil, encodes-chars}
use lib.Utf8.{encode}
use Rattle.jsonc_text.specs.Options.{Options}
use Rattle.jsonc_text.specs.Text.{next, starts, is_digit, is_ascii_letter}
use Rattle.jsonc_text.specs.Gaps.{IsComment, LineComment, BlockComment, UpToBlockEnd, line, block, here, later, is_blank}
use Rattle.jsonc_text.specs.Letters.{is_wide_letter}
use Rattle.jsonc_text.specs.Lexemes.{is_punctuation}
use Rattle.jsonc_text.specs.Strings.{IsQuote, IsString}
use Rattle.jsonc_text.specs.Words.{begins_word, is_in_word}
use Rattle.jsonc_text.proofs.Basics.{clash, and_both, or_cases, starts_also, test_eq, heads}
use Rattle.jsonc_text.proofs.Begins.{begins_literal}
use Rattle.jsonc_text.proofs.UniqueGaps.{begins_gap}
use Rattle.jsonc_text.proofs.WideBlanks.{blank_not_wide}
use Rattle.jsonc_tree.specs.Content as content
use Rattle.jsonc_tree.specs.Content.{Content, text_of}
use Rattle.jsonc_layout.specs.nodes.Kinds.{is_trivia}
use Rattle.jsonc_sound.specs.Lines.{is_line_comment}
use Rattle.jsonc_sound.specs.Spaces as trees
use Rattle.jsonc_sound.proofs.Pieces.{LinesFlat, Piece, a_literal, a_name, a_token, a_trivia}
use Rattle.jsonc_sound.proofs.ShapeValues.{Mark, comma_mark, colon_mark, bracket_mark, close_bracket_mark, brace_mark, close_brace_mark}
use Rattle.jsonc_edit.proofs.LeafKinds.{trivia_is}
use Rattle.jsonc_edit.proofs.lemmas.commenting.Whole.{begins_block}
use Rattle.jsonc_run.specs.texts.Stretches.{is_bare}
use Rattle.jsonc_run.specs.promise.PlaceLaws.{text_of_leaves}
use Rattle.jsonc_run.proofs.lemmas.promise.Bare.{EndsBare}
use Rattle.jsonc_run.proofs.lemmas.promise.CommasBehind.{literal_begins, name_begins}
use Rattle.jsonc_run.proofs.lemmas.promise.Joined.{Good, good_first, good_second}
use Rattle.jsonc_run.proofs.lemmas.promise.Leaves.{text_joined}
use Rattle.jsonc_run.proofs.lemmas.promise.Trivia.{first_text}

-- a character with which no blank and no comment begins
no_gap : (c : ℕ) → (IsTrue (is_blank c) → ⊥) → (IsTrue (c == 0x2F) → ⊥) → IsTrue (not (begins_gap c))
no_gap c f g = by (is_blank c) f (c == 0x2F) g
  where
    by : (a : Bool) → (IsTrue a → ⊥) → (b : Bool) → (IsTrue b → ⊥) → IsTrue (not (a || b))
    by true f b g = absurd (f refl)
    by false f true g = absurd (g refl)
    by false f false g = refl

narrow_no_blank : (c : ℕ) → 0x21 ≤ c → c < 0x80 → IsTrue (not (is_blank c))
narrow_no_blank c a b = grind arith

ascii_above : (c : ℕ) → IsTrue (is_ascii_letter c || c == 0x5F || c == 0x24) → 0x21 ≤ c
ascii_above c h = grind arith

ascii_below : (c : ℕ) → IsTrue (is_ascii_letter c || c == 0x5F || c == 0x24) → c < 0x80
ascii_below c h = grind arith

digit_above : (c : ℕ) → IsTrue (is_digit c) → 0x21 ≤ c
digit_above c h = grind arith

digit_below : (c : ℕ) → IsTrue (is_digit c) → c < 0x80
digit_below c h = grind arith

ascii_no_blank : (c : ℕ) → IsTrue (is_ascii_letter c || c == 0x5F || c == 0x24) → IsTrue (is_blank c) → ⊥
ascii_no_blank c h k = clash (is_blank c) (narrow_no_blank c (ascii_above c h) (ascii_below c h)) k

digit_no_blank : (c : ℕ) → IsTrue (is_digit c) → IsTrue (is_blank c) → ⊥
digit_no_blank c h k = clash (is_blank c) (narrow_no_blank c (digit_above c h) (digit_below c h)) k

letter_no_blank : (c : ℕ) → IsTrue (begins_word c) → IsTrue (is_blank c) → ⊥
letter_no_blank c h k = elim (or_cases (is_ascii_letter c || c == 0x5F || c == 0x24) (is_wide_letter c) h) [ inl e ↦ ascii_no_blank c e k | inr e ↦ clash (is_wide_letter c) (blank_not_wide c k) e ]

minus_no_blank : (c : ℕ) → c ≡ 0x2D → IsTrue (is_blank c) → ⊥
minus_no_blank c e k = let wrong : false ≡ true = subst (λ d. IsTrue (is_blank d)) e k in cc

point_no_blank : (c : ℕ) → c ≡ 0x2E → IsTrue (is_blank c) → ⊥
point_no_blank c e k = let wrong : false ≡ true = subst (λ d. IsTrue (is_blank d)) e k in cc

plus_no_blank : (c : ℕ) → c ≡ 0x2B → IsTrue (is_blank c) → ⊥
plus_no_blank c e k = let wrong : false ≡ true = subst (λ d. IsTrue (is_blank d)) e k in cc

word_no_blank : (c : ℕ) → IsTrue (is_in_word c) → IsTrue (is_blank c) → ⊥
word_no_blank c h k =
    elim (or_cases (begins_word c || is_digit c) (c == 0x2D) h) [
      | inr e ↦ minus_no_blank c (test_eq c 0x2D e) k
      | inl e ↦ elim (or_cases (begins_word c) (is_digit c) e) [ inl l ↦ letter_no_blank c l k | inr d ↦ digit_no_blank c d k ]
    ]

bare_no_blank : (c : ℕ) → IsTrue (is_bare c) → IsTrue (is_blank c) → ⊥
bare_no_blank c h k =
    elim (or_cases (is_in_word c || c == 0x2B) (c == 0x2E) h) [
      | inr e ↦ point_no_blank c (test_eq c 0x2E e) k
      | inl e ↦ elim (or_cases (is_in_word c) (c == 0x2B) e) [ inr p ↦ plus_no_blank c (test_eq c 0x2B p) k | inl w ↦ word_no_blank c w k ]
    ]

slash_not_bare : IsTrue (is_bare 0x2F) → ⊥
unfolding is_wide_letter
slash_not_bare h = let wrong : false ≡ true = h in cc

bare_no_gap : (c : ℕ) → IsTrue (is_bare c) → IsTrue (not (begins_gap c))
bare_no_gap c h = no_gap c (bare_no_blank c h) (λ e. slash_not_bare (subst (λ d. IsTrue (is_bare d)) (test_eq c 0x2F e) h))

quote_no_gap : (o : Options) (q : ℕ) → IsQuote o q → IsTrue (not (begins_gap q))
quote_no_gap o q h =
    elim (or_cases (q == 0x22) _ h) [
      | inl e ↦ subst (λ c. IsTrue (not (begins_gap c))) (sym (test_eq q 0x22 e)) refl
      | inr e ↦ subst (λ c. IsTrue (not (begins_gap c))) (sym (test_eq q 0x27 (and_both (q == 0x27) o.single_quoted_strings e).0)) refl
    ]

-- what is so of each mark
each_mark : (P : ℕ → Type 0) → P 0x7B → P 0x7D → P 0x5B → P 0x5D → P 0x2C → P 0x3A → (c : ℕ) → IsTrue (is_punctuation c) → P c
each_mark P a b d e f g c h =
    elim (or_cases (c == 0x7B || c == 0x7D || c == 0x5B || c == 0x5D || c == 0x2C) (c == 0x3A) h) [
      | inr k ↦ subst P (sym (test_eq c 0x3A k)) g
      | inl h ↦
          elim (or_cases (c == 0x7B || c == 0x7D || c == 0x5B || c == 0x5D) (c == 0x2C) h) [
            | inr k ↦ subst P (sym (test_eq c 0x2C k)) f
            | inl h ↦
                elim (or_cases (c == 0x7B || c == 0x7D || c == 0x5B) (c == 0x5D) h) [
                  | inr k ↦ subst P (sym (test_eq c 0x5D k)) e
                  | inl h ↦
                      elim (or_cases (c == 0x7B || c == 0x7D) (c == 0x5B) h) [
                        | inr k ↦ subst P (sym (test_eq c 0x5B k)) d
                        | inl h ↦ elim (or_cases (c == 0x7B) (c == 0x7D) h) [ inl k ↦ subst P (sym (test_eq c 0x7B k)) a | inr k ↦ subst P (sym (test_eq c 0x7D k)) b ]
                      ]
                ]
          ]
    ]

mark_no_gap : (c : ℕ) → IsTrue (is_punctuation c) → IsTrue (not (begins_gap c))
mark_no_gap c h = each_mark (λ d. IsTrue (not (begins_gap d))) refl refl refl refl refl refl c h

mark_text : (c : ℕ) → IsTrue (is_punctuation c) → chars (text_of (content.token c)) ≡ c ∷ []
mark_text c h = let m : Mark c = each_mark Mark brace_mark close_brace_mark bracket_mark close_bracket_mark comma_mark colon_mark c h in ap chars m.bytes ∙ m.text

-- a character of which the test holds ends the text
abbrev pub LastIs : (ℕ → Bool) → List ℕ → Type 0
LastIs p s = (t : List ℕ) × (c : ℕ) × (s ≡ t ++ c ∷ []) × IsTrue (p c)

last_char : (t u : List ℕ) (c d : ℕ) → t ++ c ∷ [] ≡ u ++ d ∷ [] → c ≡ d
last_char t u c d e = heads (sym (reverse-append t (c ∷ [])) ∙ ap reverse e ∙ reverse-append u (d ∷ []))

pub last_is : (p : ℕ → Bool) {s : List ℕ} → LastIs p s → (u : List ℕ) (d : ℕ) → s ≡ u ++ d ∷ [] → IsTrue (p d)
last_is p (t, c, is, h) u d e = subst (λ x. IsTrue (p x)) (last_char t u c d (sym is ∙ e)) h

pub last_behind : {p : ℕ → Bool} (first : List ℕ) {s : List ℕ} → LastIs p s → LastIs p (first ++ s)
last_behind first (t, c, is, h) = (first ++ t, c, ap (λ l. first ++ l) is ∙ sym (append_assoc first t (c ∷ [])), h)

pub last_also : (p q : ℕ → Bool) → ((c : ℕ) → IsTrue (p c) → IsTrue (q c)) → {s : List ℕ} → LastIs p s → LastIs q s
last_also p q f (t, c, is, h) = (t, c, is, f c h)

abbrev pub no_gap_there : ℕ → Bool
no_gap_there c = not (begins_gap c)

abbrev pub no_blank_there : ℕ → Bool
no_blank_there c = not (is_blank c)

pub gap_blank : (c : ℕ) → IsTrue (no_gap_there c) → IsTrue (no_blank_there c)
gap_blank c h = by (is_blank c) h
  where
    by : (b : Bool) → IsTrue (not (b || c == 0x2F)) → IsTrue (not b)
    by true k = cc
    by false k = refl

literal_no_gap : (c : ℕ) → IsTrue (begins_literal c) → IsTrue (no_gap_there c)
literal_no_gap c h = by (begins_gap c) h
  where
    by : (b : Bool) → IsTrue (not (b || is_punctuation c)) → IsTrue (not b)
    by true k = cc
    by false k = refl

string_last : (o : Options) (s v : List ℕ) → IsString o (s ++ []) v [] → LastIs no_gap_there s
string_last o s v (q, text, quote, is, decodes) = (q ∷ text, q, sym (append-nil s) ∙ is, quote_no_gap o q quote)

block_last : {t r : List ℕ} → UpToBlockEnd t r → r ≡ [] → LastIs no_blank_there t
block_last here e = (0x2A ∷ [], 0x2F, ap (λ r. 0x2A ∷ 0x2F ∷ r) e, refl)
block_last (later {c = c} h g) e = last_behind (c ∷ []) (block_last g e)

-- a block comment does not end with a blank
pub comment_last : {t : List ℕ} → BlockComment t [] → LastIs no_blank_there t
comment_last (block g) = last_behind (0x2F ∷ 0x2A ∷ []) (block_last g refl)

-- nor with what begins a gap a leaf that is no trivia
pub leaf_last : (o : Options) (leaf : Content) → Piece o leaf → is_trivia leaf ≡ false → (trees.is_bare leaf ≡ true → EndsBare (chars (text_of leaf))) → LastIs no_gap_there (chars (text_of leaf))
leaf_last o leaf p firm bare = by leaf p firm bare
  where
    bare_last : {s : List ℕ} → EndsBare s → LastIs no_gap_there s
    bare_last e = (e.front, e.char, e.is, bare_no_gap e.char e.bare)

    by : (leaf : Content) → Piece o leaf → is_trivia leaf ≡ false → (trees.is_bare leaf ≡ true → EndsBare (chars (text_of leaf))) → LastIs no_gap_there (chars (text_of leaf))
    by (content.string s) (a_literal h) firm bare = string_last o (chars s) h.0 h.1.1
    by (content.string s) (a_name h) firm bare = string_last o (chars s) h.0 h.1.1
    by (content.string s) (a_trivia h) firm bare = absurd h
    by (content.number s) p firm bare = bare_last (bare refl)
    by (content.word s) p firm bare = bare_last (bare refl)
    by (content.boolean b) p firm bare = bare_last (bare refl)
    by content.null p firm bare = bare_last (bare refl)
    by (content.token c) (a_token h) firm bare = ([], c, mark_text c h, mark_no_gap c h)
    by (content.token c) (a_literal h) firm bare = absurd h
    by (content.token c) (a_name h) firm bare = absurd h
    by (content.token c) (a_trivia h) firm bare = absurd h
    by (content.whitespace s) p firm bare = cc
    by (content.newline k) p firm bare = cc
    by (content.comment s) p firm bare = cc
    by leaf (a_literal h) firm bare = absurd h
    by leaf (a_name h) firm bare = absurd h
    by leaf (a_trivia h) firm bare = absurd h

-- and with none it begins
pub leaf_begins : (o : Options) (leaf : Content) → Piece o leaf → is_trivia leaf ≡ false → IsTrue (starts no_gap_there (next (chars (text_of leaf))))
leaf_begins o leaf (a_literal h) e = starts_also begins_literal no_gap_there literal_no_gap (next (chars (text_of leaf))) (literal_begins o leaf h)
leaf_begins o leaf (a_name h) e = starts_also begins_literal no_gap_there literal_no_gap (next (chars (text_of leaf))) (name_begins o leaf h)
leaf_begins o _ (a_token {c = c} h) e = subst (λ x. IsTrue (starts no_gap_there (next x))) (sym (mark_text c h)) (mark_no_gap c h)
leaf_begins o leaf (a_trivia h) e = absurd (true_false (trivia_is o leaf h) e)
  where
    true_false : {b : Bool} → b ≡ true → b ≡ false → ⊥
    true_false k f = let wrong : true ≡ false = sym k ∙ f in cc

-- which comment it is
begins_line : (s : List ℕ) {t : List ℕ} → IsUtf8 s → chars s ≡ 0x2F ∷ 0x2F ∷ t → is_line_comment (content.comment s) ≡ true
unfolding encode
begins_line s {t} u e = subst (λ b. is_line_comment (content.comment b) ≡ true) (ap encode_utf8_all (sym e) ∙ encodes-chars s u) refl

line_front : {t : List ℕ} → LineComment t [] → (s : List ℕ) × (t ≡ 0x2F ∷ 0x2F ∷ s)
line_front (line {t = t} m n) = (t, refl)

block_front : {t : List ℕ} → BlockComment t [] → (s : List ℕ) × (t ≡ 0x2F ∷ 0x2A ∷ s)
block_front (block {t = t} g) = (t, refl)

pub comment_is_line : (s : List ℕ) → IsUtf8 s → IsComment (chars s) [] → is_line_comment (content.comment s) ≡ true → LineComment (chars s) []
comment_is_line s u (inl l) e = l
comment_is_line s u (inr b) e = let wrong : false ≡ true = sym (begins_block s u (block_front b).1) ∙ e in cc

pub comment_is_block : (s : List ℕ) → IsUtf8 s → IsComment (chars s) [] → is_line_comment (content.comment s) ≡ false → BlockComment (chars s) []
comment_is_block s u (inr b) e = b
comment_is_block s u (inl l) e = let wrong : true ≡ false = sym (begins_line s u (line_front l).1) ∙ e in cc

-- leaves before one more
pub text_last : (o : Options) (f : List Content) (leaf : Content) → Good o (f ++ leaf ∷ []) → text_of_leaves (f ++ leaf ∷ []) ≡ text_of_leaves f ++ chars (text_of leaf)
text_last o f leaf g =
    text_joined f (leaf ∷ []) (good_first o f (leaf ∷ []) g).utf8
    ∙ ap (λ l. text_of_leaves f ++ l) (first_text leaf [] (good_second o f (leaf ∷ []) g).utf8.0 ∙ ap (λ l. chars (text_of leaf) ++ l) chars-nil ∙ append-nil (chars (text_of leaf)))

-- line comments end with their lines behind any of the leaves
pub flat_behind : (front behind : List Content) → LinesFlat (front ++ behind) → LinesFlat behind
flat_behind [] behind h = h
flat_behind (c ∷ front) behind h = flat_behind front behind h.1
