-- Where two literals without quotes meet among leaves, two of their characters meet in the text.
use Rattle.std.proofs.Common.{ℕ, ◌≡◌, ◌∙◌, sym, ap, subst, refl, inl, inr, Bool, true, false, ◌||◌, ◌&&◌, ◌==◌, List, [], ◌∷◌, ◌++◌, Option, Some, None, IsTrue, chars, codes, append-nil, arith, rules, if◌then◌else◌}
use Rattle.std.specs.Int.{is_in_range}
use Rattle.std.specs.List.{flat_map}
use Rattle.std.proofs.lemmas.List.{append_assoc}
use Rattle.std.proofs.lemmas.Str.{chars-nil, chars-append, chars-IsAscii}
use Rattle.jsonc_text.specs.Options.{Options}
use Rattle.jsonc_text.specs.Text.{next, starts, Many, stop, step, AllOf, all_of, is_digit, is_hex_digit, is_ascii_letter}
use Rattle.jsonc_text.specs.Words.{Keyword, keyword_text, begins_word, is_in_word}
use Rattle.jsonc_text.specs.Numbers.{Sign, Whole, Fraction, Exponent, Unsigned, Number, is_x, is_e, is_sign}
use Rattle.jsonc_text.specs.Lexemes.{LexemeKind, Lexeme}
use Rattle.jsonc_text.specs.Grammar.{may_name}
use Rattle.jsonc_run.specs.texts.Stretches.{is_bare, IsSeam, Meet}
use Rattle.jsonc_text.specs.Letters.{is_wide_letter}
use Rattle.jsonc_text.proofs.Begins.{begins_number, number_begins}
use Rattle.jsonc_text.proofs.NumberFrames.{number_whole}
use Rattle.jsonc_text.proofs.Basics.{or_cases, or_left, or_right, test_eq, front_same}
use Rattle.jsonc_text.proofs.CharacterSteps.{many_append}
use Rattle.jsonc_tree.specs.Content as content
use Rattle.jsonc_tree.specs.Content.{Content, text_of}
use Rattle.jsonc_tree.specs.OrderedTree.{OrderedTree, leaves}
use Rattle.jsonc_sound.specs.Adjacent.{first_char, last_printed, one_or_none, or_else, EndsBefore, LeavesEnd}
use Rattle.jsonc_sound.specs.Adjacent as adjacent
use Rattle.jsonc_sound.specs.SoundTrees.{SoundTree}
use Rattle.jsonc_sound.specs.Spaces as trees
use Rattle.jsonc_sound.specs.Spaces.{first_printed, is_bare_leaf}
use Rattle.jsonc_sound.proofs.NodesAlone.{document_leaves}
use Rattle.jsonc_sound.proofs.Texts.{AllUtf8}
use Rattle.jsonc_edit.proofs.Lists.{both_so}
use Rattle.jsonc_run.specs.promise.PlaceLaws.{text_of_leaves}
use Rattle.jsonc_run.proofs.lemmas.promise.Leaves.{text_joined, utf8_first, utf8_second}
use Rattle.jsonc_run.proofs.lemmas.promise.Places.{seam_if}

-- the characters of numbers and words
word_bare : (c : ℕ) → IsTrue (is_in_word c) → IsTrue (is_bare c)
word_bare c h = or_left (is_in_word c || c == 0x2B) (c == 0x2E) (or_left (is_in_word c) (c == 0x2B) h)

letter_bare : (c : ℕ) → IsTrue (is_ascii_letter c) → IsTrue (is_bare c)
letter_bare c h =
    let letter : IsTrue (is_ascii_letter c || c == 0x5F || c == 0x24) = or_left (is_ascii_letter c || c == 0x5F) (c == 0x24) (or_left (is_ascii_letter c) (c == 0x5F) h) in
    word_bare c (or_left (begins_word c || is_digit c) (c == 0x2D) (or_left (begins_word c) (is_digit c) (or_left (is_ascii_letter c || c == 0x5F || c == 0x24) (is_wide_letter c) letter)))

digit_bare : (c : ℕ) → IsTrue (is_digit c) → IsTrue (is_bare c)
digit_bare c h = word_bare c (or_left (begins_word c || is_digit c) (c == 0x2D) (or_right (begins_word c) (is_digit c) h))

minus_bare : IsTrue (is_bare 0x2D)
minus_bare = word_bare 0x2D (or_right (begins_word 0x2D || is_digit 0x2D) (0x2D == 0x2D) refl)

plus_bare : IsTrue (is_bare 0x2B)
plus_bare = or_left (is_in_word 0x2B || 0x2B == 0x2B) (0x2B == 0x2E) (or_right (is_in_word 0x2B) (0x2B == 0x2B) refl)

point_bare : IsTrue (is_bare 0x2E)
point_bare = or_right (is_in_word 0x2E || 0x2E == 0x2B) (0x2E == 0x2E) refl

hex_cases : (c : ℕ) → IsTrue (is_hex_digit c) → IsTrue (is_ascii_letter c || is_digit c)
hex_cases c h = grind arith

hex_bare : (c : ℕ) → IsTrue (is_hex_digit c) → IsTrue (is_bare c)
hex_bare c h = elim (or_cases (is_ascii_letter c) (is_digit c) (hex_cases c h)) [ inl l ↦ letter_bare c l | inr d ↦ digit_bare c d ]

nonzero : (c : ℕ) → IsTrue (is_in_range 0x31 0x39 c) → IsTrue (is_digit c)
nonzero c h = grind arith

x_letter : (c : ℕ) → IsTrue (is_x c) → IsTrue (is_ascii_letter c)
x_letter c h = grind arith

e_letter : (c : ℕ) → IsTrue (is_e c) → IsTrue (is_ascii_letter c)
e_letter c h = grind arith

sign_bare : (c : ℕ) → IsTrue (is_sign c) → IsTrue (is_bare c)
sign_bare c h =
    elim (or_cases (c == 0x2B) (c == 0x2D) h) [
      | inl p ↦ subst (λ d. IsTrue (is_bare d)) (sym (test_eq c 0x2B p)) plus_bare
      | inr m ↦ subst (λ d. IsTrue (is_bare d)) (sym (test_eq c 0x2D m)) minus_bare
    ]

many_wider : {p q : ℕ → Bool} {t r : List ℕ} → ((c : ℕ) → IsTrue (p c) → IsTrue (q c)) → Many p t r → Many q t r
many_wider f stop = stop
many_wider f (step {c = c} h g) = step (f c h) (many_wider f g)

all_bare : {p : ℕ → Bool} {t r : List ℕ} → ((c : ℕ) → IsTrue (p c) → IsTrue (is_bare c)) → AllOf p t r → Many is_bare t r
all_bare f (all_of {c = c} h g n) = step (f c h) (many_wider f g)

abbrev letters : List ℕ → Bool
letters [] = true
letters (c ∷ s) = is_ascii_letter c && letters s

letters_bare : (s r : List ℕ) → letters s ≡ true → Many is_bare (s ++ r) r
letters_bare [] r e = stop
letters_bare (c ∷ s) r e = by (is_ascii_letter c) refl e (letters_bare s r)
  where
    by : (b : Bool) → is_ascii_letter c ≡ b → b && letters s ≡ true → (letters s ≡ true → Many is_bare (s ++ r) r) → Many is_bare (c ∷ (s ++ r)) r
    by true h k rest = step (letter_bare c h) (rest k)
    by false h k rest = let wrong : false ≡ true = k in cc

-- a number is such characters
sign_run : {o : Options} {b : Bool} {t r : List ℕ} → Sign o b t r → Many is_bare t r
sign_run Sign.none = stop
sign_run Sign.minus = step minus_bare stop
sign_run (Sign.plus h) = step plus_bare stop

whole_run : {t r : List ℕ} → Whole t r → Many is_bare t r
whole_run (Whole.zero n) = step (digit_bare 0x30 refl) stop
whole_run (Whole.digits {c = c} h g n) = step (digit_bare c (nonzero c h)) (many_wider digit_bare g)

fraction_run : {o : Options} {t r : List ℕ} → Fraction o t r → Many is_bare t r
fraction_run (Fraction.none n) = stop
fraction_run (Fraction.point g) = step point_bare (all_bare digit_bare g)
fraction_run (Fraction.bare_point h n) = step point_bare stop

exponent_run : {t r : List ℕ} → Exponent t r → Many is_bare t r
exponent_run (Exponent.none n) = stop
exponent_run (Exponent.digits {e = e} h g) = step (letter_bare e (e_letter e h)) (all_bare digit_bare g)
exponent_run (Exponent.signed {e = e} {s = s} h k g) = step (letter_bare e (e_letter e h)) (step (sign_bare s k) (all_bare digit_bare g))

unsigned_run : {o : Options} {b : Bool} {t r : List ℕ} → Unsigned o b t r → Many is_bare t r
unsigned_run (Unsigned.hex {x = x} h k g) = step (digit_bare 0x30 refl) (step (letter_bare x (x_letter x k)) (all_bare hex_bare g))
unsigned_run (Unsigned.decimal w f e) = many_append (whole_run w) (many_append (fraction_run f) (exponent_run e))
unsigned_run (Unsigned.bare_point h g e) = step point_bare (many_append (all_bare digit_bare g) (exponent_run e))
unsigned_run {r = r} (Unsigned.infinity h e) = letters_bare (codes "Infinity") r refl
unsigned_run {r = r} (Unsigned.nan h e) = letters_bare (codes "NaN") r refl

number_run : {o : Options} {t r : List ℕ} → Number o t r → Many is_bare t r
number_run (signed, u, s, n) = many_append (sign_run s) (unsigned_run n)

keyword_run : (k : Keyword) → Many is_bare (keyword_text k ++ []) []
keyword_run (Keyword.boolean true) = letters_bare (codes "true") [] refl
keyword_run (Keyword.boolean false) = letters_bare (codes "false") [] refl
keyword_run Keyword.null = letters_bare (codes "null") [] refl

-- without what follows
cut_run : {p : ℕ → Bool} {t r : List ℕ} → Many p t r → (w : List ℕ) × (t ≡ w ++ r) × Many p w []
cut_run stop = ([], refl, stop)
cut_run (step {c = c} h g) = let m = cut_run g in (c ∷ m.0, ap (λ l. c ∷ l) m.1, step h m.2)

number_alone : {o : Options} (s r : List ℕ) → Number o (s ++ r) r → Many is_bare s []
number_alone s r n =
    let m = cut_run (number_run n) in
    let same : s ≡ m.0 = front_same refl m.1 in
    subst (λ l. Many is_bare l []) (sym same) m.2

-- a text that ends, and one that begins, with such a character
pub record EndsBare (text : List ℕ) : Type 0 where
  pub front : List ℕ
  pub char : ℕ
  pub is : text ≡ front ++ char ∷ []
  pub bare : IsTrue (is_bare char)

pub record BeginsBare (text : List ℕ) : Type 0 where
  pub char : ℕ
  pub rest : List ℕ
  pub is : text ≡ char ∷ rest
  pub bare : IsTrue (is_bare char)

run_ends : {s : List ℕ} → Many is_bare s [] → IsTrue (starts (λ c. true) (next s)) → EndsBare s
run_ends stop p = cc
run_ends (step {c = c} h stop) p = record { front = []; char = c; is = refl; bare = h }
run_ends (step {c = c} h (step k g)) p = let m = run_ends (step k g) refl in record { front = c ∷ m.front; char = m.char; is = ap (λ l. c ∷ l) m.is; bare = m.bare }

run_begins : {s : List ℕ} → Many is_bare s [] → IsTrue (starts (λ c. true) (next s)) → BeginsBare s
run_begins stop p = cc
run_begins (step {c = c} {t = t} h g) p = record { char = c; rest = t; is = refl; bare = h }

-- so is the text of a leaf that is such a literal
pub record IsSpelled (text : List ℕ) : Type 0 where
  pub ends : EndsBare text
  pub begins : BeginsBare text

is_spelled : {s : List ℕ} → Many is_bare s [] → IsTrue (starts (λ c. true) (next s)) → IsSpelled s
is_spelled m p = record { ends = run_ends m p; begins = run_begins m p }

some_start : (p : ℕ → Bool) (s : List ℕ) → IsTrue (starts p (next s)) → IsTrue (starts (λ c. true) (next s))
some_start p [] h = cc
some_start p (c ∷ s) h = refl

number_spelled : {o : Options} (s r : List ℕ) → Number o (s ++ r) r → IsSpelled s
number_spelled s r n = is_spelled (number_alone s r n) (some_start begins_number s (number_begins (number_whole s r n)))

keyword_starts : (k : Keyword) → IsTrue (starts (λ c. true) (next (keyword_text k ++ [])))
keyword_starts (Keyword.boolean true) = refl
keyword_starts (Keyword.boolean false) = refl
keyword_starts Keyword.null = refl

keyword_spelled : (k : Keyword) (s : List ℕ) → s ≡ keyword_text k ++ [] → IsSpelled s
keyword_spelled k s e = subst IsSpelled (sym e) (is_spelled (keyword_run k) (keyword_starts k))

name_spelled : (o : Options) (k : LexemeKind) (s : List ℕ) → IsTrue (may_name k) → Lexeme o k s [] → IsSpelled s
name_spelled o (LexemeKind.word w) s h (e, lit) = subst IsSpelled (sym (e ∙ append-nil w)) (is_spelled (many_wider word_bare lit.goes_on) (some_start begins_word w lit.begins))
name_spelled o (LexemeKind.number w) s h (e, n) = is_spelled (number_run n) (some_start begins_number s (number_begins n))
name_spelled o (LexemeKind.keyword k) s h (e, n) = keyword_spelled k s e
name_spelled o (LexemeKind.string v) s h e = cc
name_spelled o (LexemeKind.punctuation c) s h e = cc

leaf_spelled : (o : Options) (leaf : Content) (n : Option ℕ) → EndsBefore o leaf n → trees.is_bare leaf ≡ true → IsSpelled (chars (text_of leaf))
leaf_spelled o (content.number s) n e h = number_spelled (chars s) (one_or_none n) e
leaf_spelled o (content.word s) n (k, may, lexeme, ends) h = name_spelled o k (chars s) may lexeme
leaf_spelled o (content.boolean true) n e h = keyword_spelled (Keyword.boolean true) (chars (codes "true")) (chars-IsAscii (codes "true") (search rules) ∙ sym (append-nil (codes "true")))
leaf_spelled o (content.boolean false) n e h = keyword_spelled (Keyword.boolean false) (chars (codes "false")) (chars-IsAscii (codes "false") (search rules) ∙ sym (append-nil (codes "false")))
leaf_spelled o content.null n e h = keyword_spelled Keyword.null (chars (codes "null")) (chars-IsAscii (codes "null") (search rules) ∙ sym (append-nil (codes "null")))
leaf_spelled o leaf n e h = cc

abbrev pub AllSpelled : List Content → Type 0
AllSpelled [] = Unit {0}
AllSpelled (leaf ∷ rest) = (trees.is_bare leaf ≡ true → IsSpelled (chars (text_of leaf))) × AllSpelled rest

all_spelled : (o : Options) (row : List Content) (n : Option ℕ) → LeavesEnd o row n → AllSpelled row
all_spelled o [] n e = tt
all_spelled o (leaf ∷ rest) n (h, g) = (λ b. leaf_spelled o leaf (adjacent.follower rest n) h b, all_spelled o rest n g)

pub spelled : (o : Options) {t : OrderedTree} → SoundTree o t → AllSpelled (leaves t)
spelled o {t} s = all_spelled o (leaves t) None (document_leaves o s.shaped)

pub spelled_first : (first second : List Content) → AllSpelled (first ++ second) → AllSpelled first
spelled_first [] second h = tt
spelled_first (leaf ∷ first) second h = (h.0, spelled_first first second h.1)

pub spelled_second : (first second : List Content) → AllSpelled (first ++ second) → AllSpelled second
spelled_second [] second h = h
spelled_second (leaf ∷ first) second h = spelled_second first second h.1

nothing_first : (s : List ℕ) → starts (λ c. true) (next s) ≡ false → s ≡ []
nothing_first [] e = refl
nothing_first (c ∷ s) e = cc

pub one_more : (leaf : Content) (rest : List Content) → AllUtf8 (leaf ∷ rest) → text_of_leaves (leaf ∷ rest) ≡ chars (text_of leaf) ++ text_of_leaves rest
one_more leaf rest u = chars-append (text_of leaf) (flat_map text_of rest) u.0

pub none_last : (row : List Content) → AllUtf8 row → last_printed row ≡ None → text_of_leaves row ≡ []
none_last [] u e = chars-nil
none_last (leaf ∷ rest) u e = by (last_printed rest) (starts (λ c. true) (first_char leaf)) refl refl e (none_last rest u.1)
  where
    by : (x : Option Content) (b : Bool) → last_printed rest ≡ x → starts (λ c. true) (first_char leaf) ≡ b → or_else x (if b then Some leaf else None) ≡ None
        → (last_printed rest ≡ None → text_of_leaves rest ≡ []) → text_of_leaves (leaf ∷ rest) ≡ []
    by (Some y) b seen p k further = cc
    by None true seen p k further = cc
    by None false seen p k further = one_more leaf rest u ∙ ap (λ l. l ++ text_of_leaves rest) (nothing_first (chars (text_of leaf)) p) ∙ further seen

-- what these leaves print ends so, if the last that prints something is such a literal
pub ends_so : (row : List Content) → AllUtf8 row → AllSpelled row → is_bare_leaf (last_printed row) ≡ true → EndsBare (text_of_leaves row)
ends_so [] u s e = let wrong : false ≡ true = e in cc
ends_so (leaf ∷ rest) u s e = by (last_printed rest) refl e (ends_so rest u.1 s.1)
  where
    own : (b : Bool) → starts (λ c. true) (first_char leaf) ≡ b → last_printed rest ≡ None → is_bare_leaf (if b then Some leaf else None) ≡ true → EndsBare (text_of_leaves (leaf ∷ rest))
    own false p seen k = let wrong : false ≡ true = k in cc
    own true p seen k =
        let run = (s.0 k).ends in
        record { front = run.front; char = run.char; is = one_more leaf rest u ∙ ap (λ l. chars (text_of leaf) ++ l) (none_last rest u.1 seen) ∙ append-nil (chars (text_of leaf)) ∙ run.is; bare = run.bare }

    by : (x : Option Content) → last_printed rest ≡ x → is_bare_leaf (or_else x (if starts (λ c. true) (first_char leaf) then Some leaf else None)) ≡ true
        → (is_bare_leaf (last_printed rest) ≡ true → EndsBare (text_of_leaves rest)) → EndsBare (text_of_leaves (leaf ∷ rest))
    by (Some y) seen k further =
        let m = further (ap is_bare_leaf seen ∙ k) in
        record {
          front = chars (text_of leaf) ++ m.front;
          char = m.char;
          is = one_more leaf rest u ∙ ap (λ l. chars (text_of leaf) ++ l) m.is ∙ sym (append_assoc (chars (text_of leaf)) m.front (m.char ∷ []));
          bare = m.bare;
        }
    by None seen k further = own (starts (λ c. true) (first_char leaf)) refl seen k

-- and begins so, if the first is one
pub begins_so : (row : List Content) → AllUtf8 row → AllSpelled row → is_bare_leaf (first_printed row) ≡ true → BeginsBare (text_of_leaves row)
begins_so [] u s e = let wrong : false ≡ true = e in cc
begins_so (leaf ∷ rest) u s e = by (starts (λ c. true) (first_char leaf)) refl e (begins_so rest u.1 s.1)
  where
    by : (b : Bool) → starts (λ c. true) (first_char leaf) ≡ b → is_bare_leaf (if b then Some leaf else first_printed rest) ≡ true
        → (is_bare_leaf (first_printed rest) ≡ true → BeginsBare (text_of_leaves rest)) → BeginsBare (text_of_leaves (leaf ∷ rest))
    by true p k further =
        let run = (s.0 k).begins in
        record { char = run.char; rest = run.rest ++ text_of_leaves rest; is = one_more leaf rest u ∙ ap (λ l. l ++ text_of_leaves rest) run.is; bare = run.bare }
    by false p k further =
        let m = further k in
        record { char = m.char; rest = m.rest; is = one_more leaf rest u ∙ ap (λ l. l ++ text_of_leaves rest) (nothing_first (chars (text_of leaf)) p) ∙ m.is; bare = m.bare }

-- more may stand before the one, and behind the other
pub ends_behind : (before : List ℕ) {text : List ℕ} → EndsBare text → EndsBare (before ++ text)
ends_behind before e = record { front = before ++ e.front; char = e.char; is = ap (λ l. before ++ l) e.is ∙ sym (append_assoc before e.front (e.char ∷ [])); bare = e.bare }

pub begins_before : {text : List ℕ} (behind : List ℕ) → BeginsBare text → BeginsBare (text ++ behind)
begins_before behind b = record { char = b.char; rest = b.rest ++ behind; is = ap (λ l. l ++ behind) b.is; bare = b.bare }

-- leaves of which the last is such a literal
pub record EndsBareWith (row : List Content) : Type 0 where
  pub front : List Content
  pub leaf : Content
  pub is : row ≡ front ++ leaf ∷ []
  pub bare : trees.is_bare leaf ≡ true

pub ends_with : {row : List Content} → EndsBareWith row → AllUtf8 row → AllSpelled row → EndsBare (text_of_leaves row)
ends_with {row} e u s =
    let utf8 : AllUtf8 (e.front ++ e.leaf ∷ []) = subst AllUtf8 e.is u in
    let own = ((spelled_second e.front (e.leaf ∷ []) (subst AllSpelled e.is s)).0 e.bare).ends in
    let last : text_of_leaves (e.leaf ∷ []) ≡ chars (text_of e.leaf) = one_more e.leaf [] (utf8_second e.front (e.leaf ∷ []) utf8) ∙ ap (λ l. chars (text_of e.leaf) ++ l) chars-nil ∙ append-nil (chars (text_of e.leaf)) in
    let whole : text_of_leaves row ≡ text_of_leaves e.front ++ chars (text_of e.leaf) = ap text_of_leaves e.is ∙ text_joined e.front (e.leaf ∷ []) (utf8_first e.front (e.leaf ∷ []) utf8) ∙ ap (λ l. text_of_leaves e.front ++ l) last in
    subst EndsBare (sym whole) (ends_behind (text_of_leaves e.front) own)

pub meets : {x y : List ℕ} → EndsBare x → BeginsBare y → Meet x y
meets e b = (e.front, b.rest, e.char, b.char, e.is, b.is, both_so (is_bare e.char) (is_bare b.char) e.bare b.bare)

-- the space that is due, or none
pub seam_due : (b : Bool) {front back : List ℕ} → (b ≡ true → Meet front back) → IsSeam front back (seam_if b)
seam_due false h = inl refl
seam_due true h = inr (refl, h refl)
