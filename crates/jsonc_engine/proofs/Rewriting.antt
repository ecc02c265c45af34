-- What is written of a document is JSON, with the same value but for how numbers are written.
use Rattle.std.proofs.Common.{ℕ, ◌≡◌, ◌∙◌, sym, ap, refl, Bool, true, false, not, ◌||◌, ◌==◌, List, [], ◌∷◌, ◌++◌, append_assoc, Option, Some, None, IsTrue, inl, inr, subst, if◌then◌else◌}
use Rattle.jsonc_text.specs.Gaps.{Gap, IsComment, blank, comment, is_blank, none}
use Rattle.jsonc_text.specs.Grammar as grammar
use Rattle.jsonc_text.specs.Grammar.{AreElements, AreProperties, Closes, IsDocument, IsName, IsProperty, IsValue, Separates, literal_value, may_name}
use Rattle.jsonc_text.specs.Lexemes.{Lexeme, LexemeKind, is_punctuation, lexeme}
use Rattle.jsonc_text.specs.Options.{all_on}
use Rattle.jsonc_text.specs.Plain.{Plain, Items, Members, item, member, no_items, no_members}
use Rattle.jsonc_text.specs.Spelling.{spelled}
use Rattle.jsonc_text.specs.Text.{Many, next, no, starts, step, stop}
use Rattle.jsonc_text.specs.Words.{Keyword, keyword_text}
use Rattle.jsonc_text.proofs.Basics.{Apart, clash, no_both, test_eq, text_same}
use Rattle.jsonc_text.proofs.Begins.{IsLiteral, begins_item, begins_literal, lexeme_begins}
use Rattle.jsonc_text.proofs.UniqueGaps.{comment_begins, comment_no_blank, comment_unique}
use Rattle.jsonc_text.proofs.UniqueLexemes.{scanned_unique}
use Rattle.jsonc_text.proofs.UniqueTokens.{not_blank, scanned_no_blank}
use Rattle.jsonc_text.proofs.UniqueValues.{elements_begin, not_gap, properties_begin}
use Rattle.jsonc_engine.specs.Json as rfc
use Rattle.jsonc_engine.specs.Json.{IsJson, Quoted, Value, Elements, Properties, Member, is_ws, keyword_value}
use Rattle.jsonc_engine.specs.Rewritten.{ComesNext, IsLiteralFor, IsStringFor, IsWrittenFor, Rewritten, is_closed, is_named, mark_for, missing_comma, written_blank}
use Rattle.jsonc_engine.specs.Rewritten as written
use Rattle.jsonc_parser.specs.patch.Numbers.{SameNumber}
use Rattle.jsonc_engine.specs.Same.{SameItems, SameMembers, SameValue}
use Rattle.jsonc_engine.proofs.Numbers.{number_json, number_same}
use Rattle.jsonc_engine.proofs.Strings.{quoted_before, spelled_quoted}

-- what is written from t to the end of the text
abbrev Of : List ℕ → List ℕ → Type 0
Of t w = Rewritten [] t w

blank_written : (c : ℕ) → IsTrue (is_ws (written_blank c))
blank_written c = go (is_ws c) refl
  where
    go : (b : Bool) → is_ws c ≡ b → IsTrue (is_ws (if b then c else 0x20))
    go true e = e
    go false e = refl

record AfterBlank (c : ℕ) (t w : List ℕ) : Type 0 where
  y : List ℕ
  is : w ≡ written_blank c ∷ y
  rest : Of t y

not_both : (c : ℕ) → IsTrue (is_blank c) → IsTrue (not_blank c) → ⊥
not_both c h k = clash (is_blank c) k h

after_blank : {c : ℕ} {t w : List ℕ} → IsTrue (is_blank c) → Of (c ∷ t) w → AfterBlank c t w
after_blank h (written.Rewritten.blank k m) = record { y = _; is = refl; rest = m }
after_blank h (written.Rewritten.comment a m) = absurd (comment_no_blank a h)
after_blank {c} {t} h (written.Rewritten.one k s x n {u = u} a e b f m) = absurd (not_both c h (scanned_no_blank all_on (lexeme k) (c ∷ t) u a))

slash_literal : Apart (λ c. c == 0x2F) begins_literal
unfolding Apart
slash_literal c g h = let k : IsTrue (begins_literal 0x2F) = rw (test_eq c 0x2F g) at h in cc

slash_mark : (c : ℕ) → IsTrue (c == 0x2F) → IsTrue (is_punctuation c) → ⊥
slash_mark c g h = let k : IsTrue (is_punctuation 0x2F) = rw (test_eq c 0x2F g) at h in cc

comment_no_lexeme : (k : LexemeKind) {t u : List ℕ} (r : List ℕ) → IsComment t u → Lexeme all_on k t r → ⊥
comment_no_lexeme (LexemeKind.punctuation c) r a (p, e) = slash_mark c (rw e at (comment_begins a)) p
comment_no_lexeme (LexemeKind.string v) {t} r a x = no_both _ _ slash_literal (next t) (comment_begins a) (lexeme_begins all_on (LexemeKind.string v) t r tt x)
comment_no_lexeme (LexemeKind.number v) {t} r a x = no_both _ _ slash_literal (next t) (comment_begins a) (lexeme_begins all_on (LexemeKind.number v) t r tt x)
comment_no_lexeme (LexemeKind.word v) {t} r a x = no_both _ _ slash_literal (next t) (comment_begins a) (lexeme_begins all_on (LexemeKind.word v) t r tt x)
comment_no_lexeme (LexemeKind.keyword v) {t} r a x = no_both _ _ slash_literal (next t) (comment_begins a) (lexeme_begins all_on (LexemeKind.keyword v) t r tt x)

-- nothing is written for a comment
after_comment : {t u w : List ℕ} → IsComment t u → Of t w → Of u w
after_comment a written.Rewritten.no_more = (let h : IsTrue false = comment_begins a in cc)
after_comment a (written.Rewritten.blank h m) = absurd (comment_no_blank a h)
after_comment {w = w} a (written.Rewritten.comment b m) = subst (λ u. Of u w) (comment_unique b a) m
after_comment a (written.Rewritten.one k s x n {u = v} b e c f m) = absurd (comment_no_lexeme k v a b)

record AfterGap (u w : List ℕ) : Type 0 where
  y : List ℕ
  ws : Many is_ws w y
  rest : Of u y

after_gap : {t u w : List ℕ} → Gap all_on t u → Of t w → AfterGap u w
after_gap none m = record { y = _; ws = stop; rest = m }
after_gap (blank {c} h g) m =
    let k = after_blank h m in
    let a = after_gap g k.rest in
    record { y = a.y; ws = subst (λ w. Many is_ws w a.y) (sym k.is) (step (blank_written c) a.ws); rest = a.rest }
after_gap (comment o a g) m = after_gap g (after_comment a m)

ws_append : {t u r : List ℕ} → Many is_ws t u → Many is_ws u r → Many is_ws t r
ws_append stop b = b
ws_append (step h a) b = step h (ws_append a b)

-- a lexeme of the text, and what is written for it
record AfterLexeme (k : LexemeKind) (t u w : List ℕ) : Type 0 where
  s : List ℕ
  n : Option ℕ
  x : List ℕ
  y : List ℕ
  text : t ≡ s ++ u
  comes : ComesNext u n
  form : IsWrittenFor k s n x
  is : w ≡ x ++ y
  rest : Of u y

some_lexeme : (k : LexemeKind) (u : List ℕ) → Lexeme all_on k [] u → ⊥
some_lexeme k u a = let h : IsTrue false = scanned_no_blank all_on (lexeme k) [] u a in cc

lexeme_same : {j k : LexemeKind} → lexeme j ≡ lexeme k → j ≡ k
lexeme_same e = cc

after_lexeme : (k : LexemeKind) {t u w : List ℕ} → Lexeme all_on k t u → Of t w → AfterLexeme k t u w
after_lexeme k {u = u} a written.Rewritten.no_more = absurd (some_lexeme k u a)
after_lexeme k {t} {u} a (written.Rewritten.blank {c} h m) = absurd (not_both c h (scanned_no_blank all_on (lexeme k) t u a))
after_lexeme k {u = u} a (written.Rewritten.comment b m) = absurd (comment_no_lexeme k u b a)
after_lexeme k {t} {u} a (written.Rewritten.one j s x n {u = v} {w = y} b e c f m) =
    let q = scanned_unique all_on (lexeme j) (lexeme k) t v u b a in
    record {
      s = s;
      n = n;
      x = x;
      y = y;
      text = e ∙ ap (λ u. s ++ u) q.1;
      comes = subst (λ u. ComesNext u n) q.1 c;
      form = subst (λ j. IsWrittenFor j s n x) (lexeme_same q.0) f;
      is = refl;
      rest = subst (λ u. Of u y) q.1 m;
    }

-- a gap that goes on to where no blank and no comment stands ends at one place
gap_once : {t r s : List ℕ} → Gap all_on t r → Gap all_on t s → IsTrue (no is_blank (next r)) → IsTrue (no is_blank (next s))
    → ((x : List ℕ) → IsComment r x → ⊥) → ((x : List ℕ) → IsComment s x → ⊥) → r ≡ s
gap_once none none a b f g = refl
gap_once none (blank {c} h k) a b f g = absurd (clash (is_blank c) a h)
gap_once none (comment {u = u} h k l) a b f g = absurd (f u k)
gap_once (blank {c} h k) none a b f g = absurd (clash (is_blank c) b h)
gap_once (comment {u = u} h k l) none a b f g = absurd (g u k)
gap_once (blank h k) (blank i l) a b f g = gap_once k l a b f g
gap_once (blank h k) (comment i l m) a b f g = absurd (comment_no_blank l h)
gap_once (comment i l m) (blank h k) a b f g = absurd (comment_no_blank l h)
gap_once {s = s} (comment i k l) (comment j m n) a b f g = gap_once l (subst (λ u. Gap all_on u s) (comment_unique m k) n) a b f g

pub comes_once : {t : List ℕ} {n m : Option ℕ} → ComesNext t n → ComesNext t m → n ≡ m
comes_once a b = a.is ∙ ap next (gap_once a.gap b.gap a.no_blank b.no_blank a.no_comment b.no_comment) ∙ sym b.is

-- what begins a blank or a comment
abbrev begins_gap : ℕ → Bool
begins_gap c = is_blank c || c == 0x2F

blank_begins : (c : ℕ) → IsTrue (not (begins_gap c)) → IsTrue (not (is_blank c))
blank_begins c h = each (is_blank c) (c == 0x2F) h
  where
    each : (x y : Bool) → IsTrue (not (x || y)) → IsTrue (not x)
    each true y h = cc
    each false y h = refl

slash_begins : (c : ℕ) → IsTrue (not (begins_gap c)) → IsTrue (c == 0x2F) → ⊥
slash_begins c h g = each (is_blank c) (c == 0x2F) h g
  where
    each : (x y : Bool) → IsTrue (not (x || y)) → IsTrue y → ⊥
    each true true h g = cc
    each true false h g = cc
    each false true h g = cc
    each false false h g = cc

no_blank_there : (n : Option ℕ) → IsTrue (no begins_gap n) → IsTrue (no is_blank n)
no_blank_there None h = h
no_blank_there (Some c) h = blank_begins c h

no_slash_there : (n : Option ℕ) → IsTrue (no begins_gap n) → IsTrue (starts (λ c. c == 0x2F) n) → ⊥
no_slash_there None h g = cc
no_slash_there (Some c) h g = slash_begins c h g

pub comes : {t : List ℕ} (r : List ℕ) → Gap all_on t r → IsTrue (no begins_gap (next r)) → ComesNext t (next r)
comes r g h = record { behind = r; gap = g; no_blank = no_blank_there (next r) h; no_comment = λ x k. no_slash_there (next r) h (comment_begins k); is = refl }

abbrev comma_unless : Bool → List ℕ
comma_unless b = if b then [] else 0x2C ∷ []

-- punctuation that is written as it is
record AfterMark (c : ℕ) (u w : List ℕ) : Type 0 where
  y : List ℕ
  is : w ≡ c ∷ y
  rest : Of u y

after_mark : (c : ℕ) {u w : List ℕ} → IsTrue (is_punctuation c) → ((n : Option ℕ) → ComesNext u n → mark_for c n ≡ c ∷ []) → Of (c ∷ u) w → AfterMark c u w
after_mark c {u} p f m =
    let a = after_lexeme (LexemeKind.punctuation c) {t = c ∷ u} {u = u} (p, refl) m in
    record { y = a.y; is = a.is ∙ ap (λ x. x ++ a.y) (a.form ∙ f a.n a.comes); rest = a.rest }

-- a closing bracket, and the comma that is missing behind it
record AfterClose (c : ℕ) (n : Option ℕ) (u w : List ℕ) : Type 0 where
  y : List ℕ
  is : w ≡ c ∷ (missing_comma n ++ y)
  rest : Of u y

after_close : (c : ℕ) {n : Option ℕ} {u w : List ℕ} → IsTrue (is_punctuation c) → ((n : Option ℕ) → mark_for c n ≡ c ∷ missing_comma n) → ComesNext u n → Of (c ∷ u) w → AfterClose c n u w
after_close c {n} {u} p f b m =
    let a = after_lexeme (LexemeKind.punctuation c) {t = c ∷ u} {u = u} (p, refl) m in
    record { y = a.y; is = a.is ∙ ap (λ x. x ++ a.y) (a.form ∙ f a.n ∙ ap (λ n. c ∷ missing_comma n) (comes_once a.comes b)); rest = a.rest }

-- a comma before a closing bracket
after_trailing : {n : Option ℕ} {u w : List ℕ} → ComesNext u n → is_closed n ≡ true → Of (0x2C ∷ u) w → Of u w
after_trailing {n} {u} b e m =
    let a = after_lexeme (LexemeKind.punctuation 0x2C) {t = 0x2C ∷ u} {u = u} (refl, refl) m in
    let gone : a.x ≡ [] = a.form ∙ ap (λ n. mark_for 0x2C n) (comes_once a.comes b) ∙ ap comma_unless e in
    subst (λ w. Of u w) (sym (a.is ∙ ap (λ x. x ++ a.y) gone)) a.rest

-- what comes next where no closing bracket does
abbrev IsItem : Option ℕ → Type 0
IsItem n = IsTrue (starts begins_item n)

not_or : (x y : Bool) → IsTrue (not (x || y)) → (x ≡ false) × (y ≡ false)
not_or true y h = cc
not_or false true h = cc
not_or false false h = (refl, refl)

record NoMark (c : ℕ) : Type 0 where
  no_curly : (c == 0x7D) ≡ false
  no_square : (c == 0x5D) ≡ false
  no_comma : (c == 0x2C) ≡ false
  no_colon : (c == 0x3A) ≡ false

is_false : (b : Bool) → b ≡ false → IsTrue (not b)
is_false b e = ap not e

no_mark : (c : ℕ) → IsTrue (begins_item c) → NoMark c
no_mark c h =
    let p = not_or (begins_gap c || c == 0x7D || c == 0x5D || c == 0x2C) (c == 0x3A) h in
    let q = not_or (begins_gap c || c == 0x7D || c == 0x5D) (c == 0x2C) (is_false _ p.0) in
    let r = not_or (begins_gap c || c == 0x7D) (c == 0x5D) (is_false _ q.0) in
    let s = not_or (begins_gap c) (c == 0x7D) (is_false _ r.0) in
    record { no_curly = s.1; no_square = r.1; no_comma = q.1; no_colon = p.1 }

item_named : (n : Option ℕ) → IsItem n → is_named n ≡ false
item_named None h = refl
item_named (Some c) h = (no_mark c h).no_colon

item_closed : (n : Option ℕ) → IsItem n → is_closed n ≡ false
item_closed None h = refl
item_closed (Some c) h = let k = no_mark c h in rw (k.no_square, k.no_curly) refl

item_comma : (n : Option ℕ) → IsItem n → missing_comma n ≡ 0x2C ∷ []
item_comma None h = cc
item_comma (Some c) h = let k = no_mark c h in rw (k.no_comma, k.no_colon, k.no_square, k.no_curly) refl

comes_item : {u : List ℕ} (x : List ℕ) → Gap all_on u x → IsItem (next x) → ComesNext u (next x)
comes_item x g h = comes x g (not_gap x h)

-- between two neighbours: what is written behind the first leads over a comma to the second
record Separated (n : Option ℕ) (y x : List ℕ) : Type 0 where
  a : List ℕ
  b : List ℕ
  before : Many is_ws (missing_comma n ++ y) (0x2C ∷ a)
  behind : Many is_ws a b
  rest : Of x b

record Between (u x : List ℕ) : Type 0 where
  n : Option ℕ
  comes : ComesNext u n
  value : is_named n ≡ false
  on : (y : List ℕ) → Of u y → Separated n y x

kept_comma : {x u : List ℕ} → IsItem (next x) → Gap all_on u x → (n : Option ℕ) → ComesNext u n → mark_for 0x2C n ≡ 0x2C ∷ []
kept_comma {x} h g n b =
    ap (λ n. mark_for 0x2C n) (comes_once b (comes_item x g h)) ∙ ap comma_unless (item_closed (next x) h)

separated : {u x : List ℕ} → Separates all_on u x → IsItem (next x) → Between u x
separated {x = x} (grammar.Separates.comma {u = v} g k) h = record {
  n = Some 0x2C;
  comes = comes (0x2C ∷ v) g refl;
  value = refl;
  on = λ y m.
      let a = after_gap g m in
      let b = after_mark 0x2C refl (kept_comma h k) a.rest in
      let c = after_gap k b.rest in
      record { a = b.y; b = c.y; before = subst (λ t. Many is_ws y t) b.is a.ws; behind = c.ws; rest = c.rest };
}
separated {x = x} (grammar.Separates.no_comma o g) h = record {
  n = next x;
  comes = comes_item x g h;
  value = item_named (next x) h;
  on = λ y m.
      let a = after_gap g m in
      record {
        a = y;
        b = a.y;
        before = subst (λ t. Many is_ws (t ++ y) (0x2C ∷ y)) (sym (item_comma (next x) h)) stop;
        behind = a.ws;
        rest = a.rest;
      };
}

-- behind the last: what is written leads to the closing bracket
record Closed (n : Option ℕ) (bracket : ℕ) (m : Option ℕ) (y r : List ℕ) : Type 0 where
  z : List ℕ
  ws : Many is_ws (missing_comma n ++ y) (bracket ∷ (missing_comma m ++ z))
  rest : Of r z

record Behind (bracket : ℕ) (m : Option ℕ) (u r : List ℕ) : Type 0 where
  n : Option ℕ
  comes : ComesNext u n
  value : is_named n ≡ false
  on : (y : List ℕ) → Of u y → Closed n bracket m y r

-- `]` or `}`
record IsBracket (c : ℕ) : Type 0 where
  mark : IsTrue (is_punctuation c)
  no_gap : IsTrue (not (begins_gap c))
  form : (n : Option ℕ) → mark_for c n ≡ c ∷ missing_comma n
  no_name : is_named (Some c) ≡ false
  closed : is_closed (Some c) ≡ true
  no_comma : missing_comma (Some c) ≡ []

square : IsBracket 0x5D
square = record { mark = refl; no_gap = refl; form = λ n. refl; no_name = refl; closed = refl; no_comma = refl }

curly : IsBracket 0x7D
curly = record { mark = refl; no_gap = refl; form = λ n. refl; no_name = refl; closed = refl; no_comma = refl }

closed : (c : ℕ) {m : Option ℕ} {u r : List ℕ} → IsBracket c → ComesNext r m → Closes all_on c u r → Behind c m u r
closed c {m} {r = r} i d (grammar.Closes.plain g) = record {
  n = Some c;
  comes = comes (c ∷ r) g i.no_gap;
  value = i.no_name;
  on = λ y h.
      let a = after_gap g h in
      let b = after_close c i.mark i.form d a.rest in
      record { z = b.y; ws = subst (λ t. Many is_ws (t ++ y) (c ∷ (missing_comma m ++ b.y))) (sym i.no_comma) (subst (λ t. Many is_ws y t) b.is a.ws); rest = b.rest };
}
closed c {r = r} i d (grammar.Closes.trailing_comma {u = v} o g k) = record {
  n = Some 0x2C;
  comes = comes (0x2C ∷ v) g refl;
  value = refl;
  on = λ y h.
      let a = after_gap g h in
      let t = after_trailing (comes (c ∷ r) k i.no_gap) i.closed a.rest in
      let e = after_gap k t in
      let b = after_close c i.mark i.form d e.rest in
      record { z = b.y; ws = ws_append a.ws (subst (λ t. Many is_ws a.y t) b.is e.ws); rest = b.rest };
}

-- literals
number_before : {s : List ℕ} (x : List ℕ) → rfc.Number s [] → rfc.Number (s ++ x) x
number_before x (rfc.Number.number a b c d) = rfc.Number.number (minus a) (int b) (frac c) (exp d)
  where
    many : {p : ℕ → Bool} {t r : List ℕ} → Many p t r → Many p (t ++ x) (r ++ x)
    many stop = stop
    many (step h m) = step h (many m)

    minus : {t r : List ℕ} → rfc.Minus t r → rfc.Minus (t ++ x) (r ++ x)
    minus rfc.Minus.none = rfc.Minus.none
    minus rfc.Minus.minus = rfc.Minus.minus

    int : {t r : List ℕ} → rfc.Int t r → rfc.Int (t ++ x) (r ++ x)
    int rfc.Int.zero = rfc.Int.zero
    int (rfc.Int.digits h m) = rfc.Int.digits h (many m)

    digits : {t r : List ℕ} → rfc.Digits t r → rfc.Digits (t ++ x) (r ++ x)
    digits (rfc.Digits.digits h m) = rfc.Digits.digits h (many m)

    frac : {t r : List ℕ} → rfc.Frac t r → rfc.Frac (t ++ x) (r ++ x)
    frac rfc.Frac.none = rfc.Frac.none
    frac (rfc.Frac.frac h) = rfc.Frac.frac (digits h)

    exp : {t r : List ℕ} → rfc.Exp t r → rfc.Exp (t ++ x) (r ++ x)
    exp rfc.Exp.none = rfc.Exp.none
    exp (rfc.Exp.exp e h) = rfc.Exp.exp e (digits h)
    exp (rfc.Exp.signed e s h) = rfc.Exp.signed e s (digits h)

string_before : {s v w : List ℕ} (x : List ℕ) → IsStringFor s v w → Quoted (w ++ x) v x
string_before {v = v} x (inl (q, e)) = subst (λ w. Quoted (w ++ x) v x) (sym e) (quoted_before x q)
string_before {v = v} x (inr (q, e)) = subst (λ w. Quoted (w ++ x) v x) (sym e) (quoted_before x (spelled_quoted v))

-- a value, and what is written for it
record AfterValue (v : Plain) (n : Option ℕ) (r w : List ℕ) : Type 0 where
  value : Plain
  y : List ℕ
  json : Value w value (missing_comma n ++ y)
  same : SameValue v value
  rest : Of r y

-- what is written for a literal, and the comma that is missing behind it
record AfterLiteral (k : LexemeKind) (named : Bool) (t r w : List ℕ) (n : Option ℕ) : Type 0 where
  s : List ℕ
  x : List ℕ
  y : List ℕ
  text : t ≡ s ++ r
  form : IsLiteralFor k named s x
  is : w ≡ x ++ (missing_comma n ++ y)
  rest : Of r y

of_lexeme : (k : LexemeKind) {n : Option ℕ} (b : Bool) {t r w : List ℕ} → IsLiteral k → ComesNext r n → is_named n ≡ b → AfterLexeme k t r w → AfterLiteral k b t r w n
of_lexeme k {n} b {t} {r} {w} i c e a = go k i a.form
  where
    here : (k : LexemeKind) → (x : List ℕ) × IsLiteralFor k (is_named a.n) a.s x × (a.x ≡ x ++ missing_comma a.n) → AfterLiteral k b t r w n
    here k (x, f, p) =
        let q = comes_once a.comes c in
        record {
          s = a.s;
          x = x;
          y = a.y;
          text = a.text;
          form = subst (λ b. IsLiteralFor k b a.s x) (ap is_named q ∙ e) f;
          is = a.is ∙ ap (λ x. x ++ a.y) (p ∙ ap (λ n. x ++ missing_comma n) q) ∙ append_assoc x (missing_comma n) a.y;
          rest = a.rest;
        }

    go : (k : LexemeKind) → IsLiteral k → IsWrittenFor k a.s a.n a.x → AfterLiteral k b t r w n
    go (LexemeKind.string v) i f = here (LexemeKind.string v) f
    go (LexemeKind.number v) i f = here (LexemeKind.number v) f
    go (LexemeKind.word v) i f = here (LexemeKind.word v) f
    go (LexemeKind.keyword v) i f = here (LexemeKind.keyword v) f
    go (LexemeKind.punctuation v) i f = absurd i

after_literal : (k : LexemeKind) {n : Option ℕ} (b : Bool) {t r w : List ℕ} → IsLiteral k → Lexeme all_on k t r → ComesNext r n → is_named n ≡ b → Of t w → AfterLiteral k b t r w n
after_literal k b i a c e m = of_lexeme k b i c e (after_lexeme k a m)

some_same : {v w : Plain} → Some v ≡ Some w → v ≡ w
some_same e = cc

keyword_same : (k : Keyword) → SameValue (keyword_value k) (keyword_value k)
keyword_same (Keyword.boolean b) = SameValue.boolean b
keyword_same Keyword.null = SameValue.null

keyword_is : (k : Keyword) {v : Plain} → literal_value (LexemeKind.keyword k) ≡ Some v → keyword_value k ≡ v
keyword_is (Keyword.boolean b) e = some_same e
keyword_is Keyword.null e = some_same e

literal_after : (k : LexemeKind) {v : Plain} {n : Option ℕ} {t r w : List ℕ} → Lexeme all_on k t r → literal_value k ≡ Some v → ComesNext r n → is_named n ≡ false → Of t w → AfterValue v n r w
literal_after (LexemeKind.string s) {v} {n} {r = r} {w = w} a e c f m =
    let l = after_literal (LexemeKind.string s) false tt a c f m in
    let x = missing_comma n ++ l.y in
    subst (λ v. AfterValue v n r w) (some_same e)
    (record { value = Plain.string s; y = l.y; json = Value.string (subst (λ w. Quoted w s x) (sym l.is) (string_before x l.form)); same = SameValue.string s; rest = l.rest })
literal_after (LexemeKind.number s) {v} {n} {t} {r} {w} a e c f m =
    let l = after_literal (LexemeKind.number s) false tt a c f m in
    let x = missing_comma n ++ l.y in
    let whole : s ≡ l.s = text_same a.0 l.text refl in
    subst (λ v. AfterValue v n r w) (some_same e)
    (record {
      value = Plain.number l.x;
      y = l.y;
      json = Value.number l.is (subst (λ w. rfc.Number w x) (sym l.is) (number_before x (number_json l.form)));
      same = SameValue.number (subst (λ s. SameNumber s l.x) (sym whole) (number_same l.form));
      rest = l.rest;
    })
literal_after (LexemeKind.word s) a e c f m = cc
literal_after (LexemeKind.keyword k) {v} {n} {t} {r} {w} a e c f m =
    let l = after_literal (LexemeKind.keyword k) false tt a c f m in
    let x = missing_comma n ++ l.y in
    let whole : l.s ≡ keyword_text k = text_same l.text a.0 refl in
    subst (λ v. AfterValue v n r w) (keyword_is k e)
    (record { value = keyword_value k; y = l.y; json = Value.literal k (l.is ∙ ap (λ s. s ++ x) (l.form ∙ whole)); same = keyword_same k; rest = l.rest })
literal_after (LexemeKind.punctuation s) a e c f m = cc

-- a name, which a colon comes behind
record AfterName (name u w : List ℕ) : Type 0 where
  y : List ℕ
  json : Quoted w name y
  rest : Of u y

abbrev Colon : Option ℕ
Colon = Some 0x3A

name_is : (s u : List ℕ) {name t w y : List ℕ} → t ≡ name ++ u → t ≡ s ++ u → (x : List ℕ) → x ≡ spelled s → w ≡ x ++ y → Quoted w name y
name_is s u {name} {w = w} {y = y} a b x f e =
    let whole : s ≡ name = text_same b a refl in
    let is : spelled name ++ y ≡ w = sym (e ∙ ap (λ x. x ++ y) (f ∙ ap spelled whole)) in
    subst (λ w. Quoted w name y) is (quoted_before y (spelled_quoted name))

loose_name : (k : LexemeKind) {name t u w : List ℕ} → IsTrue (may_name k) → t ≡ name ++ u → Lexeme all_on k t u → ComesNext u Colon → Of t w → AfterName name u w
loose_name (LexemeKind.word s) {u = u} p e a c m =
    let l = after_literal (LexemeKind.word s) true tt a c refl m in
    record { y = l.y; json = name_is l.s u e l.text l.x l.form l.is; rest = l.rest }
loose_name (LexemeKind.number s) {u = u} p e a c m =
    let l = after_literal (LexemeKind.number s) true tt a c refl m in
    record { y = l.y; json = name_is l.s u e l.text l.x l.form l.is; rest = l.rest }
loose_name (LexemeKind.keyword s) {u = u} p e a c m =
    let l = after_literal (LexemeKind.keyword s) true tt a c refl m in
    record { y = l.y; json = name_is l.s u e l.text l.x l.form l.is; rest = l.rest }
loose_name (LexemeKind.string s) p e a c m = cc
loose_name (LexemeKind.punctuation s) p e a c m = cc

after_name : {name t u w : List ℕ} → IsName all_on t name u → ComesNext u Colon → Of t w → AfterName name u w
after_name {name} (inl a) c m =
    let l = after_literal (LexemeKind.string name) true tt a c refl m in
    record { y = l.y; json = subst (λ w. Quoted w name l.y) (sym l.is) (string_before l.y l.form); rest = l.rest }
after_name (inr (o, e, k, p, a)) c m = loose_name k p e a c m

record AfterElements (vs : Items) (n : Option ℕ) (r w : List ℕ) : Type 0 where
  values : Items
  y : List ℕ
  json : Elements w values (missing_comma n ++ y)
  same : SameItems vs values
  rest : Of r y

record AfterProperties (ms : Members) (n : Option ℕ) (r w : List ℕ) : Type 0 where
  members : Members
  y : List ℕ
  json : Properties w members (missing_comma n ++ y)
  same : SameMembers ms members
  rest : Of r y

record AfterMember (name : List ℕ) (v : Plain) (n : Option ℕ) (r w : List ℕ) : Type 0 where
  value : Plain
  y : List ℕ
  json : Member w name value (missing_comma n ++ y)
  same : SameValue v value
  rest : Of r y

kept : (c : ℕ) → ((n : Option ℕ) → mark_for c n ≡ c ∷ []) → {u : List ℕ} (n : Option ℕ) → ComesNext u n → mark_for c n ≡ c ∷ []
kept c f n b = f n

-- an empty container, and one that holds something
empty_after : (o c : ℕ) {n : Option ℕ} {t r w : List ℕ} → IsTrue (is_punctuation o) → ((n : Option ℕ) → mark_for o n ≡ o ∷ []) → IsBracket c → Gap all_on t (c ∷ r) → ComesNext r n → Of (o ∷ t) w
    → (x : List ℕ) × (y : List ℕ) × (w ≡ o ∷ x) × Many is_ws x (c ∷ (missing_comma n ++ y)) × Of r y
empty_after o c p f i g d m =
    let a = after_mark o p (kept o f) m in
    let b = after_gap g a.rest in
    let e = after_close c i.mark i.form d b.rest in
    (a.y, e.y, a.is, subst (λ t. Many is_ws a.y t) e.is b.ws, e.rest)

open_after : (o : ℕ) {t u w : List ℕ} → IsTrue (is_punctuation o) → ((n : Option ℕ) → mark_for o n ≡ o ∷ []) → Gap all_on t u → Of (o ∷ t) w
    → (x : List ℕ) × (y : List ℕ) × (w ≡ o ∷ x) × Many is_ws x y × Of u y
open_after o p f g m =
    let a = after_mark o p (kept o f) m in
    let b = after_gap g a.rest in
    (a.y, b.y, a.is, b.ws, b.rest)

mutual
  value_after : {v : Plain} {n : Option ℕ} {t r w : List ℕ} → IsValue all_on t v r → ComesNext r n → is_named n ≡ false → Of t w → AfterValue v n r w
  value_after (grammar.IsValue.literal k a e) c f m = literal_after k a e c f m
  value_after {n = n} (grammar.IsValue.empty_array g) c f m =
      let a = empty_after 0x5B 0x5D refl (λ n. refl) square g c m in
      record { value = Plain.array no_items; y = a.1; json = subst (λ w. Value w (Plain.array no_items) (missing_comma n ++ a.1)) (sym a.2) (Value.empty_array a.3); same = SameValue.array SameItems.end_items; rest = a.4 }
  value_after {n = n} (grammar.IsValue.array g e) c f m =
      let a = open_after 0x5B refl (λ n. refl) g m in
      let b = elements_after e c a.4 in
      record { value = Plain.array b.values; y = b.y; json = subst (λ w. Value w (Plain.array b.values) (missing_comma n ++ b.y)) (sym a.2) (Value.array a.3 b.json); same = SameValue.array b.same; rest = b.rest }
  value_after {n = n} (grammar.IsValue.empty_object g) c f m =
      let a = empty_after 0x7B 0x7D refl (λ n. refl) curly g c m in
      record { value = Plain.object no_members; y = a.1; json = subst (λ w. Value w (Plain.object no_members) (missing_comma n ++ a.1)) (sym a.2) (Value.empty_object a.3); same = SameValue.object SameMembers.end_members; rest = a.4 }
  value_after {n = n} (grammar.IsValue.object g e) c f m =
      let a = open_after 0x7B refl (λ n. refl) g m in
      let b = properties_after e c a.4 in
      record { value = Plain.object b.members; y = b.y; json = subst (λ w. Value w (Plain.object b.members) (missing_comma n ++ b.y)) (sym a.2) (Value.object a.3 b.json); same = SameValue.object b.same; rest = b.rest }

  elements_after : {vs : Items} {n : Option ℕ} {t r w : List ℕ} → AreElements all_on t vs r → ComesNext r n → Of t w → AfterElements vs n r w
  elements_after (grammar.AreElements.last_element v e) c m =
      let b = closed 0x5D square c e in
      let a = value_after v b.comes b.value m in
      let d = b.on a.y a.rest in
      record { values = item a.value no_items; y = d.z; json = Elements.last a.json d.ws; same = SameItems.next_item a.same SameItems.end_items; rest = d.rest }
  elements_after (grammar.AreElements.element v s e) c m =
      let b = separated s (elements_begin all_on e) in
      let a = value_after v b.comes b.value m in
      let d = b.on a.y a.rest in
      let k = elements_after e c d.rest in
      record { values = item a.value k.values; y = k.y; json = Elements.element a.json d.before d.behind k.json; same = SameItems.next_item a.same k.same; rest = k.rest }

  properties_after : {ms : Members} {n : Option ℕ} {t r w : List ℕ} → AreProperties all_on t ms r → ComesNext r n → Of t w → AfterProperties ms n r w
  properties_after (grammar.AreProperties.last_property {name} v e) c m =
      let b = closed 0x7D curly c e in
      let a = member_after v b.comes b.value m in
      let d = b.on a.y a.rest in
      record { members = member name a.value no_members; y = d.z; json = Properties.last_property a.json d.ws; same = SameMembers.next_member name a.same SameMembers.end_members; rest = d.rest }
  properties_after (grammar.AreProperties.property {name} v s e) c m =
      let b = separated s (properties_begin all_on e) in
      let a = member_after v b.comes b.value m in
      let d = b.on a.y a.rest in
      let k = properties_after e c d.rest in
      record { members = member name a.value k.members; y = k.y; json = Properties.property a.json d.before d.behind k.json; same = SameMembers.next_member name a.same k.same; rest = k.rest }

  member_after : {name : List ℕ} {v : Plain} {n : Option ℕ} {t r w : List ℕ} → IsProperty all_on t name v r → ComesNext r n → is_named n ≡ false → Of t w → AfterMember name v n r w
  member_after (grammar.IsProperty.named {w = x} l g h v) c f m =
      let a = after_name l (comes (0x3A ∷ x) g refl) m in
      let b = after_gap g a.rest in
      let d = after_mark 0x3A refl (kept 0x3A (λ n. refl)) b.rest in
      let e = after_gap h d.rest in
      let k = value_after v c f e.rest in
      record { value = k.value; y = k.y; json = Member.named a.json (subst (λ t. Many is_ws a.y t) d.is b.ws) e.ws k.json; same = k.same; rest = k.rest }

at_end : {w : List ℕ} → Of [] w → w ≡ []
at_end written.Rewritten.no_more = refl
at_end (written.Rewritten.comment a m) = (let h : IsTrue false = comment_begins a in cc)
at_end (written.Rewritten.one k s x n {u = u} a e b f m) = (let h : IsTrue false = scanned_no_blank all_on (lexeme k) [] u a in cc)

pub document_after : {t w : List ℕ} {v : Plain} → IsDocument all_on t (Some v) → Rewritten [] t w → (x : Plain) × IsJson w x × SameValue v x
document_after (u, r, g, a, h) m =
    let b = after_gap g m in
    let c = value_after a (comes [] h refl) refl b.rest in
    let d = after_gap h c.rest in
    (c.value, (b.y, c.y, b.ws, c.json, subst (λ y. Many is_ws c.y y) (at_end d.rest) d.ws), c.same)
