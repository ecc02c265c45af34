-- What a token of a kind is.
use Rattle.std.proofs.Common.{ℕ, ◌≡◌, ◌≢◌, ◌∙◌, ◌++◌, append-nil, inl, inr, refl, subst, sym, List, [], Option, Result, Ok, Err, IfErr, IfOk, OnOk, chars, true, false}
use Rattle.std.specs.Cow.{cow_str_bytes}
use Rattle.jsonc_scan.specs.declared.found.TokenContent.{TokenContent}
use Rattle.jsonc_scan.specs.declared.found.TokenKind.{TokenKind}
use Rattle.jsonc_scan.specs.declared.found.TokenKind.TheVariants as kind
use Rattle.jsonc_scan.specs.declared.scanner.Scanner.{Scanner}
use Rattle.jsonc_scan.specs.Scanner.{scanned_seen}
use Rattle.jsonc_text.specs.Gaps.{IsComment}
use Rattle.jsonc_text.specs.Lexemes.{IsScanned, Lexeme, LexemeKind, Scanned, block_comment, lexeme, line_comment, keyword, number, string, word}
use Rattle.jsonc_text.specs.Options.{all_on}
use Rattle.jsonc_text.specs.Words.{Keyword, boolean, null}
use Rattle.jsonc_text.proofs.Begins.{IsLiteral}
use Rattle.jsonc_engine.specs.Texts.{Adds}
use Rattle.jsonc_engine.specs.Rewritten.{IsEntryFor, IsNonFinite, IsWrittenFor, mark_for}
use Rattle.jsonc_engine.specs.Tokens.{IsLiteralOf, IsTokenOf}

pub on_ok : {T E : Type 0} (r : Result T E) {P Q : Type 0} → (P → Q) → OnOk r P → OnOk r Q
on_ok (Ok x) f p = f p
on_ok (Err e) f p = tt

pub if_ok : {T E : Type 0} (r : Result T E) {P Q : T → Type 0} → ((x : T) → P x → Q x) → IfOk r P → IfOk r Q
if_ok (Ok x) f p = f x p
if_ok (Err e) f p = tt

pub if_err : {T E : Type 0} (r : Result T E) {P Q : E → Type 0} → ((e : E) → P e → Q e) → IfErr r P → IfErr r Q
if_err (Ok x) f p = tt
if_err (Err e) f p = f e p

-- it is no punctuation
pub is_literal : (v : List ℕ) (k : TokenKind) (l : LexemeKind) → IsLiteralOf v k l → IsLiteral l
is_literal v kind.OpenBrace l h = absurd h
is_literal v kind.CloseBrace l h = absurd h
is_literal v kind.OpenBracket l h = absurd h
is_literal v kind.CloseBracket l h = absurd h
is_literal v kind.Comma l h = absurd h
is_literal v kind.Colon l h = absurd h
is_literal v kind.String l h = subst IsLiteral (sym h) tt
is_literal v kind.Plain l h = absurd h
is_literal v kind.Passed l h = absurd h
is_literal v kind.Word l h = subst IsLiteral (sym h.1) tt
is_literal v kind.True l h = subst IsLiteral (sym h) tt
is_literal v kind.False l h = subst IsLiteral (sym h) tt
is_literal v kind.Number l h = subst IsLiteral (sym h.1) tt
is_literal v kind.Null l h = subst IsLiteral (sym h) tt
is_literal v kind.CommentLine l h = absurd h
is_literal v kind.CommentBlock l h = absurd h

-- what is written for a literal is what is written for the lexeme that it is
pub entry_written : {E : Type 0} (k : LexemeKind) (cs : List ℕ) (n : Option ℕ) (old new : List ℕ) (r : Result (Unit {0}) E) → OnOk r (Adds (IsEntryFor k cs n) old new) → IsLiteral k
    → OnOk r (Adds (IsWrittenFor k cs n) old new)
entry_written (LexemeKind.string x) cs n old new r h i = h
entry_written (LexemeKind.number x) cs n old new r h i = h
entry_written (LexemeKind.word x) cs n old new r h i = h
entry_written (LexemeKind.keyword x) cs n old new r h i = h
entry_written (LexemeKind.punctuation x) cs n old new r h i = absurd i

-- and so for punctuation
pub mark_written : {E : Type 0} (k : LexemeKind) (c : ℕ) (cs : List ℕ) (n : Option ℕ) (old new : List ℕ) (r : Result (Unit {0}) E) → lexeme k ≡ lexeme (LexemeKind.punctuation c)
    → OnOk r (new ≡ old ++ mark_for c n) → OnOk r (Adds (IsWrittenFor k cs n) old new)
mark_written k c cs n old new r e h =
    let is : LexemeKind.punctuation c ≡ k = cc in
    subst (λ k. OnOk r (Adds (IsWrittenFor k cs n) old new)) is (on_ok r (λ b. record { more = mark_for c n; is = refl; behind = b }) h)

-- a literal that is no string, word or number is a keyword
pub of_other : (v : List ℕ) (k : TokenKind) (l : LexemeKind) → IsLiteralOf v k l → k ≢ kind.String → k ≢ kind.Word → k ≢ kind.Number → (q : Keyword) × (l ≡ keyword q)
of_other v kind.OpenBrace l h a b c = absurd h
of_other v kind.CloseBrace l h a b c = absurd h
of_other v kind.OpenBracket l h a b c = absurd h
of_other v kind.CloseBracket l h a b c = absurd h
of_other v kind.Comma l h a b c = absurd h
of_other v kind.Colon l h a b c = absurd h
of_other v kind.String l h a b c = absurd (a refl)
of_other v kind.Plain l h a b c = absurd h
of_other v kind.Passed l h a b c = absurd h
of_other v kind.Word l h a b c = absurd (b refl)
of_other v kind.True l h a b c = (boolean true, h)
of_other v kind.False l h a b c = (boolean false, h)
of_other v kind.Number l h a b c = absurd (c refl)
of_other v kind.Null l h a b c = (null, h)
of_other v kind.CommentLine l h a b c = absurd h
of_other v kind.CommentBlock l h a b c = absurd h

literal_told : (v : List ℕ) (k : TokenKind) (l : LexemeKind) → (m : LexemeKind) × IsLiteralOf v k m × (lexeme l ≡ lexeme m) → IsLiteralOf v k l
literal_told v k l h = let e : h.0 ≡ l = cc in subst (IsLiteralOf v k) e h.1

-- a token of another kind than these six is a literal
pub of_entry : (v : List ℕ) (k : TokenKind) (l : LexemeKind) → IsTokenOf v k (lexeme l) → k ≢ kind.OpenBrace → k ≢ kind.OpenBracket → k ≢ kind.Colon → k ≢ kind.Comma → k ≢ kind.CloseBrace
    → k ≢ kind.CloseBracket → IsLiteralOf v k l
of_entry v kind.OpenBrace l h c d e f g i = absurd (c refl)
of_entry v kind.CloseBrace l h c d e f g i = absurd (g refl)
of_entry v kind.OpenBracket l h c d e f g i = absurd (d refl)
of_entry v kind.CloseBracket l h c d e f g i = absurd (i refl)
of_entry v kind.Comma l h c d e f g i = absurd (f refl)
of_entry v kind.Colon l h c d e f g i = absurd (e refl)
of_entry v kind.String l h c d e f g i = literal_told v kind.String l h
of_entry v kind.Plain l h c d e f g i = absurd h.1
of_entry v kind.Passed l h c d e f g i = absurd h.1
of_entry v kind.Word l h c d e f g i = literal_told v kind.Word l h
of_entry v kind.True l h c d e f g i = literal_told v kind.True l h
of_entry v kind.False l h c d e f g i = literal_told v kind.False l h
of_entry v kind.Number l h c d e f g i = literal_told v kind.Number l h
of_entry v kind.Null l h c d e f g i = literal_told v kind.Null l h
of_entry v kind.CommentLine l h c d e f g i = let p = h.1 in cc
of_entry v kind.CommentBlock l h c d e f g i = let p = h.1 in cc

-- a token that is no comment is a lexeme
pub lexeme_told : (v : List ℕ) (k : TokenKind) (w : Scanned) → IsTokenOf v k w → k ≢ kind.CommentLine → k ≢ kind.CommentBlock → (l : LexemeKind) × (w ≡ lexeme l)
lexeme_told v kind.OpenBrace w h a b = (LexemeKind.punctuation 0x7B, h)
lexeme_told v kind.CloseBrace w h a b = (LexemeKind.punctuation 0x7D, h)
lexeme_told v kind.OpenBracket w h a b = (LexemeKind.punctuation 0x5B, h)
lexeme_told v kind.CloseBracket w h a b = (LexemeKind.punctuation 0x5D, h)
lexeme_told v kind.Comma w h a b = (LexemeKind.punctuation 0x2C, h)
lexeme_told v kind.Colon w h a b = (LexemeKind.punctuation 0x3A, h)
lexeme_told v kind.String w h a b = (h.0, h.2)
lexeme_told v kind.Plain w h a b = absurd h.1
lexeme_told v kind.Passed w h a b = absurd h.1
lexeme_told v kind.Word w h a b = (h.0, h.2)
lexeme_told v kind.True w h a b = (h.0, h.2)
lexeme_told v kind.False w h a b = (h.0, h.2)
lexeme_told v kind.Number w h a b = (h.0, h.2)
lexeme_told v kind.Null w h a b = (h.0, h.2)
lexeme_told v kind.CommentLine w h a b = absurd (a refl)
lexeme_told v kind.CommentBlock w h a b = absurd (b refl)

-- a comment, by its kind
pub line_told : (v : List ℕ) (k : TokenKind) (w : Scanned) {t r : List ℕ} → IsTokenOf v k w → k ≡ kind.CommentLine → IsScanned all_on w t r → IsComment t r
line_told v k w {t} {r} h e a =
    let p : (s : List ℕ) × (w ≡ line_comment s) = subst (λ k. IsTokenOf v k w) e h in
    let z : IsScanned all_on (line_comment p.0) t r = subst (λ w. IsScanned all_on w t r) p.1 a in
    inl z.0

pub block_told : (v : List ℕ) (k : TokenKind) (w : Scanned) {t r : List ℕ} → IsTokenOf v k w → k ≡ kind.CommentBlock → IsScanned all_on w t r → IsComment t r
block_told v k w {t} {r} h e a =
    let p : (s : List ℕ) × (w ≡ block_comment s) = subst (λ k. IsTokenOf v k w) e h in
    let z : IsScanned all_on (block_comment p.0) t r = subst (λ w. IsScanned all_on w t r) p.1 a in
    inr z.0

-- a token that the scanner tells
pub told : {A : Type 0} (s : Scanner A) (x : TokenContent A) (k : TokenKind) → k ≢ kind.Plain → k ≢ kind.Passed → IsTokenOf (chars (cow_str_bytes x.string)) k (scanned_seen s x k)
told s x kind.OpenBrace a b = refl
told s x kind.CloseBrace a b = refl
told s x kind.OpenBracket a b = refl
told s x kind.CloseBracket a b = refl
told s x kind.Comma a b = refl
told s x kind.Colon a b = refl
told s x kind.String a b = (string (chars (cow_str_bytes x.string)), refl, refl)
told s x kind.Plain a b = absurd (a refl)
told s x kind.Passed a b = absurd (b refl)
told s x kind.Word a b = (word (chars x.text.now), (chars x.text.now, refl), refl)
told s x kind.True a b = (keyword (boolean true), refl, refl)
told s x kind.False a b = (keyword (boolean false), refl, refl)
told s x kind.Number a b = (number (chars x.text.now), (chars x.text.now, refl), refl)
told s x kind.Null a b = (keyword null, refl, refl)
told s x kind.CommentLine a b = (chars x.text.now, refl)
told s x kind.CommentBlock a b = (chars x.text.now, refl)

-- a number, by its kind and by its text
pub number_told : (v : List ℕ) (k : TokenKind) (l : LexemeKind) → IsTokenOf v k (lexeme l) → k ≡ kind.Number → (n : List ℕ) × (l ≡ number n)
number_told v k l h e = literal_told v kind.Number l (subst (λ k. IsTokenOf v k (lexeme l)) e h)

pub number_kind : (v : List ℕ) (k : TokenKind) (w : Scanned) (n : List ℕ) → IsTokenOf v k w → w ≡ lexeme (number n) → k ≡ kind.Number
number_kind v kind.OpenBrace w n h e = cc
number_kind v kind.CloseBrace w n h e = cc
number_kind v kind.OpenBracket w n h e = cc
number_kind v kind.CloseBracket w n h e = cc
number_kind v kind.Comma w n h e = cc
number_kind v kind.Colon w n h e = cc
number_kind v kind.String w n h e = let p = h.1 in let q = h.2 in cc
number_kind v kind.Plain w n h e = absurd h.1
number_kind v kind.Passed w n h e = absurd h.1
number_kind v kind.Word w n h e = let p = h.1.1 in let q = h.2 in cc
number_kind v kind.True w n h e = let p = h.1 in let q = h.2 in cc
number_kind v kind.False w n h e = let p = h.1 in let q = h.2 in cc
number_kind v kind.Number w n h e = refl
number_kind v kind.Null w n h e = let p = h.1 in let q = h.2 in cc
number_kind v kind.CommentLine w n h e = let p = h.1 in cc
number_kind v kind.CommentBlock w n h e = let p = h.1 in cc

pub number_text : (l : LexemeKind) (cs n : List ℕ) → l ≡ number n → Lexeme all_on l cs [] → IsNonFinite n → IsNonFinite cs
number_text l cs n e a i =
    let z : Lexeme all_on (number n) cs [] = subst (λ l. Lexeme all_on l cs []) e a in
    subst IsNonFinite (sym (z.0 ∙ append-nil n)) i
