-- What a parser that refuses has seen.
use Rattle.std.proofs.Common.{ℕ, ◌<◌, ◌≡◌, ◌≢◌, ◌∙◌, sym, ap, subst, refl, arith, Bool, true, false, not, ◌||◌, ◌==◌, List, [], ◌∷◌, length, Option, Some, None, Result, Ok, Err, IfOk, IfErr, IfSome, OnOk, OnErr, IsTrue, IsUtf8, IsCharBoundary, ◌⊎◌, inl, inr}
use Rattle.std.proofs.lemmas.Str.{IsUtf8-from_is_utf8}
use Rattle.jsonc_text.specs.declared.errors.ParseError.{ParseError}
use Rattle.jsonc_text.specs.declared.errors.ParseErrorKind.{ParseErrorKind}
use Rattle.jsonc_text.specs.declared.errors.ParseErrorKind.TheVariants as kind
use Rattle.jsonc_text.specs.declared.errors.ParseErrorKind.TheVariants.{OutOfMemory, CommentsNotAllowed}
use Rattle.jsonc_text.specs.Options.{Options}
use Rattle.jsonc_text.specs.Faults.{kind_of, range_of}
use Rattle.jsonc_text.specs.Text.{rest, next, no, starts}
use Rattle.jsonc_text.specs.Gaps.{Gap, none, blank, comment, is_blank, IsComment, line, block}
use Rattle.jsonc_text.specs.Grammar.{Separates, comma, no_comma, Closes, plain, trailing_comma, may_name}
use Rattle.jsonc_text.specs.Lexemes.{Scanned, lexeme, line_comment, block_comment, LexemeKind, punctuation, string, IsScanned, is_punctuation}
use Rattle.jsonc_text.specs.Places.{is_comment}
use Rattle.jsonc_text.proofs.Basics.{clash, or_cases, or_left, test_eq, eq_test, no_starts, starts_also}
use Rattle.jsonc_text.proofs.Begins.{begins_literal, lexeme_begins}
use Rattle.jsonc_text.proofs.BlockComments.{block_inside}
use Rattle.jsonc_text.proofs.Cuts.{many_split, end_place}
use Rattle.jsonc_text.proofs.CharacterSteps.{rest_end}
use Rattle.jsonc_text.proofs.UniqueGaps.{begins_gap, gap_unique, comment_unique, comment_begins, comment_no_blank}
use Rattle.jsonc_text.proofs.UniqueLexemes.{scanned_unique}
use Rattle.jsonc_scan.specs.Reads.{NothingAt}
use Rattle.jsonc_scan.specs.declared.scanner.Scanner.{Scanner}
use Rattle.jsonc_scan.specs.Scanner.{text_of, start_of, end_of, options_of, PassesBlanks, NothingStands, GoesOn}
use Rattle.jsonc_scan.specs.Scanner.{IsThere}
use Rattle.jsonc_walk.specs.declared.container.Container.{Container}
use Rattle.jsonc_walk.specs.declared.container.Container.TheVariants.{Array, Object}
use Rattle.jsonc_walk.specs.declared.context.Context.{Context}
use Rattle.jsonc_walk.specs.Containers.{closing}
use Rattle.jsonc_walk.specs.Context.{text_in, options_in, token_start, token_end, Keeps, Finds, IsToken, IsNoComment}
use Rattle.jsonc_walk.specs.Located.{Between, Ends, TrailingComma}
use Rattle.jsonc_walk.specs.Refusals.{IsAllocationFailure, AtLexeme, AtToken, AtItem, may_begin_item, LeadsNowhere, LeadsOnlyTo, here, after, NoTokenAfter, NothingAfterComma, NothingNext, OnlyFirst, OnlyAfterComma, OnlyNext, NoColon, NoName}
use Rattle.jsonc_walk.specs.Scanned.{loose_text}
use Rattle.jsonc_walk.proofs.lemmas.Gaps.{gap_append, passed, stands}
use Rattle.jsonc_walk.proofs.lemmas.Scans.{Passing, moved}
use Rattle.std.specs.Result.{IsErrAnd}

pub still : {S X Y : Type 0} → (X → Y) → S ⊎ X → S ⊎ Y
still f (inl s) = inl s
still f (inr x) = inr (f x)

-- a fault is allocation failure, or it is not
pub memory_or_not : (k : ParseErrorKind) → (k ≡ OutOfMemory) ⊎ (k ≢ OutOfMemory)
memory_or_not kind.OutOfMemory = inl refl
memory_or_not kind.BareDecimalPointNumbersNotAllowed = inr (λ e. cc)
memory_or_not kind.CommentsNotAllowed = inr (λ e. cc)
memory_or_not kind.ExpectedColonAfterObjectKey = inr (λ e. cc)
memory_or_not kind.ExpectedObjectValue = inr (λ e. cc)
memory_or_not kind.ExpectedDigit = inr (λ e. cc)
memory_or_not kind.ExpectedDigitFollowingNegativeSign = inr (λ e. cc)
memory_or_not kind.ExpectedPlusMinusOrDigitInNumberLiteral = inr (λ e. cc)
memory_or_not kind.ExpectedStringObjectProperty = inr (λ e. cc)
memory_or_not kind.HexadecimalNumbersNotAllowed = inr (λ e. cc)
memory_or_not kind.ExpectedComma = inr (λ e. cc)
memory_or_not kind.MultipleRootJsonValues = inr (λ e. cc)
memory_or_not kind.NonFiniteNumbersNotAllowed = inr (λ e. cc)
memory_or_not kind.SingleQuotedStringsNotAllowed = inr (λ e. cc)
memory_or_not (kind.String f) = inr (λ e. cc)
memory_or_not kind.TrailingCommasNotAllowed = inr (λ e. cc)
memory_or_not kind.UnaryPlusNumbersNotAllowed = inr (λ e. cc)
memory_or_not kind.UnexpectedCloseBrace = inr (λ e. cc)
memory_or_not kind.UnexpectedCloseBracket = inr (λ e. cc)
memory_or_not kind.UnexpectedColon = inr (λ e. cc)
memory_or_not kind.UnexpectedComma = inr (λ e. cc)
memory_or_not kind.UnexpectedToken = inr (λ e. cc)
memory_or_not kind.UnexpectedTokenInObject = inr (λ e. cc)
memory_or_not kind.UnexpectedWord = inr (λ e. cc)
memory_or_not kind.UnterminatedArray = inr (λ e. cc)
memory_or_not kind.UnterminatedCommentBlock = inr (λ e. cc)
memory_or_not kind.UnterminatedObject = inr (λ e. cc)
memory_or_not kind.NestingDepthExceeded = inr (λ e. cc)

-- a lexeme begins with neither a blank nor a comment
literal_first : (c : ℕ) → IsTrue (begins_literal c) → IsTrue (not (begins_gap c))
literal_first c h = go (begins_gap c) (is_punctuation c) h
  where
    go : (x y : Bool) → IsTrue (not (x || y)) → IsTrue (not x)
    go true y h = h
    go false y h = refl

mark_first : (c : ℕ) → IsTrue (is_punctuation c) → IsTrue (not (begins_gap c))
mark_first c h =
    elim (or_cases _ (c == 0x3A) h) [
      | inr e ↦ rw (test_eq c 0x3A e) refl
      | inl h ↦
          elim (or_cases _ (c == 0x2C) h) [
            | inr e ↦ rw (test_eq c 0x2C e) refl
            | inl h ↦
                elim (or_cases _ (c == 0x5D) h) [
                  | inr e ↦ rw (test_eq c 0x5D e) refl
                  | inl h ↦
                      elim (or_cases _ (c == 0x5B) h) [
                        | inr e ↦ rw (test_eq c 0x5B e) refl
                        | inl h ↦ elim (or_cases (c == 0x7B) (c == 0x7D) h) [ inl e ↦ rw (test_eq c 0x7B e) refl | inr e ↦ rw (test_eq c 0x7D e) refl ]
                      ]
                ]
          ]
    ]

starts_no : (p q : ℕ → Bool) → ((c : ℕ) → IsTrue (p c) → IsTrue (not (q c))) → (n : Option ℕ) → IsTrue (starts p n) → IsTrue (no q n)
starts_no p q f None h = refl
starts_no p q f (Some c) h = f c h

lexeme_no_gap : (o : Options) (k : LexemeKind) (t r : List ℕ) → IsScanned o (lexeme k) t r → IsTrue (no begins_gap (next t))
lexeme_no_gap o (LexemeKind.string v) t r l = starts_no begins_literal begins_gap literal_first (next t) (lexeme_begins o (LexemeKind.string v) t r tt l)
lexeme_no_gap o (LexemeKind.number v) t r l = starts_no begins_literal begins_gap literal_first (next t) (lexeme_begins o (LexemeKind.number v) t r tt l)
lexeme_no_gap o (LexemeKind.word v) t r l = starts_no begins_literal begins_gap literal_first (next t) (lexeme_begins o (LexemeKind.word v) t r tt l)
lexeme_no_gap o (LexemeKind.keyword v) t r l = starts_no begins_literal begins_gap literal_first (next t) (lexeme_begins o (LexemeKind.keyword v) t r tt l)
lexeme_no_gap o (LexemeKind.punctuation c) t r l = rw l.1 (mark_first c l.0)

pub token_no_gap : (o : Options) (t : List ℕ) → AtToken o t → IsTrue (no begins_gap (next t))
token_no_gap o t (inl e) = rw e refl
token_no_gap o t (inr (k, r, l)) = lexeme_no_gap o k t r l

no_gap_comment : {t u : List ℕ} → IsTrue (no begins_gap (next t)) → IsComment t u → ⊥
no_gap_comment {t} n k = no_starts begins_gap (next t) n (starts_also (λ c. c == 0x2F) begins_gap slash (next t) (comment_begins k))
  where
    slash : (c : ℕ) → IsTrue (c == 0x2F) → IsTrue (begins_gap c)
    slash c h = rw (test_eq c 0x2F h) refl

-- a gap after a part of it
pub gap_past : {o : Options} {t p u : List ℕ} → Gap o t p → Gap o t u → IsTrue (no begins_gap (next u)) → Gap o p u
gap_past none h n = h
gap_past (blank {c} e g) none n = absurd (clash (begins_gap c) n (or_left (is_blank c) (c == 0x2F) e))
gap_past (blank e g) (blank f h) n = gap_past g h n
gap_past (blank e g) (comment a k h) n = absurd (comment_no_blank k e)
gap_past (comment a k g) none n = absurd (no_gap_comment n k)
gap_past (comment a k g) (blank e h) n = absurd (comment_no_blank k e)
gap_past (comment a k g) (comment b l h) n = gap_past g (rw (comment_unique l k) at h) n

-- each comment is one that a scanner answers
comment_scanned : (o : Options) {t r : List ℕ} → IsComment t r → ((w : Scanned) → IsScanned o w t r → ⊥) → ⊥
comment_scanned o {t} {r} (inl (line g e)) n = let s = many_split _ g in n (line_comment s.0) (line g e, ap (λ x. 0x2F ∷ 0x2F ∷ x) s.1)
comment_scanned o {t} {r} (inr (block g)) n = let s = block_inside (block g) in n (block_comment s.0) (block g, s.1)

-- where no lexeme, no comment and no blank stands, a gap leads to no token
pub nothing_after : (o : Options) {t u : List ℕ} → ((w : Scanned) (r : List ℕ) → IsScanned o w t r → ⊥) → (t ≡ [] → ⊥) → IsTrue (no is_blank (next t)) → Gap o t u → AtToken o u → ⊥
nothing_after o n end b none (inl e) = end e
nothing_after o n end b none (inr (k, r, l)) = n (lexeme k) r l
nothing_after o n end b (blank {c} e g) at = clash (is_blank c) b e
nothing_after o n end b (comment {u = u} a k g) at = comment_scanned o k (λ w x. n w u x)

pub lexeme_at : (o : Options) (w : Scanned) (t r : List ℕ) → is_comment w ≡ false → IsScanned o w t r → AtLexeme o t
lexeme_at o (lexeme k) t r e h = (k, r, h)
lexeme_at o (line_comment s) t r e h = cc
lexeme_at o (block_comment s) t r e h = cc

pub comment_at : (o : Options) (w : Scanned) (t r : List ℕ) → is_comment w ≡ true → IsScanned o w t r → IsComment t r
comment_at o (lexeme k) t r e h = cc
comment_at o (line_comment s) t r e h = inl h.0
comment_at o (block_comment s) t r e h = inr h.0

-- a comment that is not allowed
no_gap_past_comment : (o : Options) {t u r : List ℕ} → IsComment t r → o.comments ≡ false → Gap o t u → AtToken o u → ⊥
no_gap_past_comment o {t} k f none at = no_gap_comment (token_no_gap o t at) k
no_gap_past_comment o k f (blank e g) at = comment_no_blank k e
no_gap_past_comment o k f (comment a l g) at = let both : true ≡ false = sym a ∙ f in cc

module _ {A : Type 0} where
  utf8_of : (c : Context A) → IsUtf8 (text_in c)
  utf8_of c = IsUtf8-from_is_utf8 (text_in c) c.utf8

  -- up to the place where a scanner's token would begin
  gap_to : (start now : Context A) (s : Scanner A) → Passing start now → PassesBlanks now.scanner s → Gap (options_in start) (after start) (rest (text_in start) (start_of s))
  gap_to start now s h blanks =
      let more = subst (λ b. Between b (Gap (options_in start)) (token_end now) (start_of s)) h.kept.text (passed (options_in start) now.scanner s blanks) in
      gap_append h.gap.stands more.stands

  nothing_here : (start : Context A) (s : Scanner A) → text_of s ≡ text_in start → Gap (options_in start) (after start) (rest (text_in start) (start_of s)) → GoesOn s
      → NothingAt (options_in start) (text_in start) (start_of s) → NoTokenAfter start
  nothing_here start s t gap goes n = λ u g at.
      let o = options_in start in
      let bytes = text_in start in
      let left = gap_past gap g (token_no_gap o u at) in
      let inside : start_of s < length bytes = omega (arith, goes.inside, ap length t) in
      let boundary = subst (λ b. IsCharBoundary b (start_of s)) t s.starts_at_place in
      let end : rest bytes (start_of s) ≡ [] → ⊥ = λ z. let same : start_of s ≡ length bytes = end_place bytes (start_of s) (utf8_of start) boundary z in absurd (omega arith) in
      nothing_after o n end (subst (λ b. IsTrue (no is_blank (next (rest b (start_of s))))) t goes.no_blank) left at

  -- the scanner refuses
  pub scan_refused : (start now : Context A) (s : Scanner A) (e : ParseError) → Passing start now → PassesBlanks now.scanner s → (kind_of e ≢ OutOfMemory → NothingStands s) → GoesOn s → IsAllocationFailure e ⊎ NoTokenAfter start
  scan_refused start now s e h blanks n goes =
      elim (memory_or_not (kind_of e)) [
        | inl m ↦ inl m
        | inr other ↦
            let t = blanks.text ∙ h.kept.text in
            let o = blanks.options ∙ h.kept.options in
            let here = subst (λ p. NothingAt p (text_in start) (start_of s)) o (subst (λ b. NothingAt (options_of s) b (start_of s)) t (n other)) in
            inr (nothing_here start s t (gap_to start now s h blanks) goes here)
      ]

  -- a comment that is not allowed
  pub comment_refused : (start now : Context A) (s : Scanner A) (f : Option Scanned) (t : Scanned) (e : ParseError) → f ≡ Some t → Passing start now → PassesBlanks now.scanner s → IsThere s f
      → is_comment t ≡ true → (kind_of e ≡ OutOfMemory) ⊎ (((options_of s).comments ≡ false) × (kind_of e ≡ CommentsNotAllowed) × (range_of e ≡ record { start = start_of s; end = end_of s })) → IsAllocationFailure e ⊎ NoTokenAfter start
  comment_refused start now s f t e is h blanks at found (inl m) = inl m
  comment_refused start now s f t e is h blanks at found (inr n) =
      let o = options_in start in
      let same = blanks.options ∙ h.kept.options in
      let one = stands (text_in start) o s t (blanks.text ∙ h.kept.text) same (subst (IsThere s) is at) in
      let here = comment_at o t _ _ found one.stands in
      inr (λ u g a. no_gap_past_comment o here (ap (λ p. p.comments) (sym same) ∙ n.0) (gap_past (gap_to start now s h blanks) g (token_no_gap o u a)) a)

-- the error that a `?` hands on
pub err_of : {X E : Type 0} (P : E → Type 0) (e : E) (r : Result X E) → IsErrAnd r (λ y. y ≡ e) → P e → IfErr r P
err_of P e (Ok x) h p = tt
err_of P e (Err y) h p = subst P (sym h) p

pub ok_some : {X E : Type 0} {P Q : X → Type 0} (r : Result (Option X) E) → ((x : X) → P x → Q x) → IfOk r (λ f. IfSome f P) → IfOk r (λ f. IfSome f Q)
ok_some (Ok (Some x)) f h = f x h
ok_some (Ok None) f h = tt
ok_some (Err e) f h = tt

pub ok_of : {X E : Type 0} {P Q : X → Type 0} (r : Result X E) → ((x : X) → P x → Q x) → IfOk r P → IfOk r Q
ok_of (Ok x) f h = f x h
ok_of (Err e) f h = tt

pub err_some : {X E : Type 0} {P Q : E → Type 0} (r : Result X E) → ((e : E) → P e → Q e) → IfErr r P → IfErr r Q
err_some (Ok x) f h = tt
err_some (Err e) f h = f e h

-- what is said of a result, taken together
pub ok_all : {X E F G H : Type 0} {P Q : X → Type 0} (r : Result X E) → OnOk r F → OnOk r G → OnOk r H → IfOk r P → ((x : X) → F → G → H → P x → Q x) → IfOk r Q
ok_all (Ok x) f g h p all = all x f g h p
ok_all (Err e) f g h p all = tt

pub stop_all : {X E P Q S T : Type 0} (r : Result X E) → OnErr r P → OnErr r Q → OnErr r S → (P → Q → S → T) → OnErr r T
stop_all (Ok x) p q s h = tt
stop_all (Err e) p q s h = h p q s

pub err_on : {X E P Q : Type 0} (r : Result X E) → (P → Q) → OnErr r P → OnErr r Q
err_on (Ok x) f h = tt
err_on (Err e) f h = f h

-- what is true anyhow
pub on_err : {X E T : Type 0} (r : Result X E) → T → OnErr r T
on_err (Ok x) t = tt
on_err (Err e) t = t

-- what a test has refuted
pub refuted : {b : Bool} {X : Type 0} → (X → IsTrue b) → b ≡ false → X → ⊥
refuted f e x = let both : true ≡ false = sym (f x) ∙ e in cc

forbidden : {b : Bool} → IsTrue b → b ≡ false → ⊥
forbidden h e = let both : true ≡ false = sym h ∙ e in cc

closing_mark : (k : Container) → IsTrue (is_punctuation (closing k))
closing_mark Array = refl
closing_mark Object = refl

closing_no_item : (k : Container) → IsTrue (not (may_begin_item (closing k)))
closing_no_item Array = refl
closing_no_item Object = refl

pub mark_same : (c d : ℕ) → lexeme (punctuation c) ≡ lexeme (punctuation d) → c ≡ d
mark_same c d e = cc

comma_closes_none : (k : Container) → IsTrue (not (0x2C == closing k))
comma_closes_none Array = refl
comma_closes_none Object = refl

closing_no_comma : (k : Container) → lexeme (punctuation 0x2C) ≡ lexeme (punctuation (closing k)) → ⊥
closing_no_comma k e = clash (0x2C == closing k) (comma_closes_none k) (eq_test 0x2C (closing k) (mark_same 0x2C (closing k) e))

mark_at : (o : Options) (c : ℕ) (r : List ℕ) → IsTrue (is_punctuation c) → AtLexeme o (c ∷ r)
mark_at o c r m = (punctuation c, r, (m, refl))

starts_none : (p : ℕ → Bool) {t : List ℕ} → t ≡ [] → IsTrue (starts p (next t)) → ⊥
starts_none p e h = let k : IsTrue false = rw e at h in cc

pub no_lexeme_at_end : (o : Options) (t : List ℕ) → t ≡ [] → AtLexeme o t → ⊥
no_lexeme_at_end o t e (LexemeKind.string v, r, l) = starts_none begins_literal e (lexeme_begins o (LexemeKind.string v) t r tt l)
no_lexeme_at_end o t e (LexemeKind.number v, r, l) = starts_none begins_literal e (lexeme_begins o (LexemeKind.number v) t r tt l)
no_lexeme_at_end o t e (LexemeKind.word v, r, l) = starts_none begins_literal e (lexeme_begins o (LexemeKind.word v) t r tt l)
no_lexeme_at_end o t e (LexemeKind.keyword v, r, l) = starts_none begins_literal e (lexeme_begins o (LexemeKind.keyword v) t r tt l)
no_lexeme_at_end o t e (LexemeKind.punctuation c, r, l) = let both : [] ≡ c ∷ r = sym e ∙ l.1 in cc

-- no gap leads to a lexeme
abbrev pub NoLexemeAfter : Options → List ℕ → Type 0
NoLexemeAfter o t = (u : List ℕ) → Gap o t u → AtLexeme o u → ⊥

pub nowhere_first : (o : Options) (k : Container) (t : List ℕ) → NoLexemeAfter o t → LeadsNowhere o (Gap o) (Ends o (closing k)) t
nowhere_first o k t n = record { no_close = λ r g. n (closing k ∷ r) g (mark_at o (closing k) r (closing_mark k)); no_item = λ u g i. n u g i.lexeme }

pub nowhere_comma : (o : Options) (k : Container) (t : List ℕ) → NoLexemeAfter o t → LeadsNowhere o (Gap o) (TrailingComma o (closing k)) t
nowhere_comma o k t n = record { no_close = λ r h. n (closing k ∷ r) h.1 (mark_at o (closing k) r (closing_mark k)); no_item = λ u g i. n u g i.lexeme }

no_closes : (o : Options) (k : Container) (t r : List ℕ) → ((r : List ℕ) → Gap o t (closing k ∷ r) → ⊥) → ((u : List ℕ) → Gap o t (0x2C ∷ u) → IsTrue o.trailing_commas → Gap o u (closing k ∷ r) → ⊥) → Closes o (closing k) t r → ⊥
no_closes o k t r n m (plain g) = n r g
no_closes o k t r n m (trailing_comma {u = u} a g h) = m u g a h

no_separates : (o : Options) (t w : List ℕ) → ((u : List ℕ) → Gap o t (0x2C ∷ u) → Gap o u w → ⊥) → (IsTrue o.missing_commas → Gap o t w → ⊥) → Separates o t w → ⊥
no_separates o t w n m (comma {u = u} g h) = n u g h
no_separates o t w n m (no_comma a g) = m a g

pub nowhere_next : (o : Options) (k : Container) (t : List ℕ) → NoLexemeAfter o t → LeadsNowhere o (Separates o) (Closes o (closing k)) t
nowhere_next o k t n = record {
  no_close = λ r. no_closes o k t r (λ r g. n (closing k ∷ r) g (mark_at o (closing k) r (closing_mark k))) (λ u g a h. n (0x2C ∷ u) g (mark_at o 0x2C u refl));
  no_item = λ u s i. no_separates o t u (λ v g h. n (0x2C ∷ v) g (mark_at o 0x2C v refl)) (λ a g. n u g i.lexeme) s;
}

module _ {A : Type 0} where
  pub no_token_lexeme : (c : Context A) → NoTokenAfter c → NoLexemeAfter (options_in c) (after c)
  no_token_lexeme c n u g i = n u g (inr i)

  pub found_token : (o : Options) (bytes : List ℕ) (s : Scanner A) (f : Option Scanned) → text_of s ≡ bytes → options_of s ≡ o → IsThere s f → IsNoComment f → AtToken o (rest bytes (start_of s))
  found_token o bytes s None t e h n = inl (rest_end bytes (start_of s) (omega (arith, h.0, ap length t)))
  found_token o bytes s (Some x) t e h n = inr (lexeme_at o x _ _ n (stands bytes o s x t e h).stands)

  module _ (old new : Context A) (f : Option Scanned) (kept : Keeps old new) (found : Finds (Gap (options_in old)) old new f) (no_comment : IsNoComment f) where
    pub only_there : (u : List ℕ) → Gap (options_in old) (after old) u → AtToken (options_in old) u → u ≡ rest (text_in old) (token_start new)
    only_there u g a = gap_unique g found.0.stands (token_no_gap (options_in old) u a) (token_no_gap (options_in old) _ (found_token (options_in old) (text_in old) new.scanner f kept.text kept.options found.1 no_comment))

    pub only_here : (u : List ℕ) → Gap (options_in old) (after old) u → AtToken (options_in old) u → u ≡ here new
    only_here u g a = only_there u g a ∙ ap (λ b. rest b (token_start new)) (sym kept.text)

    -- the end was found
    pub nothing_at_end : f ≡ None → NoLexemeAfter (options_in old) (after old)
    nothing_at_end is u g i =
        let end = subst (IsThere new.scanner) is found.1 in
        let none = rest_end (text_in old) (token_start new) (omega (arith, end.0, ap length kept.text)) in
        no_lexeme_at_end (options_in old) u (only_there u g (inr i) ∙ none) i

    module _ (t : Scanned) (is : f ≡ Some t) where
      pub token_stands : IsScanned (options_in old) t (rest (text_in old) (token_start new)) (rest (text_in old) (token_end new))
      token_stands = (stands (text_in old) (options_in old) new.scanner t kept.text kept.options (subst (IsThere new.scanner) is found.1)).stands

      pub lexeme_there : AtLexeme (options_in old) (rest (text_in old) (token_start new))
      lexeme_there = lexeme_at (options_in old) t _ _ (subst IsNoComment is no_comment) token_stands

      -- it is the punctuation that a gap leads to, and the same follows it
      only_mark : (c : ℕ) (r : List ℕ) → IsTrue (is_punctuation c) → Gap (options_in old) (after old) (c ∷ r) → (t ≡ lexeme (punctuation c)) × (rest (text_in old) (token_end new) ≡ r)
      only_mark c r m g =
          let o = options_in old in
          let e = only_there (c ∷ r) g (inr (mark_at o c r m)) in
          scanned_unique o t (lexeme (punctuation c)) (rest (text_in old) (token_start new)) (rest (text_in old) (token_end new)) r token_stands (m, sym e)

      -- no item begins with the punctuation that it is
      mark_no_item : (c : ℕ) → t ≡ lexeme (punctuation c) → IsTrue (not (may_begin_item c)) → (u : List ℕ) → Gap (options_in old) (after old) u → AtItem (options_in old) u → ⊥
      mark_no_item c e n u g i =
          let one = subst (λ w. IsScanned (options_in old) w (rest (text_in old) (token_start new)) (rest (text_in old) (token_end new))) e token_stands in
          let first = only_there u g (inr i.lexeme) ∙ one.1 in
          clash (may_begin_item c) n (subst (λ x. IsTrue (starts may_begin_item (next x))) first i.first)

      module _ (k : Container) where
        pub only_first : (t ≡ lexeme (punctuation (closing k)) → ⊥) → OnlyFirst k old new
        only_first n = record { no_close = λ r g. n (only_mark (closing k) r (closing_mark k) g).0; only = λ u g i. only_here u g (inr i.lexeme) }

        pub only_after_comma : (t ≡ lexeme (punctuation (closing k)) → ⊥) → OnlyAfterComma k old new
        only_after_comma n = record { no_close = λ r h. n (only_mark (closing k) r (closing_mark k) h.1).0; only = λ u g i. only_here u g (inr i.lexeme) }

        -- a trailing comma that is not allowed
        pub trailing_refused : t ≡ lexeme (punctuation (closing k)) → (options_in old).trailing_commas ≡ false → NothingAfterComma k old
        trailing_refused e a = record { no_close = λ r h. forbidden h.0 a; no_item = λ u g i. mark_no_item (closing k) e (closing_no_item k) u g i }

        -- neither the closing bracket nor a comma
        module _ (closing_no : t ≡ lexeme (punctuation (closing k)) → ⊥) (comma_no : t ≡ lexeme (punctuation 0x2C) → ⊥) where
          no_end : (r : List ℕ) → Closes (options_in old) (closing k) (after old) r → ⊥
          no_end r = no_closes (options_in old) k (after old) r (λ r g. closing_no (only_mark (closing k) r (closing_mark k) g).0) (λ u g a h. comma_no (only_mark 0x2C u refl g).0)

          -- a comma is missing
          pub missing_refused : (options_in old).missing_commas ≡ false → NothingNext k old
          missing_refused a = record { no_close = no_end; no_item = λ u s i. no_separates (options_in old) (after old) u (λ v g h. comma_no (only_mark 0x2C v refl g).0) (λ b g. forbidden b a) s }

          only_separated : (u : List ℕ) → Separates (options_in old) (after old) u → AtItem (options_in old) u → u ≡ here new
          only_separated u (comma {u = v} g h) i = absurd (comma_no (only_mark 0x2C v refl g).0)
          only_separated u (no_comma a g) i = only_here u g (inr i.lexeme)

          pub only_next : OnlyNext k old new
          only_next = record { no_close = no_end; only = only_separated }

        -- a comma
        module _ (e : t ≡ lexeme (punctuation 0x2C)) where
          mark_moved : (P : Options → List ℕ → Type 0) → P (options_in new) (text_in new) → P (options_in old) (text_in old)
          mark_moved P h = moved P kept.options kept.text h

          comma_no_end : ((r : List ℕ) → TrailingComma (options_in old) (closing k) (rest (text_in old) (token_end new)) r → ⊥) → (r : List ℕ) → Closes (options_in old) (closing k) (after old) r → ⊥
          comma_no_end n r = no_closes (options_in old) k (after old) r
              (λ r g. closing_no_comma k (sym e ∙ (only_mark (closing k) r (closing_mark k) g).0))
              (λ u g a h. n r (a, subst (λ x. Gap (options_in old) x (closing k ∷ r)) (sym (only_mark 0x2C u refl g).1) h))

          pub nothing_next : NothingAfterComma k new → NothingNext k old
          nothing_next h =
              let n = mark_moved (λ p b. LeadsNowhere p (Gap p) (TrailingComma p (closing k)) (rest b (token_end new))) h in record {
                no_close = comma_no_end n.no_close;
                no_item = λ u s i. no_separates (options_in old) (after old) u
                    (λ v g l. n.no_item u (subst (λ x. Gap (options_in old) x u) (sym (only_mark 0x2C v refl g).1) l) i)
                    (λ b g. mark_no_item 0x2C e refl u g i) s;
              }

          comma_only : (w : List ℕ) → LeadsOnlyTo (options_in old) (Gap (options_in old)) (TrailingComma (options_in old) (closing k)) (rest (text_in old) (token_end new)) w → (u : List ℕ) → Separates (options_in old) (after old) u → AtItem (options_in old) u → u ≡ w
          comma_only w n u (comma {u = v} g l) i = n.only u (subst (λ x. Gap (options_in old) x u) (sym (only_mark 0x2C v refl g).1) l) i
          comma_only w n u (no_comma a g) i = absurd (mark_no_item 0x2C e refl u g i)

          pub next_after_comma : (last : Context A) → OnlyAfterComma k new last → OnlyNext k old last
          next_after_comma last h =
              let n = mark_moved (λ p b. LeadsOnlyTo p (Gap p) (TrailingComma p (closing k)) (rest b (token_end new)) (here last)) h in
              record { no_close = comma_no_end n.no_close; only = comma_only (here last) n }

      -- no colon
      pub no_colon : (t ≡ lexeme (punctuation 0x3A) → ⊥) → NoColon old
      no_colon n r g = n (only_mark 0x3A r refl g).0

    pub no_colon_at_end : f ≡ None → NoColon old
    no_colon_at_end is r g = nothing_at_end is (0x3A ∷ r) g (mark_at (options_in old) 0x3A r refl)

  pub no_token_colon : (c : Context A) → NoTokenAfter c → NoColon c
  no_token_colon c n r g = n (0x3A ∷ r) g (inr (mark_at (options_in c) 0x3A r refl))

  module _ (c : Context A) (t : Scanned) (at : IsToken c t) where
    pub one_token : (k : LexemeKind) (r : List ℕ) → IsScanned (options_in c) (lexeme k) (here c) r → t ≡ lexeme k
    one_token k r h = (scanned_unique (options_in c) t (lexeme k) (here c) (after c) r (stands (text_in c) (options_in c) c.scanner t refl refl at).stands h).0

    no_name_text : (k : LexemeKind) → IsTrue (may_name k) → loose_text (lexeme k) ≡ None → ⊥
    no_name_text (LexemeKind.string v) m e = cc
    no_name_text (LexemeKind.number v) m e = cc
    no_name_text (LexemeKind.word v) m e = cc
    no_name_text (LexemeKind.keyword v) m e = cc
    no_name_text (LexemeKind.punctuation v) m e = cc

    -- a token that is no name
    pub name_refused : loose_text t ≡ None → ((v : List ℕ) → t ≡ lexeme (string v) → ⊥) → NoName c
    name_refused e n name r (inl l) = n name (one_token (string name) r l)
    name_refused e n name r (inr (a, f, k, m, l)) = no_name_text k m (ap loose_text (sym (one_token k r l)) ∙ e)

    -- a name without quotes that is not allowed
    pub loose_refused : (s : List ℕ) → loose_text t ≡ Some s → (options_in c).loose_names ≡ false → NoName c
    loose_refused s e a name r (inl l) = let both : None ≡ Some s = ap loose_text (sym (one_token (string name) r l)) ∙ e in cc
    loose_refused s e a name r (inr (b, f, k, m, l)) = forbidden b a
