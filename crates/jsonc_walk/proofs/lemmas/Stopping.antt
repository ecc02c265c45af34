-- Where reading stops.
use Rattle.std.proofs.Common.{ℕ, ◌≡◌, ◌≢◌, ◌∙◌, sym, ap, subst, refl, Bool, true, false, cond, List, [], ◌∷◌, length, Option, Some, None, is_some, ◌⊎◌, inl, inr, arith, ◌==◌, IsTrue}
use Rattle.jsonc_text.specs.declared.common.Range.{Range}
use Rattle.jsonc_text.specs.declared.errors.ParseError.{ParseError}
use Rattle.jsonc_text.specs.declared.errors.ParseErrorKind.{ParseErrorKind}
use Rattle.jsonc_text.specs.declared.errors.ParseErrorKind.TheVariants.{OutOfMemory, CommentsNotAllowed, ExpectedColonAfterObjectKey, ExpectedComma, TrailingCommasNotAllowed, UnexpectedTokenInObject, ExpectedStringObjectProperty}
use Rattle.jsonc_text.specs.Faults.{kind_of, range_of}
use Rattle.jsonc_text.specs.Gaps.{Gap, IsComment}
use Rattle.jsonc_text.specs.Lexemes.{Scanned, LexemeKind, lexeme, punctuation, string}
use Rattle.jsonc_text.specs.Options.{Options}
use Rattle.jsonc_text.specs.Places.{is_comment}
use Rattle.jsonc_text.specs.Text.{rest}
use Rattle.jsonc_text.proofs.CharacterSteps.{rest_end}
use Rattle.jsonc_text.proofs.Basics.{test_eq}
use Rattle.jsonc_scan.specs.declared.scanner.Scanner.{Scanner}
use Rattle.jsonc_scan.specs.Scanner.{start_of, end_of, options_of, PassesBlanks, IsTrueThere}
use Rattle.jsonc_scan.specs.Scanner.{IsThere}
use Rattle.jsonc_scan.specs.Faults.{LexemeFault}
use Rattle.jsonc_walk.specs.Located.{Between}
use Rattle.jsonc_walk.specs.declared.container.Container.{Container}
use Rattle.jsonc_walk.specs.declared.container.Container.TheVariants.{Array, Object}
use Rattle.jsonc_walk.specs.declared.context.Context.{Context}
use Rattle.jsonc_walk.specs.Containers.{closing, unterminated_kind, begins, misplaced_kind}
use Rattle.jsonc_walk.specs.Context.{text_in, options_in, token_start, token_end, token_range, Keeps, Finds, IsNoComment, IsBracket, OpensNone}
use Rattle.jsonc_walk.specs.Refusals.{IsOpen, IsFaultOf, or_end, after, here}
use Rattle.jsonc_walk.specs.Reached.{Opened, container, Due, further, comma, colon, at, takes_comma, ComesTo, on}
use Rattle.jsonc_walk.specs.Faults.{fault, Stops, no_lexeme, wrong_lexeme, wrong_ending, wrong, wrong_end, wrong_comma, wrong_name, open_at_end, past_one, is_mark, HasFaultFrom, fault_in, IsFrom, StopsAnyhow, StopsAfter, IsUnexpected}
use Rattle.jsonc_walk.specs.Scanned.{loose_text, leaf_value, unexpected_kind}
use Rattle.jsonc_walk.proofs.lemmas.Gaps.{join, change, stands, passed, gap_append}
use Rattle.jsonc_walk.proofs.lemmas.Refusals.{memory_or_not, comment_at}
use Rattle.jsonc_walk.proofs.lemmas.Scans.{Passing, moved}
use Rattle.jsonc_walk.proofs.lemmas.Tokens.{lexeme_found, lexeme_stands, end_here, begins_none}

-- the fault by its kind and range
pub fault_is : (bytes : List ℕ) (e : ParseError) (k : ParseErrorKind) (i j : ℕ) → kind_of e ≡ k → (range_of e).start ≡ i → (range_of e).end ≡ j → fault k (rest bytes i) (rest bytes j) ≡ fault_in bytes e
fault_is bytes e k i j a b c = ap (λ x. fault x (rest bytes i) (rest bytes j)) (sym a) ∙ ap (λ x. fault (kind_of e) (rest bytes x) (rest bytes j)) (sym b) ∙ ap (λ x. fault (kind_of e) (rest bytes (range_of e).start) (rest bytes x)) (sym c)

pub fault_at : (bytes : List ℕ) (e : ParseError) (k : ParseErrorKind) (r : Range) → kind_of e ≡ k → range_of e ≡ r → fault k (rest bytes r.start) (rest bytes r.end) ≡ fault_in bytes e
fault_at bytes e k r a b = fault_is bytes e k r.start r.end a (ap (λ x. x.start) b) (ap (λ x. x.end) b)

-- a lexeme that is another mark, or none
other_test : (c d : ℕ) → (c ≡ d → ⊥) → (c == d) ≡ false
other_test c d n = go (c == d) refl
  where
    go : (b : Bool) → (c == d) ≡ b → (c == d) ≡ false
    go true e = absurd (n (test_eq c d e))
    go false e = e

pub no_mark : (c : ℕ) (l : LexemeKind) → (l ≡ punctuation c → ⊥) → is_mark c l ≡ false
no_mark c (LexemeKind.string v) n = refl
no_mark c (LexemeKind.number v) n = refl
no_mark c (LexemeKind.word v) n = refl
no_mark c (LexemeKind.keyword v) n = refl
no_mark c (LexemeKind.punctuation d) n = other_test d c (λ e. n (ap punctuation e))

pub closing_is : (k : Container) → is_mark (closing k) (punctuation (closing k)) ≡ true
closing_is Array = refl
closing_is Object = refl

-- over the options alone: a rewriting of an option within a parser is ill-typed
wrong_missing : (o : Options) (whole : Bool) (q : List Opened) (k : Container) (e u r : List ℕ) (l : LexemeKind) → is_mark (closing k) l ≡ false → is_mark 0x2C l ≡ false → o.missing_commas ≡ false → wrong o whole q (comma k e) l u r ≡ Some (wrong_comma k e l u r)
wrong_missing o whole q k e u r l a b f = rw (a, b, f) refl

past_comma : {t r : List ℕ} → t ≡ 0x2C ∷ r → r ≡ past_one t
past_comma e = ap past_one (sym e)

module _ {A : Type 0} where
  -- up to what the scanner found stands a gap
  gap_to : (start now : Context A) (s : Scanner A) → Passing start now → PassesBlanks now.scanner s → Gap (options_in start) (after start) (rest (text_in start) (start_of s))
  gap_to start now s h blanks =
      let near = subst (λ b. Between b (Gap (options_in start)) (token_end now) (start_of s)) h.kept.text (passed (options_in start) now.scanner s blanks) in
      (join (Gap (options_in start)) (λ t u r. gap_append) h.gap near).stands

  pub scan_stops : (start now : Context A) (s : Scanner A) (e : ParseError) → Passing start now → PassesBlanks now.scanner s → (kind_of e ≢ OutOfMemory → IsTrueThere s e) → StopsAnyhow start e
  scan_stops start now s e h blanks told =
      elim (memory_or_not (kind_of e)) [
        | inl m ↦ inl m
        | inr other ↦ inr (λ whole q d.
            no_lexeme (gap_to start now s h blanks)
            (moved (λ p b. LexemeFault p (kind_of e) (rest b (start_of s)) (rest b (range_of e).start) (rest b (range_of e).end)) (blanks.options ∙ h.kept.options) (blanks.text ∙ h.kept.text) (told other)))
      ]

  pub comment_stops : (start now : Context A) (s : Scanner A) (f : Option Scanned) (t : Scanned) (e : ParseError) → f ≡ Some t → Passing start now → PassesBlanks now.scanner s → IsThere s f → is_comment t ≡ true
      → (kind_of e ≡ OutOfMemory) ⊎ (((options_of s).comments ≡ false) × (kind_of e ≡ CommentsNotAllowed) × (range_of e ≡ record { start = start_of s; end = end_of s })) → StopsAnyhow start e
  comment_stops start now s f t e is h blanks standing found (inl m) = inl m
  comment_stops start now s f t e is h blanks standing found (inr n) = inr (λ whole q d.
      let o = options_in start in
      let bytes = text_in start in
      let same = blanks.options ∙ h.kept.options in
      let one = change IsComment (λ u r k. comment_at o t u r found k) (stands bytes o s t (blanks.text ∙ h.kept.text) same (subst (IsThere s) is standing)) in
      subst (Stops o whole (at q d (after start))) (fault_at bytes e CommentsNotAllowed (record { start = start_of s; end = end_of s }) n.1 n.2)
      (Stops.comment (rest bytes (end_of s)) (ap (λ p. p.comments) (sym same) ∙ n.0) (gap_to start now s h blanks) one.stands))

  pub from_before : (old new : Context A) → Keeps old new → (start : Option ℕ) (a : List ℕ) → IsFrom (text_in old) start a → IsFrom (text_in new) start a
  from_before old new kept start a h = subst (λ b. IsFrom b start a) (sym kept.text) h

  -- it stops there already
  pub stops_here : (c : Context A) (whole : Bool) (q : List Opened) (d : Due) (e : ParseError) → StopsAnyhow c e → StopsAfter c whole q d e
  stops_here c whole q d e (inl m) = inl m
  stops_here c whole q d e (inr s) = inr (at q d (after c), ComesTo.here, s whole q d)

  module _ (old new : Context A) (f : Option Scanned) (kept : Keeps old new) (found : Finds (Gap (options_in old)) old new f) (no_comment : IsNoComment f) where
    -- the end
    module _ (is : f ≡ None) where
      pub at_end : (token_start new ≡ length (text_in old)) × (token_end new ≡ length (text_in old))
      at_end = let h = end_here old new f kept found no_comment is in let same = ap length kept.text in (h.0 ∙ same, h.1 ∙ same)

      pub rest_nothing : rest (text_in old) (token_start new) ≡ []
      rest_nothing = ap (rest (text_in old)) at_end.0 ∙ rest_end (text_in old) (length (text_in old)) (omega arith)

      pub gap_to_end : Gap (options_in old) (after old) []
      gap_to_end = subst (Gap (options_in old) (after old)) rest_nothing found.0.stands

      -- in a container
      pub open_stops : (k : Container) (start : Option ℕ) (e : ParseError) → IsOpen k (text_in old) start e → (d : Due) → ((whole : Bool) (q : List Opened) → wrong_end whole q d ≡ Some (open_at_end whole q k))
          → (q : List Opened) (a : List ℕ) → IsFrom (text_in old) start a → StopsAfter old (is_some start) (container k a ∷ q) d e
      open_stops k start e ended d due q a from =
          inr (at (container k a ∷ q) d (after old), ComesTo.here, wrong_ending gap_to_end (due (is_some start) (container k a ∷ q) ∙ ap Some (ending start from ended.start ∙ fault_is (text_in old) e (unterminated_kind k) (or_end (text_in old) start) (length (text_in old)) ended.kind ended.start ended.end)))
        where
          nothing : [] ≡ rest (text_in old) (length (text_in old))
          nothing = sym (rest_end (text_in old) (length (text_in old)) (omega arith))

          ending : (start : Option ℕ) → IsFrom (text_in old) start a → (range_of e).start ≡ or_end (text_in old) start → fault (unterminated_kind k) (cond (is_some start) a []) [] ≡ fault (unterminated_kind k) (rest (text_in old) (or_end (text_in old) start)) (rest (text_in old) (length (text_in old)))
          ending None from i = ap (λ x. fault (unterminated_kind k) x x) nothing
          ending (Some i) from e = ap (λ x. fault (unterminated_kind k) x []) from ∙ ap (λ x. fault (unterminated_kind k) (rest (text_in old) i) x) nothing

      -- before a colon
      pub colon_end_stops : (e : ParseError) → kind_of e ≡ ExpectedColonAfterObjectKey → range_of e ≡ token_range new → (whole : Bool) (q : List Opened) → StopsAfter old whole q colon e
      colon_end_stops e kind range whole q =
          inr (at q colon (after old), ComesTo.here, wrong_ending gap_to_end (ap Some (ap (λ x. fault ExpectedColonAfterObjectKey x []) (sym rest_nothing) ∙ ap (λ x. fault ExpectedColonAfterObjectKey (rest (text_in old) (token_start new)) x) end_nothing ∙ fault_at (text_in old) e ExpectedColonAfterObjectKey (token_range new) kind range)))
        where
          end_nothing : [] ≡ rest (text_in old) (token_end new)
          end_nothing = sym (ap (rest (text_in old)) at_end.1 ∙ rest_end (text_in old) (length (text_in old)) (omega arith))

    -- a lexeme that is wrong there
    pub lexeme_stops : (t : Scanned) → f ≡ Some t → (l : LexemeKind) → t ≡ lexeme l → (e : ParseError) (whole : Bool) (q : List Opened) (d : Due)
        → wrong (options_in old) whole q d l (rest (text_in old) (token_start new)) (rest (text_in old) (token_end new)) ≡ Some (fault_in (text_in old) e) → StopsAfter old whole q d e
    lexeme_stops t is l mark e whole q d w =
        inr (at q d (after old), ComesTo.here, wrong_lexeme l (rest (text_in old) (token_end new)) found.0.stands (lexeme_stands old new f kept found no_comment t is l mark).stands w)

    pub colon_stops : (t : Scanned) → f ≡ Some t → (e : ParseError) → (t ≡ lexeme (punctuation 0x3A) → ⊥) → kind_of e ≡ ExpectedColonAfterObjectKey → range_of e ≡ token_range new → (whole : Bool) (q : List Opened) → StopsAfter old whole q colon e
    colon_stops t is e n kind range whole q =
        let l = lexeme_found old new f kept found no_comment t is in
        lexeme_stops t is l.0 l.1 e whole q colon (rw (no_mark 0x3A l.0 (λ x. n (l.1 ∙ ap lexeme x))) (ap Some (fault_at (text_in old) e ExpectedColonAfterObjectKey (token_range new) kind range)))

    -- a trailing comma that is not allowed
    pub trailing_stops : (t : Scanned) → f ≡ Some t → (k : Container) → t ≡ lexeme (punctuation (closing k)) → (e : ParseError) → (options_in old).trailing_commas ≡ false → kind_of e ≡ TrailingCommasNotAllowed → range_of e ≡ token_range old
        → (whole : Bool) (q : List Opened) → IsBracket 0x2C old → StopsAfter old whole q (further k (here old)) e
    trailing_stops t is k mark e off kind range whole q one =
        lexeme_stops t is (punctuation (closing k)) mark e whole q (further k (here old))
        (rw (closing_is k, off) (ap Some (ap (λ x. fault TrailingCommasNotAllowed (here old) x) (sym (past_comma one.stands)) ∙ fault_at (text_in old) e TrailingCommasNotAllowed (token_range old) kind range)))

    -- a comma that is missing, or what stands instead of it
    pub missing_stops : (t : Scanned) → f ≡ Some t → (k : Container) (e : ParseError) (end : ℕ) → (options_in old).missing_commas ≡ false → end ≡ token_end old → (t ≡ lexeme (punctuation (closing k)) → ⊥) → (t ≡ lexeme (punctuation 0x2C) → ⊥)
        → (IsTrue (begins k t) → IsFaultOf ExpectedComma (record { start = end; end = end }) e) → (begins k t ≡ false → IsFaultOf (misplaced_kind k t) (token_range new) e)
        → (whole : Bool) (q : List Opened) → StopsAfter old whole q (comma k (after old)) e
    missing_stops t is k e end off same n m begun other whole q =
        let l = lexeme_found old new f kept found no_comment t is in
        let none = no_mark (closing k) l.0 (λ x. n (l.1 ∙ ap lexeme x)) in
        let no_comma = no_mark 0x2C l.0 (λ x. m (l.1 ∙ ap lexeme x)) in
        lexeme_stops t is l.0 l.1 e whole q (comma k (after old)) (wrong_missing (options_in old) whole q k (after old) _ _ l.0 none no_comma off ∙ ap Some (go l.0 l.1))
      where
        go : (l : LexemeKind) → t ≡ lexeme l → wrong_comma k (after old) l (rest (text_in old) (token_start new)) (rest (text_in old) (token_end new)) ≡ fault_in (text_in old) e
        go l mark = by (begins k (lexeme l)) refl
          where
            by : (b : Bool) → begins k (lexeme l) ≡ b → wrong_comma k (after old) l (rest (text_in old) (token_start new)) (rest (text_in old) (token_end new)) ≡ fault_in (text_in old) e
            by true is =
                let h = begun (ap (begins k) mark ∙ is) in
                rw is (ap (λ i. fault ExpectedComma (rest (text_in old) i) (rest (text_in old) i)) (sym same) ∙ fault_at (text_in old) e ExpectedComma (record { start = end; end = end }) h.kind h.range)
            by false is =
                let h = other (ap (begins k) mark ∙ is) in
                rw is (fault_at (text_in old) e (misplaced_kind k (lexeme l)) (token_range new) (h.kind ∙ ap (misplaced_kind k) mark) h.range)

    -- what stops after a comma
    pub comma_stops : (t : Scanned) → f ≡ Some t → t ≡ lexeme (punctuation 0x2C) → (k : Container) (e : ParseError) (whole : Bool) (q : List Opened) → IsBracket 0x2C new → StopsAfter new whole q (further k (here new)) e → StopsAfter old whole q (comma k (after old)) e
    comma_stops t is mark k e whole q one (inl m) = inl m
    comma_stops t is mark k e whole q one (inr h) = inr (moved (λ p b. HasFaultFrom p whole (at q (comma k (after old)) (after old)) (fault_in b e)) kept.options kept.text (go h))
      where
        gap : Gap (options_in new) (after old) (0x2C ∷ after new)
        gap = subst (λ p. Gap p (after old) (0x2C ∷ after new)) (sym kept.options) (subst (Gap (options_in old) (after old)) (ap (λ b. rest b (token_start new)) (sym kept.text) ∙ one.stands) found.0.stands)

        go : HasFaultFrom (options_in new) whole (at q (further k (here new)) (after new)) (fault_in (text_in new) e) → HasFaultFrom (options_in new) whole (at q (comma k (after old)) (after old)) (fault_in (text_in new) e)
        go (n, x, s) = (n, on (takes_comma k gap) (subst (λ c. ComesTo (options_in new) whole (at q (further k c) (after new)) n) one.stands x), s)

  -- a token with which no value begins
  pub is_unexpected : (c : Context A) (t : Scanned) (e : ParseError) → OpensNone t → leaf_value t ≡ None → kind_of e ≡ unexpected_kind t → range_of e ≡ token_range c → IsUnexpected c t e
  is_unexpected c t e opens none kind range l mark =
      (begins_none l (ap leaf_value (sym mark) ∙ none) (λ f. opens.0 (mark ∙ ap lexeme f)) (λ f. opens.1 (mark ∙ ap lexeme f)), fault_at (text_in c) e (unexpected_kind (lexeme l)) (token_range c) (kind ∙ ap unexpected_kind mark) range)

  -- a name that is not allowed, or none
  module _ (c : Context A) (t : Scanned) (e : ParseError) where
    pub loose_stops : (s : List ℕ) → loose_text t ≡ Some s → (options_in c).loose_names ≡ false → kind_of e ≡ ExpectedStringObjectProperty → range_of e ≡ token_range c → (l : LexemeKind) → t ≡ lexeme l → wrong_name (options_in c) l (here c) (after c) ≡ Some (fault_in (text_in c) e)
    loose_stops s text off kind range l mark = by l (ap loose_text (sym mark) ∙ text) (ap Some (fault_at (text_in c) e ExpectedStringObjectProperty (token_range c) kind range))
      where
        by : (l : LexemeKind) → loose_text (lexeme l) ≡ Some s → Some (fault ExpectedStringObjectProperty (here c) (after c)) ≡ Some (fault_in (text_in c) e) → wrong_name (options_in c) l (here c) (after c) ≡ Some (fault_in (text_in c) e)
        by (LexemeKind.string v) x y = cc
        by (LexemeKind.number v) x y = rw off y
        by (LexemeKind.word v) x y = rw off y
        by (LexemeKind.keyword v) x y = rw off y
        by (LexemeKind.punctuation v) x y = cc

    pub no_name_stops : loose_text t ≡ None → ((v : List ℕ) → t ≡ lexeme (string v) → ⊥) → kind_of e ≡ UnexpectedTokenInObject → range_of e ≡ token_range c → (l : LexemeKind) → t ≡ lexeme l → wrong_name (options_in c) l (here c) (after c) ≡ Some (fault_in (text_in c) e)
    no_name_stops text n kind range l mark = by l (ap loose_text (sym mark) ∙ text) (λ v x. n v (mark ∙ ap lexeme x)) (ap Some (fault_at (text_in c) e UnexpectedTokenInObject (token_range c) kind range))
      where
        by : (l : LexemeKind) → loose_text (lexeme l) ≡ None → ((v : List ℕ) → l ≡ string v → ⊥) → Some (fault UnexpectedTokenInObject (here c) (after c)) ≡ Some (fault_in (text_in c) e) → wrong_name (options_in c) l (here c) (after c) ≡ Some (fault_in (text_in c) e)
        by (LexemeKind.string v) x n y = absurd (n v refl)
        by (LexemeKind.number v) x n y = cc
        by (LexemeKind.word v) x n y = cc
        by (LexemeKind.keyword v) x n y = cc
        by (LexemeKind.punctuation v) x n y = y
