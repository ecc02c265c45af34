-- One token after another is written.
use Rattle.std.proofs.Common.{ℕ, ◌-◌, ◌≡◌, ◌≤◌, ◌<◌, ◌∙◌, ap, refl, sym, subst, false, List, [], ◌++◌, append-nil, map, Option, Some, None, IsCharBoundary, IsUtf8, arith, chars, length, slice_range}
use Rattle.jsonc_scan.specs.declared.scanner.Scanner.{Scanner}
use Rattle.jsonc_scan.specs.Scanner.{IsThere, PassesBlanks, end_of, options_of, start_of, text_of}
use Rattle.jsonc_text.specs.Gaps.{IsComment, is_blank}
use Rattle.jsonc_text.specs.Lexemes.{IsScanned, Lexeme, LexemeKind, Scanned, lexeme, number}
use Rattle.jsonc_text.specs.Options.{all_on}
use Rattle.jsonc_text.specs.Text.{Many, Spans, rest}
use Rattle.jsonc_text.proofs.Basics.{front_same}
use Rattle.jsonc_text.proofs.CharacterSteps.{rest_end}
use Rattle.jsonc_text.proofs.Cuts.{chars_between}
use Rattle.jsonc_text.proofs.LexemesAlone.{scanned_alone}
use Rattle.jsonc_engine.specs.Causes.{HasNonFinite}
use Rattle.jsonc_engine.specs.Texts.{Adds}
use Rattle.jsonc_engine.specs.Rewritten.{ComesNext, IsNonFinite, IsWrittenFor, Rewritten, is_named, written_blank}
use Rattle.jsonc_engine.specs.Standing.{IsReached, Stands}
use Rattle.jsonc_engine.specs.Tokens.{IsTokenOf}
use Rattle.jsonc_engine.specs.declared.json.Found.{Found}
use Rattle.jsonc_engine.proofs.Gaps.{blanks_of, rewritten_append}

-- up to the place where the scanner is all is written
pub record IsSoFar {A : Type 0} (text : List ℕ) (s : Scanner A) (place : ℕ) (written : List ℕ) : Type 0 where
  pub text_is : text_of s ≡ text
  pub options : options_of s ≡ all_on
  pub at : end_of s ≡ place
  pub boundary : IsCharBoundary text place
  pub so_far : Rewritten (rest text place) (chars text) written

module _ (text : List ℕ) (utf8 : IsUtf8 text) where
  spans_of : (i j : ℕ) → IsCharBoundary text i → IsCharBoundary text j → i ≤ j → Spans text i j
  spans_of i j b d l = record { from = b; to = d; order = l }

  -- the blanks before a token
  pub blanks_step : (place start : ℕ) (old new blanks : List ℕ) → IsCharBoundary text place → IsCharBoundary text start → place ≤ start → Rewritten (rest text place) (chars text) old
      → Many is_blank (rest text place) (rest text start) → blanks ≡ slice_range text place start → new ≡ old ++ map written_blank (chars blanks) → Rewritten (rest text start) (chars text) new
  blanks_step place start old new blanks b d l m k e f =
      let z = blanks_of k in
      let same : chars blanks ≡ z.text = ap chars e ∙ front_same refl (sym (chars_between text place start utf8 (spans_of place start b d l)) ∙ z.is) in
      let is : new ≡ old ++ map written_blank z.text = f ∙ ap (λ s. old ++ map written_blank s) same in
      subst (λ w. Rewritten (rest text start) (chars text) w) (sym is) (rewritten_append m z.written)

  -- the lexeme by itself
  lexeme_alone : (start end : ℕ) (literal : List ℕ) (k : LexemeKind) → IsCharBoundary text start → IsCharBoundary text end → start ≤ end → literal ≡ slice_range text start end
      → Lexeme all_on k (rest text start) (rest text end) → Lexeme all_on k (chars literal) []
  lexeme_alone start end literal k b d l e a =
      let is : rest text start ≡ chars literal ++ rest text end = chars_between text start end utf8 (spans_of start end b d l) ∙ ap (λ s. chars s ++ rest text end) (sym e) in
      (scanned_alone all_on (lexeme k) (chars literal) (rest text end) (subst (λ t. Lexeme all_on k t (rest text end)) is a)).0

  -- and what is written for it
  lexeme_step : (start end : ℕ) (old new literal : List ℕ) (k : LexemeKind) (n : Option ℕ) → IsCharBoundary text start → IsCharBoundary text end → start ≤ end → literal ≡ slice_range text start end
      → Rewritten (rest text start) (chars text) old → Lexeme all_on k (rest text start) (rest text end) → ComesNext (rest text end) n → Adds (IsWrittenFor k (chars literal) n) old new
      → Rewritten (rest text end) (chars text) new
  lexeme_step start end old new literal k n b d l e m a c f =
      let is : rest text start ≡ chars literal ++ rest text end = chars_between text start end utf8 (spans_of start end b d l) ∙ ap (λ s. chars s ++ rest text end) (sym e) in
      let one : Rewritten (rest text end) (rest text start) (f.more ++ []) = Rewritten.one k (chars literal) f.more n a is c f.is Rewritten.no_more in
      let whole : Rewritten (rest text end) (chars text) (old ++ (f.more ++ [])) = rewritten_append m one in
      subst (λ x. Rewritten (rest text end) (chars text) x) (ap (λ x. old ++ x) (append-nil f.more) ∙ sym f.behind) whole

  -- a number that JSON has not
  non_finite_here : (start end : ℕ) (old literal : List ℕ) (k : LexemeKind) (s : List ℕ) (n : Option ℕ) → IsCharBoundary text start → IsCharBoundary text end → start ≤ end → literal ≡ slice_range text start end
      → Rewritten (rest text start) (chars text) old → k ≡ number s → Lexeme all_on k (rest text start) (rest text end) → ComesNext (rest text end) n → is_named n ≡ false → IsNonFinite (chars literal)
      → HasNonFinite text start
  non_finite_here start end old literal k s n b d l e m p a c f h =
      let is : rest text start ≡ chars literal ++ rest text end = chars_between text start end utf8 (spans_of start end b d l) ∙ ap (λ s. chars s ++ rest text end) (sym e) in
      let stands : Lexeme all_on (number s) (rest text start) (rest text end) = subst (λ k. Lexeme all_on k (rest text start) (rest text end)) p a in
      let same : chars literal ≡ s = front_same refl (sym is ∙ stands.0) in
      record {
        boundary = b;
        written = old;
        before = m;
        number = s;
        behind = rest text end;
        stands = stands;
        non_finite = subst IsNonFinite same h;
        next = n;
        comes = c;
        value = f;
      }

-- what a scanner stands at
pub stands : {A : Type 0} (s : Scanner A) (text : List ℕ) (place start end : ℕ) (w : Scanned) (old : List ℕ) → text ≡ text_of s → start ≡ start_of s → end ≡ end_of s → options_of s ≡ all_on → IsCharBoundary (text_of s) place
    → place ≤ start_of s → Many is_blank (rest (text_of s) place) (rest (text_of s) (start_of s)) → IsThere s (Some w) → Rewritten (rest (text_of s) place) (chars (text_of s)) old → Stands text place start end w old
stands s text place start end w old e f g o b l m t r =
    let here : Stands (text_of s) place (start_of s) (end_of s) w old = record {
      at = b;
      from = s.starts_at_place;
      to = s.at_place;
      before = l;
      order = s.order;
      blanks = m;
      there = subst (λ o. IsScanned o w (rest (text_of s) (start_of s)) (rest (text_of s) (end_of s))) o t.1;
      so_far = r;
    } in
    subst (λ t. Stands t place start end w old) (sym e) (subst (λ i. Stands (text_of s) place i end w old) (sym f) (subst (λ j. Stands (text_of s) place (start_of s) j w old) (sym g) here))

-- where a token stands, and the blanks before it are written
module _ (text : List ℕ) (utf8 : IsUtf8 text) (found : Found) (old mid blanks : List ℕ) (w : Scanned) (h : Stands text found.place found.start found.end w old) (b : blanks ≡ slice_range text found.place found.start)
    (m : mid ≡ old ++ map written_blank (chars blanks)) where
  blanks_written : Rewritten (rest text found.start) (chars text) mid
  blanks_written = blanks_step text utf8 found.place found.start old mid blanks h.at h.from h.before h.so_far h.blanks b m

  -- a comment is not written
  pub comment_passed : IsComment (rest text found.start) (rest text found.end) → Rewritten (rest text found.end) (chars text) mid
  comment_passed c =
      let whole : Rewritten (rest text found.end) (chars text) (mid ++ []) = rewritten_append blanks_written (Rewritten.comment c Rewritten.no_more) in
      subst (λ x. Rewritten (rest text found.end) (chars text) x) (append-nil mid) whole

  -- and a lexeme is to be
  pub reached : (k : LexemeKind) → w ≡ lexeme k → IsTokenOf (chars found.string.now) found.kind w → IsReached text found mid
  reached k e t = record {
    is = k;
    kind = subst (λ w. IsTokenOf (chars found.string.now) found.kind w) e t;
    from = h.from;
    to = h.to;
    order = h.order;
    there = subst (λ w. IsScanned all_on w (rest text found.start) (rest text found.end)) e h.there;
    so_far = blanks_written;
  }

module _ (text : List ℕ) (utf8 : IsUtf8 text) (found : Found) (mid literal : List ℕ) (h : IsReached text found mid) (l : literal ≡ slice_range text found.start found.end) where
  pub by_itself : Lexeme all_on h.is (chars literal) []
  by_itself = lexeme_alone text utf8 found.start found.end literal h.is h.from h.to h.order l h.there

  pub all_written : (new : List ℕ) (n : Option ℕ) → ComesNext (rest text found.end) n → Adds (IsWrittenFor h.is (chars literal) n) mid new → Rewritten (rest text found.end) (chars text) new
  all_written new n c a = lexeme_step text utf8 found.start found.end mid new literal h.is n h.from h.to h.order l h.so_far h.there c a

  pub refused : (s : List ℕ) (n : Option ℕ) → h.is ≡ number s → ComesNext (rest text found.end) n → is_named n ≡ false → IsNonFinite (chars literal) → HasNonFinite text found.start
  refused s n e c f k = non_finite_here text utf8 found.start found.end mid literal h.is s n h.from h.to h.order l h.so_far e h.there c f k

-- what is asked of the next token
pub record IsReady {A : Type 0} (s : Scanner A) (place : ℕ) (written : List ℕ) : Type 0 where
  pub options : options_of s ≡ all_on
  pub boundary : IsCharBoundary (text_of s) place
  pub order : place ≤ start_of s
  pub blanks : Many is_blank (rest (text_of s) place) (rest (text_of s) (start_of s))
  pub so_far : Rewritten (rest (text_of s) place) (chars (text_of s)) written

pub is_ready : {A : Type 0} (text : List ℕ) (old new : Scanner A) (place : ℕ) (written : List ℕ) → IsSoFar text old place written → PassesBlanks old new → IsReady new place written
is_ready text old new place written h p =
    let same : text ≡ text_of new = sym h.text_is ∙ sym p.text in
    record {
      options = p.options ∙ h.options;
      boundary = subst (λ t. IsCharBoundary t place) same h.boundary;
      order = omega (arith, p.order.0, h.at);
      blanks = subst (λ t. Many is_blank (rest t place) (rest (text_of new) (start_of new))) (h.text_is ∙ same) (subst (λ i. Many is_blank (rest (text_of old) i) (rest (text_of new) (start_of new))) h.at p.blanks);
      so_far = subst (λ t. Rewritten (rest t place) (chars t) written) same h.so_far;
    }

pub so_far_next : {A : Type 0} (text : List ℕ) (old new : Scanner A) (place end : ℕ) (written more : List ℕ) → IsSoFar text old place written → PassesBlanks old new → end ≡ end_of new
    → Rewritten (rest text end) (chars text) more → IsSoFar text new end more
so_far_next text old new place end written more h p e r =
    let same : text_of new ≡ text = p.text ∙ h.text_is in
    record {
      text_is = same;
      options = p.options ∙ h.options;
      at = sym e;
      boundary = subst (λ t. IsCharBoundary t end) same (subst (λ i. IsCharBoundary (text_of new) i) (sym e) new.at_place);
      so_far = r;
    }

-- and at the end
pub written_whole : {A : Type 0} (text : List ℕ) (utf8 : IsUtf8 text) (old new : Scanner A) (place start : ℕ) (written more blanks : List ℕ) → IsSoFar text old place written → PassesBlanks old new → IsThere new None
    → start ≡ start_of new → blanks ≡ slice_range text place start → more ≡ written ++ map written_blank (chars blanks) → Rewritten [] (chars text) more
written_whole text utf8 old new place start written more blanks h p t e b m =
    let ready = is_ready text old new place written h p in
    let same : text_of new ≡ text = p.text ∙ h.text_is in
    let end : start ≡ length text = e ∙ t.0 ∙ ap length same in
    let from : IsCharBoundary text start = subst (λ t. IsCharBoundary t start) same (subst (λ i. IsCharBoundary (text_of new) i) (sym e) new.starts_at_place) in
    let passes : Many is_blank (rest text place) (rest text start) = subst (λ t. Many is_blank (rest t place) (rest t start)) same (subst (λ i. Many is_blank (rest (text_of new) place) (rest (text_of new) i)) (sym e) ready.blanks) in
    let r = blanks_step text utf8 place start written more blanks h.boundary from (omega (arith, ready.order, e)) h.so_far passes b m in
    subst (λ u. Rewritten u (chars text) more) (rest_end text start (omega (arith, end))) r

-- at the start
pub begun : {A : Type 0} (text : List ℕ) (s : Scanner A) (written : List ℕ) → text_of s ≡ text → options_of s ≡ all_on → end_of s ≡ 0 → IsUtf8 text → written ≡ [] → IsSoFar text s 0 written
begun text s written e o z utf8 w =
    record {
      text_is = e;
      options = o;
      at = z;
      boundary = subst (λ t. IsCharBoundary t 0) e (subst (λ i. IsCharBoundary (text_of s) i) z s.at_place);
      so_far = subst (λ w. Rewritten (chars text) (chars text) w) (sym w) Rewritten.no_more;
    }

-- each token leads further
pub smaller : {A : Type 0} (text : List ℕ) (old new : Scanner A) (place end : ℕ) (written : List ℕ) → IsSoFar text old place written → PassesBlanks old new → start_of new < end_of new → end ≡ end_of new
    → length text - end < length text - place
smaller text old new place end written h p l e =
    let b : end_of new ≤ length text = subst (λ t. end_of new ≤ length t) (p.text ∙ h.text_is) new.at_place.0 in
    omega (arith, p.order.0, h.at, l, e, b)
