-- What a parser collects on its way.
use Rattle.std.proofs.Common.{ℕ, ◌+◌, ◌≡◌, ◌∙◌, sym, ap, subst, refl, arith, Bool, true, false, not, ◌||◌, List, [], ◌∷◌, ◌++◌, length, append_assoc, Option, Some, None, Result, Ok, Err, OnOk, IfSome, is_some, Vec, IsTrue, IsUtf8, IsCharBoundary, chars, cond, slice_range}
use Rattle.std.proofs.lemmas.List.{append-nil}
use Rattle.std.proofs.lemmas.List.Elements.{All-nil, All-cons, All-append, filter-append}
use Rattle.std.proofs.lemmas.Str.{IsUtf8-from_is_utf8, encodes-chars}
use Rattle.jsonc_text.specs.declared.tokens.TokenAndRange.{TokenAndRange}
use Rattle.jsonc_text.specs.Gaps.{is_blank}
use Rattle.jsonc_text.specs.Lexemes.{Scanned, IsScanned}
use Rattle.jsonc_text.specs.Options.{Options}
use Rattle.jsonc_text.specs.Places.{Placed, AreTokens, no_more, blank, one, is_comment, CommentGap, Gaps, gaps_of}
use Rattle.jsonc_text.specs.Text.{rest, byte_length, Many, stop, step, Spans}
use Rattle.jsonc_text.proofs.Cuts.{byte_length-append, many_split, place_after, chars_between}
use Rattle.jsonc_text.proofs.CharacterSteps.{rest_end}
use Rattle.jsonc_scan.specs.declared.scanner.Scanner.{Scanner}
use Rattle.jsonc_scan.specs.Scanner.{text_of, start_of, end_of, PassesBlanks, left}
use Rattle.jsonc_scan.specs.Scanner.{IsThere}
use Rattle.jsonc_walk.specs.declared.comments.GapComments.{GapComments}
use Rattle.jsonc_walk.specs.declared.context.Context.{Context}
use Rattle.jsonc_walk.specs.declared.collect.CommentCollectionStrategy.{CommentCollectionStrategy}
use Rattle.jsonc_walk.specs.Collected.{takes_comments, taken, all_placed, collected, AreCollected, CollectsMore, StaysLent, HasNoted, NotesMore, NotesLexeme, ShowsNoted, IsSilent, Collects}
use Rattle.jsonc_walk.specs.Comments.{MapOf, HasPassed, AreUnderEnds}
use Rattle.jsonc_walk.specs.Context.{text_in, options_in, token_end, tokens_asked, comments_asked, Keeps}
use Rattle.jsonc_walk.specs.Lent.{AreLentIn}
use Rattle.jsonc_walk.proofs.lemmas.Gaps.{stands}
use Rattle.jsonc_walk.proofs.lemmas.LentStrings.{none_lent}
use Rattle.jsonc_walk.proofs.lemmas.GapEnds.{gaps_ascend, under_ends, no_gaps}

-- blanks before tokens
blanks_before : (o : Options) (r : List ℕ) (ts : List Placed) {s : List ℕ} (at : ℕ) → Many is_blank s [] → AreTokens o (at + byte_length s) r ts → AreTokens o at (s ++ r) ts
blanks_before o r ts at stop h = let P : ℕ → Type 0 = λ i. AreTokens o i r ts in let e : at + byte_length [] ≡ at = omega arith in subst P e h
blanks_before o r ts at (step {c = c} {t = s} b m) h =
    let e : at + byte_length (c ∷ s) ≡ at + byte_length (c ∷ []) + byte_length s = omega (arith, byte_length-append (c ∷ []) s) in
    let P : ℕ → Type 0 = λ i. AreTokens o i r ts in
    blank b (blanks_before o r ts (at + byte_length (c ∷ [])) m (subst P e h))

module _ (bytes : List ℕ) (u : IsUtf8 bytes) (o : Options) (ts : List Placed) where
  -- the same, between two places
  pub tokens_past_blanks : (i j : ℕ) → IsCharBoundary bytes i → IsCharBoundary bytes j → Many is_blank (rest bytes i) (rest bytes j) → AreTokens o j (rest bytes j) ts → AreTokens o i (rest bytes i) ts
  tokens_past_blanks i j b d m h =
      let part = many_split is_blank m in
      let P : ℕ → Type 0 = λ k. AreTokens o k (rest bytes j) ts in
      subst (λ t. AreTokens o i t ts) (sym part.1) (blanks_before o (rest bytes j) ts i part.2 (subst P (place_after bytes part.0 i j u b d part.1) h))

  -- a lexeme or comment before tokens
  pub tokens_past_one : (w : Scanned) (i j : ℕ) → Spans bytes i j → IsScanned o w (rest bytes i) (rest bytes j) → AreTokens o j (rest bytes j) ts → AreTokens o i (rest bytes i) (record { what = w; start = i; end = j } ∷ ts)
  tokens_past_one w i j s x h =
      let between = chars (slice_range bytes i j) in
      let split : rest bytes i ≡ between ++ rest bytes j = chars_between bytes i j u s in
      let after : j ≡ i + byte_length between = place_after bytes between i j u s.from s.to split in
      let P : ℕ → Type 0 = λ k. AreTokens o k (rest bytes j) ts in
      let Q : ℕ → Type 0 = λ k. AreTokens o i (rest bytes i) (record { what = w; start = i; end = k } ∷ ts) in
      subst Q (sym after) (one w between x split (subst P after h))

-- what of one token is taken
pub taken_comment : (b : Bool) (p : Placed) → b ≡ true → taken b (p ∷ []) ≡ p ∷ []
taken_comment b p e = rw e refl

pub taken_lexeme : (b : Bool) (p : Placed) → is_comment p.what ≡ false → taken b (p ∷ []) ≡ p ∷ []
taken_lexeme true p e = refl
taken_lexeme false p e = rw e refl

pub not_taken : (b : Bool) (p : Placed) → b ≡ false → is_comment p.what ≡ true → taken b (p ∷ []) ≡ []
not_taken b p e f = rw (e, f) refl

taken_append : (b : Bool) (ps qs : List Placed) → taken b (ps ++ qs) ≡ taken b ps ++ taken b qs
taken_append b ps qs = filter-append (λ p. b || not (is_comment p.what)) ps qs

both : (b : Bool) → IsTrue b → b ≡ false → ⊥
both true h e = cc
both false h e = cc

-- a fact of a call that went well, and one that holds anyhow
pub ok_is : {X E P : Type 0} (r : Result X E) → P → OnOk r P
ok_is (Ok x) p = p
ok_is (Err e) p = tt

-- a fact of a call that went well leads to another
pub ok_collects : {X E P Q : Type 0} (r : Result X E) → (P → Q) → OnOk r P → OnOk r Q
ok_collects (Ok x) f h = f h
ok_collects (Err e) f h = tt

module _ {A : Type 0} where
  utf8_of : (c : Context A) → IsUtf8 (text_in c)
  utf8_of c = IsUtf8-from_is_utf8 (text_in c) c.utf8

  -- nothing is passed
  pub collects_same : (c : Context A) → Collects c c
  collects_same c = record {
    passed = [];
    stand = λ ts h. h;
    more = λ asked. sym (append-nil (collected c));
    lent = λ h. h;
    noted = λ ts h. subst (λ l. HasNoted l c) (sym (append-nil ts)) h;
    silent = λ off. All-nil (λ p. is_comment p.what ≡ false);
  }

  pub collects_on : (a b c : Context A) → Keeps a b → Collects a b → Collects b c → Collects a c
  collects_on a b c kept h k =
      let P : Options → List ℕ → Type 0 = λ o t. (ts : List Placed) → AreTokens o (token_end c) (rest t (token_end c)) ts → AreTokens o (token_end b) (rest t (token_end b)) (k.passed ++ ts) in
      let stand : P (options_in a) (text_in a) = subst (λ o. P o (text_in a)) kept.options (subst (λ t. P (options_in b) t) kept.text k.stand) in
      record {
        passed = h.passed ++ k.passed;
        stand = λ ts all. subst (λ l. AreTokens (options_in a) (token_end a) (rest (text_in a) (token_end a)) l) (sym (append_assoc h.passed k.passed ts)) (h.stand (k.passed ++ ts) (stand ts all));
        more = λ asked. more_on asked;
        lent = λ l. subst (λ t. AreLentIn t b.tokens → AreLentIn t c.tokens) kept.text k.lent (h.lent l);
        noted = λ ts n. subst (λ l. HasNoted l c) (append_assoc ts h.passed k.passed) (k.noted (ts ++ h.passed) (h.noted ts n));
        silent = λ off. All-append (λ p. is_comment p.what ≡ false) h.passed k.passed (h.silent off) (k.silent (ap (λ o. o.comments) kept.options ∙ off));
      }
    where
      more_on : IsTrue (tokens_asked a) → collected c ≡ collected a ++ taken a.comments_are_tokens (h.passed ++ k.passed)
      more_on asked =
          let first = h.more asked in
          let second = k.more (kept.tokens ∙ asked) in
          let same : taken b.comments_are_tokens k.passed ≡ taken a.comments_are_tokens k.passed = ap (λ m. taken m k.passed) kept.comments in
          second ∙ ap (λ l. collected b ++ l) same ∙ ap (λ l. l ++ taken a.comments_are_tokens k.passed) first
          ∙ append_assoc (collected a) (taken a.comments_are_tokens h.passed) (taken a.comments_are_tokens k.passed)
          ∙ ap (λ l. collected a ++ l) (sym (taken_append a.comments_are_tokens h.passed k.passed))

  -- a turn of a loop
  pub collects_turn : (a b c d : Context A) → Keeps a b → Collects a b → Keeps b c → Collects b c → Collects c d → Collects a d
  collects_turn a b c d kept h on k l = collects_on a b d kept h (collects_on b c d on k l)

  -- what stands where a scanner's token is
  abbrev pub placed_here : Scanner A → Scanned → Placed
  placed_here s w = record { what = w; start = start_of s; end = end_of s }

  module _ (now new : Context A) (s : Scanner A) (blanks : PassesBlanks now.scanner s) (same : new.scanner ≡ s) where
    past_blanks : (ts : List Placed) → AreTokens (options_in now) (start_of s) (rest (text_in now) (start_of s)) ts → AreTokens (options_in now) (token_end now) (rest (text_in now) (token_end now)) ts
    past_blanks ts h =
        let boundary = subst (λ b. IsCharBoundary b (start_of s)) blanks.text s.starts_at_place in
        let m = subst (λ b. Many is_blank (left now.scanner) (rest b (start_of s))) blanks.text blanks.blanks in
        tokens_past_blanks (text_in now) (utf8_of now) (options_in now) ts (token_end now) (start_of s) now.scanner.at_place boundary m h

    past_one : (t : Scanned) → IsThere s (Some t) → (ts : List Placed) → AreTokens (options_in now) (token_end new) (rest (text_in now) (token_end new)) ts
        → AreTokens (options_in now) (token_end now) (rest (text_in now) (token_end now)) (placed_here s t ∷ ts)
    past_one t at ts h =
        let here = stands (text_in now) (options_in now) s t blanks.text blanks.options at in
        let after = subst (λ x. AreTokens (options_in now) (end_of x) (rest (text_in now) (end_of x)) ts) same h in
        past_blanks (placed_here s t ∷ ts) (tokens_past_one (text_in now) (utf8_of now) (options_in now) ts t (start_of s) (end_of s) here.spans here.stands after)

    one_passed : (t : Scanned) → IsThere s (Some t) → CollectsMore now new (taken now.comments_are_tokens (placed_here s t ∷ []))
        → StaysLent now new → NotesMore now new (placed_here s t ∷ []) → IsSilent (options_in now) (placed_here s t ∷ []) → Collects now new
    one_passed t at more lent noted silent = record { passed = placed_here s t ∷ []; stand = past_one t at; more = more; lent = lent; noted = noted; silent = silent }

  -- a token that is no comment, after blanks
  pub collects_lexeme : (start now new : Context A) (s : Scanner A) (f : Option Scanned) (t : Scanned) → Keeps start now → Collects start now → PassesBlanks now.scanner s → new.scanner ≡ s → IsThere s f → f ≡ Some t
      → is_comment t ≡ false → CollectsMore now new (placed_here s t ∷ []) → StaysLent now new → NotesMore now new (placed_here s t ∷ []) → Collects start new
  collects_lexeme start now new s f t kept so_far blanks same at is lexeme more lent noted =
      let p = placed_here s t in
      let here = taken_lexeme now.comments_are_tokens p lexeme in
      collects_on start now new kept so_far (one_passed now new s blanks same t (subst (IsThere s) is at) (λ asked. more asked ∙ ap (λ l. collected now ++ l) (sym here)) lent noted (λ off. All-cons (λ p. is_comment p.what ≡ false) p [] lexeme (All-nil (λ p. is_comment p.what ≡ false))))

  -- it, where nothing is collected
  pub collects_nothing : (start now : Context A) (s : Scanner A) (f : Option Scanned) (t : Scanned) (new : Context A) → Keeps start now → Collects start now → PassesBlanks now.scanner s → new.scanner ≡ s → IsThere s f → f ≡ Some t
      → is_comment t ≡ false → tokens_asked now ≡ false → new.tokens ≡ now.tokens → comments_asked new ≡ false → Collects start new
  collects_nothing start now s f t new kept so_far blanks same at is lexeme none tokens apart =
      collects_lexeme start now new s f t kept so_far blanks same at is lexeme (λ asked. absurd (both (tokens_asked now) asked none)) (λ h. subst (AreLentIn (text_in now)) (sym tokens) h) (λ ts h. no_comments new.comments apart (ts ++ placed_here s t ∷ []))
    where
      no_comments : (found : Option (GapComments A)) → is_some found ≡ false → (ts : List Placed) → IfSome found (HasPassed ts)
      no_comments None e ts = tt
      no_comments (Some c) e ts = cc

  -- it, where its gap is ended after it is collected
  pub collects_on_lexeme : (start now mid new : Context A) (s : Scanner A) (f : Option Scanned) (t : Scanned) → Keeps start now → Collects start now → PassesBlanks now.scanner s → mid.scanner ≡ s → IsThere s f → f ≡ Some t
      → is_comment t ≡ false → CollectsMore now mid (placed_here s t ∷ []) → (AreLentIn (text_of s) now.tokens → AreLentIn (text_of s) mid.tokens) → mid.comments ≡ now.comments → new.scanner ≡ mid.scanner → new.tokens ≡ mid.tokens → NotesLexeme mid new → Collects start new
  collects_on_lexeme start now mid new s f t kept so_far blanks here at is lexeme more lent apart same tokens noted =
      let w = t in
      let stays = subst (λ b. AreLentIn b now.tokens → AreLentIn b new.tokens) blanks.text (subst (λ found. AreLentIn (text_of s) now.tokens → AreLentIn (text_of s) found) (sym tokens) lent) in
      collects_lexeme start now new s f t kept so_far blanks (same ∙ here) at is lexeme (λ asked. ap all_placed tokens ∙ more asked) stays
      (λ ts h. subst (λ x. HasNoted (ts ++ placed_here x w ∷ []) new) here (noted w lexeme ts (subst (λ found. IfSome found (HasPassed ts)) (sym apart) h)))

  -- a comment
  pub collects_comment : (start now new : Context A) (s : Scanner A) (f : Option Scanned) (t : Scanned) → Keeps start now → Collects start now → PassesBlanks now.scanner s → new.scanner ≡ s → IsThere s f → f ≡ Some t
      → is_comment t ≡ true → (now.comments_are_tokens ≡ true → CollectsMore now new (placed_here s t ∷ [])) → (now.comments_are_tokens ≡ false → collected new ≡ collected now)
      → (AreLentIn (text_of s) now.tokens → AreLentIn (text_of s) new.tokens) → NotesMore now new (placed_here s t ∷ []) → IsTrue (options_in now).comments → Collects start new
  collects_comment start now new s f t kept so_far blanks same at is comment more none lent noted allowed =
      let p = placed_here s t in
      collects_on start now new kept so_far (one_passed now new s blanks same t (subst (IsThere s) is at) (λ asked. either now.comments_are_tokens refl asked) (subst (λ b. AreLentIn b now.tokens → AreLentIn b new.tokens) blanks.text lent) noted (λ off. absurd (both (options_in now).comments allowed off)))
    where
      either : (b : Bool) → now.comments_are_tokens ≡ b → IsTrue (tokens_asked now) → collected new ≡ collected now ++ taken now.comments_are_tokens (placed_here s t ∷ [])
      either true e asked = more e asked ∙ ap (λ l. collected now ++ l) (sym (taken_comment now.comments_are_tokens (placed_here s t) e))
      either false e asked = none e ∙ sym (append-nil (collected now)) ∙ ap (λ l. collected now ++ l) (sym (not_taken now.comments_are_tokens (placed_here s t) e comment))

  -- blanks up to the end of the text
  pub collects_end : (start now new : Context A) (s : Scanner A) (f : Option Scanned) → Keeps start now → Collects start now → PassesBlanks now.scanner s → new.scanner ≡ s → IsThere s f → f ≡ None
      → collected new ≡ collected now → StaysLent now new → ((ts : List Placed) → HasNoted ts now → HasNoted ts new) → Collects start new
  collects_end start now new s f kept so_far blanks same at is none lent still_noted =
      let here = subst (IsThere s) is at in
      let e : token_end new ≡ start_of s = ap end_of same ∙ here.1 ∙ sym here.0 in
      collects_on start now new kept so_far (record {
        passed = [];
        stand = λ ts h. past_blanks now new s blanks same ts (subst (λ k. AreTokens (options_in now) k (rest (text_in now) k) ts) e h);
        more = λ asked. none ∙ sym (append-nil (collected now));
        lent = lent;
        noted = λ ts h. subst (λ l. HasNoted l new) (sym (append-nil ts)) (still_noted ts h);
        silent = λ off. All-nil (λ p. is_comment p.what ≡ false);
      })

  -- the tokens of a whole text are lent where no backslash is in them
  pub all_lent : (start end : Context A) (found : Option (Vec (TokenAndRange A) A)) (bytes : List ℕ) → text_in start ≡ bytes → collected start ≡ [] → Collects start end → found ≡ end.tokens → AreLentIn bytes found
  all_lent start end found bytes text empty h e =
      subst (AreLentIn bytes) (sym e) (subst (λ b. AreLentIn b end.tokens) text (h.lent (none_lent (text_in start) start.tokens empty)))

  -- from the start of a text to its end
  module _ (start end : Context A) (f : Option Scanned) (o : Options) (bytes : List ℕ) (text : text_in start ≡ bytes) (options : options_in start ≡ o) (zero : token_end start ≡ 0)
      (kept : Keeps start end) (h : Collects start end) (at : IsThere end.scanner f) (is : f ≡ None) where
    last : token_end end ≡ length (text_in start)
    last = (subst (IsThere end.scanner) is at).1 ∙ ap length kept.text

    none_left : AreTokens (options_in start) (token_end end) (rest (text_in start) (token_end end)) []
    none_left = subst (λ t. AreTokens (options_in start) (token_end end) t []) (sym (rest_end (text_in start) (token_end end) (omega (arith, last)))) no_more

    all_passed : AreTokens o 0 (chars bytes) h.passed
    all_passed =
        let whole = subst (λ l. AreTokens (options_in start) (token_end start) (rest (text_in start) (token_end start)) l) (append-nil h.passed) (h.stand [] none_left) in
        let from = subst (λ i. AreTokens (options_in start) i (rest (text_in start) i) h.passed) zero whole in
        subst (λ p. AreTokens p 0 (chars bytes) h.passed) options (subst (λ b. AreTokens (options_in start) 0 (rest b 0) h.passed) text from)

    pub all_collected : (k : CommentCollectionStrategy) → start.comments_are_tokens ≡ takes_comments k → collected start ≡ [] → (found : Option (Vec (TokenAndRange A) A)) → found ≡ end.tokens → IfSome found (AreCollected o (chars bytes) k)
    all_collected k comments empty None e = tt
    all_collected k comments empty (Some v) e = (h.passed, all_passed, ap all_placed e ∙ h.more (sym kept.tokens ∙ ap is_some (sym e)) ∙ ap (λ l. l ++ taken start.comments_are_tokens h.passed) empty ∙ ap (λ m. taken m h.passed) comments)

    whole_length : byte_length (chars bytes) ≡ token_end end
    whole_length = ap length (encodes-chars bytes (subst IsUtf8 text (utf8_of start))) ∙ sym (last ∙ ap length text)

    -- the gaps of all that is passed are the text's
    all_gaps : Gaps o (chars bytes) (gaps_of (token_end end) 0 [] h.passed)
    all_gaps = (h.passed, all_passed, each o.comments refl)
      where
        each : (b : Bool) → o.comments ≡ b → gaps_of (token_end end) 0 [] h.passed ≡ cond b (gaps_of (byte_length (chars bytes)) 0 [] h.passed) []
        each true e = ap (λ len. gaps_of len 0 [] h.passed) (sym whole_length)
        each false e = no_gaps (token_end end) 0 h.passed (h.silent (ap (λ p. p.comments) options ∙ e))

    pub all_noted : {S : Type 0} (found : Option (MapOf S A)) → HasNoted [] start → ShowsNoted end found → IfSome found (λ m. (gs : List CommentGap) × Gaps o (chars bytes) gs × AreUnderEnds gs m)
    all_noted None noted shown = tt
    all_noted (Some m) noted shown =
        let gs = gaps_of (token_end end) 0 [] h.passed in
        let below = gaps_ascend all_passed 0 [] (token_end end) (omega arith) (omega (arith, whole_length)) in
        (gs, all_gaps, under_ends m gs below (shown h.passed (h.noted [] noted)))
