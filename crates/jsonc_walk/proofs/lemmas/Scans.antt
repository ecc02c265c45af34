-- A parser on its way from one token to the next.
use Rattle.std.proofs.Common.{ℕ, Bool, ◌≡◌, ◌⊎◌, ◌||◌, inl, inr, ◌≤◌, ◌<◌, ◌+◌, ◌++◌, length, ◌∙◌, sym, ap, subst, refl, arith, true, false, List, [], ◌∷◌, Option, None, Some, Result, Ok, Err, IfOk, IsTrue, IsUtf8}
use Rattle.jsonc_text.specs.declared.errors.ParseError.{ParseError}
use Rattle.jsonc_scan.specs.declared.scanner.Scanner.{Scanner}
use Rattle.jsonc_text.specs.Options.{Options}
use Rattle.jsonc_text.specs.Faults.{IsFault}
use Rattle.jsonc_text.specs.Gaps.{Gap, none}
use Rattle.jsonc_text.specs.Grammar.{Separates, comma, no_comma, Closes, trailing_comma}
use Rattle.jsonc_text.specs.Lexemes.{Scanned, lexeme, punctuation, IsScanned}
use Rattle.jsonc_text.specs.Places.{is_comment}
use Rattle.jsonc_scan.specs.Scanner.{text_of, start_of, end_of, options_of, PassesBlanks}
use Rattle.jsonc_scan.specs.Scanner.{IsThere}
use Rattle.jsonc_text.specs.Text.{byte_length}
use Rattle.std.proofs.lemmas.Str.{encode_ascii}
use Rattle.jsonc_text.proofs.Cuts.{place_after}
use Rattle.jsonc_walk.specs.declared.context.Context.{Context}
use Rattle.jsonc_walk.specs.Collected.{collected, CollectsMore, NotesMore, Collects}
use Rattle.jsonc_walk.specs.Context.{text_in, options_in, token_start, token_end, tokens_asked, comments_asked, Keeps, Passes, Finds, IsBracket, Leads, IsToken}
use Rattle.jsonc_walk.specs.Lent.{AreLentIn}
use Rattle.jsonc_walk.specs.Refusals.{AsksForMemory, IsFaultHere}
use Rattle.jsonc_walk.specs.Located.{Between, One, Ends, TrailingComma}
use Rattle.jsonc_walk.proofs.lemmas.Collecting.{placed_here, collects_same, collects_comment}
use Rattle.jsonc_walk.proofs.lemmas.Gaps.{join, change, nothing, passed, stands, comment_passed, gap_append}

-- a fact of the options and the text goes over to equal ones
pub moved : {o p : Options} {bytes others : List ℕ} (P : Options → List ℕ → Type 0) → p ≡ o → others ≡ bytes → P p others → P o bytes
moved {o} {p} {bytes} {others} P e f h = subst (λ x. P x bytes) e (subst (λ y. P p y) f h)

-- punctuation has one byte
ascii_length : (c : ℕ) → c < 128 → byte_length (c ∷ []) ≡ 1
ascii_length c h = ap (λ s. length (s ++ [])) (encode_ascii c h)

pub one_byte : (bytes : List ℕ) (c i j : ℕ) → IsUtf8 bytes → c < 128 → Between bytes (One c) i j → i + 1 ≡ j
one_byte bytes c i j u small h =
    let e : byte_length (c ∷ []) ≡ 1 = ascii_length c small in
    let after : j ≡ i + byte_length (c ∷ []) = place_after bytes (c ∷ []) i j u h.spans.from h.spans.to h.stands in omega arith

anyhow : {P Q : Type 0} → P ⊎ ⊥ → P ⊎ Q
anyhow (inl p) = inl p
anyhow (inr q) = absurd q

or_right : (b c : Bool) → IsTrue c → IsTrue (b || c)
or_right true c h = refl
or_right false c h = h

pub on_left : {P Q R : Type 0} → (P → R) → P ⊎ Q → R ⊎ Q
on_left f (inl p) = inl (f p)
on_left f (inr q) = inr q

-- what has failed has a failure
pub failure : {X E : Type 0} (r : Result X E) → ((x : X) → r ≡ Ok x → ⊥) → E
failure (Ok x) no_value = absurd (no_value x refl)
failure (Err e) no_value = e

module _ {A : Type 0} where
  -- up to the last token stands a gap
  pub record Passing (start now : Context A) : Type 0 where
    pub kept : Keeps start now
    pub gap : Between (text_in start) (Gap (options_in start)) (token_end start) (token_end now)
    pub collects : Collects start now

  pub kept_same : (c : Context A) → Keeps c c
  kept_same c = record { text = refl; options = refl; decodes = refl; tokens = refl; comments = refl; apart = refl }

  pub kept_on : (a b c : Context A) → Keeps a b → Keeps b c → Keeps a c
  kept_on a b c h k = record { text = k.text ∙ h.text; options = k.options ∙ h.options; decodes = k.decodes ∙ h.decodes; tokens = k.tokens ∙ h.tokens; comments = k.comments ∙ h.comments; apart = k.apart ∙ h.apart }

  pub decoding_asks : (c : Context A) → IsTrue c.decodes → AsksForMemory c
  decoding_asks c decodes = ap (λ d. d || comments_asked c) decodes

  pub noting_asks : (c : Context A) → IsTrue (comments_asked c) → AsksForMemory c
  noting_asks c asked = or_right c.decodes (comments_asked c) asked

  -- a parser that asks for memory did before
  pub asks_before : {old new : Context A} → Keeps old new → AsksForMemory new → AsksForMemory old
  asks_before {old} {new} kept asks = subst (λ d. IsTrue (d || comments_asked old)) kept.decodes (subst (λ m. IsTrue (new.decodes || m)) kept.apart asks)

  -- no allocation failure, so whatever has failed
  pub told_anyhow : {c : Context A} {has_failed : Type 0} {e : ParseError} → IsFaultHere c ⊥ e → IsFaultHere c has_failed e
  told_anyhow h = record { of_text = h.of_text; memory = λ m. anyhow (h.memory m) }

  -- a fault of the text, which stays the same
  pub fault_before : {has_failed : Type 0} (old new : Context A) (e : ParseError) → Keeps old new → IsFaultHere new has_failed e → IsFaultHere old has_failed e
  fault_before old new e kept h = record { of_text = subst (λ b. IsFault b e) kept.text h.of_text; memory = λ m. on_left (asks_before kept) (h.memory m) }

  -- an allocation failure, where memory is asked for or the receiver has failed
  pub starved : {has_failed : Type 0} (old new : Context A) (e : ParseError) → Keeps old new → IsFault (text_in new) e → AsksForMemory new ⊎ has_failed → IsFaultHere old has_failed e
  starved old new e kept h asks = fault_before old new e kept (record { of_text = h; memory = λ m. asks })

  pub passing_start : (c : Context A) → Passing c c
  passing_start c = record { kept = kept_same c; gap = nothing (text_in c) (Gap (options_in c)) (token_end c) c.scanner.at_place none; collects = collects_same c }

  -- the token after a gap, or the end
  pub scan_found : (start now : Context A) (s t : Scanner A) (f g : Option Scanned) → f ≡ g → t ≡ s → Passing start now → PassesBlanks now.scanner s → IsThere s f
      → Between (text_in start) (Gap (options_in start)) (token_end start) (start_of t) × IsThere t g
  scan_found start now s t f g is same h blanks at =
      let here = subst (λ b. Between b (Gap (options_in start)) (token_end now) (start_of s)) h.kept.text (passed (options_in start) now.scanner s blanks) in
      let all = join (Gap (options_in start)) (λ t u r. gap_append) h.gap here in (
        subst (λ x. Between (text_in start) (Gap (options_in start)) (token_end start) (start_of x)) (sym same) all,
        subst (λ x. IsThere x g) (sym same) (subst (IsThere s) is at),
      )

  -- after a step of the scanner
  pub kept_step : (start now new : Context A) (s : Scanner A) → Passing start now → PassesBlanks now.scanner s → new.scanner ≡ s → tokens_asked new ≡ tokens_asked now → new.comments_are_tokens ≡ now.comments_are_tokens
      → comments_asked new ≡ comments_asked now → new.decodes ≡ now.decodes → Keeps start new
  kept_step start now new s h blanks same asked strategy apart decodes = record {
    text = ap text_of same ∙ blanks.text ∙ h.kept.text;
    options = ap options_of same ∙ blanks.options ∙ h.kept.options;
    tokens = asked ∙ h.kept.tokens;
    comments = strategy ∙ h.kept.comments;
    apart = apart ∙ h.kept.apart;
    decodes = decodes ∙ h.kept.decodes;
  }

  -- a comment after a gap
  pub passing_on : (start now new : Context A) (s : Scanner A) (f : Option Scanned) (t : Scanned) → f ≡ Some t → new.scanner ≡ s → tokens_asked new ≡ tokens_asked now → new.comments_are_tokens ≡ now.comments_are_tokens → comments_asked new ≡ comments_asked now → new.decodes ≡ now.decodes
      → Passing start now → PassesBlanks now.scanner s → IsThere s f → is_comment t ≡ true → IsTrue (options_of s).comments
      → (now.comments_are_tokens ≡ true → CollectsMore now new (placed_here s t ∷ [])) → (now.comments_are_tokens ≡ false → collected new ≡ collected now) → (AreLentIn (text_of s) now.tokens → AreLentIn (text_of s) new.tokens) → NotesMore now new (placed_here s t ∷ []) → Passing start new
  passing_on start now new s f t is same asked strategy apart decodes h blanks at comment allowed more none_more lent noted =
      let may : IsTrue (options_in start).comments = ap (λ p. p.comments) (sym (blanks.options ∙ h.kept.options)) ∙ allowed in
      let gap = comment_passed (text_in start) (options_in start) (token_end start) now.scanner s t h.kept.text h.kept.options blanks h.gap (subst (IsThere s) is at) comment may in
      record {
        kept = kept_step start now new s h blanks same asked strategy apart decodes;
        gap = subst (λ x. Between (text_in start) (Gap (options_in start)) (token_end start) (end_of x)) (sym same) gap;
        collects = collects_comment start now new s f t h.kept h.collects blanks same at is comment more none_more lent noted (ap (λ p. p.comments) (sym blanks.options) ∙ allowed);
      }

  -- a token that is punctuation
  pub token_is : (bytes : List ℕ) (o : Options) (s : Scanner A) (t : Scanned) (c : ℕ) → text_of s ≡ bytes → options_of s ≡ o → IsThere s (Some t) → t ≡ lexeme (punctuation c)
      → Between bytes (One c) (start_of s) (end_of s)
  token_is bytes o s t c e f at is =
      change (One c) (λ t r k. k.1) (subst (λ w. Between bytes (IsScanned o w) (start_of s) (end_of s)) is (stands bytes o s t e f at))

  module _ (old new : Context A) (f : Option Scanned) (t : Scanned) (c : ℕ) (kept : Keeps old new) (found : Finds (Gap (options_in old)) old new f) (is : f ≡ Some t) where
    pub at_token : IsToken new t
    at_token = subst (IsThere new.scanner) is found.1

    -- a gap, and punctuation
    pub mark_passed : (Q : List ℕ → List ℕ → Type 0) → ((t r : List ℕ) → Gap (options_in old) t (c ∷ r) → Q t r) → t ≡ lexeme (punctuation c) → Between (text_in old) Q (token_end old) (token_end new)
    mark_passed Q h mark =
        join Q (λ t u r g e. h t r (subst (λ x. Gap (options_in old) t x) e g)) found.0 (token_is (text_in old) (options_in old) new.scanner t c kept.text kept.options at_token mark)

    pub closed : (Q : List ℕ → List ℕ → Type 0) → ((t r : List ℕ) → Gap (options_in old) t (c ∷ r) → Q t r) → t ≡ lexeme (punctuation c)
        → Between (text_in old) Q (token_end old) (token_end new) × IsBracket c new × (token_end old ≤ token_start new)
    closed Q h mark = (mark_passed Q h mark, token_is (text_in new) (options_in new) new.scanner t c refl refl at_token mark, found.0.spans.order)

    -- another item with no comma before it
    pub without_comma : new.options.allow_missing_commas ≡ true → Passes (Separates (options_in old)) old new × IsToken new t
    without_comma allowed =
        let may : IsTrue (options_in old).missing_commas = ap (λ p. p.missing_commas) (sym (new.same ∙ kept.options)) ∙ allowed in
        (change (Separates (options_in old)) (λ t r g. no_comma may g) found.0, at_token)

  -- what stands after a comma, with the comma
  pub after_comma : (old mid new : Context A) (f : Option Scanned) (t : Scanned) (bracket : ℕ) {E : Type 0} (r : Result (Option Scanned) E) → Keeps old mid → Finds (Gap (options_in old)) old mid f → f ≡ Some t
      → t ≡ lexeme (punctuation 0x2C) → IfOk r (Leads (Gap (options_in mid)) (TrailingComma (options_in mid) bracket) bracket mid new)
      → IfOk r (Leads (Separates (options_in old)) (Closes (options_in old) bracket) bracket old new)
  after_comma old mid new f t bracket (Err e) kept found is mark h = tt
  after_comma old mid new f t bracket (Ok None) kept found is mark h =
      let o = options_in old in
      let before = mark_passed old mid f t 0x2C kept found is (Ends o 0x2C) (λ t r g. g) mark in
      let after = moved (λ p b. Between b (TrailingComma p bracket) (token_end mid) (token_end new)) kept.options kept.text h.0 in
      (join (Closes o bracket) (λ t u r g k. trailing_comma k.0 g k.1) before after, h.1, omega (arith, before.spans.order, h.2))
  after_comma old mid new f t bracket (Ok (Some n)) kept found is mark h =
      let o = options_in old in
      let before = mark_passed old mid f t 0x2C kept found is (Ends o 0x2C) (λ t r g. g) mark in
      let after = moved (λ p b. Between b (Gap p) (token_end mid) (token_start new)) kept.options kept.text h.0 in
      (join (Separates o) (λ t u r g k. comma g k) before after, h.1)
