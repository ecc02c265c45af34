-- A token that is passed at once, and reading on behind a gap that was passed.
use Rattle.std.proofs.Common.{◌≡◌, ◌∙◌, refl, ap, false, List, ℕ, Bool, is_some, Option, None, Some, Result, Ok, Err, IfOk, IfSome, IfNone, OnOk, inl, inr}
use Rattle.jsonc_text.specs.Gaps.{Gap}
use Rattle.jsonc_text.specs.Options.{Options}
use Rattle.jsonc_text.specs.Lexemes.{Scanned}
use Rattle.jsonc_text.specs.Places.{is_comment}
use Rattle.jsonc_text.specs.Text.{rest}
use Rattle.jsonc_text.specs.declared.errors.ParseError.{ParseError}
use Rattle.jsonc_scan.specs.declared.scanner.Scanner.{Scanner}
use Rattle.jsonc_scan.specs.declared.found.TokenContent.{TokenContent}
use Rattle.jsonc_scan.specs.declared.found.TokenKind.{TokenKind}
use Rattle.jsonc_scan.specs.Scanner.{PassesBlanks, IsThere, seen, scanned_seen, start_of}
use Rattle.jsonc_walk.specs.declared.context.Context.{Context}
use Rattle.jsonc_walk.specs.Located.{Between}
use Rattle.jsonc_walk.specs.Collected.{Collects}
use Rattle.jsonc_walk.specs.Context.{text_in, options_in, token_start, token_end, tokens_asked, comments_asked, last, found_by, found_in, Keeps, GivesAway, Finds, IsNoComment}
use Rattle.jsonc_walk.specs.Faults.{Fault, Stops, StopsAnyhow, fault_in, no_lexeme, wrong_lexeme, wrong_ending}
use Rattle.jsonc_walk.specs.Reached.{Opened, Due, at}
use Rattle.jsonc_walk.specs.Handed.{source_of, Follows, ReachesBehind}
use Rattle.jsonc_walk.specs.Refusals.{AtToken, NoTokenAfter}
use Rattle.jsonc_walk.proofs.lemmas.Collecting.{collects_nothing, collects_same}
use Rattle.jsonc_walk.proofs.lemmas.Gaps.{join, gap_append}
use Rattle.jsonc_walk.proofs.lemmas.PassedGaps.{reaches_token}
use Rattle.jsonc_walk.proofs.lemmas.Refusals.{gap_past, token_no_gap}
use Rattle.jsonc_walk.proofs.lemmas.Scans.{kept_same, kept_step, moved, passing_start, scan_found}

-- reading stops before a gap as behind it
stops_before : {o : Options} {whole : Bool} {q : List Opened} {d : Due} {t u : List ℕ} {f : Fault} → Gap o t u → Stops o whole (at q d u) f → Stops o whole (at q d t) f
stops_before g (no_lexeme h l) = no_lexeme (gap_append g h) l
stops_before g (Stops.comment r off h k) = Stops.comment r off (gap_append g h) k
stops_before g (wrong_lexeme l r h k w) = wrong_lexeme l r (gap_append g h) k w
stops_before g (wrong_ending h w) = wrong_ending (gap_append g h) w

pub on_ok : {X E T : Type 0} (r : Result X E) → T → OnOk r T
on_ok (Ok x) t = t
on_ok (Err e) t = tt

module _ {A : Type 0} where
  pub plain_found : (old : Context A) (s : Scanner A) (x : TokenContent A) (f : Option TokenKind) → IfSome f (λ k. PassesBlanks old.scanner s) → IfSome f (λ k. IsThere s (seen s x (Some k)))
      → IfSome f (λ k. Between (text_in old) (Gap (options_in old)) (token_end old) (start_of s) × IsThere s (Some (scanned_seen s x k)))
  plain_found old s x None h there = tt
  plain_found old s x (Some k) h there = scan_found old old s s (Some (scanned_seen s x k)) (Some (scanned_seen s x k)) refl refl (passing_start old) h there

  -- where a step has moved the scanner alone
  module _ (old new : Context A) (tokens : new.tokens ≡ old.tokens) (among : new.comments_are_tokens ≡ old.comments_are_tokens) (apart : new.comments ≡ old.comments) (decodes : new.decodes ≡ old.decodes) where
    pub plain_kept : (f : Option TokenKind) → IfSome f (λ k. PassesBlanks old.scanner new.scanner) → IfSome f (λ k. Keeps old new)
    plain_kept None h = tt
    plain_kept (Some k) h = kept_step old old new new.scanner (passing_start old) h refl (ap is_some tokens) among (ap is_some apart) decodes

    pub plain_collects : (f : Option TokenKind) → tokens_asked old ≡ false → comments_asked old ≡ false → IfSome f (λ k. PassesBlanks old.scanner new.scanner) → IfSome f (λ k. IsThere new.scanner (seen new.scanner new.content (Some k)))
        → IfSome f (λ k. is_comment (scanned_seen new.scanner new.content k) ≡ false) → IfSome f (λ k. Collects old new)
    plain_collects None no_tokens no_comments h there lexeme = tt
    plain_collects (Some k) no_tokens no_comments h there lexeme =
        collects_nothing old old new.scanner (Some (last new k)) (last new k) new (kept_same old) (collects_same old) h refl there refl lexeme no_tokens tokens (ap is_some apart ∙ no_comments)

    pub plain_none : (f : Option TokenKind) → IfNone f (new.scanner ≡ old.scanner) → IfNone f (GivesAway old new)
    plain_none None same = record { scanner = same; decodes = decodes; tokens = tokens; comments = among; apart = apart }
    plain_none (Some k) same = tt

  -- behind a gap
  module _ (old mid : Context A) (kept : Keeps old mid) (gap : Between (text_in old) (Gap (options_in old)) (token_end old) (token_end mid)) where
    pub finds_before : (new : Context A) (f : Option Scanned) → Finds (Gap (options_in mid)) mid new f → Finds (Gap (options_in old)) old new f
    finds_before new f (g, there) =
        (join (Gap (options_in old)) (λ t u r. gap_append) gap (moved (λ o b. Between b (Gap o) (token_end mid) (token_start new)) kept.options kept.text g), there)

    pub no_token_before : NoTokenAfter mid → NoTokenAfter old
    no_token_before none = λ u g at_token.
        let P : Options → List ℕ → Type 0 = λ o b. (u : List ℕ) → Gap o (rest b (token_end mid)) u → AtToken o u → ⊥ in
        moved P kept.options kept.text none u (gap_past gap.stands g (token_no_gap (options_in old) u at_token)) at_token

    pub told_before : (e : ParseError) → StopsAnyhow mid e → StopsAnyhow old e
    told_before e (inl m) = inl m
    told_before e (inr told) = inr (λ whole q d.
        let P : Options → List ℕ → Type 0 = λ o b. Stops o whole (at q d (rest b (token_end mid))) (fault_in b e) in
        stops_before gap.stands (moved P kept.options kept.text (told whole q d)))

  pub follows_on : {E : Type 0} (old new : Context A) (reached : ℕ → Type 0) (r : Result (Option TokenKind) E) → ReachesBehind (source_of old) reached (token_end old) → OnOk r (Keeps old new)
      → IfOk (found_by new r) (Finds (Gap (options_in old)) old new) → IfOk (found_by new r) IsNoComment → OnOk r (Follows (source_of old) reached (token_start new))
  follows_on old new reached (Err e) behind kept found lexeme = tt
  follows_on old new reached (Ok f) behind kept found lexeme = reaches_token old new reached (found_in new f) kept behind found lexeme
