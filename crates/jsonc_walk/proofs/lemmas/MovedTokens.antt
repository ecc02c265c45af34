-- A parser that has given away what its last token holds; and tokens by their kinds.
use Rattle.std.proofs.Common.{ℕ, ◌⊎◌, ◌≡◌, ◌∙◌, sym, ap, subst, refl, arith, Bool, true, false, List, [], Option, None, Some, option_map, IfSome, IsTrue, is_some, not, ◌==◌, ◌≢◌}
use Rattle.std.proofs.lemmas.List.{append-nil}
use Rattle.std.proofs.lemmas.List.Elements.{All-nil}
use Rattle.jsonc_scan.specs.declared.scanner.Scanner.{Scanner}
use Rattle.jsonc_scan.specs.Scanner.{scanned_seen, IsLent, IsLentSeen}
use Rattle.jsonc_scan.specs.Found.{token_held}
use Rattle.jsonc_text.specs.Tokens.{scanned_of}
use Rattle.jsonc_text.specs.declared.errors.ParseError.{ParseError}
use Rattle.jsonc_text.specs.Lexemes.{lexeme, punctuation, string}
use Rattle.jsonc_text.proofs.Basics.{clash, eq_test}
use Rattle.jsonc_text.specs.Places.{AreTokens, is_comment}
use Rattle.jsonc_text.specs.Text.{rest}
use Rattle.jsonc_scan.specs.declared.found.TokenContent.{TokenContent}
use Rattle.jsonc_scan.specs.declared.found.TokenKind.{TokenKind}
use Rattle.jsonc_scan.specs.declared.found.TokenKind.TheVariants as kind
use Rattle.jsonc_scan.specs.Scanner.{text_of, end_of, options_of}
use Rattle.jsonc_walk.specs.Located.{Located, Between, Ends}
use Rattle.jsonc_walk.specs.declared.context.Context.{Context}
use Rattle.jsonc_walk.specs.Collected.{all_placed, collected, HasNoted, Collects}
use Rattle.jsonc_walk.specs.Comments.{HasPassed}
use Rattle.jsonc_walk.specs.Context.{text_in, options_in, token_end, last, GivesAway, Keeps, PassesColon}
use Rattle.jsonc_walk.specs.Lent.{AreLentIn}
use Rattle.jsonc_walk.specs.Reached.{Opened, colon, at}
use Rattle.jsonc_walk.specs.Reads.{Reads}
use Rattle.jsonc_walk.specs.Refusals.{IsAllocationFailure, NoColon}
use Rattle.jsonc_walk.specs.Faults.{StopsAtColon, HasFaultFrom, fault_in}
use Rattle.jsonc_walk.proofs.lemmas.Collecting.{collects_on}
use Rattle.jsonc_walk.proofs.lemmas.Refusals.{mark_same}

mark_apart : (c d : ℕ) → IsTrue (not (c == d)) → lexeme (punctuation c) ≡ lexeme (punctuation d) → ⊥
mark_apart c d n e = clash (c == d) n (eq_test c d (mark_same c d e))

pub none_found : {X Y : Type 0} (f : X → Y) (q : Option X) → option_map f q ≡ None → q ≡ None
none_found f None e = refl
none_found f (Some x) e = cc

module _ {A : Type 0} where
  -- the kinds of tokens, by what they are
  module _ (s : Scanner A) (x : TokenContent A) where
    pub is_bracket : (k : TokenKind) → scanned_seen s x k ≡ lexeme (punctuation 0x5B) → k ≡ kind.OpenBracket
    is_bracket kind.OpenBracket e = refl
    is_bracket kind.OpenBrace e = absurd (mark_apart 0x7B 0x5B refl e)
    is_bracket kind.CloseBrace e = absurd (mark_apart 0x7D 0x5B refl e)
    is_bracket kind.CloseBracket e = absurd (mark_apart 0x5D 0x5B refl e)
    is_bracket kind.Comma e = absurd (mark_apart 0x2C 0x5B refl e)
    is_bracket kind.Colon e = absurd (mark_apart 0x3A 0x5B refl e)
    is_bracket kind.String e = cc
    is_bracket kind.Plain e = cc
    is_bracket kind.Passed e = cc
    is_bracket kind.Word e = cc
    is_bracket kind.True e = cc
    is_bracket kind.False e = cc
    is_bracket kind.Number e = cc
    is_bracket kind.Null e = cc
    is_bracket kind.CommentLine e = cc
    is_bracket kind.CommentBlock e = cc

    pub is_brace : (k : TokenKind) → scanned_seen s x k ≡ lexeme (punctuation 0x7B) → k ≡ kind.OpenBrace
    is_brace kind.OpenBrace e = refl
    is_brace kind.OpenBracket e = absurd (mark_apart 0x5B 0x7B refl e)
    is_brace kind.CloseBrace e = absurd (mark_apart 0x7D 0x7B refl e)
    is_brace kind.CloseBracket e = absurd (mark_apart 0x5D 0x7B refl e)
    is_brace kind.Comma e = absurd (mark_apart 0x2C 0x7B refl e)
    is_brace kind.Colon e = absurd (mark_apart 0x3A 0x7B refl e)
    is_brace kind.String e = cc
    is_brace kind.Plain e = cc
    is_brace kind.Passed e = cc
    is_brace kind.Word e = cc
    is_brace kind.True e = cc
    is_brace kind.False e = cc
    is_brace kind.Number e = cc
    is_brace kind.Null e = cc
    is_brace kind.CommentLine e = cc
    is_brace kind.CommentBlock e = cc

    pub no_string : (k : TokenKind) → k ≢ kind.String → k ≢ kind.Plain → k ≢ kind.Passed → (v : List ℕ) → scanned_seen s x k ≡ lexeme (string v) → ⊥
    no_string kind.String n p m v e = n refl
    no_string kind.Plain n p m v e = p refl
    no_string kind.Passed n p m v e = m refl
    no_string kind.OpenBracket n p m v e = cc
    no_string kind.OpenBrace n p m v e = cc
    no_string kind.CloseBrace n p m v e = cc
    no_string kind.CloseBracket n p m v e = cc
    no_string kind.Comma n p m v e = cc
    no_string kind.Colon n p m v e = cc
    no_string kind.Word n p m v e = cc
    no_string kind.True n p m v e = cc
    no_string kind.False n p m v e = cc
    no_string kind.Number n p m v e = cc
    no_string kind.Null n p m v e = cc
    no_string kind.CommentLine n p m v e = cc
    no_string kind.CommentBlock n p m v e = cc

    -- what is no string whose place alone is known is the token that is held
    pub seen_held : (k : TokenKind) → k ≢ kind.Plain → k ≢ kind.Passed → scanned_seen s x k ≡ scanned_of (token_held k x)
    seen_held kind.Plain p n = absurd (p refl)
    seen_held kind.Passed p n = absurd (n refl)
    seen_held k p n = refl

    pub lent_held : (k : TokenKind) → k ≢ kind.Plain → k ≢ kind.Passed → IsLentSeen s x k → IsLent s (Some (token_held k x))
    lent_held kind.Plain p n h = absurd (p refl)
    lent_held kind.Passed p n h = absurd (n refl)
    lent_held k p n h = h

    -- a comment is none
    pub comment_kept : (k : TokenKind) → is_comment (scanned_seen s x k) ≡ true → k ≢ kind.Passed
    comment_kept k h e = let both : false ≡ true = subst (λ k. is_comment (scanned_seen s x k) ≡ true) e h in cc

    pub comment_held : (k : TokenKind) → is_comment (scanned_seen s x k) ≡ true → k ≢ kind.Plain
    comment_held k h e = let both : false ≡ true = subst (λ k. is_comment (scanned_seen s x k) ≡ true) e h in cc

  -- a token is the same where nothing has changed
  pub seen_same : (s t : Scanner A) (x y : TokenContent A) (k : TokenKind) → t ≡ s → y ≡ x → scanned_seen t y k ≡ scanned_seen s x k
  seen_same s t x y k e f = ap (λ s. scanned_seen s y k) e ∙ ap (λ x. scanned_seen s x k) f

  pub last_same : (old new : Context A) (k : TokenKind) → new.scanner ≡ old.scanner → new.content ≡ old.content → last new k ≡ last old k
  last_same old new k e f = seen_same old.scanner new.scanner old.content new.content k e f

  -- nothing is passed where something is given away
  pub kept_self : (old new : Context A) → GivesAway old new → Keeps old new
  kept_self old new given = record {
    text = ap text_of given.scanner;
    options = ap options_of given.scanner;
    tokens = ap (λ v. is_some v) given.tokens;
    comments = given.comments;
    apart = ap (λ v. is_some v) given.apart;
    decodes = given.decodes;
  }

  pub collects_self : (old new : Context A) → GivesAway old new → Collects old new
  collects_self old new given = record {
    passed = [];
    stand = λ ts h. subst (λ s. AreTokens (options_in old) (end_of s) (rest (text_in old) (end_of s)) ts) given.scanner h;
    more = λ asked. ap all_placed given.tokens ∙ sym (append-nil (collected old));
    lent = λ h. subst (AreLentIn (text_in old)) (sym given.tokens) h;
    noted = λ ts h. subst (λ l. HasNoted l new) (sym (append-nil ts)) (subst (λ found. IfSome found (HasPassed ts)) (sym given.apart) h);
    silent = λ off. All-nil (λ p. is_comment p.what ≡ false);
  }

  pub reads_self : (old new : Context A) (x : Located) → GivesAway old new → Reads old old x → Reads old new x
  reads_self old new x given h =
      let same : token_end new ≡ token_end old = ap end_of given.scanner in
      record { value = h.value; starts = h.starts; ends = h.ends ∙ sym same; on = omega (arith, same) }

  -- a colon after a name
  module _ (old mid new : Context A) (given : GivesAway old mid) where
    pub kept_given : Keeps mid new → Keeps old new
    kept_given h = record {
      text = h.text ∙ ap text_of given.scanner;
      options = h.options ∙ ap options_of given.scanner;
      tokens = h.tokens ∙ ap (λ v. is_some v) given.tokens;
      comments = h.comments ∙ given.comments;
      apart = h.apart ∙ ap (λ v. is_some v) given.apart;
      decodes = h.decodes ∙ given.decodes;
    }

    pub collects_given : Collects mid new → Collects old new
    collects_given h = collects_on old mid new (kept_self old mid given) (collects_self old mid given) h

    pub colon_given : PassesColon mid new → PassesColon old new
    colon_given = subst (λ s. Between (text_of s) (Ends (options_of s) 0x3A) (end_of s) (token_end new)) given.scanner

  pub no_colon_given : (old mid : Context A) → GivesAway old mid → NoColon mid → NoColon old
  no_colon_given old mid given = subst (λ s. (r : List ℕ) → Ends (options_of s) 0x3A (rest (text_of s) (end_of s)) r → ⊥) given.scanner

  pub stops_given : (old mid : Context A) (e : ParseError) → GivesAway old mid → StopsAtColon mid e → StopsAtColon old e
  stops_given old mid e given =
      subst (λ s. (whole : Bool) (q : List Opened) → IsAllocationFailure e ⊎ HasFaultFrom (options_of s) whole (at q colon (rest (text_of s) (end_of s))) (fault_in (text_of s) e)) given.scanner
