-- What a parser has before it.
use Rattle.std.specs.Prelude.{ℕ, ◌≡◌, ◌≢◌, ◌≤◌, ◌⊎◌, Bool, false, List, ◌∷◌, length, Option, Some, None, is_some, option_map, Result, Ok, Err}
use Rattle.jsonc_text.specs.Lexemes.{Scanned, LexemeKind, lexeme, punctuation}
use Rattle.jsonc_text.specs.declared.common.Range.{Range}
use Rattle.jsonc_text.specs.Options.{Options}
use Rattle.jsonc_text.specs.Places.{is_comment}
use Rattle.jsonc_scan.specs.Scanner.{text_of, start_of, end_of, options_of}
use Rattle.jsonc_scan.specs.Scanner.{IsThere, scanned_seen}
use Rattle.jsonc_scan.specs.declared.found.TokenKind.{TokenKind}
use Rattle.jsonc_text.specs.Gaps.{Gap}
use Rattle.jsonc_text.specs.Grammar.{IsName, Separates, Closes}
use Rattle.jsonc_walk.specs.declared.container.Container.{Container}
use Rattle.jsonc_walk.specs.declared.context.Context.{Context}
use Rattle.jsonc_walk.specs.Containers.{closing}
use Rattle.jsonc_walk.specs.Located.{LocatedName, Between, In, One, Ends, TrailingComma}

-- t is a gap, a comma and a gap, and then r
abbrev pub AfterComma : Options → List ℕ → List ℕ → Type 0
AfterComma o t r = (u : List ℕ) × Gap o t (0x2C ∷ u) × Gap o u r

-- it is none, or a lexeme
abbrev pub IsNoComment : Option Scanned → Type 0
IsNoComment None = Unit {0}
IsNoComment (Some t) = is_comment t ≡ false

-- the token is a lexeme, and does not close the container
abbrev pub ClosesNone : Container → Scanned → Type 0
ClosesNone k t = (l : LexemeKind) × (t ≡ lexeme l) × (l ≢ punctuation (closing k))

-- the token opens no container
abbrev pub OpensNone : Scanned → Type 0
OpensNone t = (t ≢ lexeme (punctuation 0x5B)) × (t ≢ lexeme (punctuation 0x7B))

module _ {A : Type 0} where
  -- the bytes of the whole text
  abbrev pub text_in : Context A → List ℕ
  text_in c = text_of c.scanner

  -- what the text may hold
  abbrev pub options_in : Context A → Options
  options_in c = options_of c.scanner

  -- the place where the last token began
  abbrev pub token_start : Context A → ℕ
  token_start c = start_of c.scanner

  -- the place where it ended: what comes after it is still to be parsed
  abbrev pub token_end : Context A → ℕ
  token_end c = end_of c.scanner

  -- from the one to the other
  abbrev pub token_range : Context A → Range
  token_range c = record { start = token_start c; end = token_end c }

  -- whether tokens are collected
  abbrev pub tokens_asked : Context A → Bool
  tokens_asked c = is_some c.tokens

  -- whether comments are collected apart
  abbrev pub comments_asked : Context A → Bool
  comments_asked c = is_some c.comments

  -- what the last token is, if it is of this kind
  abbrev pub last : Context A → TokenKind → Scanned
  last c k = scanned_seen c.scanner c.content k

  -- what was found: what the last token is, or none
  abbrev pub found_in : Context A → Option TokenKind → Option Scanned
  found_in c = option_map (last c)

  -- so, where a call went well
  abbrev pub found_by : {E : Type 0} → Context A → Result (Option TokenKind) E → Result (Option Scanned) E
  found_by c (Ok f) = Ok (found_in c f)
  found_by c (Err e) = Err e

  -- nothing but what is held of the last token has changed
  pub record GivesAway (old new : Context A) : Type 0 where
    pub scanner : new.scanner ≡ old.scanner
    pub decodes : new.decodes ≡ old.decodes
    pub tokens : new.tokens ≡ old.tokens
    pub comments : new.comments_are_tokens ≡ old.comments_are_tokens
    pub apart : new.comments ≡ old.comments

  -- the token is the last one
  abbrev pub IsToken : Context A → Scanned → Type 0
  IsToken c t = IsThere c.scanner (Some t)

  -- the text and the options stay, and whether strings are decoded, tokens are collected, and comments among them or apart
  pub record Keeps (old new : Context A) : Type 0 where
    pub text : text_in new ≡ text_in old
    pub options : options_in new ≡ options_in old
    pub decodes : new.decodes ≡ old.decodes
    pub tokens : tokens_asked new ≡ tokens_asked old
    pub comments : new.comments_are_tokens ≡ old.comments_are_tokens
    pub apart : comments_asked new ≡ comments_asked old

  -- what gap says stands between the two last tokens
  abbrev pub Passes : (List ℕ → List ℕ → Type 0) → Context A → Context A → Type 0
  Passes gap old new = Between (text_in old) gap (token_end old) (token_start new)

  -- the end of the text, after a gap; or a token after one
  abbrev pub Finds : (List ℕ → List ℕ → Type 0) → Context A → Context A → Option Scanned → Type 0
  Finds gap old new found = Passes gap old new × IsThere new.scanner found

  -- the last token is this punctuation
  abbrev pub IsBracket : ℕ → Context A → Type 0
  IsBracket bracket c = Between (text_in c) (One bracket) (token_start c) (token_end c)

  -- a token, with what gap says before it; or none past a closing bracket, with what close says up to there
  abbrev pub Leads : (List ℕ → List ℕ → Type 0) → (List ℕ → List ℕ → Type 0) → ℕ → Context A → Context A → Option Scanned → Type 0
  Leads gap close bracket old new None = Between (text_in old) close (token_end old) (token_end new) × IsBracket bracket new × (token_end old ≤ token_start new)
  Leads gap close bracket old new (Some t) = Passes gap old new × IsToken new t

  -- after an opening bracket: the first item, or the closing bracket
  abbrev pub LeadsToFirst : Container → Context A → Context A → Option Scanned → Type 0
  LeadsToFirst k old new = Leads (Gap (options_in old)) (Ends (options_in old) (closing k)) (closing k) old new

  -- after an item: the next item, or the closing bracket
  abbrev pub LeadsToNext : Container → Context A → Context A → Option Scanned → Type 0
  LeadsToNext k old new = Leads (Separates (options_in old)) (Closes (options_in old) (closing k)) (closing k) old new

  -- the same after an item and a comma
  abbrev pub LeadsAfterComma : Container → Context A → Context A → Option Scanned → Type 0
  LeadsAfterComma k old new = Leads (Gap (options_in old)) (TrailingComma (options_in old) (closing k)) (closing k) old new

  -- a colon is the last token, after a gap
  abbrev pub PassesColon : Context A → Context A → Type 0
  PassesColon old new = Between (text_in old) (Ends (options_in old) 0x3A) (token_end old) (token_end new)

  -- the last token is the name
  abbrev pub IsNameHere : Context A → LocatedName → Type 0
  IsNameHere c n = In (text_in c) (λ t r. IsName (options_in c) t n.name r) (token_range c)

  -- the last token is the end of the text
  abbrev pub AtEnd : Context A → Type 0
  AtEnd c = (token_start c ≡ length (text_in c)) × (token_end c ≡ length (text_in c))

  -- between the end of an item and the token stands a comma and gaps; or a gap alone, and the token is no comma
  abbrev pub Comes : Context A → Context A → Scanned → Type 0
  Comes old new t = Passes (AfterComma (options_in old)) old new ⊎ Passes (Gap (options_in old)) old new × (t ≢ lexeme (punctuation 0x2C))
