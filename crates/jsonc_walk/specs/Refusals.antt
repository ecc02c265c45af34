-- What an error of a parser says of the text.
use Rattle.std.specs.Prelude.{ℕ, ◌+◌, ◌≤◌, ◌≡◌, Bool, true, false, not, ◌||◌, ◌==◌, List, [], length, Option, Some, None, IfSome, IsTrue, ◌⊎◌, chars}
use Rattle.jsonc_text.specs.declared.common.Range.{Range}
use Rattle.jsonc_text.specs.declared.errors.ParseError.{ParseError}
use Rattle.jsonc_text.specs.declared.errors.ParseErrorKind.{ParseErrorKind}
use Rattle.jsonc_text.specs.declared.errors.ParseErrorKind.TheVariants.{OutOfMemory, CommentsNotAllowed}
use Rattle.jsonc_text.specs.Options.{Options}
use Rattle.jsonc_text.specs.Faults.{IsFault, kind_of, range_of}
use Rattle.jsonc_text.specs.Text.{rest, next, starts}
use Rattle.jsonc_text.specs.Gaps.{Gap}
use Rattle.jsonc_text.specs.Lexemes.{Scanned, LexemeKind, Lexeme}
use Rattle.jsonc_text.specs.Plain.{Plain}
use Rattle.jsonc_text.specs.Grammar.{literal_value, IsValue, IsName, IsProperty, IsDocument, Separates, Closes}
use Rattle.jsonc_walk.specs.Located.{Ends, TrailingComma}
use Rattle.jsonc_walk.specs.declared.container.Container.{Container}
use Rattle.jsonc_walk.specs.declared.context.Context.{Context}
use Rattle.jsonc_walk.specs.Containers.{closing, unterminated_kind}
use Rattle.jsonc_walk.specs.Context.{text_in, options_in, comments_asked, token_start, token_end, token_range}
use Rattle.jsonc_walk.specs.Reached.{size, per_property, FitsIn}

-- allocation failed
abbrev pub IsAllocationFailure : ParseError → Type 0
IsAllocationFailure e = kind_of e ≡ OutOfMemory

-- the fault is of this kind, and told of these bytes
pub record IsFaultOf (what : ParseErrorKind) (bytes : Range) (e : ParseError) : Type 0 where
  pub kind : kind_of e ≡ what
  pub range : range_of e ≡ bytes

-- the place, or else the end of the text
abbrev pub or_end : List ℕ → Option ℕ → ℕ
or_end bytes None = length bytes
or_end bytes (Some i) = i

-- the fault is that of a container that the text ends in, told from a place or of the end
pub record IsOpen (k : Container) (bytes : List ℕ) (place : Option ℕ) (e : ParseError) : Type 0 where
  pub kind : kind_of e ≡ unterminated_kind k
  pub start : (range_of e).start ≡ or_end bytes place
  pub end : (range_of e).end ≡ length bytes

-- a lexeme stands at the front of t
abbrev pub AtLexeme : Options → List ℕ → Type 0
AtLexeme o t = (k : LexemeKind) × (r : List ℕ) × Lexeme o k t r

-- it does, or t is the end
abbrev pub AtToken : Options → List ℕ → Type 0
AtToken o t = (t ≡ []) ⊎ AtLexeme o t

-- no closing bracket, comma or colon
abbrev pub may_begin_item : ℕ → Bool
may_begin_item c = not (c == 0x7D || c == 0x5D || c == 0x2C || c == 0x3A)

-- a lexeme stands at the front of t with which an element or a property may begin
pub record AtItem (o : Options) (t : List ℕ) : Type 0 where
  pub lexeme : AtLexeme o t
  pub first : IsTrue (starts may_begin_item (next t))

-- after t stands neither what close says, nor what gap says and then an item
pub record LeadsNowhere (o : Options) (gap close : List ℕ → List ℕ → Type 0) (t : List ℕ) : Type 0 where
  pub no_close : (r : List ℕ) → close t r → ⊥
  pub no_item : (u : List ℕ) → gap t u → AtItem o u → ⊥

-- what close says does not stand after t, and after what gap says stands no item but at w
pub record LeadsOnlyTo (o : Options) (gap close : List ℕ → List ℕ → Type 0) (t w : List ℕ) : Type 0 where
  pub no_close : (r : List ℕ) → close t r → ⊥
  pub only : (u : List ℕ) → gap t u → AtItem o u → u ≡ w

-- no value stands at the front of t that can stand inside of so many of what counts
abbrev pub NoValue : Options → Bool → List ℕ → ℕ → Type 0
NoValue o whole t count = (v : Plain) (r : List ℕ) → IsValue o t v r → size whole v + count ≤ 512 → ⊥

-- nor a property
abbrev pub NoProperty : Options → Bool → List ℕ → ℕ → Type 0
NoProperty o whole t count = (name : List ℕ) (v : Plain) (r : List ℕ) → IsProperty o t name v r → size whole v + (count + per_property whole) ≤ 512 → ⊥

-- the text has no value that is small enough
abbrev pub NoDocument : Options → Bool → List ℕ → Type 0
NoDocument o whole t = (v : Option Plain) → IsDocument o t v → FitsIn whole v → ⊥

-- allocation failed, or the text has no such value
abbrev pub Refuses : Options → Bool → List ℕ → ParseError → Type 0
Refuses o whole bytes e = IsAllocationFailure e ⊎ NoDocument o whole (chars bytes)

-- at most 512 containers and properties are around each value in it
abbrev pub IsWithin : Option Plain → Type 0
IsWithin v = FitsIn true v

-- allocation failed, or the text has no value that is within
abbrev pub RefusesText : Options → List ℕ → ParseError → Type 0
RefusesText o bytes e = Refuses o true bytes e

-- allocation failed, or this holds
abbrev pub OutOfMemoryOr : Type 0 → ParseError → Type 0
OutOfMemoryOr fact e = IsAllocationFailure e ⊎ fact

-- this holds where a token was found
abbrev pub WhereSome : Type 0 → Option Scanned → Type 0
WhereSome fact found = IfSome found (λ t. fact)

module _ {A : Type 0} where
  -- strings are decoded, as where tokens are collected, or comments are collected apart
  abbrev pub AsksForMemory : Context A → Type 0
  AsksForMemory c = IsTrue (c.decodes || comments_asked c)

  -- the fault is of the text; and no allocation failure, unless the parser asks for memory or its receiver has failed
  pub record IsFaultHere (c : Context A) (has_failed : Type 0) (e : ParseError) : Type 0 where
    pub of_text : IsFault (text_in c) e
    pub memory : IsAllocationFailure e → AsksForMemory c ⊎ has_failed

  -- the text from the last token on
  abbrev pub here : Context A → List ℕ
  here c = rest (text_in c) (token_start c)

  -- the text after the last token
  abbrev pub after : Context A → List ℕ
  after c = rest (text_in c) (token_end c)

  -- allocation failed, or comments are not allowed, and that is told of the last token
  abbrev pub RefusesComment : Context A → ParseError → Type 0
  RefusesComment c e = IsAllocationFailure e ⊎ (((options_in c).comments ≡ false) × (kind_of e ≡ CommentsNotAllowed) × (range_of e ≡ token_range c))

  -- no gap leads to a token
  abbrev pub NoTokenAfter : Context A → Type 0
  NoTokenAfter c = (u : List ℕ) → Gap (options_in c) (after c) u → AtToken (options_in c) u → ⊥

  -- nothing that goes on a container of this kind stands after its opening bracket
  abbrev pub NothingFirst : Container → Context A → Type 0
  NothingFirst k c = LeadsNowhere (options_in c) (Gap (options_in c)) (Ends (options_in c) (closing k)) (after c)

  -- nor after a comma
  abbrev pub NothingAfterComma : Container → Context A → Type 0
  NothingAfterComma k c = LeadsNowhere (options_in c) (Gap (options_in c)) (TrailingComma (options_in c) (closing k)) (after c)

  -- nor after an item
  abbrev pub NothingNext : Container → Context A → Type 0
  NothingNext k c = LeadsNowhere (options_in c) (Separates (options_in c)) (Closes (options_in c) (closing k)) (after c)

  -- the container goes on with the item at hand, and not otherwise
  abbrev pub OnlyFirst : Container → Context A → Context A → Type 0
  OnlyFirst k old new = LeadsOnlyTo (options_in old) (Gap (options_in old)) (Ends (options_in old) (closing k)) (after old) (here new)

  abbrev pub OnlyAfterComma : Container → Context A → Context A → Type 0
  OnlyAfterComma k old new = LeadsOnlyTo (options_in old) (Gap (options_in old)) (TrailingComma (options_in old) (closing k)) (after old) (here new)

  abbrev pub OnlyNext : Container → Context A → Context A → Type 0
  OnlyNext k old new = LeadsOnlyTo (options_in old) (Separates (options_in old)) (Closes (options_in old) (closing k)) (after old) (here new)

  -- a gap and a colon do not stand after the last token
  abbrev pub NoColon : Context A → Type 0
  NoColon c = (r : List ℕ) → Ends (options_in c) 0x3A (after c) r → ⊥

  -- the last token is no name
  abbrev pub NoName : Context A → Type 0
  NoName c = (name r : List ℕ) → IsName (options_in c) (here c) name r → ⊥

  -- the last token is no value by itself
  abbrev pub NoLiteral : Context A → Type 0
  NoLiteral c = (k : LexemeKind) (v : Plain) (r : List ℕ) → Lexeme (options_in c) k (here c) r → literal_value k ≡ Some v → ⊥

  -- no value begins with the last token that can stand inside of so many of what counts
  abbrev pub NoValueHere : Context A → Bool → ℕ → Type 0
  NoValueHere c whole count = NoValue (options_in c) whole (here c) count

  -- nor a property
  abbrev pub NoPropertyHere : Context A → Bool → ℕ → Type 0
  NoPropertyHere c whole count = NoProperty (options_in c) whole (here c) count
