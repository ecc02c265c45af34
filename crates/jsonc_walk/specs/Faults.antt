-- What is told of a text that is refused.
-- Throughout, the lexeme l stands from u to r.
use Rattle.std.specs.Prelude.{ℕ, ◌≡◌, Bool, false, cond, ◌&&◌, ◌||◌, ◌==◌, List, [], ◌∷◌, length, Option, Some, None, IfSome, is_some, nat_lt, ◌⊎◌, chars}
use Rattle.jsonc_text.specs.declared.errors.ParseErrorKind.{ParseErrorKind}
use Rattle.jsonc_text.specs.declared.errors.ParseErrorKind.TheVariants.{CommentsNotAllowed, ExpectedColonAfterObjectKey, ExpectedObjectValue, ExpectedStringObjectProperty, ExpectedComma, MultipleRootJsonValues, TrailingCommasNotAllowed, UnexpectedTokenInObject, NestingDepthExceeded}
use Rattle.jsonc_text.specs.Gaps.{Gap, IsComment}
use Rattle.jsonc_text.specs.Lexemes.{Scanned, LexemeKind, Lexeme, lexeme, punctuation, string}
use Rattle.jsonc_text.specs.Options.{Options}
use Rattle.jsonc_text.specs.declared.errors.ParseError.{ParseError}
use Rattle.jsonc_text.specs.Faults.{kind_of, range_of}
use Rattle.jsonc_text.specs.Text.{rest}
use Rattle.jsonc_walk.specs.declared.context.Context.{Context}
use Rattle.jsonc_walk.specs.Context.{text_in, options_in}
use Rattle.jsonc_walk.specs.Refusals.{IsAllocationFailure, here, after}
use Rattle.jsonc_scan.specs.Faults.{LexemeFault}
use Rattle.jsonc_walk.specs.declared.container.Container.{Container}
use Rattle.jsonc_walk.specs.declared.container.Container.TheVariants.{Array, Object}
use Rattle.jsonc_walk.specs.Containers.{closing, unterminated_kind, begins, misplaced_kind}
use Rattle.jsonc_walk.specs.Scanned.{begins_value, unexpected_kind}
use Rattle.jsonc_walk.specs.Reached.{Opened, container, property, Due, document, end, first, further, comma, colon, value, ItemMayCome, ValueMayCome, Place, at, count, is_deep, ComesTo}

-- a fault: its kind, and where its range begins and ends
pub data Fault : Type 0 where
  fault : ParseErrorKind → List ℕ → List ℕ → Fault

-- where the innermost that is open begins, or else u
abbrev pub innermost : List Opened → List ℕ → List ℕ
innermost [] u = u
innermost (container k a ∷ q) u = a
innermost (property a ∷ q) u = a

-- the place after the character there
abbrev pub past_one : List ℕ → List ℕ
past_one [] = []
past_one (c ∷ r) = r

-- the lexeme is this punctuation
abbrev pub is_mark : ℕ → LexemeKind → Bool
is_mark c (punctuation d) = d == c
is_mark c _ = false

-- too deep: told from the innermost that is open through the lexeme, or of the lexeme alone
abbrev pub deep : Bool → List Opened → List ℕ → List ℕ → Fault
deep whole q u r = fault NestingDepthExceeded (cond whole (innermost q u) u) r

-- what is wrong with the lexeme where a value must begin, if anything
abbrev pub wrong_value : Bool → List Opened → LexemeKind → List ℕ → List ℕ → Option Fault
wrong_value whole q l u r
    = cond (is_deep whole q l) (Some (deep whole q u r)) (cond (begins_value (lexeme l)) None (Some (fault (unexpected_kind (lexeme l)) u r)))

-- where a name must stand
abbrev pub wrong_name : Options → LexemeKind → List ℕ → List ℕ → Option Fault
wrong_name o (string v) u r = None
wrong_name o (punctuation c) u r = Some (fault UnexpectedTokenInObject u r)
wrong_name o _ u r = cond o.loose_names None (Some (fault ExpectedStringObjectProperty u r))

-- where an element or a property must begin
abbrev pub wrong_item : Options → Bool → Container → List Opened → LexemeKind → List ℕ → List ℕ → Option Fault
wrong_item o whole Array q l u r = wrong_value whole q l u r
wrong_item o whole Object q l u r = wrong_name o l u r

-- where a comma must stand, after what ends at e: where an item could begin, the comma is missing
abbrev pub wrong_comma : Container → List ℕ → LexemeKind → List ℕ → List ℕ → Fault
wrong_comma k e l u r = cond (begins k (lexeme l)) (fault ExpectedComma e e) (fault (misplaced_kind k (lexeme l)) u r)

-- what is wrong with the lexeme where this is due, if anything
abbrev pub wrong : Options → Bool → List Opened → Due → LexemeKind → List ℕ → List ℕ → Option Fault
wrong o whole q document l u r = wrong_value whole q l u r
wrong o whole q end l u r = Some (fault MultipleRootJsonValues u r)
wrong o whole q (first k) l u r = cond (is_mark (closing k) l) None (wrong_item o whole k q l u r)
wrong o whole q (further k c) l u r
    = cond (is_mark (closing k) l) (cond o.trailing_commas None (Some (fault TrailingCommasNotAllowed c (past_one c)))) (wrong_item o whole k q l u r)
wrong o whole q (comma k e) l u r
    = cond (is_mark (closing k) l || is_mark 0x2C l) None (cond o.missing_commas (wrong_item o whole k q l u r) (Some (wrong_comma k e l u r)))
wrong o whole q colon l u r = cond (is_mark 0x3A l) None (Some (fault ExpectedColonAfterObjectKey u r))
wrong o whole q value l u r = wrong_value whole q l u r

-- the text ends in a container: told from where that begins, or of the end alone
abbrev pub open_at_end : Bool → List Opened → Container → Fault
open_at_end whole q k = fault (unterminated_kind k) (cond whole (innermost q []) []) []

-- what is wrong with the end of the text where this is due, if anything
abbrev pub wrong_end : Bool → List Opened → Due → Option Fault
wrong_end whole q document = None
wrong_end whole q end = None
wrong_end whole q (first k) = Some (open_at_end whole q k)
wrong_end whole q (further k c) = Some (open_at_end whole q k)
wrong_end whole q (comma k e) = Some (open_at_end whole q k)
wrong_end whole q colon = Some (fault ExpectedColonAfterObjectKey [] [])
wrong_end whole q value = Some (cond (whole && nat_lt 512 (length q)) (deep whole q [] []) (fault ExpectedObjectValue [] []))

-- reading stops at the place with this fault: past a gap a lexeme is refused, a comment is not allowed, a lexeme is wrong there, or the end is
pub data Stops (o : Options) (whole : Bool) : Place → Fault → Type 0 where
  no_lexeme : {q : List Opened} {d : Due} {kind : ParseErrorKind} {t u a b : List ℕ} → Gap o t u → LexemeFault o kind u a b
      → Stops o whole (at q d t) (fault kind a b)
  comment : {q : List Opened} {d : Due} {t u : List ℕ} (r : List ℕ) → o.comments ≡ false → Gap o t u → IsComment u r
      → Stops o whole (at q d t) (fault CommentsNotAllowed u r)
  wrong_lexeme : {q : List Opened} {d : Due} {f : Fault} {t u : List ℕ} (l : LexemeKind) (r : List ℕ) → Gap o t u
      → Lexeme o l u r → wrong o whole q d l u r ≡ Some f → Stops o whole (at q d t) f
  wrong_ending : {q : List Opened} {d : Due} {f : Fault} {t : List ℕ} → Gap o t [] → wrong_end whole q d ≡ Some f → Stops o whole (at q d t) f

-- reading on from the place stops with this fault
abbrev pub HasFaultFrom : Options → Bool → Place → Fault → Type 0
HasFaultFrom o whole p f = (n : Place) × ComesTo o whole p n × Stops o whole n f

-- of the text s this fault is told
abbrev pub HasFault : Options → Bool → List ℕ → Fault → Type 0
HasFault o whole s f = HasFaultFrom o whole (at [] document s) f

-- the fault, by the places of its range
abbrev pub fault_in : List ℕ → ParseError → Fault
fault_in bytes e = fault (kind_of e) (rest bytes (range_of e).start) (rest bytes (range_of e).end)

-- the text from the place on, where one is given
abbrev pub IsFrom : List ℕ → Option ℕ → List ℕ → Type 0
IsFrom bytes start a = IfSome start (λ i. a ≡ rest bytes i)

-- allocation failed, or this fault is told of the text
abbrev pub ParseFault : Options → List ℕ → Bool → ParseError → Type 0
ParseFault o bytes whole e = IsAllocationFailure e ⊎ HasFault o whole (chars bytes) (fault_in bytes e)

module _ {A : Type 0} where
  -- allocation failed, or reading stops after the last token with this fault, whatever is open or due
  abbrev pub StopsAnyhow : Context A → ParseError → Type 0
  StopsAnyhow c e = IsAllocationFailure e ⊎ ((whole : Bool) (q : List Opened) (d : Due) → Stops (options_in c) whole (at q d (after c)) (fault_in (text_in c) e))

  -- allocation failed, or reading on from the place stops with this fault
  abbrev pub StopsFrom : Context A → Bool → Place → ParseError → Type 0
  StopsFrom c whole p e = IsAllocationFailure e ⊎ HasFaultFrom (options_in c) whole p (fault_in (text_in c) e)

  -- the same after the last token
  abbrev pub StopsAfter : Context A → Bool → List Opened → Due → ParseError → Type 0
  StopsAfter c whole q d e = StopsFrom c whole (at q d (after c)) e

  -- in a container that begins there, whatever that is in
  abbrev pub StopsInside : Container → Option ℕ → Due → Context A → ParseError → Type 0
  StopsInside k start d c e = (q : List Opened) (a : List ℕ) → IsFrom (text_in c) start a → StopsAfter c (is_some start) (container k a ∷ q) d e

  -- after a name
  abbrev pub StopsAtColon : Context A → ParseError → Type 0
  StopsAtColon c e = (whole : Bool) (q : List Opened) → StopsAfter c whole q colon e

  -- the fault is what is wrong with the last token where a name must stand
  abbrev pub IsWrongName : Context A → Scanned → ParseError → Type 0
  IsWrongName c t e = (l : LexemeKind) → t ≡ lexeme l → wrong_name (options_in c) l (here c) (after c) ≡ Some (fault_in (text_in c) e)

  -- no value begins with the last token, and the fault says so
  abbrev pub IsUnexpected : Context A → Scanned → ParseError → Type 0
  IsUnexpected c t e = (l : LexemeKind) → t ≡ lexeme l
      → (begins_value (lexeme l) ≡ false)
      × (fault (unexpected_kind (lexeme l)) (here c) (after c) ≡ fault_in (text_in c) e)

  -- from there past a gap the last token stands, a lexeme, and an element or a property must begin with it
  pub record ItemStarts (k : Container) (c : Context A) (t : Scanned) (whole : Bool) (q : List Opened) (d : Due) (s : List ℕ) : Type 0 where
    pub may : ItemMayCome (options_in c) k d
    pub gap : Gap (options_in c) s (here c)
    pub lexeme_here : (l : LexemeKind) × (t ≡ lexeme l)
    pub must : (l : LexemeKind) (u r : List ℕ) → t ≡ lexeme l → wrong (options_in c) whole q d l u r ≡ wrong_item (options_in c) whole k q l u r

  -- a value must
  pub record ValueStarts (c : Context A) (t : Scanned) (whole : Bool) (q : List Opened) (d : Due) (s : List ℕ) : Type 0 where
    pub may : ValueMayCome (options_in c) d
    pub gap : Gap (options_in c) s (here c)
    pub lexeme_here : (l : LexemeKind) × (t ≡ lexeme l)
    pub must : (l : LexemeKind) (u r : List ℕ) → t ≡ lexeme l → wrong (options_in c) whole q d l u r ≡ wrong_value whole q l u r

  -- a container may begin with it
  abbrev pub ContainerStarts : Context A → Due → List ℕ → Type 0
  ContainerStarts c d s = ValueMayCome (options_in c) d × Gap (options_in c) s (here c)

  -- from each place where so many of what is open count and an item must begin with the last token, reading on stops with this fault
  abbrev pub StopsAtItem : Container → Context A → Scanned → Bool → ℕ → ParseError → Type 0
  StopsAtItem k c t whole n e = (q : List Opened) (d : Due) (s : List ℕ) → count whole q ≡ n → ItemStarts k c t whole q d s → StopsFrom c whole (at q d s) e

  -- where a value must
  abbrev pub StopsAtValue : Context A → Scanned → Bool → ℕ → ParseError → Type 0
  StopsAtValue c t whole n e = (q : List Opened) (d : Due) (s : List ℕ) → count whole q ≡ n → ValueStarts c t whole q d s → StopsFrom c whole (at q d s) e

  -- where a container may
  abbrev pub StopsAtContainer : Context A → Bool → ℕ → ParseError → Type 0
  StopsAtContainer c whole n e = (q : List Opened) (d : Due) (s : List ℕ) → count whole q ≡ n → ContainerStarts c d s → StopsFrom c whole (at q d s) e
