-- What a walk over a text hands to a receiver, and what is made of it.
use Rattle.std.specs.Prelude.{ℕ, ◌+◌, ◌-◌, ◌≤◌, ◌≡◌, ◌⊎◌, ◌||◌, ◌==◌, IsCharBoundary, IsTrue, Bool, List, [], ◌∷◌, ◌++◌, Option, Some, None, option_map, chars, slice_range}
use Rattle.jsonc_text.specs.declared.common.Range.{Range}
use Rattle.jsonc_text.specs.declared.errors.ParseError.{ParseError}
use Rattle.jsonc_text.specs.Lexemes.{Scanned, LexemeKind, Lexeme, lexeme, string, number}
use Rattle.jsonc_text.specs.Gaps.{Gap}
use Rattle.jsonc_text.specs.Options.{Options}
use Rattle.jsonc_text.specs.StringValue.{string_value}
use Rattle.jsonc_text.specs.string.Escapes.{HoldsBackslash}
use Rattle.jsonc_walk.specs.Located.{Located, LocatedName, leaf_at, range_at, value_at, Between, In, IsLocatedDocument, One, LocatedMember}
use Rattle.jsonc_walk.specs.declared.context.Context.{Context}
use Rattle.jsonc_walk.specs.Context.{text_in, options_in, token_range, IsNameHere}
use Rattle.jsonc_walk.specs.Faults.{IsUnexpected, IsWrongName}
use Rattle.jsonc_walk.specs.Reached.{size, per_property}
use Rattle.jsonc_walk.specs.Reads.{Reads, ReadsMember}
use Rattle.jsonc_walk.specs.Refusals.{IsAllocationFailure}
use Rattle.jsonc_walk.specs.Scanned.{leaf_value, loose_text}

-- a text by its bytes, and what it may hold
pub record Source : Type 0 where
  pub bytes : List ℕ
  pub options : Options

-- the characters from one place to another
abbrev pub chars_between : Source → ℕ → ℕ → List ℕ
chars_between s i j = chars (slice_range s.bytes i j)

-- what the string in a range stands for
abbrev pub value_in : Source → Range → List ℕ
value_in s r = string_value s.bytes r.start r.end

-- the lexeme stands in the range
abbrev pub HasLexeme : Source → LexemeKind → Range → Type 0
HasLexeme s k r = In s.bytes (Lexeme s.options k) r

-- a string without a backslash does: it means what stands between its quotes
pub record HasPlainString (s : Source) (r : Range) : Type 0 where
  pub stands : HasLexeme s (string (chars_between s (r.start + 1) (r.end - 1))) r
  pub plain : HoldsBackslash s.bytes r.start r.end → ⊥

-- a string with a backslash does, and means v
pub record HasEscapedString (s : Source) (r : Range) (v : List ℕ) : Type 0 where
  pub stands : HasLexeme s (string v) r
  pub escaped : HoldsBackslash s.bytes r.start r.end

-- a number does
abbrev pub HasNumber : Source → Range → Type 0
HasNumber s r = HasLexeme s (number (chars_between s r.start r.end)) r

-- what may be a name without quotes does
pub record HasLooseName (s : Source) (r : Range) : Type 0 where
  pub kind : LexemeKind
  pub stands : HasLexeme s kind r
  pub text : loose_text (lexeme kind) ≡ Some (chars_between s r.start r.end)

-- the place was reached, between two characters
pub record Follows (s : Source) (is_reached : ℕ → Type 0) (i : ℕ) : Type 0 where
  pub reached : is_reached i
  pub boundary : IsCharBoundary s.bytes i

-- the place was reached, or a comma or a colon alone stands between it and one that was
pub data IsBehind (s : Source) (is_reached : ℕ → Type 0) : ℕ → Type 0 where
  at_place : {i : ℕ} → is_reached i → IsBehind s is_reached i
  behind_mark : {c i j : ℕ} → IsTrue (c == 0x2C || c == 0x3A) → is_reached i → Between s.bytes (One c) i j → IsBehind s is_reached j

-- a gap leads from the place to one from which each gap leads to a place that was reached
abbrev pub ReachesBehind : Source → (ℕ → Type 0) → ℕ → Type 0
ReachesBehind s is_reached i = (p : ℕ) × Between s.bytes (Gap s.options) i p × ((k : ℕ) → Between s.bytes (Gap s.options) p k → is_reached k)

-- what is named or held at the one state is so at the other
pub record StaysHeld {S P E O : Type 0} (names : S → S → P → LocatedName → Type 0) (holds_elements : S → S → E → ℕ → List Located → Type 0) (holds_properties : S → S → O → ℕ → List LocatedMember → Type 0) (old new : S) : Type 0 where
  pub named : (s : S) (p : P) (n : LocatedName) → names s old p n → names s new p n
  pub elements : (s : S) (a : E) (i : ℕ) (xs : List Located) → holds_elements s old a i xs → holds_elements s new a i xs
  pub properties : (s : S) (o : O) (i : ℕ) (ms : List LocatedMember) → holds_properties s old o i ms → holds_properties s new o i ms

-- something is made of a value between two states, and gaps are passed before and after
abbrev pub MadeBetweenGaps : {S I : Type 0} → (S → S → Type 0) → (S → S → I → Located → Type 0) → S → S → I → Located → Type 0
MadeBetweenGaps {S} passes makes old new i x = (m : S) × (n : S) × passes old m × makes m n i x × passes n new

-- a property's range is from its name through its value
pub record Covers (r : Range) (n : LocatedName) (x : Located) : Type 0 where
  pub starts : r.start ≡ n.range.start
  pub ends : r.end ≡ (range_at x).end

-- a token is a value by itself, and something is made of that
pub record LeafMade (r : Range) (t : Scanned) (is_made : Located → Type 0) : Type 0 where
  pub leaf : Located
  pub is : Some leaf ≡ option_map (leaf_at r) (leaf_value t)
  pub made : is_made leaf

module _ {A : Type 0} where
  abbrev pub source_of : Context A → Source
  source_of c = record { bytes = text_in c; options = options_in c }

  -- a value was read, inside of so many of what counts, and something is made of it
  pub record ReadsMade (old new : Context A) (whole : Bool) (count : ℕ) (is_made : Located → Type 0) : Type 0 where
    pub value : Located
    pub reads : Reads old new value
    pub within : size whole (value_at value) + count ≤ 512
    pub made : is_made value

  -- a value was, and what held elements now holds this one too
  pub record ElementMade (old new : Context A) (whole : Bool) (count : ℕ) (held holds_now : List Located → Type 0) : Type 0 where
    pub element : Located
    pub reads : Reads old new element
    pub within : size whole (value_at element) + count ≤ 512
    pub put : (xs : List Located) → held xs → holds_now (xs ++ element ∷ [])

  -- a property was, and what held properties now holds this one too
  pub record PropertyMade (old new : Context A) (whole : Bool) (count : ℕ) (held holds_now : List LocatedMember → Type 0) : Type 0 where
    pub member : LocatedMember
    pub reads : ReadsMember old new member
    pub within : size whole (value_at member.value) + (count + per_property whole) ≤ 512
    pub put : (ms : List LocatedMember) → held ms → holds_now (ms ++ member ∷ [])

  -- the last token is a value by itself, and something is made of it
  pub record ReadsLeaf (c : Context A) (is_made : Located → Type 0) : Type 0 where
    pub leaf : Located
    pub reads : Reads c c leaf
    pub flat : (whole : Bool) → size whole (value_at leaf) ≡ 0
    pub made : is_made leaf

  -- the last token is a name, and something is made of it
  pub record NameMade (c : Context A) (is_made : LocatedName → Type 0) : Type 0 where
    pub name : LocatedName
    pub stands : IsNameHere c name
    pub range : name.range ≡ token_range c
    pub made : is_made name

  -- allocation failed, or the last token is no name, and the fault says so
  abbrev pub IsWrongNameHere : Context A → Scanned → ParseError → Type 0
  IsWrongNameHere c t e = IsAllocationFailure e ⊎ IsWrongName c t e

  -- allocation failed, or no value begins with the last token, and the fault says so
  abbrev pub IsUnexpectedHere : Context A → Scanned → ParseError → Type 0
  IsUnexpectedHere c t e = IsAllocationFailure e ⊎ IsUnexpected c t e

-- the text has no value; or it has one, which is small enough, and something is made of it
abbrev pub IsDocumentMade : {I : Type 0} → Source → Bool → (I → Located → Type 0) → Option I → Type 0
IsDocumentMade s whole makes None = IsLocatedDocument s.options s.bytes None
IsDocumentMade s whole makes (Some i) = (x : Located) × IsLocatedDocument s.options s.bytes (Some x) × (size whole (value_at x) ≤ 512) × makes i x
