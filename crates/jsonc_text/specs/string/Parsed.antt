-- The string at a place, whatever follows it.
use Rattle.std.specs.Prelude.{ℕ, ◌+◌, ◌≡◌, ◌≢◌, ◌≤◌, Bool, List, [], ◌∷◌, Option, Some, None, chars, IsCharBoundary}
use Rattle.std.specs.declared.borrow.CowStr.{CowStr}
use Rattle.std.specs.Cow.{cow_str_bytes}
use Rattle.jsonc_text.specs.declared.string.provider.ParseStringError.{ParseStringError}
use Rattle.jsonc_text.specs.declared.errors.ParseStringErrorKind.TheVariants.{OutOfMemory}
use Rattle.std.specs.Char.{len_utf8}
use Rattle.jsonc_text.specs.Chars.{Steps}
use Rattle.jsonc_text.specs.Text.{rest}
use Rattle.jsonc_text.specs.Options.{all_on}
use Rattle.jsonc_text.specs.Lexemes.{IsScanned, lexeme, string}
use Rattle.jsonc_text.specs.string.Between.{Between, NoneFrom}
use Rattle.jsonc_text.specs.string.Escapes.{escapes, IsLentUnescaped}
use Rattle.jsonc_text.specs.string.Quotes.{OpensString}
use Rattle.jsonc_text.specs.string.Faults.{StringErrorAt}

-- the character at a place, or none at the end
abbrev pub StandsHere : List ℕ → ℕ → Option ℕ → Type 0
StandsHere bytes place None = rest bytes place ≡ []
StandsHere bytes place (Some c) = Steps bytes place c (place + len_utf8 c)

-- from a place to the one after its character, or nowhere at the end
pub record PassesChar (bytes : List ℕ) (i j : ℕ) : Type 0 where
  pub stays : rest bytes i ≡ [] → j ≡ i
  pub steps : (c : ℕ) (r : List ℕ) → rest bytes i ≡ c ∷ r → Steps bytes i c j

-- no string stands at a place
abbrev pub NoString : Bool → List ℕ → ℕ → Type 0
NoString taken bytes start = (v : List ℕ) → NoneFrom (IsScanned (escapes taken) (lexeme (string v))) bytes start

-- one of the two quotes stands at a place
abbrev pub BeginsString : List ℕ → ℕ → Type 0
BeginsString bytes start = (q : ℕ) × OpensString all_on bytes start q

-- why no string was decoded: none stands at the place, or memory is wanted
pub record IsStringError (taken : Bool) (bytes : List ℕ) (start : ℕ) (e : ParseStringError) : Type 0 where
  pub boundary : IsCharBoundary bytes e.byte_index
  pub order : start ≤ e.byte_index
  pub none : e.kind ≢ OutOfMemory → NoString taken bytes start
  pub error : e.kind ≢ OutOfMemory → StringErrorAt taken e.kind (rest bytes start) (rest bytes e.byte_index)

module _ {A : Type 0} where
  -- a string stands from one place to another, and stands for s, which the text lends where no backslash is in it
  pub record Parses (taken : Bool) (bytes : List ℕ) (start end : ℕ) (s : CowStr A) : Type 0 where
    pub stands : Between (IsScanned (escapes taken) (lexeme (string (chars (cow_str_bytes s))))) bytes start end
    pub lent : IsLentUnescaped bytes start end s

  -- the same, wherever the string ends
  abbrev pub ParsesFront : Bool → List ℕ → ℕ → CowStr A → Type 0
  ParsesFront taken bytes start s = (end : ℕ) × Parses taken bytes start end s
