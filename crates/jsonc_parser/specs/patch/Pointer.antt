-- The text of a JSON Pointer (RFC 6901, 3): tokens, each after a `/`.
use Rattle.std.specs.Prelude.{◌≡◌, ◌≢◌, ◌++◌, [], ◌∷◌, ◌==◌, ◌||◌, ℕ, Bool, List, flat_map, if◌then◌else◌, IsTrue, Option, Some, None}
use Rattle.jsonc_text.specs.Text.{byte_length, next, no}
use Rattle.jsonc_parser.specs.paths.Found.{names_of}
use Rattle.jsonc_parser.specs.declared.patch.pointer.Pointer.{Pointer}
use Rattle.jsonc_parser.specs.declared.patch.pointer.PointerError.{PointerError}
use Rattle.jsonc_parser.specs.declared.patch.pointer.PointerError.TheVariants.{InvalidEscape, NoLeadingSlash, OutOfMemory}

-- what is written for a character of a token: `~0` for `~`, `~1` for `/`, and any other as it is
abbrev pub escaped : ℕ → List ℕ
escaped c = if c == 0x7E then 0x7E ∷ 0x30 ∷ [] else (if c == 0x2F then 0x7E ∷ 0x31 ∷ [] else c ∷ [])

abbrev pub token_text : List ℕ → List ℕ
token_text token = 0x2F ∷ flat_map escaped token

-- the pointer of these tokens
abbrev pub pointer_text : List (List ℕ) → List ℕ
pointer_text tokens = flat_map token_text tokens

-- the text begins, with a character that is no `/`
pub record LacksSlash (text : List ℕ) : Type 0 where
  pub first : ℕ
  pub rest : List ℕ
  pub is : text ≡ first ∷ rest
  pub another : first ≢ 0x2F

-- the character of an escape after its `~`
abbrev pub is_escape : ℕ → Bool
is_escape c = c == 0x30 || c == 0x31

-- at this place, after a pointer of one token or more, is a `~` with neither `0` nor `1` after it
pub record HasLooseTilde (text : List ℕ) (place : ℕ) : Type 0 where
  pub tokens : List (List ℕ)
  pub rest : List ℕ
  pub is : text ≡ pointer_text tokens ++ 0x7E ∷ rest
  pub in_token : tokens ≢ []
  pub at : place ≡ byte_length (pointer_text tokens)
  pub loose : IsTrue (no is_escape (next rest))

-- why the text was refused; memory is needed only for a token
abbrev pub IsPointerFault : List ℕ → PointerError → Type 0
IsPointerFault text NoLeadingSlash = LacksSlash text
IsPointerFault text (InvalidEscape place) = HasLooseTilde text place
IsPointerFault text OutOfMemory = (rest : List ℕ) × (text ≡ 0x2F ∷ rest)

-- where the text goes wrong
abbrev pub place_of : PointerError → Option ℕ
place_of NoLeadingSlash = Some 0
place_of (InvalidEscape place) = Some place
place_of OutOfMemory = None

module _ {A : Type 0} where
  -- the tokens of a pointer
  abbrev pub tokens_of : Pointer A → List (List ℕ)
  tokens_of pointer = names_of pointer.tokens.items
