-- Laws of pointers and patches.
use Rattle.std.specs.Prelude.{◌≡◌, ◌∷◌, [], ℕ, List, Option, chars, encode_utf8_all, IsTrue}
use Rattle.std.specs.List.{All}
use Rattle.std.specs.Str.{all_scalars}
use Rattle.jsonc_text.specs.Plain.{Plain}
use Rattle.jsonc_parser.specs.patch.Pointer.{pointer_text}
use Rattle.jsonc_parser.specs.patch.References.{FailsAt, RefersTo}
use Rattle.jsonc_parser.specs.declared.patch.operation.Operation.{Operation}
use Rattle.jsonc_parser.specs.declared.patch.operation.Operation.TheVariants.{Test}

-- what is printed of the first tokens, each of characters, is read as no others
abbrev pub IsReadBack : List (List ℕ) → List (List ℕ) → Type 0
IsReadBack tokens others = All (λ token. IsTrue (all_scalars token)) tokens → pointer_text others ≡ chars (encode_utf8_all (pointer_text tokens)) → others ≡ tokens

-- no two values are what the tokens refer to
abbrev pub RefersToOne : Option Plain → List (List ℕ) → Type 0
RefersToOne w tokens = (u v : Plain) → RefersTo w tokens u → RefersTo w tokens v → u ≡ v

-- nor is one where evaluation fails
abbrev pub FailsWithNone : Option Plain → List (List ℕ) → Type 0
FailsWithNone w tokens = (v : Plain) (name : List ℕ) → RefersTo w tokens v → FailsAt w tokens name → ⊥

-- each of the operations is a test
abbrev pub AreTests : {A : Type 0} → List (Operation A) → Type 0
AreTests [] = Unit {0}
AreTests (Test path v ∷ operations) = AreTests operations
AreTests (operation ∷ operations) = ⊥
