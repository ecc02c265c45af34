-- How far the text of a pointer was read.
use Rattle.std.specs.Prelude.{◌≡◌, ◌++◌, [], ◌∷◌, ℕ, Bool, true, List, Some, if◌then◌else◌, IsTrue}
use Rattle.jsonc_text.specs.Text.{no}
use Rattle.jsonc_parser.specs.patch.Pointer.{is_escape, pointer_text}
use Rattle.jsonc_parser.specs.declared.patch.pointer.PointerError.{PointerError}
use Rattle.jsonc_parser.specs.declared.patch.pointer.PointerError.TheVariants.{InvalidEscape, NoLeadingSlash, OutOfMemory}

-- the text of tokens that ended, of the one that is read, and of a `~` whose second character is still to be read
abbrev pub text_so_far : List (List ℕ) → List ℕ → Bool → List ℕ
text_so_far tokens token tilde = pointer_text (tokens ++ token ∷ []) ++ (if tilde then 0x7E ∷ [] else [])

-- the character may not follow a `~` that is at the place; or there was no memory for it
abbrev pub IsFaultOfChar : Bool → ℕ → ℕ → PointerError → Type 0
IsFaultOfChar tilde place c (InvalidEscape at) = (tilde ≡ true) × IsTrue (no is_escape (Some c)) × (at ≡ place)
IsFaultOfChar tilde place c OutOfMemory = Unit {0}
IsFaultOfChar tilde place c NoLeadingSlash = ⊥
