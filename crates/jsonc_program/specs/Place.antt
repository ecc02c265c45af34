-- The words of places.
use Rattle.std.specs.Prelude.{◌≡◌, ◌==◌, ◌||◌, ℕ, Bool, true, false, List, [], ◌∷◌}
use Rattle.jsonc_engine.specs.Command.{is_pointer}
use Rattle.jsonc_engine.specs.declared.command.Place.{Place}
use Rattle.jsonc_engine.specs.declared.command.Place.TheVariants.{Names, Pointer}

-- a word is taken as an array of names where it begins with `[`
abbrev pub is_names : List ℕ → Bool
is_names [] = false
is_names (c ∷ rest) = c == 0x5B

-- a word that is empty or begins with `/` is a pointer, and one that begins with `[` an array of names
abbrev pub IsPlace : List ℕ → Place → Type 0
IsPlace word (Pointer pointer) = (pointer.now ≡ word) × (is_pointer word ≡ true)
IsPlace word (Names names) = (names.now ≡ word) × (is_names word ≡ true)

-- the word names no place
abbrev pub IsNoPlace : List ℕ → Type 0
IsNoPlace word = (is_pointer word ≡ false) × (is_names word ≡ false)
