-- The values and texts of worked rows.
use Rattle.std.specs.Prelude.{ℕ, List, ◌∷◌, ◌++◌, true, codes}
use Rattle.jsonc_text.specs.Words.{boolean}
use Rattle.jsonc_text.specs.Lexemes.{LexemeKind}
use Rattle.jsonc_text.specs.Plain.{Plain, item, no_items, member, no_members}

-- an array of the numbers `5.` and `.5`
abbrev pub five_five : Plain
five_five = Plain.array (item (Plain.number (codes "5.")) (item (Plain.number (codes ".5")) no_items))

-- an object whose one name is `Infinity-x`
abbrev pub infinity_x : Plain
infinity_x = Plain.object (member (codes "Infinity-x") (Plain.number (codes "1")) no_members)

-- the keyword `true`
abbrev pub true_keyword : LexemeKind
true_keyword = LexemeKind.keyword (boolean true)

-- `\uD834\uDD1E`
abbrev pub clef_escaped : List ℕ
clef_escaped = 0x5C ∷ codes "uD834" ++ 0x5C ∷ codes "uDD1E"

-- `\uDC00`
abbrev pub low_escaped : List ℕ
low_escaped = 0x5C ∷ codes "uDC00"

-- `["é" @]`
abbrev pub accented : List ℕ
accented = codes "[\"" ++ 0xE9 ∷ codes "\" @]"

-- `//x`, a CR and `@`
abbrev pub after_carriage_return : List ℕ
after_carriage_return = codes "//x" ++ 0x0D ∷ codes "@"
