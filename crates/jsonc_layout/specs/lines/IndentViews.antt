-- What texts and indents in memory are.
use Rattle.std.specs.Prelude.{ℕ, List, Option, String, option_map, string_bytes}
use Rattle.jsonc_layout.specs.lines.Indents.{IndentTexts}
use Rattle.jsonc_layout.specs.declared.lines.indents.Indents.{Indents}

-- the text, if there is one
abbrev pub text_in : {A : Type 0} → Option (String A) → Option (List ℕ)
text_in o = option_map string_bytes o

module _ {A : Type 0} where
  abbrev pub texts_of : Indents A → IndentTexts
  texts_of i = record { current = string_bytes i.current; single = string_bytes i.single }
