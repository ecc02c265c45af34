-- What may follow every value in a row.
use Rattle.std.specs.Prelude.{ℕ, Bool, List, ◌||◌, ◌==◌, IsTrue}
use Rattle.jsonc_text.specs.Options.{Options}
use Rattle.jsonc_text.specs.Text.{next, end_or}
use Rattle.jsonc_text.specs.Gaps.{is_blank}
use Rattle.jsonc_sound.specs.Sound.{IsValueBefore}
use Rattle.jsonc_tree.specs.OrderedTree.{Top}

-- a blank, `/`, `,`, `]` or `}`: each literal ends before it
abbrev pub ends_literals : ℕ → Bool
ends_literals c = is_blank c || (c == 0x2F || c == 0x2C || c == 0x5D || c == 0x7D)

-- the text begins with such a character, or is empty
abbrev pub EndsLiterals : List ℕ → Type 0
EndsLiterals r = IsTrue (end_or ends_literals (next r))

-- the node is a value before each such text
abbrev pub StandsInRows : Options → Top → Type 0
StandsInRows o top = (r : List ℕ) → EndsLiterals r → IsValueBefore o top r
