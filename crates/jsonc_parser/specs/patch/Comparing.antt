-- How values for edits are compared.
use Rattle.std.specs.Prelude.{◌≡◌, ℕ, List}
use Rattle.jsonc_parser.specs.patch.Numbers.{SameNumber}
use Rattle.jsonc_parser.specs.declared.patch.equality.Numbers.{Numbers}
use Rattle.jsonc_parser.specs.declared.patch.equality.Numbers.TheVariants.{ByText, ByValue}

-- when two texts of numbers are the same
abbrev pub same_by : Numbers → List ℕ → List ℕ → Type 0
same_by ByText s t = s ≡ t
same_by ByValue s t = SameNumber s t
