-- Files and standard input, and where the text of an argument is read from.
use Rattle.std.specs.Prelude.{◌≡◌, ◌≢◌, ℕ, Bool, true, false, List, codes, map}
use Rattle.std.specs.List.{All}
use Rattle.jsonc_words.specs.declared.call.Input.{Input}
use Rattle.jsonc_words.specs.declared.call.Input.TheVariants.{Standard, File}
use Rattle.jsonc_words.specs.declared.call.Text.{Text}
use Rattle.jsonc_words.specs.declared.call.Text.TheVariants.{Word, In}

-- the word that names an input
abbrev pub word_of : Input → List ℕ
word_of Standard = codes "-"
word_of (File name) = name.now

-- no file is named `-`, which is standard input
abbrev pub IsNamed : Input → Type 0
IsNamed Standard = Unit {0}
IsNamed (File name) = name.now ≢ codes "-"

-- the word names the input
pub record IsInput (word : List ℕ) (input : Input) : Type 0 where
  pub written : word_of input ≡ word
  pub named : IsNamed input

-- each word names an input
pub record AreInputs (words : List (List ℕ)) (inputs : List Input) : Type 0 where
  pub written : map word_of inputs ≡ words
  pub named : All IsNamed inputs

abbrev pub is_standard : Input → Bool
is_standard Standard = true
is_standard (File name) = false

-- whether the text is read from standard input
abbrev pub reads_standard : Text → Bool
reads_standard (Word word) = false
reads_standard (In input) = is_standard input
