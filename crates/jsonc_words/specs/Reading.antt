-- What a call says, by the matches of `clap`.
use Rattle.std.specs.Prelude.{◌≡◌, ◌+◌, ◌≤◌, ℕ, Bool, true, false, List, [], ◌∷◌, ◌++◌, Option, Some, None, codes, option_map, option_and_then, IfSome, drop, slice_get}
use Rattle.std.specs.Option.{option_map_or}
use Rattle.std.specs.Str.Parse.{digits_value, without_leading_plus}
use Rattle.clap.specs.Matches.{first_value, found_of, matched_of, one_text, raw_values}
use Rattle.clap.specs.declared.parser.matches.Found.{Found}
use Rattle.jsonc_words.specs.Inputs.{AreInputs, IsInput}
use Rattle.jsonc_words.specs.declared.call.Call.{Call}
use Rattle.jsonc_words.specs.declared.call.Command.{Command}
use Rattle.jsonc_words.specs.declared.call.Command.TheVariants as command
use Rattle.jsonc_words.specs.declared.call.Dialect.{Dialect}
use Rattle.jsonc_words.specs.declared.call.Dialect.TheVariants as dialect
use Rattle.jsonc_words.specs.declared.call.Format.{Format}
use Rattle.jsonc_words.specs.declared.call.Format.TheVariants as format
use Rattle.jsonc_words.specs.declared.call.FormatOptions.{FormatOptions}
use Rattle.jsonc_words.specs.declared.call.Indent.{Indent}
use Rattle.jsonc_words.specs.declared.call.Indent.TheVariants as indent
use Rattle.jsonc_words.specs.declared.call.LineEnd.{LineEnd}
use Rattle.jsonc_words.specs.declared.call.LineEnd.TheVariants as end
use Rattle.jsonc_words.specs.declared.call.TrailingCommas.{TrailingCommas}
use Rattle.jsonc_words.specs.declared.call.TrailingCommas.TheVariants as commas
use Rattle.jsonc_words.specs.declared.name.CommandName.{CommandName}
use Rattle.jsonc_words.specs.declared.name.CommandName.TheVariants as name
use Rattle.jsonc_words.specs.Commands.{name_of}
use Rattle.jsonc_words.specs.Names.{text_of}
use Rattle.clap.specs.Built.{IsParsedFrom}
use Rattle.clap.specs.Simple.{HasMatchesOf, app_of}
use Rattle.clap.specs.declared.builder.command.Command as clap
use Rattle.clap.specs.declared.parser.matches.ArgMatches.{ArgMatches}
use Rattle.jsonc_words.specs.declared.call.Text.{Text}
use Rattle.jsonc_words.specs.declared.call.Text.TheVariants.{Word, In}
use Rattle.jsonc_words.specs.declared.call.Value.{Value}

abbrev pub option_list : Option (List ℕ) → List (List ℕ)
option_list None = []
option_list (Some word) = word ∷ []

-- an option without a value was given or not
pub record IsFlag (found : Found) (id : List ℕ) (given : Bool) : Type 0 where
  pub none : one_text found id ≡ None → given ≡ false
  pub yes : one_text found id ≡ Some (codes "true") → given ≡ true
  pub no : one_text found id ≡ Some (codes "false") → given ≡ false

-- the first value of an argument is the word
abbrev pub IsWord : Found → List ℕ → List ℕ → Type 0
IsWord found id word = first_value found id ≡ Some word

-- the text of an argument is in what `-f` names, or else it is the argument's word
abbrev pub IsText : Found → List ℕ → Text → Type 0
IsText found id (Word word) =
    (first_value found (codes "from-file") ≡ None) × IsWord found id word.now
IsText found id (In input) =
    (name : List ℕ) × IsWord found (codes "from-file") name × IsInput name input

pub record IsValue (found : Found) (value : Value) : Type 0 where
  pub text : IsText found (codes "json") value.text
  pub string : IsFlag found (codes "string") value.is_string

abbrev pub IsFormat : Found → Format → Type 0
IsFormat found format.Json = IsWord found (codes "format") (codes "json")
IsFormat found format.Text = IsWord found (codes "format") (codes "json") → ⊥

-- the level of indent that `--indent` asks for: a tab, or as many spaces as its digit says
abbrev pub IsIndent : Found → Option Indent → Type 0
IsIndent found (Some indent.Tab) = IsWord found (codes "indent") (codes "tab")
IsIndent found (Some (indent.Spaces n)) = (n ≤ 8) × IsWord found (codes "indent") ((0x30 + n) ∷ [])
IsIndent found None =
    (IsWord found (codes "indent") (codes "0") → ⊥)
    × (IsWord found (codes "indent") (codes "1") → ⊥)
    × (IsWord found (codes "indent") (codes "2") → ⊥)
    × (IsWord found (codes "indent") (codes "3") → ⊥)
    × (IsWord found (codes "indent") (codes "4") → ⊥)
    × (IsWord found (codes "indent") (codes "5") → ⊥)
    × (IsWord found (codes "indent") (codes "6") → ⊥)
    × (IsWord found (codes "indent") (codes "7") → ⊥)
    × (IsWord found (codes "indent") (codes "8") → ⊥)
    × (IsWord found (codes "indent") (codes "tab") → ⊥)

-- the end of lines that `--line-end` asks for
abbrev pub IsLineEnd : Found → Option LineEnd → Type 0
IsLineEnd found (Some end.Lf) = IsWord found (codes "line-end") (codes "lf")
IsLineEnd found (Some end.CrLf) = IsWord found (codes "line-end") (codes "crlf")
IsLineEnd found None = (IsWord found (codes "line-end") (codes "lf") → ⊥)
    × (IsWord found (codes "line-end") (codes "crlf") → ⊥)

-- what `--trailing-commas` asks for
abbrev pub IsTrailingCommas : Found → Option TrailingCommas → Type 0
IsTrailingCommas found (Some commas.Never) = IsWord found (codes "trailing-commas") (codes "never")
IsTrailingCommas found (Some commas.Multiline) = IsWord found (codes "trailing-commas") (codes "multiline")
IsTrailingCommas found None = (IsWord found (codes "trailing-commas") (codes "never") → ⊥)
    × (IsWord found (codes "trailing-commas") (codes "multiline") → ⊥)

abbrev pub IsDialect : Found → Dialect → Type 0
IsDialect found dialect.Json = IsWord found (codes "dialect") (codes "json")
IsDialect found dialect.Jsonc = IsWord found (codes "dialect") (codes "jsonc")
IsDialect found dialect.Json5 = IsWord found (codes "dialect") (codes "json5")
IsDialect found dialect.All = (IsWord found (codes "dialect") (codes "json") → ⊥)
    × (IsWord found (codes "dialect") (codes "jsonc") → ⊥)
    × (IsWord found (codes "dialect") (codes "json5") → ⊥)

-- the number that `--max-bytes` gives, where it is given
pub record IsBound (found : Found) (most : Option ℕ) : Type 0 where
  pub none : one_text found (codes "max-bytes") ≡ None → most ≡ None
  pub number : (word : List ℕ) → one_text found (codes "max-bytes") ≡ Some word
      → IfSome most (λ n. n ≡ digits_value 10 (without_leading_plus word))

pub record AreFormatOptions (found : Found) (options : FormatOptions) : Type 0 where
  pub indent : IsIndent found options.indent
  pub line_end : IsLineEnd found options.line_end
  pub expand : IsFlag found (codes "expand") options.expand
  pub trailing_commas : IsTrailingCommas found options.trailing_commas
  pub check : IsFlag found (codes "check") options.only_checks
  pub diff : IsFlag found (codes "diff") options.shows_diff

-- the arguments and options of a command are those that `clap` found
abbrev pub IsCommand : Found → Command → Type 0
IsCommand found (command.Check format all) = IsFormat found format × IsFlag found (codes "all") all
IsCommand found command.Print = Unit {0}
IsCommand found (command.Set name value) =
    IsWord found (codes "name") name.now × IsValue found value
IsCommand found (command.Append value) = IsValue found value
IsCommand found (command.Remove name comments) =
    IsWord found (codes "name") name.now × IsFlag found (codes "comments") comments
IsCommand found (command.Sort at recursive headers) =
    (option_map (λ place. place.now) at ≡ first_value found (codes "at"))
    × IsFlag found (codes "recursive") recursive × IsFlag found (codes "keep-headers") headers
IsCommand found (command.Drop place comments) =
    IsWord found (codes "place") place.now × IsFlag found (codes "comments") comments
IsCommand found (command.Get place raw) =
    IsWord found (codes "place") place.now × IsFlag found (codes "raw") raw
IsCommand found (command.Put place value) =
    IsWord found (codes "place") place.now × IsValue found value
IsCommand found (command.Rename place name) =
    IsWord found (codes "place") place.now × IsWord found (codes "name") name.now
IsCommand found (command.Comment place text after) = IsWord found (codes "place") place.now
    × IsText found (codes "text") text × IsFlag found (codes "after") after
IsCommand found (command.Patch patch most) =
    IsText found (codes "patch") patch × IsBound found most
IsCommand found (command.Merge patch) = IsText found (codes "patch") patch
IsCommand found command.Json = Unit {0}
IsCommand found (command.Lint format commas) =
    IsFormat found format × IsFlag found (codes "no-trailing-commas") commas
IsCommand found (command.Format options) = AreFormatOptions found options
IsCommand found command.Mend = Unit {0}

-- the command of this name, as `clap` found it
pub record IsCommandOf (found : Found) (name : CommandName) (command : Command) : Type 0 where
  pub named : name_of command ≡ name
  pub arguments : IsCommand found command

-- the argument of a command that `-f` may give, where it has one
abbrev pub text_id : CommandName → Option (List ℕ)
text_id name.Set = Some (codes "json")
text_id name.Append = Some (codes "json")
text_id name.Put = Some (codes "json")
text_id name.Comment = Some (codes "text")
text_id name.Patch = Some (codes "patch")
text_id name.Merge = Some (codes "patch")
text_id other = None

-- a word in the place of an argument that `-f` gives
abbrev pub moved_word : Found → CommandName → Option (List ℕ)
moved_word found name = option_and_then (λ from. option_and_then (first_value found) (text_id name))
    (first_value found (codes "from-file"))

-- the words of the files: one in the place of an argument that `-f` gives is the first of them
abbrev pub file_words : Found → CommandName → List (List ℕ)
file_words found name = option_list (moved_word found name)
    ++ option_map_or raw_values (matched_of found (codes "files")) []

-- the call is what `clap` found for the command of this name
pub record IsRead (found : Found) (name : CommandName) (call : Call) : Type 0 where
  pub command : IsCommandOf found name call.command
  pub dialect : IsDialect found call.dialect
  pub must_exist : IsFlag found (codes "must-exist") call.must_exist
  pub in_place : IsFlag found (codes "in-place") call.in_place
  pub files : AreInputs (file_words found name) call.files.items

-- the call is what `clap` found in these words, of which the first names the command
pub record IsReadFrom (name : CommandName) (words : List (List ℕ)) (call : Call) : Type 0 where
  pub matches : ArgMatches
  pub command : clap.Command
  pub parsed : IsParsedFrom command matches
  pub taken : HasMatchesOf (app_of command) words matches
  pub read : IsRead (found_of matches) name call

-- the call is what `clap` found in the words after the program's name, of which the first names the command
pub record IsAskedBy (words : List (List ℕ)) (call : Call) : Type 0 where
  pub name : CommandName
  pub word : slice_get words 1 ≡ Some (text_of name)
  pub rest : IsReadFrom name (drop 1 words) call
