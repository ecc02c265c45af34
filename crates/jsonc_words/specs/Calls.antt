-- Which calls are allowed, and what a reply ends with.
use Rattle.std.specs.Prelude.{◌≡◌, ◌<◌, ◌≤◌, ◌&&◌, ℕ, Bool, true, false, List, length}
use Rattle.std.specs.List.{list_any}
use Rattle.std.specs.Option.{option_map_or}
use Rattle.clap.specs.declared.error.kind.ErrorKind.{ErrorKind}
use Rattle.clap.specs.declared.error.kind.ErrorKind.TheVariants.{DisplayHelp, DisplayVersion, OutOfMemory}
use Rattle.jsonc_words.specs.Commands.{sets_commas, text_in}
use Rattle.jsonc_words.specs.Commands as commands
use Rattle.jsonc_words.specs.Inputs.{is_standard, reads_standard}
use Rattle.jsonc_words.specs.declared.call.Call.{Call}
use Rattle.jsonc_words.specs.declared.call.Dialect.{Dialect}
use Rattle.jsonc_words.specs.declared.call.Dialect.TheVariants as dialect
use Rattle.jsonc_words.specs.declared.call.Input.{Input}
use Rattle.jsonc_words.specs.declared.rules.Misuse.{Misuse}
use Rattle.jsonc_words.specs.declared.rules.Misuse.TheVariants.{NothingToChange, NoFileInPlace, StandardInPlace, SeveralFiles, NoFileBeside, StandardTwice, CommasForbidden}

-- whether one of the files is standard input
abbrev pub has_standard : List Input → Bool
has_standard files = list_any is_standard files

-- whether the command writes the document
abbrev pub writes_document : Call → Bool
writes_document call = commands.writes_document call.command

-- whether documents are read as JSON
abbrev pub is_json : Dialect → Bool
is_json dialect.Json = true
is_json other = false

-- whether trailing commas are to be set in documents of JSON, which has none
abbrev pub forbids_commas : Call → Bool
forbids_commas call = sets_commas call.command && is_json call.dialect

-- whether `-f -` gives an argument of the command
abbrev pub takes_standard : Call → Bool
takes_standard call = option_map_or reads_standard (text_in call.command) false

-- what holds of each call beyond the words of its command
pub record IsAllowed (call : Call) : Type 0 where
  -- with `--in-place` the command writes the document, to files that are named and of which none is standard input
  pub writes : call.in_place ≡ true → writes_document call ≡ true
  pub files : call.in_place ≡ true → 0 < length call.files.items
  pub named : call.in_place ≡ true → has_standard call.files.items ≡ false
  -- without it a command that writes the document has one file at most
  pub one : call.in_place ≡ false → writes_document call ≡ true → length call.files.items ≤ 1
  -- where `-f -` takes standard input, the document is read from files
  pub beside : takes_standard call ≡ true → 0 < length call.files.items
  pub once : takes_standard call ≡ true → has_standard call.files.items ≡ false
  -- trailing commas are set in no document of JSON
  pub commas : forbids_commas call ≡ false

-- what is wrong with a call that is not allowed
abbrev pub Breaks : Misuse → Call → Type 0
Breaks NothingToChange call = (call.in_place ≡ true) × (writes_document call ≡ false)
Breaks NoFileInPlace call = (call.in_place ≡ true) × (length call.files.items ≡ 0)
Breaks StandardInPlace call = (call.in_place ≡ true) × (has_standard call.files.items ≡ true)
Breaks SeveralFiles call =
    (call.in_place ≡ false) × (writes_document call ≡ true) × (1 < length call.files.items)
Breaks NoFileBeside call = (takes_standard call ≡ true) × (length call.files.items ≡ 0)
Breaks StandardTwice call = (takes_standard call ≡ true) × (has_standard call.files.items ≡ true)
Breaks CommasForbidden call = forbids_commas call ≡ true

-- the status for an answer of `clap`
abbrev pub status_of : ErrorKind → ℕ
status_of DisplayHelp = 0
status_of DisplayVersion = 0
status_of OutOfMemory = 1
status_of other = 2
