-- Commands with their arguments.
use Rattle.std.specs.Prelude.{Bool, true, false, not, ◌&&◌, Option, Some, None}
use Rattle.jsonc_words.specs.declared.call.Text.{Text}
use Rattle.jsonc_words.specs.declared.call.Command.{Command}
use Rattle.jsonc_words.specs.declared.call.Command.TheVariants as command
use Rattle.jsonc_words.specs.declared.call.TrailingCommas.{TrailingCommas}
use Rattle.jsonc_words.specs.declared.call.TrailingCommas.TheVariants as commas
use Rattle.jsonc_words.specs.declared.name.CommandName.{CommandName}
use Rattle.jsonc_words.specs.declared.name.CommandName.TheVariants as name
use Rattle.jsonc_words.specs.Names.{works_in_place}

-- the name of a command
abbrev pub name_of : Command → CommandName
name_of (command.Check format all) = name.Check
name_of command.Print = name.Print
name_of (command.Set key value) = name.Set
name_of (command.Append value) = name.Append
name_of (command.Remove key comments) = name.Remove
name_of (command.Sort at recursive headers) = name.Sort
name_of (command.Drop place comments) = name.Drop
name_of (command.Get place raw) = name.Get
name_of (command.Put place value) = name.Put
name_of (command.Rename place key) = name.Rename
name_of (command.Comment place text after) = name.Comment
name_of (command.Patch patch most) = name.Patch
name_of (command.Merge patch) = name.Merge
name_of command.Json = name.Json
name_of (command.Lint format commas) = name.Lint
name_of (command.Format options) = name.Format
name_of command.Mend = name.Mend

-- whether the command writes the document, which is what `--in-place` is for
abbrev pub writes_document : Command → Bool
writes_document (command.Format options) = not options.only_checks && not options.shows_diff
writes_document other = works_in_place (name_of other)

-- whether the word of `--trailing-commas` sets them
abbrev pub is_multiline : Option TrailingCommas → Bool
is_multiline (Some commas.Multiline) = true
is_multiline other = false

-- whether the command sets trailing commas
abbrev pub sets_commas : Command → Bool
sets_commas (command.Format options) = is_multiline options.trailing_commas
sets_commas other = false

-- the text of the argument that `-f` may give, where the command has one
abbrev pub text_in : Command → Option Text
text_in (command.Set key value) = Some value.text
text_in (command.Append value) = Some value.text
text_in (command.Put place value) = Some value.text
text_in (command.Comment place text after) = Some text
text_in (command.Patch patch most) = Some patch
text_in (command.Merge patch) = Some patch
text_in other = None
