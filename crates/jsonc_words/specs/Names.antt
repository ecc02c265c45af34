-- The names of the commands.
use Rattle.std.specs.Prelude.{ℕ, Bool, true, false, List, codes}
use Rattle.jsonc_words.specs.declared.name.CommandName.{CommandName}
use Rattle.jsonc_words.specs.declared.name.CommandName.TheVariants.{Check, Print, Set, Append, Remove, Sort, Drop, Get, Put, Rename, Comment, Patch, Merge, Json, Lint, Format, Mend}

-- the word that names a command
abbrev pub text_of : CommandName → List ℕ
text_of Check = codes "check"
text_of Print = codes "print"
text_of Set = codes "set"
text_of Append = codes "append"
text_of Remove = codes "remove"
text_of Sort = codes "sort"
text_of Drop = codes "drop"
text_of Get = codes "get"
text_of Put = codes "put"
text_of Rename = codes "rename"
text_of Comment = codes "comment"
text_of Patch = codes "patch"
text_of Merge = codes "merge"
text_of Json = codes "json"
text_of Lint = codes "lint"
text_of Format = codes "format"
text_of Mend = codes "mend"

-- the commands that write the document, unless an option asks for a check or a diff
abbrev pub works_in_place : CommandName → Bool
works_in_place Check = false
works_in_place Get = false
works_in_place Json = false
works_in_place Lint = false
works_in_place name = true
