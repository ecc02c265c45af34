-- The lines of findings, and findings as JSON.
use Rattle.std.specs.Prelude.{◌++◌, ℕ, List, String, if◌then◌else◌, codes, chars, encode_utf8_all, string_bytes}
use Rattle.std.specs.Char.{is_control}
use Rattle.std.specs.Fmt.{decimal}
use Rattle.std.specs.List.{join_by, list_any}
use Rattle.jsonc_text.specs.Spelling.{spelled}
use Rattle.jsonc_lint.specs.Messages.{kind_name, message, told, told_behind}
use Rattle.jsonc_lint.specs.declared.finding.Finding.{Finding}

-- a string of JSON for this text
abbrev pub json_string : List ℕ → List ℕ
json_string text = encode_utf8_all (spelled (chars text))

-- a name as lines show it: as a string of JSON where it has a control character, else as it is
abbrev pub shown_name : List ℕ → List ℕ
shown_name name = if list_any is_control (chars name) then json_string name else name

module _ {A : Type 0} where
  -- the line of a finding in a file
  abbrev pub file_line : List ℕ → Finding A → List ℕ
  file_line file finding = shown_name file ++ (codes ":" ++ (decimal finding.line ++ (codes ":" ++ (decimal finding.column ++ (codes ": " ++ message finding.kind)))))

  -- the line of a finding in standard input
  abbrev pub input_line : Finding A → List ℕ
  input_line finding
      = told finding.kind ++ (codes " on line " ++ (decimal finding.line ++ (codes " column " ++ (decimal finding.column ++ told_behind finding.kind))))

  -- the place of a finding, as members of an object of JSON: its line, its column, and its bytes in the text
  abbrev pub json_place : Finding A → List ℕ
  json_place finding
      = codes "\"line\":" ++ (decimal finding.line ++ (codes ",\"column\":" ++ (decimal finding.column
      ++ (codes ",\"start\":" ++ (decimal finding.range.start ++ (codes ",\"end\":" ++ decimal finding.range.end))))))

  -- an object of JSON on one line
  abbrev pub json_line : List ℕ → Finding A → List ℕ
  json_line file finding
      = codes "{\"file\":" ++ (json_string file ++ (codes "," ++ (json_place finding
      ++ (codes ",\"kind\":\"" ++ (kind_name finding.kind ++ (codes "\",\"message\":" ++ (json_string (message finding.kind) ++ codes "}")))))))

  -- an array of JSON: these objects in their order, each on a line
  abbrev pub json_array : List (String A) → List ℕ
  json_array objects = codes "[" ++ (join_by string_bytes (codes ",\n") objects ++ codes "]\n")
