-- How findings are printed.
use Rattle.std.specs.Prelude.{◌++◌, ℕ, List, [], codes, string_bytes}
use Rattle.std.specs.Fmt.{decimal}
use Rattle.jsonc_text.specs.Messages.{kind_text}
use Rattle.jsonc_parser.specs.patch.Quoting.{repeated_name_text}
use Rattle.jsonc_lint.specs.declared.finding.FindingKind.{FindingKind}
use Rattle.jsonc_lint.specs.declared.finding.FindingKind.TheVariants.{Fault, RepeatedName, Todo, TrailingComma}
use Rattle.jsonc_lint.specs.declared.finding.FirstProperty.{FirstProperty}

-- where the first property of a name is
abbrev pub first_text : FirstProperty → List ℕ
first_text first = codes ", first on line " ++ (decimal first.line ++ (codes " column " ++ decimal first.column))

module _ {A : Type 0} where
  -- what is told of it, without any place
  abbrev pub told : FindingKind A → List ℕ
  told (Fault kind) = kind_text kind
  told (RepeatedName name first) = repeated_name_text (string_bytes name)
  told Todo = codes "Comment says TODO"
  told TrailingComma = codes "Trailing comma"

  -- what is told behind it: of a repeated name where the first property is
  abbrev pub told_behind : FindingKind A → List ℕ
  told_behind (RepeatedName name first) = first_text first
  told_behind _ = []

  -- one line, without the finding's place
  abbrev pub message : FindingKind A → List ℕ
  message kind = told kind ++ told_behind kind

  -- the kind's name in JSON
  abbrev pub kind_name : FindingKind A → List ℕ
  kind_name (Fault kind) = codes "fault"
  kind_name (RepeatedName name first) = codes "repeated-name"
  kind_name Todo = codes "todo"
  kind_name TrailingComma = codes "trailing-comma"
