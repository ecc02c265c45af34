-- How the objects of a patch's text are read.
use Rattle.std.specs.Prelude.{◌≡◌, ◌≢◌, ℕ, List, chars, codes}
use Rattle.jsonc_walk.specs.Name.{name_text}
use Rattle.jsonc_walk.specs.Located.{members_at}
use Rattle.jsonc_ast.specs.Views as ast
use Rattle.jsonc_ast.specs.Views.{members_located}
use Rattle.jsonc_ast.specs.declared.ast.ObjectProp.{ObjectProp}
use Rattle.jsonc_layout.specs.input.Views.{chars_of}
use Rattle.jsonc_text.specs.Plain.{Plain, Members}
use Rattle.jsonc_parser.specs.declared.patch.operation.OperationFault.{OperationFault}
use Rattle.jsonc_parser.specs.declared.patch.operation.OperationFault.TheVariants.{RepeatedName, OutOfMemory}
use Rattle.jsonc_parser.specs.declared.patch.reading.Kind.{Kind}
use Rattle.jsonc_parser.specs.declared.patch.reading.Kind.TheVariants.{Add, Remove, Replace, Move, Copy, Test}

-- the members that properties say
abbrev pub said : {A : Type 0} → List (ObjectProp A) → Members
said ps = members_at (members_located ps)

-- the name and the value of a property
abbrev pub pair_of : {A : Type 0} → ObjectProp A → List ℕ × Plain
pair_of p = (chars (name_text p.name), ast.plain p.value)

-- the name of operations of a kind
abbrev pub kind_name : Kind → List ℕ
kind_name Add = codes "add"
kind_name Remove = codes "remove"
kind_name Replace = codes "replace"
kind_name Move = codes "move"
kind_name Copy = codes "copy"
kind_name Test = codes "test"

-- no kind has this name
abbrev pub IsNoKind : List ℕ → Type 0
IsNoKind name = (kind : Kind) → name ≢ kind_name kind

-- the fault has this name, or reports that there was no memory for it
abbrev pub ReportsRepeated : {A : Type 0} → List ℕ → OperationFault A → Type 0
ReportsRepeated name (RepeatedName s) = chars_of s ≡ name
ReportsRepeated name OutOfMemory = Unit {0}
ReportsRepeated name other = ⊥
