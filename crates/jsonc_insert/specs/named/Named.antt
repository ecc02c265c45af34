-- Values of properties that are to be arrays or objects: of a property, and of the first one of a name.
use Rattle.std.specs.Prelude.{◌≡◌, ℕ, true, false, List, length, Option, Some, None, if◌then◌else◌}
use Rattle.jsonc_text.specs.Plain.{Plain}
use Rattle.jsonc_tree.specs.Tree.{Node, content_at}
use Rattle.jsonc_layout.specs.nodes.Names.{FirstInObject, HoldsEscapedName}
use Rattle.jsonc_layout.specs.nodes.Properties.{lacks_name_at, value_at}
use Rattle.jsonc_layout.specs.nodes.Siblings.{elements_at}
use Rattle.jsonc_text.specs.declared.edit.EditError.{EditError}
use Rattle.jsonc_text.specs.declared.edit.EditError.TheVariants.{OutOfMemory, MissingBrackets, MissingName}
use Rattle.jsonc_insert.specs.Inserted.{refusal}
use Rattle.jsonc_insert.specs.members.Inserted.{PropertyPut}
use Rattle.jsonc_edit.specs.set.Kinds.{LacksKind}
use Rattle.jsonc_edit.specs.set.PropertyValues.{HeldOrSet}
use Rattle.jsonc_text.specs.declared.edit.Over.{Over}
use Rattle.jsonc_text.specs.declared.edit.Over.TheVariants as over
use Rattle.jsonc_text.specs.declared.edit.Shape.{Shape}
use Rattle.jsonc_edit.specs.set.Shapes.{is_of, empty_of}

-- the property r has a name and a colon; where its value is of the shape nothing has changed, and in the place of another, or where there was none, an
-- empty one has been set, which is m
abbrev pub PropertyValueIs : Shape → List Node → List Node → ℕ → ℕ → Type 0
PropertyValueIs shape old new r m = (lacks_name_at old r ≡ false) × HeldOrSet (is_of shape) (empty_of shape) old new r (value_at old r) m

abbrev pub PropertyValueEnsured : Shape → List Node → List Node → ℕ → Type 0
PropertyValueEnsured shape old new r = (lacks_name_at old r ≡ false) × (m : ℕ) × HeldOrSet (is_of shape) (empty_of shape) old new r (value_at old r) m

-- a property of this name, with an empty value of the shape, has come behind the last one of c, and m is its value
pub record ComesNamed (old new : List Node) (c : ℕ) (name : List ℕ) (v : Plain) (m : ℕ) : Type 0 where
  pub property : ℕ
  pub put : PropertyPut old new c (length (elements_at old c)) name v property
  pub holds : value_at new property ≡ Some m

-- the value, if there is one and it is of the shape
abbrev pub if_shaped : Shape → List Node → Option ℕ → Option ℕ
if_shaped shape ns None = None
if_shaped shape ns (Some n) = if is_of shape (content_at ns n) then Some n else None

-- Of the property that was found, if one was, the value is of the shape now; or nothing has changed, where another value is to stay. Where none was found, one
-- has come. The answer is the value of the shape, if there is one.
abbrev pub EnsuredFor : Shape → Over → List Node → List Node → ℕ → List ℕ → Option ℕ → Option ℕ → Type 0
EnsuredFor shape how old new c name None answer = (m : ℕ) × (answer ≡ Some m) × ComesNamed old new c name (empty_of shape) m
EnsuredFor shape over.Keep old new c name (Some r) answer = (answer ≡ if_shaped shape old (value_at old r)) × (new ≡ old)
EnsuredFor shape over.Replace old new c name (Some r) answer = (m : ℕ) × (answer ≡ Some m) × PropertyValueIs shape old new r m

-- so it is of the first property of the name in c
abbrev pub NamedEnsured : Shape → Over → List Node → List Node → ℕ → List ℕ → Option ℕ → Type 0
NamedEnsured shape how old new c name answer = (found : Option ℕ) × FirstInObject old c name found × EnsuredFor shape how old new c name found answer

-- Memory is wanted: to read a name with a backslash; or for a property that is to come into c, which has its brackets; or for the value of the one that was
-- found, which has its name and its colon, where it holds none of the shape.
pub data WantsMemoryFor (shape : Shape) (ns : List Node) (c : ℕ) (name : List ℕ) : Over → Type 0 where
  to_read : {how : Over} → HoldsEscapedName ns c → WantsMemoryFor shape ns c name how
  to_come : {how : Over} → FirstInObject ns c name None → refusal ns c ≡ OutOfMemory → WantsMemoryFor shape ns c name how
  to_set : (r : ℕ) → FirstInObject ns c name (Some r) → lacks_name_at ns r ≡ false → LacksKind (is_of shape) ns (value_at ns r)
      → WantsMemoryFor shape ns c name over.Replace

-- Why it is not: allocation failed; none has the name, and c lacks a bracket; or the one that has it lacks a colon.
abbrev pub EnsureError : Shape → Over → List Node → ℕ → List ℕ → EditError → Type 0
EnsureError shape how ns c name OutOfMemory = WantsMemoryFor shape ns c name how
EnsureError shape how ns c name MissingBrackets = FirstInObject ns c name None × (refusal ns c ≡ MissingBrackets)
EnsureError shape over.Replace ns c name MissingName = (r : ℕ) × FirstInObject ns c name (Some r) × (lacks_name_at ns r ≡ true)
EnsureError shape how ns c name e = ⊥
