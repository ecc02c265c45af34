-- What the JSON text of a patch says (RFC 6902, 3 and 4).
use Rattle.std.specs.Prelude.{◌≡◌, ℕ, List, [], ◌∷◌, Some, codes}
use Rattle.jsonc_text.specs.Grammar.{IsDocument}
use Rattle.jsonc_text.specs.Options.{Options}
use Rattle.jsonc_text.specs.Plain.{Plain, string, array, object, Items, no_items, item, Members, no_members, member}
use Rattle.jsonc_insert.specs.named.Members.{LacksMember}
use Rattle.jsonc_parser.specs.patch.Equality.{HasMember, HasUniqueNames}
use Rattle.jsonc_parser.specs.patch.Operations.{Operation, add, remove, replace, move, copy, test}
use Rattle.jsonc_parser.specs.patch.Pointer.{pointer_text}

-- no two members have one name
abbrev pub NamesDiffer : Members → Type 0
NamesDiffer no_members = Unit {0}
NamesDiffer (member name v ms) = LacksMember name ms × NamesDiffer ms

-- the member `op` is this string
abbrev pub IsNamed : List ℕ → Members → Type 0
IsNamed name ms = HasMember (codes "op") (string name) ms

-- the member of this name is the text of the pointer of these tokens (RFC 6901, 3)
abbrev pub PointsTo : List ℕ → List (List ℕ) → Members → Type 0
PointsTo name tokens ms = HasMember name (string (pointer_text tokens)) ms

-- the member `value` is this value, in which no name occurs twice
abbrev pub HasOperand : Plain → Members → Type 0
HasOperand v ms = HasMember (codes "value") v ms × HasUniqueNames v

-- 4.1 to 4.6: the members of each operation; others are ignored
abbrev pub Says : Members → Operation → Type 0
Says ms (add tokens v) = IsNamed (codes "add") ms × PointsTo (codes "path") tokens ms × HasOperand v ms
Says ms (remove tokens) = IsNamed (codes "remove") ms × PointsTo (codes "path") tokens ms
Says ms (replace tokens v) = IsNamed (codes "replace") ms × PointsTo (codes "path") tokens ms × HasOperand v ms
Says ms (move from tokens) = IsNamed (codes "move") ms × PointsTo (codes "from") from ms × PointsTo (codes "path") tokens ms
Says ms (copy from tokens) = IsNamed (codes "copy") ms × PointsTo (codes "from") from ms × PointsTo (codes "path") tokens ms
Says ms (test tokens v) = IsNamed (codes "test") ms × PointsTo (codes "path") tokens ms × HasOperand v ms

-- 4: the value is an object, no two of whose members have one name, that says the operation
pub record IsOperation (w : Plain) (o : Operation) : Type 0 where
  pub members : Members
  pub is : w ≡ object members
  pub differ : NamesDiffer members
  pub says : Says members o

-- 3: an array of operations
pub data AreOperations : Items → List Operation → Type 0 where
  no_operations : AreOperations no_items []
  one_operation : {w : Plain} {vs : Items} {o : Operation} {os : List Operation} → IsOperation w o → AreOperations vs os → AreOperations (item w vs) (o ∷ os)

-- under these options the text is a document, whose value is the array of these operations
pub record IsPatch (options : Options) (text : List ℕ) (os : List Operation) : Type 0 where
  pub values : Items
  pub document : IsDocument options text (Some (array values))
  pub operations : AreOperations values os
