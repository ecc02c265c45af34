-- What a node of the syntax tree holds.
use Rattle.std.specs.Prelude.{Option, Some, None}
use Rattle.jsonc_text.specs.declared.common.Range.{Range}
use Rattle.jsonc_ast.specs.Views.{member_of}
use Rattle.jsonc_ast.specs.Access.{range_of}
use Rattle.jsonc_walk.specs.declared.name.StringLit.{StringLit}
use Rattle.jsonc_walk.specs.declared.name.WordLit.{WordLit}
use Rattle.jsonc_ast.specs.declared.ast.NumberLit.{NumberLit}
use Rattle.jsonc_ast.specs.declared.ast.BooleanLit.{BooleanLit}
use Rattle.jsonc_ast.specs.declared.ast.NullKeyword.{NullKeyword}
use Rattle.jsonc_walk.specs.declared.name.ObjectPropName.{ObjectPropName}
use Rattle.jsonc_walk.specs.declared.name.ObjectPropName.TheVariants.{String, Word}
use Rattle.jsonc_ast.specs.declared.ast.Value.{Value, out-Value}
use Rattle.jsonc_ast.specs.declared.ast.Value.TheOpen.{Value-F}
use Rattle.jsonc_ast.specs.declared.ast.Array.{Array}
use Rattle.jsonc_ast.specs.declared.ast.Object.{Object}
use Rattle.jsonc_ast.specs.declared.ast.ObjectProp.{ObjectProp}
use Rattle.jsonc_ast.specs.declared.ast.node.Node.{Node}
use Rattle.jsonc_ast.specs.declared.ast.node.Node.TheVariants as node
use Rattle.jsonc_ast.specs.declared.ast.node.NodeKind.{NodeKind}
use Rattle.jsonc_ast.specs.declared.ast.node.NodeKind.TheVariants as kind

-- what a node is
pub data Held (A : Type 0) : Type 0 where
  string_lit : StringLit A → Held A
  number_lit : NumberLit → Held A
  boolean_lit : BooleanLit → Held A
  object : Object A → Held A
  object_prop : ObjectProp A → Held A
  array : Array A → Held A
  null_keyword : NullKeyword → Held A
  word_lit : WordLit → Held A

module _ {A : Type 0} where
  -- what the reference of a node leads to
  abbrev pub held : Node A → Held A
  held (node.StringLit s) = string_lit s.now
  held (node.NumberLit n) = number_lit n.now
  held (node.BooleanLit b) = boolean_lit b.now
  held (node.Object o) = object o.now
  held (node.ObjectProp p) = object_prop p.now
  held (node.Array a) = array a.now
  held (node.NullKeyword n) = null_keyword n.now
  held (node.WordLit w) = word_lit w.now

  abbrev level_held : Value-F A (Value A) (Array A) (Object A) (ObjectProp A) → Held A
  level_held (Value-F.StringLit s) = string_lit s
  level_held (Value-F.NumberLit n) = number_lit n
  level_held (Value-F.BooleanLit b) = boolean_lit b
  level_held (Value-F.Object o) = object o
  level_held (Value-F.Array a) = array a
  level_held (Value-F.NullKeyword n) = null_keyword n

  -- what a value is, and a name
  abbrev pub value_held : Value A → Held A
  value_held v = level_held (out-Value A v)

  abbrev pub name_held : ObjectPropName A → Held A
  name_held (String s) = string_lit s
  name_held (Word w) = word_lit w

  -- its kind, and the place of its text
  abbrev pub kind_held : Held A → NodeKind
  kind_held (string_lit s) = kind.StringLit
  kind_held (number_lit n) = kind.NumberLit
  kind_held (boolean_lit b) = kind.BooleanLit
  kind_held (object o) = kind.Object
  kind_held (object_prop p) = kind.ObjectProp
  kind_held (array a) = kind.Array
  kind_held (null_keyword n) = kind.NullKeyword
  kind_held (word_lit w) = kind.WordLit

  abbrev pub range_held : Held A → Range
  range_held (string_lit s) = s.range
  range_held (number_lit n) = n.range
  range_held (boolean_lit b) = b.range
  range_held (object o) = range_of o
  range_held (object_prop p) = (member_of p).range
  range_held (array a) = a.range
  range_held (null_keyword n) = n.range
  range_held (word_lit w) = w.range

  -- what it is, if it is of the kind
  abbrev pub held_string : Held A → Option (StringLit A)
  held_string (string_lit s) = Some s
  held_string _ = None

  abbrev pub held_number : Held A → Option NumberLit
  held_number (number_lit n) = Some n
  held_number _ = None

  abbrev pub held_boolean : Held A → Option BooleanLit
  held_boolean (boolean_lit b) = Some b
  held_boolean _ = None

  abbrev pub held_object : Held A → Option (Object A)
  held_object (object o) = Some o
  held_object _ = None

  abbrev pub held_object_prop : Held A → Option (ObjectProp A)
  held_object_prop (object_prop p) = Some p
  held_object_prop _ = None

  abbrev pub held_array : Held A → Option (Array A)
  held_array (array a) = Some a
  held_array _ = None

  abbrev pub held_null : Held A → Option NullKeyword
  held_null (null_keyword n) = Some n
  held_null _ = None

  abbrev pub held_word : Held A → Option WordLit
  held_word (word_lit w) = Some w
  held_word _ = None
