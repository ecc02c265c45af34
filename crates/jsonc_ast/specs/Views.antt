-- What the values of `ast` stand for.
use Rattle.std.specs.Prelude.{◌≡◌, List, [], ◌∷◌, ◌++◌, map, chars}
use Rattle.std.specs.Cow.{cow_str_bytes}
use Rattle.jsonc_text.specs.Plain.{Plain, null, boolean, number, string}
use Rattle.jsonc_walk.specs.Located.{Located, LocatedItems, LocatedMember, LocatedMembers, items_of, leaf_at, array_at, members_of, object_at, value_at}
use Rattle.jsonc_walk.specs.Name.{name_at}
use Rattle.jsonc_ast.specs.declared.ast.Value.{Value, fold-Value}
use Rattle.jsonc_ast.specs.declared.ast.ObjectProp.{ObjectProp, fold-ObjectProp}
use Rattle.jsonc_ast.specs.declared.ast.Object.{Object, fold-Object}
use Rattle.jsonc_ast.specs.declared.ast.Value.TheOpen.{Value-F, Array-F, Object-F, ObjectProp-F}

-- one level, where what is inside stands for its located values
abbrev pub value_step : {A : Type 0} → Value-F A Located Located Located LocatedMember → Located
value_step (Value-F.StringLit s) = leaf_at s.range (string (chars (cow_str_bytes s.value)))
value_step (Value-F.NumberLit n) = leaf_at n.range (number (chars n.value.now))
value_step (Value-F.BooleanLit b) = leaf_at b.range (boolean b.value)
value_step (Value-F.NullKeyword n) = leaf_at n.range null
value_step (Value-F.Array a) = a
value_step (Value-F.Object o) = o

abbrev pub array_step : {A : Type 0} → Array-F A Located Located Located LocatedMember → Located
array_step a = array_at a.range (items_of a.elements.items)

abbrev pub object_step : {A : Type 0} → Object-F A Located Located Located LocatedMember → Located
object_step o = object_at o.range (members_of o.properties.items)

abbrev pub property_step : {A : Type 0} → ObjectProp-F A Located Located Located LocatedMember → LocatedMember
property_step p = record { range = p.range; name = name_at p.name; value = p.value }

-- a value with the place of each of its nodes
abbrev pub located : {A : Type 0} → Value A → Located
located {A} = fold-Value A Located Located Located LocatedMember value_step array_step object_step property_step

-- the same of a property and an object
abbrev pub member_of : {A : Type 0} → ObjectProp A → LocatedMember
member_of {A} = fold-ObjectProp A Located Located Located LocatedMember value_step array_step object_step property_step

abbrev pub object_located : {A : Type 0} → Object A → Located
object_located {A} = fold-Object A Located Located Located LocatedMember value_step array_step object_step property_step

-- and of an array's elements and an object's properties
abbrev pub items_located : {A : Type 0} → List (Value A) → LocatedItems
items_located vs = items_of (map located vs)

abbrev pub members_located : {A : Type 0} → List (ObjectProp A) → LocatedMembers
members_located ms = members_of (map member_of ms)

-- the plain value of a value
abbrev pub plain : {A : Type 0} → Value A → Plain
plain v = value_at (located v)

-- one more at the end, seen through f
abbrev pub Grown : {X Y : Type 0} → (X → Y) → List X → List X → X → Type 0
Grown f old new x = map f new ≡ map f old ++ f x ∷ []
