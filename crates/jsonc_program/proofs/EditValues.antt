-- A located value, variant by variant.
use Rattle.std.proofs.Common.{◌≡◌, rules, chars}
use Rattle.std.specs.Cow.{cow_str_bytes}
use Rattle.jsonc_text.specs.Plain.{null, boolean, number, string}
use Rattle.jsonc_walk.specs.Located.{leaf_at, array_at, object_at}
use Rattle.jsonc_ast.specs.Views.{located, items_located, members_located}
use Rattle.jsonc_walk.specs.declared.name.StringLit.{StringLit}
use Rattle.jsonc_ast.specs.declared.ast.NumberLit.{NumberLit}
use Rattle.jsonc_ast.specs.declared.ast.BooleanLit.{BooleanLit}
use Rattle.jsonc_ast.specs.declared.ast.NullKeyword.{NullKeyword}
use Rattle.jsonc_ast.specs.declared.ast.Value.{the_lemmas}
use Rattle.jsonc_ast.specs.declared.ast.Value as value
use Rattle.jsonc_ast.specs.declared.ast.Array.{Array}
use Rattle.jsonc_ast.specs.declared.ast.Object.{Object}
use Rattle.jsonc_ast.specs.declared.ast.Object as object_parts

pub view-Array : {A : Type 0} (a : Array A) → located (value.Array a) ≡ array_at a.range (items_located a.elements.items)
view-Array a = search (rules, the_lemmas)

pub view-Object : {A : Type 0} (o : Object A) → located (value.Object o) ≡ object_at (object_parts.out-Object A o).range (members_located (object_parts.out-Object A o).properties.items)
view-Object o = search (rules, the_lemmas)

pub view-StringLit : {A : Type 0} (s : StringLit A) → located (value.StringLit s) ≡ leaf_at s.range (string (chars (cow_str_bytes s.value)))
view-StringLit s = search (rules, the_lemmas)

pub view-NumberLit : (A : Type 0) (n : NumberLit) → located {A = A} (value.NumberLit n) ≡ leaf_at n.range (number (chars n.value.now))
view-NumberLit A n = search (rules, the_lemmas)

pub view-BooleanLit : (A : Type 0) (b : BooleanLit) → located {A = A} (value.BooleanLit b) ≡ leaf_at b.range (boolean b.value)
view-BooleanLit A b = search (rules, the_lemmas)

pub view-NullKeyword : (A : Type 0) (n : NullKeyword) → located {A = A} (value.NullKeyword n) ≡ leaf_at n.range null
view-NullKeyword A n = search (rules, the_lemmas)
