use Rattle.std.proofs.Common.{◌∙◌, chars, sym}
use Rattle.jsonc_layout.specs.input.Views.{plain}
use Rattle.jsonc_parser.proofs.lemmas.patch.Edited.{kept_same}
use Rattle.jsonc_parser.proofs.lemmas.patch.Failing.{no_container}
use Rattle.jsonc_parser.proofs.lemmas.patch.Steps.{array_by, no_array_by, no_object_by, object_by}
use Rattle.jsonc_parser.proofs.patch.making.add_below.Goals as goal

pub add_element-requires-clause-array : goal.add_element-requires-clause-array
add_element-requires-clause-array g c = array_by c.args.doc.now c.args.doc.now.tree.tree c.args.container c.requires c.as_array.result c.as_array.ensures (sym c.is_some.ensures ∙ c.if-is_some.true)

pub add_member-requires-clause-object : goal.add_member-requires-clause-object
add_member-requires-clause-object g c = object_by c.args.doc.now c.args.doc.now.tree.tree c.args.container c.requires c.as_object.result c.as_object.ensures (sym c.is_some-2.ensures ∙ c.if-is_some-2.true)

pub returns-clause-kept : goal.returns-clause-kept
returns-clause-kept g c = kept_same c.args.doc.now

pub returns-clause-fails : goal.returns-clause-fails
returns-clause-fails g c =
    let doc = c.args.doc.now in
    let no_object = no_object_by doc doc.tree.tree c.args.container c.requires c.as_object.result c.as_object.ensures (sym c.is_some-2.ensures ∙ c.if-is_some-2.false) in
    let no_array = no_array_by doc doc.tree.tree c.args.container c.requires c.as_array.result c.as_array.ensures (sym c.is_some.ensures ∙ c.if-is_some.false) in
    no_container doc doc.tree.tree c.args.container (chars c.args.token.now) (plain c.args.value.now) no_object no_array
