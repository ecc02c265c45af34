use Rattle.std.proofs.Common.{ℕ, List, Option, ◌∙◌, ap, chars, subst}
use Rattle.jsonc_tree.specs.Tree.{Node, children_at}
use Rattle.jsonc_cst.specs.Document.{nodes_of}
use Rattle.jsonc_cst.specs.Nodes.{number_of, typed_at, IsNodeOf}
use Rattle.jsonc_parser.specs.paths.Which.{LastNamed}
use Rattle.jsonc_parser.proofs.lemmas.paths.LastNames.{found_typed, property_there}
use Rattle.jsonc_parser.proofs.paths.which.last_property.Goals as goal

pub returns-in-Ok-Some-clause-found : goal.returns-in-Ok-Some-clause-found
returns-in-Ok-Some-clause-found g c =
    let ns = nodes_of c.args.doc.now in
    let v = chars c.args.name.now in
    let number = c.number.ensures ∙ ap number_of c.node.ensures in
    let last = subst (λ (o : Option ℕ). LastNamed ns v (children_at ns c.args.object.number) o) c.in-Ok-Some.field-0-is (subst (λ (k : ℕ). LastNamed ns v (children_at ns k) c.in-Ok-Some.field-0) number c.in-Ok-Some.ensures.found) in
    found_typed c.args.doc.now c.args.object v c.in-Ok-Some.number c.node_at.result c.as_object_prop.result last (c.node_at.ensures.node ∙ ap (λ (l : List Node). typed_at l c.in-Ok-Some.number) c.tree.ensures) c.as_object_prop.ensures

pub returns-in-Ok-Some-clause-in_document : goal.returns-in-Ok-Some-clause-in_document
returns-in-Ok-Some-clause-in_document g c =
    property_there (nodes_of c.args.doc.now) c.node_at.result c.as_object_prop.result (subst (λ (l : List Node). IsNodeOf l c.node_at.result) c.tree.ensures c.node_at.ensures.in_document) c.as_object_prop.ensures
