use Rattle.std.proofs.Common.{◌∙◌, ap, All, List, Ok, rules, subst, sym}
use Rattle.std.proofs.lemmas.Iterator.{items_from_collect, YieldsList-from_map}
use Rattle.std.proofs.lemmas.Iterator.Consumers.{YieldsList-from_filter, YieldsList-at}
use Rattle.jsonc_tree.specs.Tree.{children_at}
use Rattle.jsonc_layout.proofs.lemmas.nodes.Rows.{row_yields}
use Rattle.jsonc_cst.specs.declared.cst.node.CstObjectProp.{CstObjectProp}
use Rattle.jsonc_cst.specs.Nodes.{object_prop_node, IsNodeOf}
use Rattle.jsonc_cst.specs.Readings.{is_property_at, property_under}
use Rattle.jsonc_cst.proofs.Readings.{properties_held}
use Rattle.jsonc_cst.proofs.cst.node.CstObject.properties.Goals as goal

pub returns-clause-properties : goal.returns-clause-properties
returns-clause-properties g c =
    let ns = c.args.doc.now.tree.nodes in
    let row : List _ = children_at ns c.args.self.number in
    items_from_collect {E = Unit {0}} (Ok c.in-Ok.properties) c.in-Ok.ensures.ran
    (YieldsList-at (ap (λ t. record c.map.result { iter = t }) (c.map.ensures.source ∙ ap (λ s. record c.filter.result { iter = s }) c.filter.ensures.source))
    (YieldsList-from_map _ property_under
    (YieldsList-from_filter _ (is_property_at ns) (row_yields row c.children_from.ensures.children) c.filter.ensures.closure (λ x b q k. search rules))
    c.map.ensures.closure (λ x r q k. search rules)))

pub returns-clause-in_document : goal.returns-clause-in_document
returns-clause-in_document g c =
    let ns = c.args.doc.now.tree.nodes in
    subst (λ (ps : List CstObjectProp). All (λ p. IsNodeOf ns (object_prop_node p)) ps) (sym (returns-clause-properties g c)) (properties_held ns (children_at ns c.args.self.number))
