use Rattle.std.proofs.Common.{◌∙◌, ℕ, List, Option}
use Rattle.jsonc_cst.specs.Document.{HasNode}
use Rattle.jsonc_cst.specs.declared.cst.node.CstNode.{CstNode}
use Rattle.jsonc_cst.specs.declared.cst.node.CstObjectProp.{CstObjectProp}
use Rattle.jsonc_cst.specs.Nodes.{object_node, object_prop_node}
use Rattle.jsonc_cst.specs.sorting.Asking.{IsInItsOrder}
use Rattle.jsonc_cst.specs.sorting.Rows.{properties_asked, starts_of}
use Rattle.jsonc_cst.proofs.lemmas.sorting.Ordered.{properties_in_order}
use Rattle.jsonc_cst.proofs.lemmas.sorting.SortedRead.{wired}
use Rattle.jsonc_cst.proofs.sorting.properties.Sort+CstObject+H.by.Goals as goal

pub returns-clause-sorted : goal.returns-clause-sorted
returns-clause-sorted g c =
    let doc = c.args.doc.now in
    let groups = c.args.self.groups in
    let node = object_node c.args.self.container in
    let pinned : CstNode → List (Option CstObjectProp) → List (Option ℕ) → Type 0 = λ n xs ps. g.H.HeaderRule.pins c.args.self.rule doc n xs ps in
    let required : CstNode → List (Option CstObjectProp) → List ℕ → Type 0 = λ n xs order. IsInItsOrder g.C.Fn c.args.compare (g.D.DocumentArg.same doc) (λ (p : CstObjectProp). HasNode doc (object_prop_node p)) xs (starts_of doc n groups) order in
    wired doc c.sort_by.new.doc groups pinned required node c.node.result c.node-2.result (properties_asked doc node) c.deref.result.now c.deref-2.result.now c.in_ok-pins.pins.items c.deref-3.result.now c.sort_by.result
    c.node.ensures c.node-2.ensures (c.deref.ensures.value ∙ c.in_ok-nodes.ensures.nodes) (c.deref-2.ensures.value ∙ c.in_ok-nodes.ensures.nodes) c.deref-3.ensures.value c.in_ok-pins.ensures.pins c.sort_by.ensures.sorted

pub returns-clause-again : goal.returns-clause-again
returns-clause-again g c =
    properties_in_order c.args.compare (g.D.DocumentArg.same) c.args.doc.now c.sort_by.new.doc c.args.self.groups c.sort_by.result g.C.Fn c.args.self.container (λ n xs ps. g.H.HeaderRule.pins c.args.self.rule c.args.doc.now n xs ps) c.args.doc.now.tree.tree c.requires.in_document (returns-clause-sorted g c)
