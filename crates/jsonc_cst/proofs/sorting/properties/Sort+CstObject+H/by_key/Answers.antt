use Rattle.std.proofs.Common.{◌∙◌, ℕ, IfErr, List, Option, subst}
use Rattle.jsonc_cst.specs.declared.cst.node.CstNode.{CstNode}
use Rattle.jsonc_cst.specs.declared.cst.node.CstObjectProp.{CstObjectProp}
use Rattle.jsonc_cst.specs.Nodes.{object_node}
use Rattle.jsonc_cst.specs.sorting.Asking.{IsInKeyOrder, IsUnkeyed}
use Rattle.jsonc_cst.specs.sorting.Rows.{properties_asked, starts_of}
use Rattle.jsonc_cst.proofs.lemmas.sorting.Ordered.{properties_in_key_order}
use Rattle.jsonc_cst.proofs.lemmas.sorting.SortedRead.{wired}
use Rattle.jsonc_cst.proofs.sorting.properties.Sort+CstObject+H.by_key.Goals as goal

pub returns-clause-sorted : goal.returns-clause-sorted
returns-clause-sorted g c =
    let doc = c.args.doc.now in
    let groups = c.args.self.groups in
    let node = object_node c.args.self.container in
    let pinned : CstNode → List (Option CstObjectProp) → List (Option ℕ) → Type 0 = λ n xs ps. g.H.HeaderRule.pins c.args.self.rule doc n xs ps in
    let required : CstNode → List (Option CstObjectProp) → List ℕ → Type 0 = λ n xs order. IsInKeyOrder g.F.Fn c.args.key (g.D.DocumentArg.same doc) g.K.Ord.cmp xs (starts_of doc n groups) order in
    wired doc c.sort_by_key.new.doc groups pinned required node c.node.result c.node-2.result (properties_asked doc node) c.deref.result.now c.deref-2.result.now c.in_ok-pins.pins.items c.deref-3.result.now c.sort_by_key.result
    c.node.ensures c.node-2.ensures (c.deref.ensures.value ∙ c.in_ok-nodes.ensures.nodes) (c.deref-2.ensures.value ∙ c.in_ok-nodes.ensures.nodes) c.deref-3.ensures.value c.in_ok-pins.ensures.pins c.sort_by_key.ensures.sorted

pub returns-clause-refused : goal.returns-clause-refused
returns-clause-refused g c =
    subst (λ (nodes : List (Option CstObjectProp)). IfErr c.sort_by_key.result (IsUnkeyed g.F.Fn c.args.key (g.D.DocumentArg.same c.args.doc.now) nodes)) (c.deref-2.ensures.value ∙ c.in_ok-nodes.ensures.nodes) c.sort_by_key.ensures.refused

pub returns-clause-again : goal.returns-clause-again
returns-clause-again g c =
    properties_in_key_order c.args.key (g.D.DocumentArg.same) g.K.Ord.cmp c.args.doc.now c.sort_by_key.new.doc c.args.self.groups c.sort_by_key.result g.F.Fn c.args.self.container (λ n xs ps. g.H.HeaderRule.pins c.args.self.rule c.args.doc.now n xs ps) c.args.doc.now.tree.tree c.sort_by_key.new.doc.tree.tree c.requires.in_document (returns-clause-sorted g c)
