use Rattle.std.proofs.Common.{◌∙◌, ℕ, List, Option}
use Rattle.jsonc_cst.specs.Document.{HasNode}
use Rattle.jsonc_cst.specs.declared.cst.node.CstNode.{CstNode}
use Rattle.jsonc_cst.specs.sorting.Asking.{IsInItsOrder}
use Rattle.jsonc_cst.specs.sorting.Pins.{pins_where}
use Rattle.jsonc_cst.specs.sorting.Rows.{elements_asked, starts_of}
use Rattle.jsonc_cst.proofs.lemmas.sorting.SortedRead.{wired_container}
use Rattle.jsonc_cst.proofs.sorting.containers.sort_container.Goals as goal

pub returns-clause-sorted : goal.returns-clause-sorted
returns-clause-sorted g c =
    let doc = c.args.doc.now in
    let node = c.args.container in
    let required : List (Option CstNode) → List ℕ → Type 0 = λ xs order. IsInItsOrder g.C.Fn c.args.compare.now (g.D.DocumentArg.same doc) (HasNode doc) xs (starts_of doc node c.args.groups) order in
    wired_container doc c.sort_by.new.doc c.args.groups required node (elements_asked doc node) c.deref.result.now (pins_where doc node c.args.pin) c.deref-2.result.now c.sort_by.result
    (c.deref.ensures.value ∙ c.in_ok-nodes.ensures.nodes) (c.deref-2.ensures.value ∙ c.in_ok-pins.ensures.pins) c.sort_by.ensures.sorted
