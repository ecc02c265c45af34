use Rattle.std.proofs.Common.{◌≡◌, List, length, refl, subst}
use Rattle.jsonc_tree.specs.Tree.{Node}
use Rattle.jsonc_tree.proofs.Builder.{Keeps-same}
use Rattle.jsonc_edit.specs.Paths.{FindsExactly}
use Rattle.jsonc_cst.specs.Document.{nodes_of}
use Rattle.jsonc_cst.specs.Nodes.{typed_at}
use Rattle.jsonc_run.specs.Refusals.{as_it_was}
use Rattle.jsonc_run.specs.Places.{IsContainerAt}
use Rattle.jsonc_run.proofs.EditsMade.{no_place}
use Rattle.jsonc_parser.proofs.Sorts.{holds_them, sort_left, sort_made, sort_told}
use Rattle.jsonc_parser.proofs.cst.lists.sort_at.Goals as goal

pub returns-in_default-clause-error : goal.returns-in_default-clause-error
returns-in_default-clause-error g c =
    let found : FindsExactly c.find_container.result (IsContainerAt (nodes_of c.args.doc.now) c.args.path.now) =
    subst (λ (ns : List Node). FindsExactly c.find_container.result (IsContainerAt ns c.args.path.now)) c.tree-tree.ensures c.find_container.ensures.found in
    λ s.
    no_place c.find_container.result (IsContainerAt c.args.doc.now.tree.nodes c.args.path.now) found c.in_default.not-Some

pub returns-in_default-clause-left : goal.returns-in_default-clause-left
returns-in_default-clause-left g c = λ s. as_it_was (Keeps-same (length c.args.doc.now.tree.nodes) c.args.doc.now.tree.nodes) refl

pub sort_container-requires-clause-holds : goal.sort_container-requires-clause-holds
sort_container-requires-clause-holds g c =
    let found : FindsExactly c.find_container.result (IsContainerAt (nodes_of c.args.doc.now) c.args.path.now) =
    subst (λ (ns : List Node). FindsExactly c.find_container.result (IsContainerAt ns c.args.path.now)) c.tree-tree.ensures c.find_container.ensures.found in
    let node : c.node_at-container.result ≡ typed_at (nodes_of c.args.doc.now) c.in-Some.number =
    subst (λ (ns : List Node). c.node_at-container.result ≡ typed_at ns c.in-Some.number) c.tree-tree.ensures c.node_at-container.ensures.node in
    holds_them c.args.doc.now c.args.path.now c.in-Some.number ((found c.in-Some.number).0 c.in-Some.is) c.node_at-container.result node

pub sort_container-requires-clause-asked : goal.sort_container-requires-clause-asked
sort_container-requires-clause-asked g c = λ d x y e hx hy. c.requires.callable c.args.doc.now d x y e hx hy

pub returns-clause-made : goal.returns-clause-made
returns-clause-made g c =
    let found : FindsExactly c.find_container.result (IsContainerAt (nodes_of c.args.doc.now) c.args.path.now) =
    subst (λ (ns : List Node). FindsExactly c.find_container.result (IsContainerAt ns c.args.path.now)) c.tree-tree.ensures c.find_container.ensures.found in
    let node : c.node_at-container.result ≡ typed_at (nodes_of c.args.doc.now) c.in-Some.number =
    subst (λ (ns : List Node). c.node_at-container.result ≡ typed_at ns c.in-Some.number) c.tree-tree.ensures c.node_at-container.ensures.node in
    sort_made c.args.doc.now c.args.path.now c.in-Some.number ((found c.in-Some.number).0 c.in-Some.is) c.node_at-container.result node g.C.Fn c.args.compare.now g.D.DocumentArg.same c.sort_container.new.doc c.args.pin c.args.groups c.sort_container.result c.sort_container.ensures.sorted

pub returns-clause-error : goal.returns-clause-error
returns-clause-error g c =
    let found : FindsExactly c.find_container.result (IsContainerAt (nodes_of c.args.doc.now) c.args.path.now) =
    subst (λ (ns : List Node). FindsExactly c.find_container.result (IsContainerAt ns c.args.path.now)) c.tree-tree.ensures c.find_container.ensures.found in
    let node : c.node_at-container.result ≡ typed_at (nodes_of c.args.doc.now) c.in-Some.number =
    subst (λ (ns : List Node). c.node_at-container.result ≡ typed_at ns c.in-Some.number) c.tree-tree.ensures c.node_at-container.ensures.node in
    λ s.
    sort_told c.args.doc.now c.args.path.now c.in-Some.number ((found c.in-Some.number).0 c.in-Some.is) c.node_at-container.result node s c.sort_container.result c.sort_container.ensures.memory

pub returns-clause-left : goal.returns-clause-left
returns-clause-left g c = λ s.
    sort_left c.args.doc.now.tree.nodes c.args.path.now s c.sort_container.new.doc.tree.nodes c.sort_container.result c.sort_container.ensures.kept c.sort_container.ensures.document
