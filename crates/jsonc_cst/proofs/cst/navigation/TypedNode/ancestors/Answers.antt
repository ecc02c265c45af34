use Rattle.std.proofs.Common.{ap, ◌∙◌}
use Rattle.std.specs.List.{list_all}
use Rattle.jsonc_tree.specs.Tree.{is_container_at}
use Rattle.jsonc_cst.proofs.Family.{above_containers, containers_held}
use Rattle.jsonc_cst.proofs.cst.navigation.TypedNode.ancestors.Goals as goal

pub invariant_of-result : goal.invariant_of-result
invariant_of-result g c =
    let ns = c.args.doc.now.tree.nodes in
    ap (list_all (is_container_at ns)) c.ancestors.ensures ∙ above_containers ns c.args.doc.now.tree.tree _

pub returns-clause-in_document : goal.returns-clause-in_document
returns-clause-in_document g c =
    containers_held c.args.doc.now.tree.nodes c.ancestors.result (invariant_of-result g c)
