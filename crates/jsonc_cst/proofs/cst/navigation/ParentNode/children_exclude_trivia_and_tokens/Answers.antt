use Rattle.std.proofs.Common.{◌≡◌, subst, sym}
use Rattle.std.specs.List.{All}
use Rattle.jsonc_cst.specs.Nodes.{IsNodeOf}
use Rattle.jsonc_cst.specs.Readings.{typed_all}
use Rattle.jsonc_cst.proofs.Readings.{typed_all_held}
use Rattle.jsonc_cst.proofs.cst.navigation.ParentNode.children_exclude_trivia_and_tokens.Goals as goal

pub returns-clause-in_document : goal.returns-clause-in_document
returns-clause-in_document g c =
    let ns = c.args.doc.now.tree.nodes in
    let row = c.in-Ok.numbers.items in
    let same : c.in-Ok-nodes_at.elements.items ≡ typed_all ns row = cc (c.in-Ok-nodes_at.ensures, c.deref.ensures.value) in
    subst (All (IsNodeOf ns)) (sym same) (typed_all_held ns row c.in-Ok.ensures.in_tree)
