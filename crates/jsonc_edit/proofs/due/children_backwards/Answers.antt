use Rattle.std.proofs.Common.{◌<◌, length, subst, sym}
use Rattle.jsonc_tree.specs.Tree.{children_at}
use Rattle.jsonc_layout.specs.nodes.Siblings.{AreThere}
use Rattle.jsonc_layout.proofs.lemmas.nodes.InTree.{All-reverse, children_there}
use Rattle.jsonc_edit.proofs.due.children_backwards.Goals as goal

pub returns-clause-in_tree : goal.returns-clause-in_tree
returns-clause-in_tree g c =
    let ns = c.args.tree.now.nodes in
    subst (AreThere ns) (sym c.children_reversed.ensures.children) (All-reverse (λ m. m < length ns) (children_at ns c.args.container) (children_there ns c.args.tree.now.tree c.args.container))
