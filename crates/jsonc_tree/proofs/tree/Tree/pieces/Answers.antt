use Rattle.std.proofs.Common.{length, ap, ◌∙◌, arith}
use Rattle.std.specs.List.{concat}
use Rattle.jsonc_tree.specs.Tree as tree
use Rattle.jsonc_tree.specs.Tree.{itself}
use Rattle.jsonc_tree.specs.OrderedTree.{ordered_tree, pieces}
use Rattle.jsonc_tree.specs.Stored.{nodes_of}
use Rattle.jsonc_tree.proofs.AgreeingLinks.{length_shown}
use Rattle.jsonc_tree.proofs.PieceList.{pieces_whole, pieces-joined, pieces-count}
use Rattle.jsonc_tree.proofs.tree.Tree.pieces.Goals as goal

pub invariant_of-result : goal.invariant_of-result
invariant_of-result g c =
    let items = c.self.inside.nodes.items in
    (c.self.inside.stored, omega (arith, c.self.inside.stored.tree.first, length_shown items, c.self.inside.nodes.ok), itself)

pub returns-clause-pieces : goal.returns-clause-pieces
returns-clause-pieces g c =
    pieces_whole (nodes_of c.self.inside.nodes.items) c.self.inside.stored.tree
    ∙ ap (λ (t : tree.Tree). pieces (ordered_tree t.nodes 0)) c.self.view_is

pub returns-clause-joined : goal.returns-clause-joined
returns-clause-joined g c = ap concat (returns-clause-pieces g c) ∙ pieces-joined (ordered_tree c.args.self.now.nodes 0)

pub returns-clause-count : goal.returns-clause-count
returns-clause-count g c = ap length (returns-clause-pieces g c) ∙ pieces-count (ordered_tree c.args.self.now.nodes 0)
