use Rattle.std.proofs.Common.{subst, ◌++◌, ◌∷◌, [], arith}
use Rattle.std.specs.Result.{is_ok}
use Rattle.jsonc_tree.specs.Tree as tree
use Rattle.jsonc_tree.specs.Changes.{Adds}
use Rattle.jsonc_tree.specs.Stored.{content_of, nodes_of, bare}
use Rattle.jsonc_tree.proofs.UnchangedRows.{either_stored, pushed_stored, pushed_adds}
use Rattle.jsonc_tree.proofs.tree.Tree.add.Goals as goal

pub invariant_of-self-inside : goal.invariant_of-self-inside
invariant_of-self-inside g c =
    let items = c.self.inside.nodes.items in
    let stored = pushed_stored items (content_of c.args.kind) c.self.inside.stored (omega (arith, c.in_ok-number.ensures.fits, c.self.inside.nodes.ok.0)) in
    (rw (c.push.ensures.items, c.bare_node.ensures) (either_stored (is_ok c.push.result) (items ++ bare (content_of c.args.kind) ∷ []) items stored c.self.inside.stored), tt)

pub returns-clause-added : goal.returns-clause-added
returns-clause-added g c =
    rw (c.in_ok-push.ensures.items, c.bare_node.ensures)
    (subst (λ (t : tree.Tree). Adds t.nodes (nodes_of (c.self.inside.nodes.items ++ bare (content_of c.args.kind) ∷ [])) (content_of c.args.kind)) c.self.view_is (pushed_adds c.self.inside.nodes.items (content_of c.args.kind) c.self.inside.stored))
