use Rattle.std.proofs.Common.{◌≡◌, ◌+◌, ◌<◌, length, [], ◌∷◌, Some, ap, ◌∙◌, refl, subst, sym}
use Rattle.jsonc_tree.specs.Stored.{content_of}
use Rattle.jsonc_tree.specs.Tree as tree
use Rattle.jsonc_tree.specs.Tree.{parent_at, place_at}
use Rattle.jsonc_tree.specs.Changes.{CanJoin}
use Rattle.jsonc_tree.proofs.Appending.{CanAppend-adds, CanJoin-one}
use Rattle.jsonc_tree.proofs.Gaps.{at_there}
use Rattle.jsonc_tree.proofs.Moves.{in_row}
use Rattle.jsonc_document_tests.proofs.tests.trees.put.Goals as goal

pub replace-requires-clause-can : goal.replace-requires-clause-can
replace-requires-clause-can g c =
    let old = c.args.tree.now.nodes in
    let new = c.add.new.self.nodes in
    let child = c.args.child in
    let container = c.in-Some.container in
    let said : parent_at old child ≡ Some container = sym c.parent.ensures ∙ c.in-Some.is in
    let there : child < length old = at_there old c.args.tree.now.tree container (place_at old child) child (in_row old c.args.tree.now.tree child container said).2 in
    let named : parent_at new child ≡ Some container = ap (λ (n : tree.Node). n.parent) (c.in_ok-node.ensures.added.rest child there) ∙ said in
    let can = CanAppend-adds old new (content_of c.args.kind) container c.add.new.self.tree (c.if-not-can_hold.ensures.in_tree refl) (c.if-not-can_hold.ensures.container refl) c.in_ok-node.ensures.added in
    let one = CanJoin-one new (length old) container (place_at new child) (place_at new child + 1) can.node can.not_root can.alone can.not_over in
    (container, named, subst (λ n. CanJoin new container (place_at new child) (place_at new child + 1) (n ∷ [])) (sym c.in_ok-node.ensures.number) one)
