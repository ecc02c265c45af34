use Rattle.std.proofs.Common.{refl, subst, sym}
use Rattle.jsonc_tree.specs.Stored.{content_of}
use Rattle.jsonc_tree.specs.Changes.{CanAppend}
use Rattle.jsonc_tree.proofs.Appending.{CanAppend-adds}
use Rattle.jsonc_document_tests.proofs.tests.trees.attach.Goals as goal

pub append-requires : goal.append-requires
append-requires g c =
    let can = CanAppend-adds c.args.tree.now.nodes c.add.new.self.nodes (content_of c.args.kind) c.args.container c.add.new.self.tree (c.if-not-can_hold.ensures.in_tree refl) (c.if-not-can_hold.ensures.container refl) c.in_ok-node.ensures.added in
    subst (λ n. CanAppend c.add.new.self.nodes c.args.container n) (sym c.in_ok-node.ensures.number) can
