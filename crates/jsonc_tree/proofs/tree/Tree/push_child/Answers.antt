use Rattle.std.proofs.Common.{subst, sym}
use Rattle.jsonc_tree.specs.Stored.{content_of}
use Rattle.jsonc_tree.specs.Changes.{CanAppend}
use Rattle.jsonc_tree.proofs.Appending.{CanAppend-adds}
use Rattle.jsonc_tree.proofs.tree.Tree.push_child.Goals as goal

pub append-requires : goal.append-requires
append-requires g c =
    let can = CanAppend-adds c.args.self.now.nodes c.add.new.self.nodes (content_of c.args.kind) c.args.container c.add.new.self.tree c.requires.in_tree c.requires.container c.in_ok-child.ensures.added in
    subst (λ n. CanAppend c.add.new.self.nodes c.args.container n) (sym c.in_ok-child.ensures.number) can
