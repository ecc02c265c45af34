use Rattle.std.proofs.Common.{length, [], ◌∷◌, None, refl, subst, sym, arith}
use Rattle.jsonc_tree.specs.Stored.{content_of}
use Rattle.jsonc_tree.specs.Changes.{CanJoin}
use Rattle.jsonc_tree.specs.Siblings.{IsGap}
use Rattle.jsonc_tree.proofs.Appending.{CanAppend-adds, CanJoin-one}
use Rattle.jsonc_document_tests.proofs.tests.trees.put_first.Goals as goal

pub insert_between-requires-clause-can : goal.insert_between-requires-clause-can
insert_between-requires-clause-can g c =
    let old = c.args.tree.now.nodes in
    let new = c.add.new.self.nodes in
    let can = CanAppend-adds old new (content_of c.args.kind) c.args.container c.add.new.self.tree (c.if-not-can_hold.ensures.in_tree refl) (c.if-not-can_hold.ensures.container refl) c.in_ok-node.ensures.added in
    let one = CanJoin-one new (length old) c.args.container 0 0 can.node can.not_root can.alone can.not_over in (
      0,
      record {
        inside = omega arith;
        front = refl;
        back = c.first_child-first.ensures;
      },
      subst (λ n. CanJoin new c.args.container 0 0 (n ∷ [])) (sym c.in_ok-node.ensures.number) one,
    )
