use Rattle.std.proofs.Common.{subst}
use Rattle.jsonc_tree.specs.Changes.{LeafBecomes}
use Rattle.jsonc_tree.specs.Stored.{content_of}
use Rattle.jsonc_cst.specs.Nodes.{number_of}
use Rattle.jsonc_cst.proofs.lemmas.typed.Leaves.{leaf_stays}
use Rattle.jsonc_run.proofs.DetachedNodes.{leaf_elsewhere}
use Rattle.jsonc_cst.proofs.typed.raw.set_leaf.Goals as goal

pub returns-clause-handles : goal.returns-clause-handles
returns-clause-handles g c =
    let old = c.args.doc.now.tree.nodes in
    let new = c.set_leaf.new.self.nodes in
    leaf_stays old new c.args.node (content_of c.args.kind) c.requires.in_document c.requires.same
    (subst (λ n. LeafBecomes old new n (content_of c.args.kind)) c.number.ensures c.set_leaf.ensures.becomes)

pub returns-clause-detached : goal.returns-clause-detached
returns-clause-detached g c =
    let old = c.args.doc.now.tree.nodes in
    let new = c.set_leaf.new.self.nodes in
    let n = number_of c.args.node in
    leaf_elsewhere old c.args.doc.now.tree.tree new n (content_of c.args.kind) c.set_leaf.new.self.tree
    (subst (λ k. LeafBecomes old new k (content_of c.args.kind)) c.number.ensures c.set_leaf.ensures.becomes)
