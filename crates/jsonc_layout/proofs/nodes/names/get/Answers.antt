use Rattle.std.proofs.Common.{sym, chars, None, ◌∙◌}
use Rattle.std.proofs.lemmas.Bool.{false≢true}
use Rattle.jsonc_tree.specs.Tree.{children_at}
use Rattle.jsonc_layout.proofs.lemmas.nodes.NodeNames.{escaped_later, escaped_refused, first_here, first_later, first_none}
use Rattle.jsonc_layout.proofs.lemmas.nodes.InTree.{rest_there}
use Rattle.jsonc_layout.proofs.nodes.names.get.Goals as goal

pub returns-then-branch-clause-found : goal.returns-then-branch-clause-found
returns-then-branch-clause-found g c =
    c.loop-child.invariant.first _ (first_here c.args.tree.now.nodes (chars c.args.name.now) c.loop-child.child-iterator c.in-Some.child c.next.new.self c.in-Some.ensures.steps (c.in_ok-is_named.ensures.named.0 c.if-branch.true))

pub loop-child-preserved : goal.loop-child-preserved
loop-child-preserved g c = record {
  in_tree = rest_there c.args.tree.now.nodes c.loop-child.child-iterator c.in-Some.child c.next.new.self c.in-Some.ensures.steps c.loop-child.invariant.in_tree;
  first = λ found rest. c.loop-child.invariant.first found (first_later c.args.tree.now.nodes (chars c.args.name.now) c.loop-child.child-iterator c.in-Some.child c.next.new.self c.in-Some.ensures.steps (λ named. false≢true (sym c.if-branch.false ∙ c.in_ok-is_named.ensures.named.1 named)) found rest);
  escaped = λ rest. c.loop-child.invariant.escaped (escaped_later c.args.tree.now.nodes (chars c.args.name.now) c.loop-child.child-iterator c.in-Some.child c.next.new.self c.in-Some.ensures.steps rest);
}

pub returns-in_err-is_named-clause-memory : goal.returns-in_err-is_named-clause-memory
returns-in_err-is_named-clause-memory g c =
    escaped_refused c.args.tree.now.nodes (chars c.args.name.now) c.loop-child.child-iterator c.in-Some.child c.next.new.self c.in-Some.ensures.steps (children_at c.args.tree.now.nodes c.args.object) c.from_residual.result c.in_err-is_named.ensures.memory c.loop-child.invariant.escaped

pub returns-clause-found : goal.returns-clause-found
returns-clause-found g c = c.loop-child.invariant.first None (first_none c.args.tree.now.nodes (chars c.args.name.now) c.loop-child.child-iterator c.in-None.ensures.steps.0)
