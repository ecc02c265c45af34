use Rattle.std.proofs.Common.{◌∙◌, ℕ, List, None, ap, arith, chars, subst, sym}
use Rattle.std.proofs.lemmas.Bool.{false≢true}
use Rattle.jsonc_tree.specs.Tree.{Node, children_at}
use Rattle.jsonc_layout.specs.nodes.Names.{HasEscapedName, IsNamed}
use Rattle.jsonc_layout.specs.nodes.Siblings.{AreThere}
use Rattle.jsonc_layout.proofs.lemmas.nodes.InTree.{rest_there}
use Rattle.jsonc_layout.proofs.lemmas.nodes.NodeNames.{AnyEscaped, escaped_later, escaped_refused}
use Rattle.jsonc_cst.specs.Document.{nodes_of}
use Rattle.jsonc_parser.proofs.lemmas.paths.LastNames.{LastFrom, last_of_all, none_to_come, past_another, past_named}
use Rattle.jsonc_parser.proofs.paths.which.last_number.Goals as goal

pub loop-child-init : goal.loop-child-init
loop-child-init g c =
    let ns = nodes_of c.args.doc.now in
    let v = chars c.args.name.now in
    let row = c.into_iter-child-iterator.ensures.into_iter_gives ∙ c.children_from-child-items.ensures.children ∙ ap (λ (l : List Node). children_at l c.args.object) c.tree-tree.ensures in
    record {
      in_tree = subst (λ (l : List Node). AreThere l c.into_iter-child-iterator.result) c.tree-tree.ensures (subst (AreThere c.tree-tree.result.now.nodes) (sym c.into_iter-child-iterator.ensures.into_iter_gives) c.children_from-child-items.ensures.in_tree);
      held = tt;
      determined = λ last further. last_of_all ns v (children_at ns c.args.object) last (subst (λ (r : List ℕ). LastFrom ns v None r last) row further);
      escaped = λ any. subst (AnyEscaped ns) row any;
    }

pub returns-in_err-is_named-clause-memory : goal.returns-in_err-is_named-clause-memory
returns-in_err-is_named-clause-memory g c =
    let ns = nodes_of c.args.doc.now in
    escaped_refused ns (chars c.args.name.now) c.loop-child.child-iterator c.in-Some.child c.next.new.self c.in-Some.ensures.steps (children_at ns c.args.object) c.from_residual.result (subst (λ (l : List Node). HasEscapedName l c.in-Some.child) c.tree-tree.ensures c.in_err-is_named.ensures.memory) c.loop-child.invariant.escaped

pub loop-child-preserved-then-not-branch : goal.loop-child-preserved-then-not-branch
loop-child-preserved-then-not-branch g c =
    let ns = nodes_of c.args.doc.now in
    let v = chars c.args.name.now in
    let steps = c.in-Some.ensures.steps in
    record {
      in_tree = rest_there ns c.loop-child.child-iterator c.in-Some.child c.next.new.self steps c.loop-child.invariant.in_tree;
      held = c.loop-child.invariant.held;
      determined = λ last further. c.loop-child.invariant.determined last
          (past_another ns v c.loop-child.child-iterator c.in-Some.child c.next.new.self steps (λ named. false≢true (sym c.if-not-branch.true ∙ c.in_ok-is_named.ensures.named.1 (subst (λ (l : List Node). IsNamed l v c.in-Some.child) (sym c.tree-tree.ensures) named))) c.loop-child.found last further);
      escaped = λ rest. c.loop-child.invariant.escaped (escaped_later ns v c.loop-child.child-iterator c.in-Some.child c.next.new.self steps rest);
    }

pub loop-child-preserved : goal.loop-child-preserved
loop-child-preserved g c =
    let ns = nodes_of c.args.doc.now in
    let v = chars c.args.name.now in
    let steps = c.in-Some.ensures.steps in
    let named = subst (λ (l : List Node). IsNamed l v c.in-Some.child) c.tree-tree.ensures (c.in_ok-is_named.ensures.named.0 c.if-not-branch.false) in
    record {
      in_tree = rest_there ns c.loop-child.child-iterator c.in-Some.child c.next.new.self steps c.loop-child.invariant.in_tree;
      held = subst (AreThere ns) steps c.loop-child.invariant.in_tree 0 0 (omega arith);
      determined = λ last further. c.loop-child.invariant.determined last (past_named ns v c.loop-child.child-iterator c.in-Some.child c.next.new.self steps named c.loop-child.found last further);
      escaped = λ rest. c.loop-child.invariant.escaped (escaped_later ns v c.loop-child.child-iterator c.in-Some.child c.next.new.self steps rest);
    }

pub returns-clause-found : goal.returns-clause-found
returns-clause-found g c = c.loop-child.invariant.determined c.loop-child.found (none_to_come (nodes_of c.args.doc.now) (chars c.args.name.now) c.loop-child.found c.loop-child.child-iterator c.in-None.ensures.steps.0)
