use Rattle.std.proofs.Common.{◌<◌, ◌++◌, ◌∷◌, ◌∙◌, [], length, map, ap, subst, sym}
use Rattle.std.specs.List.{All}
use Rattle.std.proofs.lemmas.List.{append-nil, append_assoc}
use Rattle.std.proofs.lemmas.List.Elements.{All-head, All-tail, All-same}
use Rattle.jsonc_tree.specs.Tree.{children_at}
use Rattle.jsonc_cst.specs.Nodes.{IsNodeOf, typed_at}
use Rattle.jsonc_cst.proofs.Family.{children_held, children_there}
use Rattle.jsonc_cst.proofs.cst.access.children_of.Goals as goal

pub loop-child-init : goal.loop-child-init
loop-child-init g c =
    let ns = c.args.tree.now.nodes in
    let all = c.into_iter-child-iterator.ensures.into_iter_gives ∙ c.children-child-items.ensures.children in
    record {
      so_far = ap (λ l. l ++ map (typed_at ns) c.into_iter-child-iterator.result) c.new-children.ensures.items ∙ ap (map (typed_at ns)) all;
      in_tree = All-same (λ m. m < length ns) c.into_iter-child-iterator.result (children_at ns c.args.number) all (children_there ns c.args.tree.now.tree c.args.number);
    }

pub node_at-requires : goal.node_at-requires
node_at-requires g c =
    let ns = c.args.tree.now.nodes in
    All-head (λ m. m < length ns) c.in-Some.child c.next.new.self (subst (All (λ m. m < length ns)) c.in-Some.ensures.steps c.loop-child.invariant.in_tree)

pub loop-child-preserved : goal.loop-child-preserved
loop-child-preserved g c =
    let ns = c.args.tree.now.nodes in
    let before = c.loop-child.children.items in
    let rest = map (typed_at ns) c.next.new.self in
    record {
      so_far = ap (λ l. l ++ rest) (c.in_ok-push.ensures.items ∙ ap (λ n. before ++ n ∷ []) c.node_at.ensures.node) ∙ append_assoc before (typed_at ns c.in-Some.child ∷ []) rest
          ∙ ap (λ l. before ++ map (typed_at ns) l) (sym c.in-Some.ensures.steps) ∙ c.loop-child.invariant.so_far;
      in_tree = All-tail (λ m. m < length ns) c.in-Some.child c.next.new.self (subst (All (λ m. m < length ns)) c.in-Some.ensures.steps c.loop-child.invariant.in_tree);
    }

pub returns-clause-children : goal.returns-clause-children
returns-clause-children g c =
    let ns = c.args.tree.now.nodes in
    let items = c.loop-child.children.items in
    sym (append-nil items) ∙ ap (λ l. items ++ map (typed_at ns) l) (sym c.in-None.ensures.steps.0) ∙ c.loop-child.invariant.so_far

pub returns-clause-in_document : goal.returns-clause-in_document
returns-clause-in_document g c =
    let ns = c.args.tree.now.nodes in
    subst (All (IsNodeOf ns)) (sym (returns-clause-children g c)) (children_held ns c.args.tree.now.tree c.args.number)
