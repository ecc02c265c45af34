use Rattle.std.proofs.Common.{◌∙◌, List, Option, arith, chars, subst, sym, ℕ}
use Rattle.std.proofs.lemmas.Bool.{false≢true}
use Rattle.jsonc_tree.specs.Tree.{Node, children_at}
use Rattle.jsonc_layout.specs.nodes.Names.{HasEscapedName, IsNamed}
use Rattle.jsonc_layout.specs.nodes.Siblings.{AreThere}
use Rattle.jsonc_layout.proofs.lemmas.nodes.InTree.{rest_there}
use Rattle.jsonc_layout.proofs.lemmas.nodes.NodeNames.{escaped_later, escaped_refused}
use Rattle.jsonc_cst.specs.Document.{nodes_of}
use Rattle.jsonc_parser.specs.declared.patch.reference.Lookup.TheVariants.{Missing, Once, Twice}
use Rattle.jsonc_parser.proofs.lemmas.patch.Named.{further_none, further_once, further_one, further_past, further_second, IsLookedFurther}
use Rattle.jsonc_parser.proofs.patch.reference.look_up.Goals as goal

pub returns-in_err-is_named-clause-memory : goal.returns-in_err-is_named-clause-memory
returns-in_err-is_named-clause-memory g c =
    let ns = nodes_of c.args.doc.now in
    escaped_refused ns (chars c.args.name.now) c.loop-child.child-iterator c.in-Some.child c.next.new.self c.in-Some.ensures.steps (children_at ns c.args.object) c.from_residual.result (subst (λ (l : List Node). HasEscapedName l c.in-Some.child) c.tree-tree.ensures c.in_err-is_named.ensures.memory) c.loop-child.invariant.escaped

pub loop-child-preserved-then-not-branch : goal.loop-child-preserved-then-not-branch
loop-child-preserved-then-not-branch g c =
    let ns = nodes_of c.args.doc.now in
    let v = chars c.args.name.now in
    let steps = c.in-Some.ensures.steps in
    record {
      in_tree = rest_there ns c.loop-child.child-iterator c.in-Some.child c.next.new.self steps c.loop-child.invariant.in_tree;
      held = c.loop-child.invariant.held;
      determined = λ lookup further. c.loop-child.invariant.determined lookup
          (further_past ns v c.loop-child.child-iterator c.in-Some.child c.next.new.self steps (λ named. false≢true (sym c.if-not-branch.true ∙ c.in_ok-is_named.ensures.named.1 (subst (λ (l : List Node). IsNamed l v c.in-Some.child) (sym c.tree-tree.ensures) named))) c.loop-child.found lookup further);
      escaped = λ rest. c.loop-child.invariant.escaped (escaped_later ns v c.loop-child.child-iterator c.in-Some.child c.next.new.self steps rest);
    }

pub returns-then-is_some-clause-found : goal.returns-then-is_some-clause-found
returns-then-is_some-clause-found g c =
    let ns = nodes_of c.args.doc.now in
    let v = chars c.args.name.now in
    let named = subst (λ (l : List Node). IsNamed l v c.in-Some.child) c.tree-tree.ensures (c.in_ok-is_named.ensures.named.0 c.if-not-branch.false) in
    c.loop-child.invariant.determined Twice
    (further_second ns v c.loop-child.child-iterator c.in-Some.child c.next.new.self c.in-Some.ensures.steps named c.loop-child.found (sym c.is_some.ensures ∙ c.if-is_some.true))

pub loop-child-preserved : goal.loop-child-preserved
loop-child-preserved g c =
    let ns = nodes_of c.args.doc.now in
    let v = chars c.args.name.now in
    let steps = c.in-Some.ensures.steps in
    let named = subst (λ (l : List Node). IsNamed l v c.in-Some.child) c.tree-tree.ensures (c.in_ok-is_named.ensures.named.0 c.if-not-branch.false) in
    record {
      in_tree = rest_there ns c.loop-child.child-iterator c.in-Some.child c.next.new.self steps c.loop-child.invariant.in_tree;
      held = subst (AreThere ns) steps c.loop-child.invariant.in_tree 0 0 (omega arith);
      determined = λ lookup further. c.loop-child.invariant.determined lookup
          (further_once ns v c.loop-child.child-iterator c.in-Some.child c.next.new.self steps named c.loop-child.found (sym c.is_some.ensures ∙ c.if-is_some.false) lookup further);
      escaped = λ rest. c.loop-child.invariant.escaped (escaped_later ns v c.loop-child.child-iterator c.in-Some.child c.next.new.self steps rest);
    }

pub returns-in-Some-found-clause-found : goal.returns-in-Some-found-clause-found
returns-in-Some-found-clause-found g c =
    let ns = nodes_of c.args.doc.now in
    let v = chars c.args.name.now in
    let child = c.in-Some-found.child in
    c.loop-child.invariant.determined (Once child)
    (subst (λ (o : Option ℕ). IsLookedFurther ns v o c.loop-child.child-iterator (Once child)) (sym c.in-Some-found.is) (further_one ns v c.loop-child.child-iterator child c.in-None.ensures.steps.0))

pub returns-in-None-found-clause-found : goal.returns-in-None-found-clause-found
returns-in-None-found-clause-found g c =
    let ns = nodes_of c.args.doc.now in
    let v = chars c.args.name.now in
    c.loop-child.invariant.determined Missing
    (subst (λ (o : Option ℕ). IsLookedFurther ns v o c.loop-child.child-iterator Missing) (sym c.in-None-found.is) (further_none ns v c.loop-child.child-iterator c.in-None.ensures.steps.0))
