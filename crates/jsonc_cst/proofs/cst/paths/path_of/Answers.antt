use Rattle.std.proofs.Common.{List}
use Rattle.jsonc_tree.specs.Tree.{Node}
use Rattle.jsonc_edit.specs.Paths.{StepsTo}
use Rattle.jsonc_cst.proofs.NodePaths.{covers_more, leads_to_itself, leads_on, no_path, not_first, step_higher}
use Rattle.jsonc_cst.proofs.cst.paths.path_of.Goals as goal

pub loop-first-init : goal.loop-first-init
loop-first-init g c = record {
  in_tree = c.requires;
  leads = leads_to_itself c.args.tree.now.nodes c.args.node c.new-path.result.items c.new-path.ensures.items;
  covers = λ path at. (path, at);
}

pub returns-in_default-clause-none : goal.returns-in_default-clause-none
returns-in_default-clause-none g c =
    let ns : List Node = c.args.tree.now.nodes in
    no_path ns c.args.node c.loop-first.value (not_first ns c.element_at-first.result c.loop-first.value c.element_at-first.ensures.element c.loop-first-test.ensures) c.in_default.ensures.none c.loop-first.invariant.covers

pub loop-first-smaller : goal.loop-first-smaller
loop-first-smaller g c =
    let s : StepsTo c.args.tree.now.nodes c.in-Some.above c.in-Some.place c.loop-first.value = c.in-Some.ensures.found in
    step_higher c.args.tree.now.nodes c.args.tree.now.tree c.in-Some.above c.in-Some.place c.loop-first.value s

pub loop-first-preserved : goal.loop-first-preserved
loop-first-preserved g c =
    let ns : List Node = c.args.tree.now.nodes in
    let s : StepsTo ns c.in-Some.above c.in-Some.place c.loop-first.value = c.in-Some.ensures.found in
    record {
      in_tree = c.in-Some.ensures.in_tree;
      leads = leads_on ns c.args.node c.loop-first.value c.in-Some.above c.in-Some.place c.loop-first.path.items c.push.new.self.items c.in_ok-push.ensures.items s c.loop-first.invariant.leads;
      covers = covers_more ns c.args.tree.now.tree c.args.node c.loop-first.value c.in-Some.above c.in-Some.place (not_first ns c.element_at-first.result c.loop-first.value c.element_at-first.ensures.element c.loop-first-test.ensures) s c.loop-first.invariant.covers;
    }
