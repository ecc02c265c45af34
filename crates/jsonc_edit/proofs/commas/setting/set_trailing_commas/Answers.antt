use Rattle.std.proofs.Common.{◌∙◌, ap}
use Rattle.jsonc_tree.specs.Tree.{IsOver}
use Rattle.jsonc_edit.proofs.lemmas.commas.UnsoundDocuments.{due_where_refused, sets_anyway}
use Rattle.jsonc_edit.proofs.lemmas.commas.DetachedContainers.{leaves_others, leaves_others_in_part}
use Rattle.jsonc_edit.specs.commas.InTurn.{to_come}
use Rattle.jsonc_edit.proofs.lemmas.commas.InTurn.{all_set, all_to_come, fewer, goes_on, met_still, none_set, over_still, refused_here}
use Rattle.jsonc_edit.proofs.commas.setting.set_trailing_commas.Goals as goal
use Rattle.jsonc_edit.proofs.ReplacedChildren.{where_refused}

pub holder_from-next-requires-clause-over : goal.holder_from-next-requires-clause-over
holder_from-next-requires-clause-over g c = IsOver.itself

pub loop-next-init : goal.loop-next-init
loop-next-init g c =
    let n = c.holder_from-next.ensures in
    record {
      tree = c.args.tree.now.tree;
      in_tree = n.in_tree;
      over = n.over;
      met = n.met;
      set = none_set c.args.mode c.args.tree.now.nodes c.args.container c.holder_from-next.result (all_to_come c.args.tree.now.nodes c.args.tree.now.tree c.args.container c.requires ∙ n.come);
    }

pub returns-in_err-set_comma-clause-part : goal.returns-in_err-set_comma-clause-part
returns-in_err-set_comma-clause-part g c =
    let kept = c.in_err-set_comma.ensures in
    where_refused c.from_residual.result (refused_here c.args.mode c.args.tree.now.nodes c.loop-next.tree.nodes c.args.container c.loop-next.next c.loop-next.invariant c.in-Some.node c.in-Some.is c.set_comma.new.tree.nodes kept.kept kept.missing)

pub returns-in_err-set_comma-clause-due : goal.returns-in_err-set_comma-clause-due
returns-in_err-set_comma-clause-due g c =
    let kept = c.in_err-set_comma.ensures in
    where_refused c.from_residual.result
    (due_where_refused c.args.mode c.args.tree.now.nodes c.set_comma.new.tree.nodes c.args.container c.args.tree.now.tree kept.oom_only_if
    (refused_here c.args.mode c.args.tree.now.nodes c.loop-next.tree.nodes c.args.container c.loop-next.next c.loop-next.invariant c.in-Some.node c.in-Some.is c.set_comma.new.tree.nodes kept.kept kept.missing))

pub returns-in_err-set_comma-clause-apart : goal.returns-in_err-set_comma-clause-apart
returns-in_err-set_comma-clause-apart g c =
    let kept = c.in_err-set_comma.ensures in
    leaves_others_in_part c.args.mode c.args.tree.now.nodes c.args.container c.set_comma.new.tree.nodes c.args.tree.now.tree c.requires
    (refused_here c.args.mode c.args.tree.now.nodes c.loop-next.tree.nodes c.args.container c.loop-next.next c.loop-next.invariant c.in-Some.node c.in-Some.is c.set_comma.new.tree.nodes kept.kept kept.missing)

pub next_holder-next-requires-clause-over : goal.next_holder-next-requires-clause-over
next_holder-next-requires-clause-over g c =
    over_still c.args.mode c.args.tree.now.nodes c.loop-next.tree.nodes c.args.container c.loop-next.next c.loop-next.invariant c.in-Some.node c.in-Some.is c.set_comma.new.tree.nodes c.set_comma.new.tree.tree c.in_ok-set_comma.ensures.set

pub next_holder-next-requires-clause-met : goal.next_holder-next-requires-clause-met
next_holder-next-requires-clause-met g c =
    met_still c.args.mode c.args.tree.now.nodes c.loop-next.tree.nodes c.args.container c.loop-next.next c.loop-next.invariant c.in-Some.node c.in-Some.is c.set_comma.new.tree.nodes c.set_comma.new.tree.tree c.in_ok-set_comma.ensures.set

pub loop-next-smaller : goal.loop-next-smaller
loop-next-smaller g c =
    fewer c.args.mode c.args.tree.now.nodes c.loop-next.tree.nodes c.args.container c.loop-next.next c.loop-next.invariant c.in-Some.node c.in-Some.is c.set_comma.new.tree.nodes c.set_comma.new.tree.tree c.in_ok-set_comma.ensures.set
    c.next_holder-next.result c.next_holder-next.ensures.come

pub loop-next-preserved : goal.loop-next-preserved
loop-next-preserved g c =
    let n = c.next_holder-next.ensures in
    record {
      tree = c.set_comma.new.tree.tree;
      in_tree = n.in_tree;
      over = n.over;
      met = n.met;
      set = goes_on c.args.mode c.args.tree.now.nodes c.loop-next.tree.nodes c.args.container c.loop-next.next c.loop-next.invariant c.in-Some.node c.in-Some.is c.set_comma.new.tree.nodes c.set_comma.new.tree.tree c.in_ok-set_comma.ensures.set
          c.next_holder-next.result n.come;
    }

pub returns-clause-set : goal.returns-clause-set
returns-clause-set g c =
    let now = c.loop-next.tree.nodes in
    all_set c.args.mode c.args.tree.now.nodes now c.args.container c.loop-next.next c.loop-next.invariant.set (ap (to_come now c.args.container) c.in_default.is)

pub returns-clause-said : goal.returns-clause-said
returns-clause-said g c = sets_anyway c.args.mode c.args.tree.now.nodes c.args.container c.loop-next.tree.nodes c.args.tree.now.tree c.requires (returns-clause-set g c)

pub returns-clause-apart : goal.returns-clause-apart
returns-clause-apart g c = leaves_others c.args.mode c.args.tree.now.nodes c.args.container c.loop-next.tree.nodes c.args.tree.now.tree c.requires (returns-clause-set g c)
