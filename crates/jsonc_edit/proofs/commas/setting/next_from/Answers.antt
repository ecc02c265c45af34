use Rattle.std.proofs.Common.{◌∙◌, sym}
use Rattle.jsonc_edit.proofs.lemmas.commas.ReachedContainers.{gone_by, less_inside, less_past, no_child, passed_by}
use Rattle.jsonc_edit.proofs.commas.setting.next_from.Goals as goal

pub next_inside-requires-clause-reached : goal.next_inside-requires-clause-reached
next_inside-requires-clause-reached g c = sym c.is_reached.ensures ∙ c.if-is_reached.true

pub returns-then-is_reached-clause-come : goal.returns-then-is_reached-clause-come
returns-then-is_reached-clause-come g c =
    gone_by c.args.tree.now.nodes c.args.tree.now.tree c.args.end c.args.node c.next_inside.result c.requires.passed c.next_inside.ensures.rest

pub returns-then-is_reached-clause-less : goal.returns-then-is_reached-clause-less
returns-then-is_reached-clause-less g c =
    less_inside c.args.tree.now.nodes c.args.tree.now.tree c.args.end c.args.node c.next_inside.result c.next_inside.ensures.rest

pub returns-clause-come : goal.returns-clause-come
returns-clause-come g c =
    passed_by c.args.tree.now.nodes c.args.tree.now.tree c.args.end c.args.node c.next_past-2.result c.requires.over (sym c.is_reached.ensures ∙ c.if-is_reached.false) c.next_past-2.ensures.next

pub returns-clause-less : goal.returns-clause-less
returns-clause-less g c =
    less_past c.args.tree.now.nodes c.args.tree.now.tree c.args.end c.args.node c.next_past-2.result c.requires.in_tree c.next_past-2.ensures.next

pub returns-in_default-clause-come : goal.returns-in_default-clause-come
returns-in_default-clause-come g c =
    gone_by c.args.tree.now.nodes c.args.tree.now.tree c.args.end c.args.node c.next_past.result c.requires.passed
    (no_child c.args.tree.now.nodes c.args.tree.now.tree c.args.end c.args.node c.next_past.result c.requires.in_tree c.in_default.ensures c.next_past.ensures.next)

pub returns-in_default-clause-less : goal.returns-in_default-clause-less
returns-in_default-clause-less g c =
    less_past c.args.tree.now.nodes c.args.tree.now.tree c.args.end c.args.node c.next_past.result c.requires.in_tree c.next_past.ensures.next
