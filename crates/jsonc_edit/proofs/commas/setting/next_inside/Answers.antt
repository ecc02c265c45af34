use Rattle.jsonc_edit.proofs.lemmas.commas.ReachedContainers.{no_child, open_reached, to_child}
use Rattle.jsonc_edit.proofs.commas.setting.next_inside.Goals as goal

pub returns-in-Some-clause-rest : goal.returns-in-Some-clause-rest
returns-in-Some-clause-rest g c =
    (to_child c.args.tree.now.nodes c.args.tree.now.tree c.args.end c.args.node c.in-Some.first c.requires.in_tree c.requires.over c.requires.reached c.in-Some.ensures).0

pub returns-in-Some-clause-in_tree : goal.returns-in-Some-clause-in_tree
returns-in-Some-clause-in_tree g c =
    (to_child c.args.tree.now.nodes c.args.tree.now.tree c.args.end c.args.node c.in-Some.first c.requires.in_tree c.requires.over c.requires.reached c.in-Some.ensures).1

pub returns-in-Some-clause-over : goal.returns-in-Some-clause-over
returns-in-Some-clause-over g c =
    (to_child c.args.tree.now.nodes c.args.tree.now.tree c.args.end c.args.node c.in-Some.first c.requires.in_tree c.requires.over c.requires.reached c.in-Some.ensures).2

pub returns-in-Some-clause-inside : goal.returns-in-Some-clause-inside
returns-in-Some-clause-inside g c =
    (to_child c.args.tree.now.nodes c.args.tree.now.tree c.args.end c.args.node c.in-Some.first c.requires.in_tree c.requires.over c.requires.reached c.in-Some.ensures).3

pub next_past-requires-clause-inside : goal.next_past-requires-clause-inside
next_past-requires-clause-inside g c = open_reached c.args.tree.now.nodes c.args.tree.now.tree c.args.end c.args.node c.requires.reached

pub returns-clause-rest : goal.returns-clause-rest
returns-clause-rest g c =
    no_child c.args.tree.now.nodes c.args.tree.now.tree c.args.end c.args.node c.next_past.result c.requires.in_tree c.in_default.ensures c.next_past.ensures.next
