use Rattle.std.proofs.Common.{◌≡◌, ◌<◌, ◌∷◌, length, Some, arith, ap, sym, ◌∙◌}
use Rattle.std.proofs.lemmas.Option.{slice_get_within, get_or_from_slice_get}
use Rattle.jsonc_tree.specs.Tree.{children_at, above}
use Rattle.jsonc_tree.specs.Order.{rest_at}
use Rattle.jsonc_tree.proofs.Order.{rest_down, rest_over}
use Rattle.jsonc_tree.specs.Stored.{nodes_of}
use Rattle.jsonc_tree.proofs.Gaps.{at_there, at_named}
use Rattle.jsonc_tree.proofs.AgreeingLinks.{length_shown}
use Rattle.jsonc_tree.proofs.LinkSteps.{none_at}
use Rattle.jsonc_tree.proofs.walk.node_after.Goals as goal

pub returns-in-Some-clause-rest : goal.returns-in-Some-clause-rest
returns-in-Some-clause-rest g c =
    let ns = nodes_of c.args.nodes.now.items in
    let there : c.args.n < length ns = omega (arith, c.requires.in_tree, length_shown c.args.nodes.now.items, c.args.nodes.now.ok.0) in
    rest_down ns c.requires.stored.tree c.args.end c.args.n there c.requires.over (slice_get_within (children_at ns c.args.n) 0 c.in-Some.first (sym c.in-Some.ensures))
    ∙ ap (λ m. c.args.n ∷ rest_at ns c.args.end (Some m)) (get_or_from_slice_get (children_at ns c.args.n) 0 c.in-Some.first 0 (sym c.in-Some.ensures))

pub returns-in-Some-clause-in_tree : goal.returns-in-Some-clause-in_tree
returns-in-Some-clause-in_tree g c = omega (arith, at_there (nodes_of c.args.nodes.now.items) c.requires.stored.tree c.args.n 0 c.in-Some.first (sym c.in-Some.ensures), length_shown c.args.nodes.now.items, c.args.nodes.now.ok.0)

pub returns-in-Some-clause-over : goal.returns-in-Some-clause-over
returns-in-Some-clause-over g c = above (at_named (nodes_of c.args.nodes.now.items) c.requires.stored.tree c.args.n 0 c.in-Some.first (sym c.in-Some.ensures)) c.requires.over

pub returns-clause-rest : goal.returns-clause-rest
returns-clause-rest g c =
    let ns = nodes_of c.args.nodes.now.items in
    let there : c.args.n < length ns = omega (arith, c.requires.in_tree, length_shown c.args.nodes.now.items, c.args.nodes.now.ok.0) in
    let none : length (children_at ns c.args.n) ≡ 0 = omega (arith, none_at (children_at ns c.args.n) 0 (sym c.in_default.ensures)) in
    rest_over ns c.requires.stored.tree c.args.end c.args.n c.next_after.result there none c.next_after.ensures.next
