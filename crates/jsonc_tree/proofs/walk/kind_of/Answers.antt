use Rattle.std.proofs.Common.{◌<◌, length, arith, ap, ◌∙◌}
use Rattle.std.proofs.lemmas.List.{get_or_read}
use Rattle.jsonc_tree.specs.Stored.{LinkedNode, nowhere}
use Rattle.jsonc_tree.proofs.AgreeingLinks.{content_shown}
use Rattle.jsonc_tree.proofs.walk.kind_of.Goals as goal

pub returns : goal.returns
returns g c =
    let within : c.args.n < length c.args.nodes.now.items = omega (arith, c.requires, c.args.nodes.now.ok.0) in
    c.kind.ensures
    ∙ ap (λ (x : LinkedNode). x.content) (get_or_read c.args.nodes.now.items c.args.n c.index-node.result.now within c.index-node.ensures nowhere)
    ∙ content_shown c.args.nodes.now.items c.args.n within
