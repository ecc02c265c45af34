use Rattle.std.proofs.Common.{◌∙◌, sym, ap}
use Rattle.jsonc_edit.specs.commas.InTurn.{is_reached}
use Rattle.jsonc_edit.proofs.lemmas.commas.Reach.{reached_end}
use Rattle.jsonc_edit.proofs.lemmas.commas.ReachedContainers.{reached_by}
use Rattle.jsonc_edit.proofs.commas.setting.is_reached.Goals as goal

pub returns-then-node-end : goal.returns-then-node-end
returns-then-node-end g c =
    let ns = c.args.tree.now.nodes in
    sym (ap (λ k. is_reached ns k c.args.node) (sym c.if-node-end.true) ∙ reached_end ns c.args.tree.now.tree c.args.node c.requires.in_tree)

pub returns : goal.returns
returns g c =
    let ns = c.args.tree.now.nodes in
    c.is_entered.ensures ∙ reached_by ns c.args.tree.now.tree c.args.end c.args.node c.requires.in_tree c.requires.inside c.if-node-end.false
