use Rattle.std.proofs.Common.{sym, ◌∙◌}
use Rattle.jsonc_edit.proofs.lemmas.remove.ClearedComments.{line_there, no_line}
use Rattle.jsonc_edit.proofs.remove.comments.begins_line.Goals as goal

pub returns-in-Some : goal.returns-in-Some
returns-in-Some g c =
    sym (line_there c.args.tree.now.nodes c.args.tree.now.tree c.args.container c.args.node c.requires c.in-Some.sibling (sym c.previous_sibling.ensures ∙ c.in-Some.is) c.is_newline.result (sym c.is_newline.ensures.newline))

pub returns-in-None : goal.returns-in-None
returns-in-None g c = sym (no_line c.args.tree.now.nodes c.args.tree.now.tree c.args.container c.args.node c.requires (sym c.previous_sibling.ensures ∙ c.in-None.is))
