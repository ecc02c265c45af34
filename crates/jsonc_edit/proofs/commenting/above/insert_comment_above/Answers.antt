use Rattle.std.proofs.Common.{true, false, sym, ◌∙◌}
use Rattle.jsonc_edit.proofs.lemmas.commenting.Planned.{comes_above, document_stays}
use Rattle.jsonc_edit.proofs.commenting.above.insert_comment_above.Goals as goal

pub returns-then-begins_own_line-clause-come : goal.returns-then-begins_own_line-clause-come
returns-then-begins_own_line-clause-come g c =
    comes_above c.args.tree.now.nodes c.come_on_line.new.tree.nodes c.in-Some.container c.args.node c.args.text.now true (sym c.parent.ensures ∙ c.in-Some.is) (sym c.begins_own_line.ensures ∙ c.if-begins_own_line.true) c.come_on_line.result c.come_on_line.ensures.come

pub returns-then-begins_own_line-clause-document : goal.returns-then-begins_own_line-clause-document
returns-then-begins_own_line-clause-document g c = document_stays c.args.tree.now.nodes c.come_on_line.new.tree.nodes c.args.tree.now.tree c.come_on_line.result c.come_on_line.ensures.prepared

pub returns-clause-come : goal.returns-clause-come
returns-clause-come g c =
    comes_above c.args.tree.now.nodes c.come_between.new.tree.nodes c.in-Some.container c.args.node c.args.text.now false (sym c.parent.ensures ∙ c.in-Some.is) (sym c.begins_own_line.ensures ∙ c.if-begins_own_line.false) c.come_between.result c.come_between.ensures.come

pub returns-clause-document : goal.returns-clause-document
returns-clause-document g c = document_stays c.args.tree.now.nodes c.come_between.new.tree.nodes c.args.tree.now.tree c.come_between.result c.come_between.ensures.prepared
