use Rattle.std.proofs.Common.{sym, ap, ◌∙◌}
use Rattle.jsonc_tree.specs.Tree.{parent_at}
use Rattle.jsonc_edit.proofs.lemmas.commenting.Blanks.{follows_child}
use Rattle.jsonc_edit.proofs.lemmas.commenting.Planned.{comes_behind, document_stays}
use Rattle.jsonc_edit.proofs.commenting.behind.insert_comment_behind.Goals as goal

pub come_spaced-requires : goal.come_spaced-requires
come_spaced-requires g c = record {
  child = ap (parent_at c.args.tree.now.nodes) c.comment_follows-before.ensures ∙ follows_child c.args.tree.now.nodes c.args.tree.now.tree c.args.node c.in-Some.container (sym c.parent.ensures ∙ c.in-Some.is) c.args.text.now;
}

pub returns-clause-come : goal.returns-clause-come
returns-clause-come g c =
    comes_behind c.args.tree.now.nodes c.come_spaced.new.tree.nodes c.in-Some.container c.args.node c.comment_follows-before.result c.args.text.now (sym c.parent.ensures ∙ c.in-Some.is) c.comment_follows-before.ensures c.come_spaced.result c.come_spaced.ensures.come

pub returns-clause-document : goal.returns-clause-document
returns-clause-document g c = document_stays c.args.tree.now.nodes c.come_spaced.new.tree.nodes c.args.tree.now.tree c.come_spaced.result c.come_spaced.ensures.prepared
