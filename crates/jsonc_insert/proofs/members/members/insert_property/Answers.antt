use Rattle.std.proofs.Common.{chars, sym, ◌∙◌}
use Rattle.jsonc_layout.specs.input.Views.{plain}
use Rattle.jsonc_edit.proofs.NodesKept.{tree_stays}
use Rattle.jsonc_edit.proofs.ReplacedChildren.{where_refused}
use Rattle.jsonc_insert.proofs.lemmas.members.SpreadRows.{put_kept}
use Rattle.jsonc_insert.proofs.members.members.insert_property.Goals as goal

pub returns-in_err-property-clause-document : goal.returns-in_err-property-clause-document
returns-in_err-property-clause-document g c =
    where_refused c.from_residual.result (tree_stays c.args.tree.now.nodes c.insert_spread.new.tree.nodes c.args.tree.now.tree c.in_err-property.ensures.kept c.insert_spread.new.tree.tree)

pub returns-in_err-property-2-clause-document : goal.returns-in_err-property-2-clause-document
returns-in_err-property-2-clause-document g c =
    where_refused c.from_residual-in_err-property-2.result (tree_stays c.args.tree.now.nodes c.insert_entry.new.tree.nodes c.args.tree.now.tree c.in_err-property-2.ensures.kept c.insert_entry.new.tree.tree)

pub returns-clause-put : goal.returns-clause-put
returns-clause-put g c =
    put_kept c.args.tree.now.nodes c.insert_entry.new.tree.nodes c.args.tree.now.tree c.args.object c.args.index (chars c.args.name.now) (plain c.args.value.now) c.in_ok-property-2.property
    (sym c.has_brackets.ensures ∙ c.if-not-has_brackets.false) (sym c.has_line_end.ensures ∙ c.if-not-has_line_end.false) c.in_ok-property-2.ensures.put
