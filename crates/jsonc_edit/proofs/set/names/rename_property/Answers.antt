use Rattle.std.proofs.Common.{chars, sym, ◌∙◌}
use Rattle.jsonc_edit.proofs.lemmas.set.PropertyKinds.{none_found}
use Rattle.jsonc_edit.proofs.lemmas.set.Renaming.{no_name, renamed_child, renamed_join, is_renamed}
use Rattle.jsonc_edit.proofs.set.names.rename_property.Goals as goal

pub returns-in_default-clause-error : goal.returns-in_default-clause-error
returns-in_default-clause-error g c =
    no_name c.args.tree.now.nodes c.args.property (sym c.name_of.ensures.name ∙ none_found c.name_of.result c.in_default.not-Some)

pub put_in_place-requires-clause-child : goal.put_in_place-requires-clause-child
put_in_place-requires-clause-child g c =
    renamed_child c.args.tree.now.nodes c.add_name.new.tree.nodes c.args.tree.now.tree c.args.property c.in-Some.old c.in_ok-new.new (chars c.args.name.now)
    (sym c.name_of.ensures.name ∙ c.in-Some.is) c.add_name.new.tree.tree c.in_ok-new.ensures.number c.in_ok-new.ensures.added

pub put_in_place-requires-clause-join : goal.put_in_place-requires-clause-join
put_in_place-requires-clause-join g c =
    renamed_join c.args.tree.now.nodes c.add_name.new.tree.nodes c.args.tree.now.tree c.args.property c.in-Some.old c.in_ok-new.new (chars c.args.name.now)
    (sym c.name_of.ensures.name ∙ c.in-Some.is) c.add_name.new.tree.tree c.in_ok-new.ensures.number c.in_ok-new.ensures.added

pub returns-clause-renamed : goal.returns-clause-renamed
returns-clause-renamed g c =
    is_renamed c.args.tree.now.nodes c.add_name.new.tree.nodes c.args.tree.now.tree c.args.property c.in-Some.old c.in_ok-new.new (chars c.args.name.now)
    (sym c.name_of.ensures.name ∙ c.in-Some.is) c.add_name.new.tree.tree c.in_ok-new.ensures.number c.in_ok-new.ensures.added
    c.put_in_place.new.tree.nodes c.put_in_place.new.tree.tree c.put_in_place.ensures.put
