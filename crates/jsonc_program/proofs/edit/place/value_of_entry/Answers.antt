use Rattle.std.proofs.Common.{◌≡◌, ◌∙◌, None, Some, ap, subst, sym}
use Rattle.jsonc_cst.specs.Document.{HasNode}
use Rattle.jsonc_program.specs.edit.Routes.{value_of_entry}
use Rattle.jsonc_program.proofs.EditRoutes.{no_some, of_no_property}
use Rattle.jsonc_program.proofs.edit.place.value_of_entry.Goals as goal

pub value-requires : goal.value-requires
value-requires g c = subst (HasNode c.args.document.now) ((c.as_object_prop.ensures c.in-Some.property).0 c.in-Some.is) c.requires

pub returns-in-Some-clause-value : goal.returns-in-Some-clause-value
returns-in-Some-clause-value g c =
    c.value.ensures.value ∙ sym (ap (value_of_entry c.args.document.now) ((c.as_object_prop.ensures c.in-Some.property).0 c.in-Some.is))

pub returns-in-None-clause-value : goal.returns-in-None-clause-value
returns-in-None-clause-value g c = sym (of_no_property c.args.document.now c.args.entry (λ x e. no_some (sym c.in-None.is ∙ (c.as_object_prop.ensures x).1 e)))
