use Rattle.std.proofs.Common.{◌≡◌, sym, ap, ◌∙◌}
use Rattle.jsonc_text.specs.declared.edit.EditError.TheVariants.{MissingName}
use Rattle.jsonc_layout.specs.input.Views.{plain}
use Rattle.jsonc_layout.specs.nodes.Properties.{lacks_name_at, value_at}
use Rattle.jsonc_edit.specs.set.Shapes.{empty_of, is_of}
use Rattle.jsonc_edit.proofs.lemmas.set.PropertyKinds.{none_found, set_last, set_other, lacks_none, lacks_other, on_ok, unset, not_missing}
use Rattle.jsonc_edit.proofs.lemmas.set.Shaped.{result_shaped}
use Rattle.jsonc_edit.proofs.set.values.property_value_or_set.Goals as goal

pub returns-in_default-clause-value : goal.returns-in_default-clause-value
returns-in_default-clause-value g c =
    set_last (is_of c.args.shape) (empty_of c.args.shape) (plain c.empty_value.result) c.args.tree.now.nodes c.set_property_value.new.tree.nodes c.args.property (value_at c.args.tree.now.nodes c.args.property) c.set_property_value.result
    (sym c.value_of.ensures.value ∙ none_found c.value_of.result c.in_default.not-Some) c.empty_value.ensures c.set_property_value.ensures.last

pub returns-in_default-clause-named : goal.returns-in_default-clause-named
returns-in_default-clause-named g c = on_ok _ c.set_property_value.result (sym c.lacks_name.ensures.lacks ∙ c.if-lacks_name.false)

pub returns-in_default-clause-error : goal.returns-in_default-clause-error
returns-in_default-clause-error g c =
    unset (is_of c.args.shape) c.args.tree.now.nodes c.args.property c.set_property_value.result c.set_property_value.ensures.memory
    (lacks_none (is_of c.args.shape) c.args.tree.now.nodes (value_at c.args.tree.now.nodes c.args.property) (sym c.value_of.ensures.value ∙ none_found c.value_of.result c.in_default.not-Some))

pub returns-in_default-clause-missing : goal.returns-in_default-clause-missing
returns-in_default-clause-missing g c =
    not_missing (lacks_name_at c.args.tree.now.nodes c.args.property) (λ e. e ≡ MissingName) c.set_property_value.result (sym c.lacks_name.ensures.lacks ∙ c.if-lacks_name.false)

pub returns-clause-value : goal.returns-clause-value
returns-clause-value g c =
    set_other (is_of c.args.shape) (empty_of c.args.shape) (plain c.empty_value-2.result) c.args.tree.now.nodes c.set_property_value-2.new.tree.nodes c.args.property (value_at c.args.tree.now.nodes c.args.property) c.in-Some.node c.set_property_value-2.result
    (sym c.value_of.ensures.value ∙ c.in-Some.is) (ap (is_of c.args.shape) (sym c.kind.ensures) ∙ sym c.has_shape.ensures ∙ c.if-has_shape.false) c.empty_value-2.ensures c.set_property_value-2.ensures.replaced

pub returns-clause-named : goal.returns-clause-named
returns-clause-named g c = on_ok _ c.set_property_value-2.result (sym c.lacks_name.ensures.lacks ∙ c.if-lacks_name.false)

pub returns-clause-error : goal.returns-clause-error
returns-clause-error g c =
    unset (is_of c.args.shape) c.args.tree.now.nodes c.args.property c.set_property_value-2.result c.set_property_value-2.ensures.memory
    (lacks_other (is_of c.args.shape) c.args.tree.now.nodes (value_at c.args.tree.now.nodes c.args.property) c.in-Some.node (sym c.value_of.ensures.value ∙ c.in-Some.is) (ap (is_of c.args.shape) (sym c.kind.ensures) ∙ sym c.has_shape.ensures ∙ c.if-has_shape.false))

pub returns-clause-missing : goal.returns-clause-missing
returns-clause-missing g c =
    not_missing (lacks_name_at c.args.tree.now.nodes c.args.property) (λ e. e ≡ MissingName) c.set_property_value-2.result (sym c.lacks_name.ensures.lacks ∙ c.if-lacks_name.false)

pub returns-in_default-clause-shape : goal.returns-in_default-clause-shape
returns-in_default-clause-shape g c =
    let old = c.args.tree.now.nodes in
    result_shaped c.args.shape old c.set_property_value.new.tree.nodes c.args.property (value_at old c.args.property) c.set_property_value.result (returns-in_default-clause-value g c)

pub returns-clause-shape : goal.returns-clause-shape
returns-clause-shape g c =
    let old = c.args.tree.now.nodes in
    result_shaped c.args.shape old c.set_property_value-2.new.tree.nodes c.args.property (value_at old c.args.property) c.set_property_value-2.result (returns-clause-value g c)
