use Rattle.std.proofs.Common.{rules, refl, ◌≡◌, IfErr, OnOk, OnErr, length}
use Rattle.jsonc_layout.specs.input.Views.{plain}
use Rattle.jsonc_layout.specs.nodes.Properties.{value_at}
use Rattle.jsonc_text.specs.declared.edit.EditError.TheVariants.{OutOfMemory}
use Rattle.jsonc_run.specs.Edits.{set_value, EditStep}
use Rattle.jsonc_run.specs.Refusals.{FailsWith}
use Rattle.jsonc_run.proofs.EditsMade.{answers, not_found, told_of_memory}
use Rattle.jsonc_run.proofs.ValueMade.{property_kind, property_value_set}
use Rattle.jsonc_tree.specs.Building.{Keeps}
use Rattle.jsonc_tree.specs.OrderedTree.{ordered_tree}
use Rattle.jsonc_run.proofs.at.set_value_at.Goals as goal

pub returns-in_default : goal.returns-in_default
returns-in_default g c = not_found _ _ c.find_property.ensures.found (λ h. h) c.in_default.not-Some

pub set_property_value-requires-clause-property : goal.set_property_value-requires-clause-property
set_property_value-requires-clause-property g c = property_kind c.args.tree.now.nodes c.args.path.now c.in-Some.property ((c.find_property.ensures.found c.in-Some.property).0 c.in-Some.is)

pub returns : goal.returns
returns g c = record {
  made = (c.in-Some.property, (c.find_property.ensures.found c.in-Some.property).0 c.in-Some.is, property_value_set c.args.tree.now.nodes c.set_property_value.new.tree.nodes c.in-Some.property (plain c.args.value.now) c.in_ok-set_property_value.field-0 (value_at c.args.tree.now.nodes c.in-Some.property) c.in_ok-set_property_value.ensures.replaced c.in_ok-set_property_value.ensures.last);
  error = tt;
  left = tt;
}

pub returns-in_err-set_property_value : goal.returns-in_err-set_property_value
returns-in_err-set_property_value g c =
    let memory : IfErr c.from_residual.result (λ e. e ≡ OutOfMemory) = search rules in
    let made : OnOk c.from_residual.result (EditStep c.args.tree.now.nodes (set_value c.args.path.now (plain c.args.value.now)) c.set_property_value.new.tree.nodes) = search rules in
    let kept : OnErr c.from_residual.result (Keeps (length c.args.tree.now.nodes) c.args.tree.now.nodes c.set_property_value.new.tree.nodes) = search rules in
    let same : OnErr c.from_residual.result (ordered_tree c.set_property_value.new.tree.nodes 0 ≡ ordered_tree c.args.tree.now.nodes 0) = search rules in
    answers c.args.tree.now.nodes c.set_property_value.new.tree.nodes (set_value c.args.path.now (plain c.args.value.now)) c.from_residual.result made
    (told_of_memory (FailsWith c.args.tree.now.nodes (set_value c.args.path.now (plain c.args.value.now))) c.from_residual.result memory
    (c.in-Some.property, (c.find_property.ensures.found c.in-Some.property).0 c.in-Some.is, refl))
    kept same
