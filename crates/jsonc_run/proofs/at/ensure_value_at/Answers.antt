use Rattle.std.proofs.Common.{rules, ◌≡◌, true, IfErr, OnOk, OnErr, length}
use Rattle.jsonc_layout.specs.nodes.Properties.{lacks_name_at}
use Rattle.jsonc_text.specs.declared.edit.EditError.TheVariants.{MissingName}
use Rattle.jsonc_edit.specs.set.PropertyValues.{EnsureValueError}
use Rattle.jsonc_edit.specs.set.Shapes.{is_of}
use Rattle.jsonc_run.proofs.EditsMade.{answers, not_found}
use Rattle.jsonc_run.proofs.ValueMade.{property_kind, unset_answer}
use Rattle.jsonc_run.specs.Edits.{ensure_value, EditStep}
use Rattle.jsonc_tree.specs.Building.{Keeps}
use Rattle.jsonc_tree.specs.OrderedTree.{ordered_tree}
use Rattle.jsonc_run.proofs.at.ensure_value_at.Goals as goal

pub returns-in_default : goal.returns-in_default
returns-in_default g c = not_found _ _ c.find_property.ensures.found (λ h. h) c.in_default.not-Some

pub property_value_or_set-requires-clause-property : goal.property_value_or_set-requires-clause-property
property_value_or_set-requires-clause-property g c = property_kind c.args.tree.now.nodes c.args.path.now c.in-Some.property ((c.find_property.ensures.found c.in-Some.property).0 c.in-Some.is)

pub returns : goal.returns
returns g c = record {
  made = (c.in-Some.property, (c.find_property.ensures.found c.in-Some.property).0 c.in-Some.is, (c.in_ok-property_value_or_set.ensures.named, c.in_ok-property_value_or_set.field-0, c.in_ok-property_value_or_set.ensures.value));
  error = tt;
  left = tt;
}

pub returns-in_err-property_value_or_set : goal.returns-in_err-property_value_or_set
returns-in_err-property_value_or_set g c =
    let told : IfErr c.from_residual.result (EnsureValueError (is_of c.args.shape) c.args.tree.now.nodes c.in-Some.property) = search rules in
    let missing : IfErr c.from_residual.result (λ e. lacks_name_at c.args.tree.now.nodes c.in-Some.property ≡ true → e ≡ MissingName) = search rules in
    let made : OnOk c.from_residual.result (EditStep c.args.tree.now.nodes (ensure_value c.args.path.now c.args.shape) c.property_value_or_set.new.tree.nodes) = search rules in
    let kept : OnErr c.from_residual.result (Keeps (length c.args.tree.now.nodes) c.args.tree.now.nodes c.property_value_or_set.new.tree.nodes) = search rules in
    let same : OnErr c.from_residual.result (ordered_tree c.property_value_or_set.new.tree.nodes 0 ≡ ordered_tree c.args.tree.now.nodes 0) = search rules in
    answers c.args.tree.now.nodes c.property_value_or_set.new.tree.nodes (ensure_value c.args.path.now c.args.shape) c.from_residual.result made
    (unset_answer c.args.tree.now.nodes c.args.path.now c.in-Some.property c.args.shape ((c.find_property.ensures.found c.in-Some.property).0 c.in-Some.is) c.from_residual.result told missing)
    kept same
