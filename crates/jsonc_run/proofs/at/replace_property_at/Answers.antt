use Rattle.std.proofs.Common.{rules, refl, ◌≡◌, None, IfErr, chars, OnOk, OnErr, length}
use Rattle.jsonc_layout.specs.input.Views.{plain}
use Rattle.jsonc_tree.specs.Tree.{parent_at}
use Rattle.jsonc_text.specs.declared.edit.EditError.TheVariants.{OutOfMemory}
use Rattle.jsonc_edit.specs.set.Giving.{IsPropertyReplaced}
use Rattle.jsonc_run.specs.Edits.{replace_property, EditStep}
use Rattle.jsonc_run.specs.Refusals.{FailsWith}
use Rattle.jsonc_run.proofs.EditsMade.{answers, none_is, not_found, property_not_alone, some_is, told_of_memory}
use Rattle.jsonc_tree.specs.Building.{Keeps}
use Rattle.jsonc_tree.specs.OrderedTree.{ordered_tree}
use Rattle.jsonc_run.proofs.at.replace_property_at.Goals as goal

pub returns-in_default : goal.returns-in_default
returns-in_default g c = not_found _ _ c.find_property.ensures.found (λ h. h) c.in_default.not-Some

pub returns : goal.returns
returns g c = record {
  made = (c.in-Some.property, (c.find_property.ensures.found c.in-Some.property).0 c.in-Some.is, (c.in-Some-2.field-0, some_is c.in_ok-replace_property.field-0 (IsPropertyReplaced c.args.tree.now.nodes c.replace_property.new.tree.nodes c.in-Some.property (chars c.args.name.now) (plain c.args.value.now)) c.in-Some-2.field-0 c.in-Some-2.is c.in_ok-replace_property.ensures.replaced));
  error = tt;
  left = tt;
}

pub unreachable-requires : goal.unreachable-requires
unreachable-requires g c =
    property_not_alone c.args.tree.now.nodes c.args.tree.now.tree c.args.path.now c.in-Some.property ((c.find_property.ensures.found c.in-Some.property).0 c.in-Some.is)
    (none_is c.in_ok-replace_property.field-0 (parent_at c.args.tree.now.nodes c.in-Some.property ≡ None) c.in_default-2.is c.in_ok-replace_property.ensures.none)

pub returns-in_err-replace_property : goal.returns-in_err-replace_property
returns-in_err-replace_property g c =
    let memory : IfErr c.from_residual.result (λ e. e ≡ OutOfMemory) = search rules in
    let made : OnOk c.from_residual.result (EditStep c.args.tree.now.nodes (replace_property c.args.path.now (chars c.args.name.now) (plain c.args.value.now)) c.replace_property.new.tree.nodes) = search rules in
    let kept : OnErr c.from_residual.result (Keeps (length c.args.tree.now.nodes) c.args.tree.now.nodes c.replace_property.new.tree.nodes) = search rules in
    let same : OnErr c.from_residual.result (ordered_tree c.replace_property.new.tree.nodes 0 ≡ ordered_tree c.args.tree.now.nodes 0) = search rules in
    answers c.args.tree.now.nodes c.replace_property.new.tree.nodes (replace_property c.args.path.now (chars c.args.name.now) (plain c.args.value.now)) c.from_residual.result made
    (told_of_memory (FailsWith c.args.tree.now.nodes (replace_property c.args.path.now (chars c.args.name.now) (plain c.args.value.now))) c.from_residual.result memory
    (c.in-Some.property, (c.find_property.ensures.found c.in-Some.property).0 c.in-Some.is, refl))
    kept same
