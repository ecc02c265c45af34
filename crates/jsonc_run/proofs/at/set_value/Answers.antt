use Rattle.std.proofs.Common.{rules, refl, ◌≡◌, IfErr, OnOk, OnErr, length}
use Rattle.jsonc_layout.specs.input.Views.{plain}
use Rattle.jsonc_layout.specs.nodes.Properties.{value_at}
use Rattle.jsonc_text.specs.declared.edit.EditError.TheVariants.{OutOfMemory}
use Rattle.jsonc_run.specs.Edits.{set_root, EditStep}
use Rattle.jsonc_run.specs.Refusals.{FailsWith}
use Rattle.jsonc_run.proofs.EditsMade.{root_set, told_of_memory, answers}
use Rattle.jsonc_tree.specs.Building.{Keeps}
use Rattle.jsonc_tree.specs.OrderedTree.{ordered_tree}
use Rattle.jsonc_run.proofs.at.set_value.Goals as goal

pub returns : goal.returns
returns g c = record {
  made = root_set c.args.tree.now.nodes c.set_root.new.tree.nodes (plain c.args.value.now) c.in_ok-set_root.field-0 (value_at c.args.tree.now.nodes 0) c.in_ok-set_root.ensures.replaced c.in_ok-set_root.ensures.first;
  error = tt;
  left = tt;
}

pub returns-in_err-set_root : goal.returns-in_err-set_root
returns-in_err-set_root g c =
    let memory : IfErr c.from_residual.result (λ e. e ≡ OutOfMemory) = search rules in
    let made : OnOk c.from_residual.result (EditStep c.args.tree.now.nodes (set_root (plain c.args.value.now)) c.set_root.new.tree.nodes) = search rules in
    let kept : OnErr c.from_residual.result (Keeps (length c.args.tree.now.nodes) c.args.tree.now.nodes c.set_root.new.tree.nodes) = search rules in
    let same : OnErr c.from_residual.result (ordered_tree c.set_root.new.tree.nodes 0 ≡ ordered_tree c.args.tree.now.nodes 0) = search rules in
    answers c.args.tree.now.nodes c.set_root.new.tree.nodes (set_root (plain c.args.value.now)) c.from_residual.result made
    (told_of_memory (FailsWith c.args.tree.now.nodes (set_root (plain c.args.value.now))) c.from_residual.result memory refl)
    kept same
