use Rattle.std.proofs.Common.{rules, ◌≡◌, IfErr, OnErr, OnOk, length, sym, subst}
use Rattle.jsonc_text.specs.declared.edit.EditError.TheVariants.{OutOfMemory}
use Rattle.jsonc_text.specs.declared.edit.Over.TheVariants as over
use Rattle.jsonc_tree.specs.Building.{Keeps}
use Rattle.jsonc_tree.specs.OrderedTree.{ordered_tree}
use Rattle.jsonc_run.specs.Edits.{PlainEdit, ensure_root, EditStep}
use Rattle.jsonc_run.specs.Refusals.{IsAnswer, WantsEmpty}
use Rattle.jsonc_run.proofs.EditsMade.{answers, told_as_wanted}
use Rattle.jsonc_run.proofs.at.ensure_value.Goals as goal

pub returns-in_err-root_value_or_create-in-Keep : goal.returns-in_err-root_value_or_create-in-Keep
returns-in_err-root_value_or_create-in-Keep g c =
    let e : PlainEdit = ensure_root c.args.shape over.Keep in
    let made : OnOk c.from_residual.result (EditStep c.args.tree.now.nodes e c.root_value_or_create.new.tree.nodes) = search rules in
    let memory : IfErr c.from_residual.result (λ x. x ≡ OutOfMemory) = search rules in
    let wanted : OnErr c.from_residual.result (WantsEmpty c.args.shape over.Keep c.args.tree.now.nodes) = search rules in
    let kept : OnErr c.from_residual.result (Keeps (length c.args.tree.now.nodes) c.args.tree.now.nodes c.root_value_or_create.new.tree.nodes) = search rules in
    let same : OnErr c.from_residual.result (ordered_tree c.root_value_or_create.new.tree.nodes 0 ≡ ordered_tree c.args.tree.now.nodes 0) = search rules in
    subst (λ how. IsAnswer c.args.tree.now.nodes c.root_value_or_create.new.tree.nodes (ensure_root c.args.shape how) c.from_residual.result) (sym c.in-Keep.is) (answers c.args.tree.now.nodes c.root_value_or_create.new.tree.nodes e c.from_residual.result made (told_as_wanted c.args.tree.now.nodes c.args.shape over.Keep c.from_residual.result memory wanted) kept same)

pub returns-in_err-root_value_or_set-in-Replace : goal.returns-in_err-root_value_or_set-in-Replace
returns-in_err-root_value_or_set-in-Replace g c =
    let e : PlainEdit = ensure_root c.args.shape over.Replace in
    let made : OnOk c.from_residual-in_err-root_value_or_set-in-Replace.result (EditStep c.args.tree.now.nodes e c.root_value_or_set.new.tree.nodes) = search rules in
    let memory : IfErr c.from_residual-in_err-root_value_or_set-in-Replace.result (λ x. x ≡ OutOfMemory) = search rules in
    let wanted : OnErr c.from_residual-in_err-root_value_or_set-in-Replace.result (WantsEmpty c.args.shape over.Replace c.args.tree.now.nodes) = search rules in
    let kept : OnErr c.from_residual-in_err-root_value_or_set-in-Replace.result (Keeps (length c.args.tree.now.nodes) c.args.tree.now.nodes c.root_value_or_set.new.tree.nodes) = search rules in
    let same : OnErr c.from_residual-in_err-root_value_or_set-in-Replace.result (ordered_tree c.root_value_or_set.new.tree.nodes 0 ≡ ordered_tree c.args.tree.now.nodes 0) = search rules in
    subst (λ how. IsAnswer c.args.tree.now.nodes c.root_value_or_set.new.tree.nodes (ensure_root c.args.shape how) c.from_residual-in_err-root_value_or_set-in-Replace.result) (sym c.in-Replace.is) (answers c.args.tree.now.nodes c.root_value_or_set.new.tree.nodes e c.from_residual-in_err-root_value_or_set-in-Replace.result made (told_as_wanted c.args.tree.now.nodes c.args.shape over.Replace c.from_residual-in_err-root_value_or_set-in-Replace.result memory wanted) kept same)
