use Rattle.std.proofs.Common.{rules, ◌≡◌, chars, IfErr}
use Rattle.jsonc_tree.specs.Tree.{children_at}
use Rattle.jsonc_text.specs.declared.edit.EditError.TheVariants.{OutOfMemory}
use Rattle.jsonc_insert.proofs.lemmas.named.EnsureErrors.{none_come, none_read, none_set}
use Rattle.jsonc_insert.proofs.lemmas.named.Writing.{first_named}
use Rattle.jsonc_insert.proofs.named.named.ensure_property.Goals as goal

pub property_value_or_set-requires-clause-property : goal.property_value_or_set-requires-clause-property
property_value_or_set-requires-clause-property g c =
    (first_named c.args.tree.now.nodes (chars c.args.name.now) (children_at c.args.tree.now.nodes c.args.object) c.in_ok-found.found c.in-Some.property c.in-Some.is c.in_ok-found.ensures.found).0

pub returns-in_err-found-clause-error : goal.returns-in_err-found-clause-error
returns-in_err-found-clause-error g c =
    let memory : IfErr c.from_residual.result (λ e. e ≡ OutOfMemory) = search rules in
    none_read c.args.shape c.args.tree.now.nodes c.args.object (chars c.args.name.now) c.args.over c.from_residual.result memory c.in_err-found.ensures.memory

pub returns-in-Err-clause-error : goal.returns-in-Err-clause-error
returns-in-Err-clause-error g c =
    none_come c.args.shape c.args.tree.now.nodes c.args.object (chars c.args.name.now) c.args.over c.in_ok-found.found c.in-Err.error c.in_ok-found.ensures.found c.in_default.not-Some c.in-Err.ensures.error

pub returns-in-Err-property_value_or_set-clause-error : goal.returns-in-Err-property_value_or_set-clause-error
returns-in-Err-property_value_or_set-clause-error g c =
    none_set c.args.shape c.args.tree.now.nodes c.args.object (chars c.args.name.now) c.args.over c.in_ok-found.found c.in-Some.property c.in-Err-property_value_or_set.error c.in-Replace.is c.in-Some.is c.in_ok-found.ensures.found c.in-Err-property_value_or_set.ensures.error c.in-Err-property_value_or_set.ensures.missing
