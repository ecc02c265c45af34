use Rattle.std.proofs.Common.{◌≡◌, None, refl, sym, subst}
use Rattle.jsonc_layout.specs.input.Views.{plain}
use Rattle.jsonc_tree.specs.Tree.{parent_at}
use Rattle.jsonc_edit.specs.Reading.{IsReplaced}
use Rattle.jsonc_run.specs.Edits.{replace}
use Rattle.jsonc_run.specs.Refusals.{FailsWith, as_it_was}
use Rattle.jsonc_run.proofs.EditsMade.{none_is, not_alone, not_found, some_is}
use Rattle.jsonc_run.proofs.at.replace_at.Goals as goal

pub returns-in_default : goal.returns-in_default
returns-in_default g c = not_found _ _ c.find.ensures.found (λ h. h) c.in_default.not-Some

pub returns-in-Ok-Some : goal.returns-in-Ok-Some
returns-in-Ok-Some g c = record {
  made = (c.in-Some.node, (c.find.ensures.found c.in-Some.node).0 c.in-Some.is, (c.in-Ok-Some.field-0-0, some_is c.in-Ok-Some.field-0 (IsReplaced c.args.tree.now.nodes c.replace.new.tree.nodes c.in-Some.node (plain c.args.value.now)) c.in-Ok-Some.field-0-0 c.in-Ok-Some.field-0-is c.in-Ok-Some.ensures.replaced));
  error = tt;
  left = tt;
}

pub returns-in-Ok-None : goal.returns-in-Ok-None
returns-in-Ok-None g c = absurd (not_alone c.args.tree.now.nodes c.args.tree.now.tree c.args.path.now c.in-Some.node ((c.find.ensures.found c.in-Some.node).0 c.in-Some.is) (none_is c.in-Ok-None.field-0 (parent_at c.args.tree.now.nodes c.in-Some.node ≡ None) c.in-Ok-None.field-0-is c.in-Ok-None.ensures.none))

pub returns-in-Err : goal.returns-in-Err
returns-in-Err g c = record {
  made = tt;
  error = subst (FailsWith c.args.tree.now.nodes (replace c.args.path.now (plain c.args.value.now))) (sym c.in-Err.ensures.memory) (c.in-Some.node, (c.find.ensures.found c.in-Some.node).0 c.in-Some.is, refl);
  left = as_it_was c.in-Err.ensures.kept c.in-Err.ensures.document;
}
