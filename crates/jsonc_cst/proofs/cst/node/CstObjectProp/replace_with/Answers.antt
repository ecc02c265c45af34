use Rattle.std.proofs.Common.{ap, chars, ◌∙◌}
use Rattle.jsonc_layout.specs.input.Views.{plain}
use Rattle.jsonc_edit.specs.set.Giving.{IsPropertyReplaced}
use Rattle.jsonc_cst.specs.Nodes.{number_of}
use Rattle.jsonc_cst.specs.typed.Around.{IsLaidProperty}
use Rattle.jsonc_cst.proofs.lemmas.typed.PropertyValues.{held_property}
use Rattle.jsonc_cst.proofs.lemmas.typed.HandlesKept.{as_typed, nodes_stay}
use Rattle.jsonc_cst.proofs.lemmas.typed.Roots.{property_there, stay_property}
use Rattle.jsonc_cst.proofs.lemmas.typed.Around.{property_laid}
use Rattle.jsonc_run.proofs.DetachedNodes.{property_elsewhere}
use Rattle.jsonc_cst.proofs.lemmas.typed.Detached.{property_nobodys}
use Rattle.jsonc_cst.proofs.lemmas.typed.Steps.{property_replaced_step}
use Rattle.jsonc_layout.proofs.lemmas.from_input.Texts.{of_texts}
use Rattle.std.proofs.lemmas.Str.{scalars-chars}
use Rattle.jsonc_cst.proofs.cst.node.CstObjectProp.replace_with.Goals as goal

pub node_at-requires : goal.node_at-requires
node_at-requires g c =
    property_there c.args.doc.now.tree.nodes c.replace_property.new.tree.nodes c.number-number.result (chars c.args.name.now) (plain c.args.value) c.in-Ok-Some.new (rw c.in-Ok-Some.field-0-is at c.in-Ok-Some.ensures.replaced)

pub returns-in-Ok-Some : goal.returns-in-Ok-Some
returns-in-Ok-Some g c =
    let old = c.args.doc.now.tree.nodes in
    let tree = c.args.doc.now.tree.tree in
    let new = c.replace_property.new.tree.nodes in
    let after = c.replace_property.new.tree.tree in
    let n = c.args.self.number in
    let name = chars c.args.name.now in
    let v = plain c.args.value in
    let m = c.in-Ok-Some.new in
    let replaced = rw (c.in-Ok-Some.field-0-is, c.number-number.ensures ∙ ap number_of c.node.ensures) at c.in-Ok-Some.ensures.replaced in
    let given = as_typed (IsPropertyReplaced old new n name v) new m c.node_at.result c.node_at.ensures.node replaced in
    record {
      replaced = given;
      laid = as_typed (IsLaidProperty old new n name v) new m c.node_at.result c.node_at.ensures.node (property_laid old new n m name v replaced);
      step = property_replaced_step old new tree after n m name v (scalars-chars c.args.name.now c.utf8.name) (of_texts _ c.args.value) replaced (held_property old c.args.self c.requires);
      detached = property_elsewhere old tree new n m name v after replaced;
      gone = property_nobodys old new n m tree after name v replaced;
      none = tt;
      untouched = tt;
      in_document = c.node_at.ensures.in_document;
      handles = nodes_stay old new (stay_property old new n name v m replaced);
      memory = tt;
      child = tt;
      kept = tt;
      document = tt;
    }
