use Rattle.std.proofs.Common.{◌≡◌, Some, refl, ap, ◌∙◌}
use Rattle.jsonc_layout.specs.input.Views.{plain}
use Rattle.jsonc_tree.specs.Tree.{content_at, parent_at}
use Rattle.jsonc_layout.specs.nodes.Properties.{value_at}
use Rattle.jsonc_edit.specs.Reading.{IsReplaced}
use Rattle.jsonc_cst.specs.Nodes.{number_of}
use Rattle.jsonc_cst.specs.typed.Values.{HeldBecomes}
use Rattle.jsonc_cst.proofs.lemmas.typed.HandlesKept.{as_typed, nodes_stay, of_some}
use Rattle.jsonc_cst.proofs.lemmas.typed.PropertyValues.{held_becomes, held_is_child, held_property, held_there, stay_held}
use Rattle.jsonc_cst.proofs.lemmas.typed.Marked.{replaced_marked}
use Rattle.jsonc_cst.proofs.lemmas.typed.Around.{replaced_around}
use Rattle.jsonc_cst.proofs.lemmas.typed.DetachedNodes.{held_elsewhere}
use Rattle.jsonc_cst.proofs.lemmas.typed.Steps.{held_step}
use Rattle.jsonc_layout.proofs.lemmas.from_input.Texts.{of_texts}
use Rattle.jsonc_cst.proofs.cst.node.CstObjectProp.set_value.Goals as goal

pub set_property_value-requires-clause-property : goal.set_property_value-requires-clause-property
set_property_value-requires-clause-property g c =
    let old = c.args.doc.now.tree.nodes in
    ap (content_at old) (c.number-number.ensures ∙ ap number_of c.node.ensures) ∙ held_property old c.args.self c.requires

pub node_at-requires : goal.node_at-requires
node_at-requires g c =
    let old = c.args.doc.now.tree.nodes in
    let new = c.set_property_value.new.tree.nodes in
    let p = c.number-number.result in
    let v = plain c.args.value in
    held_there old new p v (value_at old p) c.in_ok-new.new (held_becomes old new p v (value_at old p) c.in_ok-new.new c.in_ok-new.ensures.replaced c.in_ok-new.ensures.last)

pub returns : goal.returns
returns g c =
    let old = c.args.doc.now.tree.nodes in
    let tree = c.args.doc.now.tree.tree in
    let new = c.set_property_value.new.tree.nodes in
    let after = c.set_property_value.new.tree.tree in
    let p = c.args.self.number in
    let held = value_at old p in
    let v = plain c.args.value in
    let m = c.in_ok-new.new in
    let same = c.number-number.ensures ∙ ap number_of c.node.ensures in
    let replaced = rw same at c.in_ok-new.ensures.replaced in
    let becomes = held_becomes old new p v held m replaced (rw same at c.in_ok-new.ensures.last) in
    let property = held_property old c.args.self c.requires in
    record {
      set = as_typed (HeldBecomes old new p v held) new m c.node_at.result c.node_at.ensures.node becomes;
      marked = λ n e. replaced_marked old new v tree n m (of_some (λ k. IsReplaced old new k v m) held n e replaced);
      around = λ n e. replaced_around old new v tree n m (of_some (λ k. IsReplaced old new k v m) held n e replaced);
      step = held_step old new tree after p v m (of_texts _ c.args.value) becomes property;
      detached = held_elsewhere old new tree after p c.requires.0 property v held m refl becomes;
      child = as_typed (λ k. parent_at new k ≡ Some p) new m c.node_at.result c.node_at.ensures.node (held_is_child old new p v tree property held m refl becomes);
      in_document = c.node_at.ensures.in_document;
      handles = nodes_stay old new (stay_held old new p v held m becomes);
      memory = tt;
      kept = tt;
      document = tt;
    }
