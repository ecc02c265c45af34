use Rattle.std.proofs.Common.{refl, ap, ◌∙◌}
use Rattle.jsonc_layout.specs.input.Views.{plain}
use Rattle.jsonc_tree.specs.Tree.{content_at}
use Rattle.jsonc_layout.specs.nodes.Properties.{value_at}
use Rattle.jsonc_edit.specs.Reading.{IsReplaced}
use Rattle.jsonc_cst.specs.Nodes.{number_of}
use Rattle.jsonc_cst.proofs.Family.{number_of-typed}
use Rattle.jsonc_cst.specs.typed.Setting.{ValueBecomes}
use Rattle.jsonc_cst.proofs.lemmas.typed.Found.{stands_as, value_found}
use Rattle.jsonc_cst.proofs.lemmas.typed.HandlesKept.{as_typed, nodes_stay, of_some}
use Rattle.jsonc_cst.proofs.lemmas.typed.Roots.{becomes, set_there, stay_set}
use Rattle.jsonc_cst.proofs.lemmas.typed.Marked.{replaced_marked}
use Rattle.jsonc_cst.proofs.lemmas.typed.Around.{replaced_around}
use Rattle.jsonc_cst.proofs.lemmas.typed.Steps.{root_step}
use Rattle.jsonc_layout.proofs.lemmas.from_input.Texts.{of_texts}
use Rattle.jsonc_cst.proofs.cst.CstRootNode.set_value.Goals as goal

pub node_at-requires : goal.node_at-requires
node_at-requires g c =
    let old = c.args.self.now.tree.nodes in
    let new = c.set_root.new.tree.nodes in
    let v = plain c.args.value in
    set_there old new v (value_at old 0) c.in_ok-number.number (becomes old new v (value_at old 0) c.in_ok-number.number c.in_ok-number.ensures.replaced c.in_ok-number.ensures.first)

pub returns : goal.returns
returns g c =
    let old = c.args.self.now.tree.nodes in
    let tree = c.args.self.now.tree.tree in
    let new = c.set_root.new.tree.nodes in
    let after = c.set_root.new.tree.tree in
    let v = plain c.args.value in
    let was = value_at old 0 in
    let m = c.in_ok-number.number in
    let is = c.node_at.ensures.node in
    let replaced = c.in_ok-number.ensures.replaced in
    let first = c.in_ok-number.ensures.first in
    let set = becomes old new v was m replaced first in
    record {
      set = as_typed (ValueBecomes old new v was) new m c.node_at.result is set;
      marked = λ n e. replaced_marked old new v tree n m (of_some (λ k. IsReplaced old new k v m) was n e replaced);
      around = λ n e. replaced_around old new v tree n m (of_some (λ k. IsReplaced old new k v m) was n e replaced);
      step = root_step old new tree after v m (of_texts _ c.args.value) set;
      is_value = stands_as new m c.node_at.result (value_found old new v was m tree after refl set) (ap number_of is ∙ number_of-typed (content_at new m) m) c.node_at.ensures.in_document;
      in_document = c.node_at.ensures.in_document;
      handles = nodes_stay old new (stay_set old new v was m set);
      memory = tt;
      kept = tt;
      document = tt;
    }
