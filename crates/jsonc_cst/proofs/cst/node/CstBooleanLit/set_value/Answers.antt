use Rattle.std.proofs.Common.{ap, ◌∙◌}
use Rattle.jsonc_tree.specs.Tree.{content_at}
use Rattle.jsonc_edit.specs.set.Booleans.{is_boolean}
use Rattle.jsonc_cst.specs.Nodes.{number_of}
use Rattle.jsonc_cst.proofs.lemmas.typed.PropertyValues.{boolean_or_kept, held_boolean}
use Rattle.jsonc_cst.proofs.lemmas.typed.DetachedNodes.{if_boolean}
use Rattle.jsonc_cst.proofs.lemmas.typed.Steps.{boolean_step, ok_then}
use Rattle.jsonc_cst.proofs.cst.node.CstBooleanLit.set_value.Goals as goal

pub set_boolean-requires-clause-boolean : goal.set_boolean-requires-clause-boolean
set_boolean-requires-clause-boolean g c =
    let old = c.args.doc.now.tree.nodes in
    ap (λ n. is_boolean (content_at old n)) (c.number-number.ensures ∙ ap number_of c.node.ensures) ∙ held_boolean old c.args.self c.requires

pub returns : goal.returns
returns g c =
    let old = c.args.doc.now.tree.nodes in
    let tree = c.args.doc.now.tree.tree in
    let new = c.set_boolean.new.tree.nodes in
    let after = c.set_boolean.new.tree.tree in
    let n = c.args.self.number in
    let value = c.args.value in
    let result = c.set_boolean.result in
    let same = c.number-number.ensures ∙ ap number_of c.node.ensures in
    let set = rw same at c.set_boolean.ensures.set in
    let boolean = held_boolean old c.args.self c.requires in
    record {
      set = set;
      step = ok_then result (λ made. boolean_step old new tree after n value made boolean) set;
      detached = if_boolean old new tree after n value c.requires.0 result set;
      handles = boolean_or_kept old new n value c.requires.0 boolean result set c.set_boolean.ensures.kept;
      memory = c.set_boolean.ensures.memory;
      oom_only_if = rw same at c.set_boolean.ensures.oom_only_if;
      kept = c.set_boolean.ensures.kept;
      document = c.set_boolean.ensures.document;
    }
