use Rattle.std.proofs.Common.{◌≡◌, ap, subst, sym, ◌∙◌}
use Rattle.jsonc_edit.specs.commas.InTurn.{holders}
use Rattle.jsonc_cst.specs.Nodes.{number_of}
use Rattle.jsonc_cst.specs.typed.Steps.{IsHolder}
use Rattle.jsonc_cst.proofs.lemmas.typed.HandlesKept.{nodes_stay}
use Rattle.jsonc_cst.proofs.lemmas.typed.Trailing.{all_commas_set, commas_stay, stay_in_turn}
use Rattle.jsonc_cst.proofs.lemmas.typed.Steps.{commas_step, some_commas_step}
use Rattle.jsonc_cst.proofs.typed.commas.set_commas_of.Goals as goal

pub returns-in-Ok : goal.returns-in-Ok
returns-in-Ok g c =
    let old = c.args.doc.now.tree.nodes in
    let tree = c.args.doc.now.tree.tree in
    let new = c.set_trailing_commas.new.tree.nodes in
    let mode = c.args.mode in
    let n = number_of (g.N.TypedNode.node_of c.args.node) in
    let same : c.number-number.result ≡ n = c.number-number.ensures ∙ ap number_of c.node.ensures in
    let set = rw same at c.in-Ok.ensures.set in
    record {
      set = set;
      said = rw same at c.in-Ok.ensures.said;
      part = tt;
      all_set = λ o. all_commas_set mode old new n tree o set;
      once = λ o. commas_stay mode old new n tree o set;
      step = λ is. commas_step old new tree mode n set (subst IsHolder (sym c.requires.1) is);
      begun = tt;
      detached = rw same at c.set_trailing_commas.ensures.apart;
      oom_only_if = tt;
      needed = tt;
      memory = tt;
      handles = nodes_stay old new (stay_in_turn mode (holders old n) old new tree set);
    }

pub returns-in-Err : goal.returns-in-Err
returns-in-Err g c =
    let old = c.args.doc.now.tree.nodes in
    let tree = c.args.doc.now.tree.tree in
    let new = c.set_trailing_commas.new.tree.nodes in
    let mode = c.args.mode in
    let n = number_of (g.N.TypedNode.node_of c.args.node) in
    let same : c.number-number.result ≡ n = c.number-number.ensures ∙ ap number_of c.node.ensures in
    let part = rw same at c.in-Err.ensures.part in
    record {
      set = tt;
      said = tt;
      part = part;
      all_set = λ o. tt;
      once = λ o. tt;
      step = tt;
      begun = λ is. some_commas_step old new tree mode n part (subst IsHolder (sym c.requires.1) is);
      detached = rw same at c.set_trailing_commas.ensures.apart;
      oom_only_if = c.in-Err.ensures.oom_only_if;
      needed = rw same at c.in-Err.ensures.due;
      memory = c.in-Err.ensures.memory;
      handles = nodes_stay old new (stay_in_turn mode part.done old new tree part.set);
    }
