use Rattle.std.proofs.Common.{◌∙◌, ap, arith, chars, length, subst, sym}
use Rattle.jsonc_tree.specs.Building.{Keeps}
use Rattle.jsonc_tree.specs.OrderedTree.{ordered_tree}
use Rattle.jsonc_tree.proofs.Builder.{Keeps-same}
use Rattle.jsonc_run.specs.Edits.{rename_property}
use Rattle.jsonc_cst.specs.typed.There.{entry_above}
use Rattle.jsonc_cst.proofs.lemmas.typed.There.{at_number, made_there, refused_there}
use Rattle.jsonc_cst.proofs.cst.CstRootNode.rename_there.Goals as goal

pub returns-in-Ok : goal.returns-in-Ok
returns-in-Ok g c = λ path.
    let old = c.args.self.now in
    let e = rename_property path (chars c.args.name.now) in
    at_number (c.entry_of-property.ensures.entry ∙ ap (entry_above old.tree.nodes) c.number.ensures)
    (made_there old c.entry_of-property.result e _ (c.in-Ok.field-0, c.in-Ok.ensures.renamed) (λ deep. omega (arith, deep)))

pub returns-in-Err : goal.returns-in-Err
returns-in-Err g c = λ path.
    let old = c.args.self.now in
    let ns = old.tree.nodes in
    let e = rename_property path (chars c.args.name.now) in
    at_number (c.entry_of-property.ensures.entry ∙ ap (entry_above ns) c.number.ensures)
    (refused_there old c.entry_of-property.result e _ c.in-Err.error c.in-Err.ensures.error
    (subst (Keeps (length ns) ns) (sym c.in-Err.ensures.untouched) (Keeps-same (length ns) ns)) (ap (λ ns. ordered_tree ns 0) c.in-Err.ensures.untouched))
