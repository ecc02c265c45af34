use Rattle.std.proofs.Common.{◌<◌, chars, length, subst, sym}
use Rattle.jsonc_layout.specs.input.Views.{plain}
use Rattle.jsonc_run.specs.Edits.{append_property}
use Rattle.jsonc_run.proofs.Properties.{comes_last}
use Rattle.jsonc_cst.proofs.lemmas.typed.There.{at_number, made_there, not_told, refused_there, too_deep_there}
use Rattle.jsonc_cst.proofs.cst.CstRootNode.append_property_there.Goals as goal

pub returns-then-is_too_deep_below : goal.returns-then-is_too_deep_below
returns-then-is_too_deep_below g c = λ path.
    let e = append_property path (chars c.args.name.now) (plain c.args.value.now) in
    at_number c.number-number.ensures
    (too_deep_there c.args.self.now c.number-number.result e (c.is_too_deep_below.ensures.0 c.if-is_too_deep_below.true))

pub returns-in-Ok : goal.returns-in-Ok
returns-in-Ok g c = λ path.
    let old = c.args.self.now in
    let k = c.number-number.result in
    let e = append_property path (chars c.args.name.now) (plain c.args.value.now) in
    let low : k < length old.tree.nodes = subst (λ m. m < length old.tree.nodes) (sym c.number-number.ensures) c.requires.in_document.0 in
    let last = comes_last old.tree.nodes c.insert_property.new.tree.nodes k c.len-count.result (chars c.args.name.now) (plain c.args.value.now) c.in-Ok.field-0 old.tree.tree c.len-count.ensures.len low c.in-Ok.ensures.brackets c.in-Ok.ensures.put in
    at_number c.number-number.ensures (made_there old k e _ (c.in-Ok.field-0, last) (not_told c.is_too_deep_below.result c.is_too_deep_below.ensures c.if-is_too_deep_below.false))

pub returns-in-Err : goal.returns-in-Err
returns-in-Err g c = λ path.
    let e = append_property path (chars c.args.name.now) (plain c.args.value.now) in
    at_number c.number-number.ensures
    (refused_there c.args.self.now c.number-number.result e _ c.in-Err.error c.in-Err.ensures.error c.in-Err.ensures.kept c.in-Err.ensures.document)
