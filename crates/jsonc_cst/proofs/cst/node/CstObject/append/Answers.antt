use Rattle.std.proofs.Common.{chars}
use Rattle.jsonc_layout.specs.input.Views.{plain}
use Rattle.jsonc_cst.proofs.lemmas.typed.InsertedElements.{appended_element, behind_all}
use Rattle.jsonc_cst.proofs.lemmas.typed.PropertyValues.{held_object}
use Rattle.jsonc_cst.proofs.lemmas.objects.Steps.{appended_step}
use Rattle.jsonc_cst.proofs.lemmas.typed.Steps.{ok_with}
use Rattle.jsonc_layout.proofs.lemmas.from_input.Texts.{of_texts}
use Rattle.std.proofs.lemmas.Str.{scalars-chars}
use Rattle.jsonc_cst.proofs.cst.node.CstObject.append.Goals as goal

pub returns : goal.returns
returns g c =
    let old = c.args.doc.now.tree.nodes in
    let tree = c.args.doc.now.tree.tree in
    let new = c.insert.new.doc.tree.nodes in
    let n = c.args.self.number in
    let name = chars c.args.name.now in
    let v = plain c.args.value in
    let made = c.insert.ensures in
    let last = behind_all old tree n c.len-count.result c.len-count.ensures.len in
    let put = rw last at made.put in
    record {
      put = put;
      property = appended_element (λ x. x.number) old new tree n c.len-count.result c.len-count.ensures.len c.insert.result made.property;
      step = ok_with c.insert.result (λ x put. appended_step old new tree c.insert.new.doc.tree.tree n name (scalars-chars c.args.name.now c.utf8.name) (held_object old c.args.self c.requires) x.number v (of_texts _ c.args.value) put) put;
      others = made.others;
      detached = made.detached;
      error = made.error;
      memory = made.memory;
      in_document = made.in_document;
      handles = made.handles;
      kept = made.kept;
      document = made.document;
    }
