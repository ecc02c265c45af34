use Rattle.std.proofs.Common.{◌∙◌, sym, ap, refl, chars, string_bytes, None, Some}
use Rattle.jsonc_text.specs.Plain as plain
use Rattle.jsonc_tree.specs.Content as content
use Rattle.jsonc_tree.specs.Stored.{content_of}
use Rattle.jsonc_layout.specs.to_input.Given.{Gives}
use Rattle.jsonc_layout.proofs.lemmas.to_input.Leaves.{taken_at, plain-Null, other_leaf}
use Rattle.jsonc_layout.proofs.to_input.taken.leaf_value.Goals as goal

pub returns-in_ok-number_of-in-Number-clause-taken : goal.returns-in_ok-number_of-in-Number-clause-taken
returns-in_ok-number_of-in-Number-clause-taken g c =
    let text = string_bytes c.in-Number.text in
    taken_at c.args.tree.now.nodes c.args.leaf (content.number text) (Some (plain.number (chars text))) (Some c.in_ok-number_of-in-Number.field-0) (ap content_of (sym c.in-Number.is) ∙ c.kind.ensures) (λ row. Gives.number)
    (ap Some (c.in_ok-number_of-in-Number.ensures ∙ ap (λ s. plain.number (chars s)) c.as_str.ensures.value))

pub returns-in_ok-number_of-in-NumberPart-clause-taken : goal.returns-in_ok-number_of-in-NumberPart-clause-taken
returns-in_ok-number_of-in-NumberPart-clause-taken g c =
    let text = c.in-NumberPart.text in
    taken_at c.args.tree.now.nodes c.args.leaf (content.number text) (Some (plain.number (chars text))) (Some c.in_ok-number_of-in-NumberPart.field-0) (ap content_of (sym c.in-NumberPart.is) ∙ c.kind.ensures) (λ row. Gives.number)
    (ap Some (c.in_ok-number_of-in-NumberPart.ensures ∙ ap (λ s. plain.number (chars s)) c.as_str-in-NumberPart.ensures))

pub returns-in-Boolean-clause-taken : goal.returns-in-Boolean-clause-taken
returns-in-Boolean-clause-taken g c =
    taken_at c.args.tree.now.nodes c.args.leaf (content.boolean c.in-Boolean.value) (Some (plain.boolean c.in-Boolean.value)) (Some c.from.result) (ap content_of (sym c.in-Boolean.is) ∙ c.kind.ensures) (λ row. Gives.boolean) (ap Some c.from.ensures)

pub returns-in-Null-clause-taken : goal.returns-in-Null-clause-taken
returns-in-Null-clause-taken g c =
    taken_at c.args.tree.now.nodes c.args.leaf content.null (Some plain.null) _ (ap content_of (sym c.in-Null.is) ∙ c.kind.ensures) (λ row. Gives.null) (ap Some (plain-Null g.row.B.Denot))

pub returns-in_default-clause-taken : goal.returns-in_default-clause-taken
returns-in_default-clause-taken g c =
    let k = c.kind.result.now in
    let said = c.in_default in
    taken_at c.args.tree.now.nodes c.args.leaf (content_of k) None None c.kind.ensures
    (λ row. Gives.nothing (other_leaf k said.not-String said.not-Number said.not-Boolean said.not-Null said.not-StringPart said.not-NumberPart (ap content.is_container c.kind.ensures ∙ c.requires.leaf))) refl
