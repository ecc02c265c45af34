use Rattle.std.proofs.Common.{ap, sym, subst, ◌∙◌}
use Rattle.jsonc_text.specs.Plain.{array}
use Rattle.jsonc_value.specs.to_value.Lent.{AreLent, texts_in_elements}
use Rattle.jsonc_value.specs.to_value.Made.{source_in}
use Rattle.jsonc_value.specs.to_value.Views.{items_plain}
use Rattle.jsonc_walk.proofs.lemmas.Stacked.{Parted, parted}
use Rattle.jsonc_value.proofs.to_value.values.ValueMakerReceiverString.close_array.Goals as goal

pub taken_from-requires : goal.taken_from-requires
taken_from-requires g c =
    let h = c.requires.held.2 in
    (parted c.args.self.now.elements.items c.requires.held.0.elements.items h.elements c.args.array h.begins h.stacked).within

pub returns-clause-made : goal.returns-clause-made
returns-clause-made g c = λ s xs h.
    let apart : Parted c.args.self.now.elements.items s.elements.items h.elements c.args.array = parted c.args.self.now.elements.items s.elements.items h.elements c.args.array h.begins h.stacked in
    let taken = c.in_ok-elements.ensures.taken ∙ apart.taken in
    record {
      source = h.source;
      stacks = (c.in_ok-elements.ensures.left ∙ apart.left, h.same);
      collapsed = c.array_of.ensures.plain ∙ ap (λ l. array (items_plain l)) taken ∙ ap array h.are;
      lent = subst (AreLent (source_in s)) (sym (c.array_of.ensures.texts ∙ ap texts_in_elements taken)) h.lent;
    }
