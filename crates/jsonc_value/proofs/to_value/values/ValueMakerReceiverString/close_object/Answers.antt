use Rattle.std.proofs.Common.{[], ap, sym, subst, ◌∙◌}
use Rattle.indexmap.specs.IndexMap.{insert_all}
use Rattle.jsonc_text.specs.Plain.{object}
use Rattle.std.specs.List.{IsDistinct}
use Rattle.std.specs.Map.{keys_of}
use Rattle.std.proofs.lemmas.List.Elements.{All-nil}
use Rattle.jsonc_value.specs.to_value.Lent.{AreLent, IsLent, texts_in_properties}
use Rattle.jsonc_value.specs.to_value.Made.{source_in}
use Rattle.jsonc_value.specs.to_value.Views.{same_name, members_plain}
use Rattle.jsonc_value.proofs.lemmas.to_value.Lending.{all_lent}
use Rattle.jsonc_walk.proofs.lemmas.Stacked.{Parted, parted}
use Rattle.jsonc_value.proofs.to_value.values.ValueMakerReceiverString.close_object.Goals as goal

pub taken_from-requires : goal.taken_from-requires
taken_from-requires g c =
    let h = c.requires.held.2 in
    (parted c.args.self.now.properties.items c.requires.held.0.properties.items h.properties c.args.object h.begins h.stacked).within

pub returns-clause-made : goal.returns-clause-made
returns-clause-made g c = λ s ms h.
    let apart : Parted c.args.self.now.properties.items s.properties.items h.properties c.args.object = parted c.args.self.now.properties.items s.properties.items h.properties c.args.object h.begins h.stacked in
    let same = c.in_ok-from_vec.ensures ∙ ap (insert_all same_name []) (c.in_ok-properties.ensures.taken ∙ apart.taken) in
    record {
      source = h.source;
      stacks = (h.same, c.in_ok-properties.ensures.left ∙ apart.left);
      collapsed = c.object_of-2.ensures.plain ∙ ap (λ ps. object (members_plain ps)) same ∙ ap object h.are.0;
      lent = subst (AreLent (source_in s)) (sym (c.object_of-2.ensures.texts ∙ ap texts_in_properties same)) (all_lent (source_in s) [] h.properties (All-nil (IsLent (source_in s))) h.lent);
    }

pub returns-then-are_few_distinct-clause-made : goal.returns-then-are_few_distinct-clause-made
returns-then-are_few_distinct-clause-made g c = λ s ms h.
    let apart : Parted c.args.self.now.properties.items s.properties.items h.properties c.args.object = parted c.args.self.now.properties.items s.properties.items h.properties c.args.object h.begins h.stacked in
    let same = c.of_few.ensures ∙ ap (insert_all same_name []) (c.in_ok-properties.ensures.taken ∙ apart.taken) in
    record {
      source = h.source;
      stacks = (h.same, c.in_ok-properties.ensures.left ∙ apart.left);
      collapsed = c.object_of.ensures.plain ∙ ap (λ ps. object (members_plain ps)) same ∙ ap object h.are.0;
      lent = subst (AreLent (source_in s)) (sym (c.object_of.ensures.texts ∙ ap texts_in_properties same)) (all_lent (source_in s) [] h.properties (All-nil (IsLent (source_in s))) h.lent);
    }

pub of_few-requires : goal.of_few-requires
of_few-requires g c = subst (λ ps. IsDistinct same_name (keys_of ps)) c.as_slice.ensures.value (c.are_few_distinct.ensures c.if-are_few_distinct.true)
