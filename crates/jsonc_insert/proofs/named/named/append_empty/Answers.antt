use Rattle.std.proofs.Common.{◌≡◌, ℕ, true, chars, sym, subst, ◌∙◌}
use Rattle.jsonc_text.specs.Plain.{Plain}
use Rattle.jsonc_tree.specs.Tree.{content_at}
use Rattle.jsonc_insert.specs.members.Inserted.{PropertyPut}
use Rattle.jsonc_edit.specs.set.Shapes.{is_of}
use Rattle.jsonc_edit.proofs.Elements.{Some_same}
use Rattle.jsonc_insert.proofs.lemmas.named.Creating.{holds_empty, property_there, put_last}
use Rattle.jsonc_insert.proofs.ElementsInTree.{few_elements}
use Rattle.jsonc_insert.proofs.named.named.append_empty.Goals as goal

pub value_of-requires : goal.value_of-requires
value_of-requires g c =
    let old = c.args.tree.now.nodes in
    let new = c.insert_property.new.tree.nodes in
    let count = c.len-count.result in
    let put = subst (λ (v : Plain). PropertyPut old new c.args.object count (chars c.args.name.now) v c.in_ok-property.property) c.empty_value-empty.ensures c.in_ok-property.ensures.put in
    property_there old new c.args.object count (chars c.args.name.now) c.args.shape c.in_ok-property.property c.args.tree.now.tree c.requires.in_tree c.in_ok-property.ensures.brackets put

pub unreachable-requires : goal.unreachable-requires
unreachable-requires g c =
    let old = c.args.tree.now.nodes in
    let new = c.insert_property.new.tree.nodes in
    let count = c.len-count.result in
    let put = subst (λ (v : Plain). PropertyPut old new c.args.object count (chars c.args.name.now) v c.in_ok-property.property) c.empty_value-empty.ensures c.in_ok-property.ensures.put in
    let holds = holds_empty old new c.args.object count (chars c.args.name.now) c.args.shape c.in_ok-property.property c.args.tree.now.tree c.requires.in_tree c.in_ok-property.ensures.brackets put in
    c.in_default.not-Some holds.value (c.value_of.ensures.value ∙ holds.holds)

pub returns-clause-comes : goal.returns-clause-comes
returns-clause-comes g c =
    let old = c.args.tree.now.nodes in
    let new = c.insert_property.new.tree.nodes in
    let count = c.len-count.result in
    let put = subst (λ (v : Plain). PropertyPut old new c.args.object count (chars c.args.name.now) v c.in_ok-property.property) c.empty_value-empty.ensures c.in_ok-property.ensures.put in
    record {
      property = c.in_ok-property.property;
      put = put_last old new c.args.object count (chars c.args.name.now) c.args.shape c.in_ok-property.property c.args.tree.now.tree c.requires.in_tree c.in_ok-property.ensures.brackets put (few_elements old c.args.tree.now.tree c.args.object count c.len-count.ensures.len);
      holds = sym c.value_of.ensures.value ∙ c.in-Some.is;
    }

pub returns-clause-shape : goal.returns-clause-shape
returns-clause-shape g c =
    let old = c.args.tree.now.nodes in
    let new = c.insert_property.new.tree.nodes in
    let count = c.len-count.result in
    let put = subst (λ (v : Plain). PropertyPut old new c.args.object count (chars c.args.name.now) v c.in_ok-property.property) c.empty_value-empty.ensures c.in_ok-property.ensures.put in
    let holds = holds_empty old new c.args.object count (chars c.args.name.now) c.args.shape c.in_ok-property.property c.args.tree.now.tree c.requires.in_tree c.in_ok-property.ensures.brackets put in
    let same : holds.value ≡ c.in-Some.value = Some_same holds.value c.in-Some.value (sym holds.holds ∙ sym c.value_of.ensures.value ∙ c.in-Some.is) in
    subst (λ (m : ℕ). is_of c.args.shape (content_at new m) ≡ true) same holds.shaped
