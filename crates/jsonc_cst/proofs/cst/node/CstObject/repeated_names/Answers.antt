use Rattle.std.proofs.Common.{◌≡◌, ◌∙◌, sym, ap, subst, refl, ℕ, List, [], ◌∷◌, map, get_or, true}
use Rattle.std.specs.List.{All}
use Rattle.std.proofs.lemmas.List.Elements.{All-map}
use Rattle.jsonc_tree.specs.Tree.{Node, children_at, content_at}
use Rattle.jsonc_layout.specs.nodes.Kinds.{is_property}
use Rattle.jsonc_cst.specs.declared.cst.node.CstObjectProp.{CstObjectProp}
use Rattle.jsonc_cst.specs.Nodes.{object_prop_node, IsNodeOf}
use Rattle.jsonc_cst.specs.Readings.{property_under}
use Rattle.jsonc_cst.specs.RepeatedNames.{AreRepeated}
use Rattle.jsonc_cst.proofs.Readings.{property_held}
use Rattle.jsonc_cst.proofs.RepeatedNames.{repeated_properties}
use Rattle.jsonc_cst.proofs.cst.node.CstObject.repeated_names.Goals as goal

numbers_of : (numbers : List ℕ) → map (λ p. p.number) (map property_under numbers) ≡ numbers
numbers_of [] = refl
numbers_of (n ∷ numbers) = ap (λ l. n ∷ l) (numbers_of numbers)

module _ (ns : List Node) (row numbers lent : List ℕ) (found : List CstObjectProp) (made : found ≡ map property_under lent) (is : lent ≡ numbers) (said : AreRepeated ns row numbers) where
  same : found ≡ map property_under numbers
  same = made ∙ ap (map property_under) is

  typed_repeated : AreRepeated ns row (map (λ p. p.number) found)
  typed_repeated = subst (AreRepeated ns row) (sym (ap (map (λ p. p.number)) same ∙ numbers_of numbers)) said

  typed_held : (P : CstObjectProp → Type 0) → ((n : ℕ) → is_property (content_at ns n) ≡ true → P (property_under n)) → All P found
  typed_held P held = subst (λ (ps : List CstObjectProp). All P ps) (sym same) (All-map P property_under numbers (λ k d h. held (get_or numbers k d) (repeated_properties said k d h)))

pub returns-clause-repeated : goal.returns-clause-repeated
returns-clause-repeated g c =
    let ns = c.args.doc.now.tree.nodes in
    typed_repeated ns (children_at ns c.args.self.number) c.in-Ok.numbers.items c.deref.result.now c.in-Ok-properties_at.properties.items c.in-Ok-properties_at.ensures c.deref.ensures.value c.in-Ok.ensures.repeated

pub returns-clause-in_document : goal.returns-clause-in_document
returns-clause-in_document g c =
    let ns = c.args.doc.now.tree.nodes in
    typed_held ns (children_at ns c.args.self.number) c.in-Ok.numbers.items c.deref.result.now c.in-Ok-properties_at.properties.items c.in-Ok-properties_at.ensures c.deref.ensures.value c.in-Ok.ensures.repeated (λ p. IsNodeOf ns (object_prop_node p)) (property_held ns)
