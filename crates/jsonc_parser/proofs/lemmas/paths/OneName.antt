-- One step along names, with the number of the property.
use Rattle.std.proofs.Common.{ℕ, ◌≡◌, ◌++◌, ◌∙◌, List, [], ◌∷◌, Option, Some, None, sym, ap, subst, refl, option_map}
use Rattle.jsonc_tree.specs.Content.{Content, object}
use Rattle.jsonc_tree.specs.Tree.{content_at, IsTree}
use Rattle.jsonc_edit.specs.Paths.{IsElementOf}
use Rattle.jsonc_edit.proofs.Uniqueness.{element_parent}
use Rattle.jsonc_layout.specs.nodes.Properties.{value_at}
use Rattle.jsonc_cst.specs.declared.cst.CstRootNode.{CstRootNode}
use Rattle.jsonc_cst.specs.declared.cst.node.CstNode.{CstNode}
use Rattle.jsonc_cst.specs.declared.cst.node.CstObject.{CstObject}
use Rattle.jsonc_cst.specs.declared.cst.node.CstObjectProp.{CstObjectProp}
use Rattle.jsonc_cst.specs.Document.{nodes_of, HasNode}
use Rattle.jsonc_cst.specs.Nodes.{number_of, object_node, container_of, typed_at, typed_container}
use Rattle.jsonc_cst.specs.Readings.{index_in_object, property_index_of, value_under}
use Rattle.jsonc_cst.proofs.Family.{number_of-typed}
use Rattle.jsonc_parser.specs.paths.Reach.{Steps, StepsWhatShown}
use Rattle.jsonc_parser.specs.paths.Which.{IsChosenIn}
use Rattle.jsonc_parser.specs.declared.paths.which.Which.{Which}
use Rattle.jsonc_parser.specs.paths.NamedNodes.{LeadsOnIn, NamesNode, properties_before}
use Rattle.jsonc_parser.specs.declared.paths.reached.Step.{Step}
use Rattle.jsonc_parser.specs.declared.paths.reached.Step.TheVariants.{On, Missing, Another}
use Rattle.jsonc_parser.proofs.lemmas.paths.Found.{is_object, no_object}
use Rattle.jsonc_parser.proofs.lemmas.paths.Index.{counted_before}
use Rattle.jsonc_parser.proofs.lemmas.paths.NodesAtNames.{leads_on_there, stops_there}

module _ {A : Type 0} (which : Which) (doc : CstRootNode A) (tree : IsTree (nodes_of doc)) where
  pub steps_to_another : (node : CstNode) (name : List ℕ) → HasNode doc node → ((x : CstObject) → node ≡ object_node x → ⊥) → StepsWhatShown which doc node name Another
  steps_to_another node name held other d names shown w = (stops_there which d (nodes_of doc) names (number_of node) tree shown w (no_object doc tree node held other)).another

  -- so for an object's node, and for a node that is one
  of_object : (node : CstNode) (x : CstObject) (name : List ℕ) (step : Step) → node ≡ object_node x → StepsWhatShown which doc (object_node x) name step → StepsWhatShown which doc node name step
  of_object node x name step is steps = subst (λ (k : CstNode). StepsWhatShown which doc k name step) (sym is) steps

  module _ (node : CstNode) (x : CstObject) (name : List ℕ) (held : HasNode doc node) (is : node ≡ object_node x) where
    object_here : content_at (nodes_of doc) x.number ≡ object
    object_here = is_object doc tree x (subst (HasNode doc) is held)

    pub steps_to_missing : IsChosenIn which (nodes_of doc) x.number name None → StepsWhatShown which doc node name Missing
    steps_to_missing first = of_object node x name Missing is (λ d names shown w. (leads_on_there which d (nodes_of doc) names x.number name tree shown w object_here).lacks first)

    -- the number of a property in its object
    index_so : (i : ℕ) (p : CstObjectProp) → IsElementOf (nodes_of doc) x.number i p.number → property_index_of doc p ≡ properties_before (nodes_of doc) p.number
    index_so i p e =
        let count : ℕ = properties_before (nodes_of doc) p.number in
        ap (λ (above : Option ℕ). index_in_object (option_map (container_of (nodes_of doc)) above) count) (element_parent (nodes_of doc) tree x.number i p.number e)
        ∙ ap (λ (c : Content). index_in_object (Some (typed_container c x.number)) count) object_here

    module _ (p : CstObjectProp) (first : IsChosenIn which (nodes_of doc) x.number name (Some p.number)) where
      steps_over : (index : ℕ) → index ≡ property_index_of doc p → (inner : CstNode) → Some inner ≡ value_under doc p.number → StepsWhatShown which doc (object_node x) name (On index inner)
      steps_over index counts inner value d names shown w = go (leads_on_there which d (nodes_of doc) names x.number name tree shown w object_here) (value_at (nodes_of doc) p.number) refl value
        where
          go : LeadsOnIn which d (nodes_of doc) names x.number name w → (q : Option ℕ) → value_at (nodes_of doc) p.number ≡ q → Some inner ≡ option_map (typed_at (nodes_of doc)) q → Steps which d (nodes_of doc) names x.number name w (On index inner)
          go there None e same = absurd (there.holds p.number first e)
          go there (Some q) e same =
              let f = there.leads p.number q first e in
              let number : f.0 ≡ index = sym (counts ∙ index_so f.0 p f.1 ∙ counted_before d.options (nodes_of doc) tree shown.sound w.path x.number w.at object_here f.0 p.number f.1) in
              let typed_so : typed_at (nodes_of doc) q ≡ inner = cc in
              let n : q ≡ number_of inner = sym (number_of-typed (content_at (nodes_of doc) q) q) ∙ ap number_of typed_so in
              subst (λ (m : ℕ). (further : NamesNode which d (nodes_of doc) (names ++ name ∷ []) m) × (further.path ≡ w.path ++ index ∷ [])) n (f.2, f.3 ∙ ap (λ i. w.path ++ i ∷ []) number)

      pub steps_on : (index : ℕ) → index ≡ property_index_of doc p → (inner : CstNode) → Some inner ≡ value_under doc p.number → StepsWhatShown which doc node name (On index inner)
      steps_on index counts inner value = of_object node x name (On index inner) is (steps_over index counts inner value)

      nowhere_over : None ≡ value_under doc p.number → StepsWhatShown which doc (object_node x) name Another
      nowhere_over value d names shown w = go (leads_on_there which d (nodes_of doc) names x.number name tree shown w object_here) (value_at (nodes_of doc) p.number) refl value
        where
          go : LeadsOnIn which d (nodes_of doc) names x.number name w → (q : Option ℕ) → value_at (nodes_of doc) p.number ≡ q → None ≡ option_map (typed_at (nodes_of doc)) q → Steps which d (nodes_of doc) names x.number name w Another
          go there None e same = absurd (there.holds p.number first e)
          go there (Some q) e same = cc

      pub steps_nowhere : None ≡ value_under doc p.number → StepsWhatShown which doc node name Another
      steps_nowhere value = of_object node x name Another is (nowhere_over value)
