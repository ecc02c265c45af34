-- To which node of a document, and over which positions, a route leads.
use Rattle.std.proofs.Common.{Err, IfOk, Ok, Result, ◌≡◌, ◌≢◌, ◌⊎◌, ◌∙◌, ◌++◌, ◌<◌, ℕ, List, [], ◌∷◌, Option, Some, None, length, option_map, inl, inr, refl, sym, ap, subst}
use Rattle.std.specs.Prelude.{IfNone, IfSome}
use Rattle.std.specs.declared.vec.Vec.{Vec}
use Rattle.jsonc_text.specs.Documents.{Document}
use Rattle.jsonc_text.specs.declared.edit.EditError.{EditError}
use Rattle.jsonc_text.specs.Plain as plain
use Rattle.jsonc_text.specs.Plain.{Plain}
use Rattle.jsonc_tree.specs.Content as content
use Rattle.jsonc_tree.specs.Content.{Content}
use Rattle.jsonc_text.specs.Options.{Options}
use Rattle.jsonc_tree.specs.OrderedTree.{OrderedTree, ordered_tree}
use Rattle.jsonc_tree.specs.Tree.{Node, content_at, IsTree}
use Rattle.jsonc_tree.specs.Values as values
use Rattle.jsonc_tree.specs.Values.{ValueOf}
use Rattle.jsonc_layout.specs.nodes.Properties.{value_at}
use Rattle.jsonc_sound.specs.Documents.{Shows}
use Rattle.jsonc_sound.specs.Sound.{HasValue}
use Rattle.jsonc_edit.specs.Changes.{row_below, top_at}
use Rattle.jsonc_edit.specs.Paths as paths
use Rattle.jsonc_edit.specs.Paths.{IsAt, IsElementOf}
use Rattle.jsonc_edit.proofs.Uniqueness.{path_once}
use Rattle.jsonc_insert.specs.named.Places.{IsPropertyAt, IsPropertyOf, a_property}
use Rattle.jsonc_insert.proofs.lemmas.named.PropertyValues.{value_held}
use Rattle.jsonc_cst.specs.declared.cst.CstRootNode.{CstRootNode}
use Rattle.jsonc_cst.specs.declared.cst.node.CstNode.{CstNode}
use Rattle.jsonc_cst.specs.declared.cst.node.CstObjectProp.{CstObjectProp}
use Rattle.jsonc_cst.specs.declared.cst.node.CstContainerNode.TheVariants as containers
use Rattle.jsonc_cst.specs.declared.cst.node.CstNode.TheVariants as nodes
use Rattle.jsonc_cst.specs.Document.{nodes_of, HasNode}
use Rattle.jsonc_cst.specs.Nodes.{number_of, object_prop_node, typed, typed_at, IsNodeOf}
use Rattle.jsonc_cst.specs.Readings.{value_under}
use Rattle.jsonc_cst.proofs.Family.{number_of-typed}
use Rattle.jsonc_parser.specs.declared.paths.which.Which.TheVariants.{First}
use Rattle.jsonc_parser.specs.paths.Found.{Finds, FindsWhatShown}
use Rattle.jsonc_parser.specs.paths.Settings.{At}
use Rattle.jsonc_parser.specs.patch.Found.{IsOfShown}
use Rattle.jsonc_parser.specs.patch.PutCalls.{FindsEntry, IsEntryNode, LeadsToNode}
use Rattle.jsonc_parser.specs.patch.Putting.{LeadsFirst, by_index, by_name}
use Rattle.jsonc_parser.proofs.lemmas.paths.Leading.{leads_at}
use Rattle.jsonc_parser.proofs.lemmas.paths.TakenValues.{nodes_have_values}
use Rattle.jsonc_parser.proofs.lemmas.patch.FirstNodes.{first_further}
use Rattle.jsonc_parser.proofs.lemmas.patch.Nodes.{array_content, leads_more, object_content}
use Rattle.jsonc_parser.proofs.lemmas.patch.PutFound.{begins_first, begins_nothing}
use Rattle.jsonc_program.specs.edit.Routes.{IsLedOver, IsLedTo, LeadsBy, LeadsNowhere, LeadsOver, LeadsWhere, Route, names, tokens, value_of_entry}
use Rattle.jsonc_program.proofs.EditObjects.{element_property}

-- a property has no value of its own
pub no_property_value : (o : Options) (c : Content) (below : OrderedTree) (v : Plain) → c ≡ content.property → ValueOf o c below v → ⊥
no_property_value o _ below _ e (values.object h) = cc
no_property_value o _ below _ e (values.string h) = cc
no_property_value o _ below _ e values.number = cc
no_property_value o _ below _ e values.boolean = cc
no_property_value o _ below _ e values.null = cc
no_property_value o _ below _ e (values.array h) = cc

some_node : {x y : CstNode} → Some x ≡ Some y → x ≡ y
some_node e = cc

pub no_some : {A : Type 0} {x : A} → None ≡ Some x → ⊥
no_some e = cc

-- what tokens lead to a route of them leads to
by_node : (d : Document) (ns : List Node) (ts : List (List ℕ)) (n : ℕ) → LeadsToNode d ns ts n → LeadsWhere (tokens ts) d (λ path. IsAt ns path n)
by_node d ns ts n w = (w.path, w.v, (w.value, w.is, w.leads), w.at)

module _ {A : Type 0} (doc : CstRootNode A) (tree : IsTree (nodes_of doc)) where
  abbrev ns : List Node
  ns = nodes_of doc

  -- no tokens lead to the document's value
  pub led_by_none : (ts : List (List ℕ)) → ts ≡ [] → (found : Option CstNode) → found ≡ value_under doc 0 → IsLedTo doc (tokens ts) found
  led_by_none ts none None e = λ d shown path v leads.
      absurd (no_some (sym (begins_nothing doc tree e [] d shown) ∙ leads.1))
  led_by_none ts none (Some node) e = λ d shown.
      subst (λ l. LeadsWhere (tokens l) d (λ path. IsAt ns path (number_of node))) (sym none) (by_node d ns [] (number_of node) (begins_first doc tree node e d shown))

  -- tokens that lead to no entry lead to nothing
  pub led_nowhere : (ts : List (List ℕ)) → ts ≢ [] → IsOfShown doc (FindsEntry doc ts None) → IsLedTo doc (tokens ts) None
  led_nowhere ts some found d shown path v leads = some (found d shown path v leads)

  number_same : (q : ℕ) (inner : CstNode) → inner ≡ typed_at ns q → q ≡ number_of inner
  number_same q inner e = sym (number_of-typed (content_at ns q) q) ∙ ap number_of (sym e)

  -- a property that tokens lead to has its value there
  module _ (ts : List (List ℕ)) (entry : CstNode) (found : IsOfShown doc (FindsEntry doc ts (Some entry))) where
    all_lead : (d : Document) (w : IsEntryNode d ns ts (number_of entry)) → LeadsFirst w.to.value ts (w.to.path ++ w.place ∷ []) w.v
    all_lead d w = subst (λ l. LeadsFirst w.to.value l (w.to.path ++ w.place ∷ []) w.v) (sym w.split) (first_further w.last w.place w.to.leads w.leads)

    module _ (d : Document) (shown : Shows d (ordered_tree ns 0)) (w : IsEntryNode d ns ts (number_of entry)) where
      -- the container is an object, or an array
      kind_of : (x : Plain) → LeadsFirst x (w.last ∷ []) (w.place ∷ []) w.v → x ≡ w.to.v → (content_at ns w.container ≡ content.object) ⊎ (content_at ns w.container ≡ content.array)
      kind_of _ (by_name {ms = ms} f l) same = inl (object_content d.options (content_at ns w.container) (row_below ns w.container) ms (subst (HasValue d.options (top_at ns w.container)) (sym same) w.to.has))
      kind_of _ (by_index {vs = vs} k p l) same = inr (array_content d.options (content_at ns w.container) (row_below ns w.container) vs (subst (HasValue d.options (top_at ns w.container)) (sym same) w.to.has))

      abbrev over : List ℕ
      over = w.to.path ++ w.place ∷ []

      in_array : content_at ns w.container ≡ content.array → IsAt ns over (number_of entry)
      in_array is = (w.to.at.0, w.to.at.1, leads_more ns w.container w.place (number_of entry) w.to.at.2 (paths.in_array is w.is))

      at_value : (n : ℕ) → IsAt ns over n → LeadsWhere (tokens ts) d (λ path. IsAt ns path n)
      at_value n at = (over, w.v, (w.to.value, w.to.is, all_lead d w), at)

      held_by : content_at ns (number_of entry) ≡ content.property → content_at ns w.container ≡ content.object → IsPropertyAt ns over (number_of entry)
      held_by property object = a_property w.to.path w.container w.place w.to.at (record { of_object = object; element = w.is; is = property })

      of_property : content_at ns (number_of entry) ≡ content.property → (content_at ns w.container ≡ content.object) ⊎ (content_at ns w.container ≡ content.array) → (found : Option CstNode) → found ≡ value_under doc (number_of entry)
          → (n : ℕ) × (found ≡ Some (typed_at ns n)) × IsAt ns over n
      of_property property (inl object) found e =
          let held = value_held d.options ns tree shown.sound over (number_of entry) (held_by property object) in
          (held.value, e ∙ ap (option_map (typed_at ns)) held.holds, held.at)
      of_property property (inr array) found e =
          let h = nodes_have_values {A = Unit {0}} d ns over (number_of entry) tree shown (in_array array) in
          absurd (no_property_value d.options (content_at ns (number_of entry)) (row_below ns (number_of entry)) h.v property h.has)

      of_element : (content_at ns (number_of entry) ≡ content.property → ⊥) → (content_at ns w.container ≡ content.object) ⊎ (content_at ns w.container ≡ content.array) → IsAt ns over (number_of entry)
      of_element other (inl object) = absurd (other (element_property d.options ns tree shown.sound w.to.path w.container w.to.at object w.place (number_of entry) w.is))
      of_element other (inr array) = in_array array

    pub led_by_property : content_at ns (number_of entry) ≡ content.property → (found_value : Option CstNode) → found_value ≡ value_under doc (number_of entry) → IsLedTo doc (tokens ts) found_value
    led_by_property property None e = λ d shown path v leads.
        let w = found d shown in
        let held = of_property d shown w property (kind_of d shown w w.to.v w.leads refl) None e in
        absurd (no_some held.1)
    led_by_property property (Some node) e = λ d shown.
        let w = found d shown in
        let held = of_property d shown w property (kind_of d shown w w.to.v w.leads refl) (Some node) e in
        at_value d shown w (number_of node) (subst (IsAt ns (over d shown w)) (number_same held.0 node (some_node held.1)) held.2)

    pub led_by_element : (content_at ns (number_of entry) ≡ content.property → ⊥) → IsLedTo doc (tokens ts) (Some entry)
    led_by_element other d shown =
        let w = found d shown in
        at_value d shown w (number_of entry) (of_element d shown w other (kind_of d shown w w.to.v w.leads refl))

  -- what names lead to
  pub led_by_names : (all : List (List ℕ)) (found : Option CstNode) → FindsWhatShown doc all found → IsLedTo doc (names all) found
  led_by_names all None found = λ d shown path v leads. found d shown v (subst (λ w. At w all v) (sym leads.1) (leads_at leads.2))
  led_by_names all (Some node) found = λ d shown.
      let w = found d shown in
      (w.path, w.v, (w.value, w.is, w.leads), w.at)

  -- the positions of the node that a route leads to
  module _ (route : Route) (node : CstNode) (led : IsLedTo doc route (Some node)) where
    pub led_over : (over : List ℕ) → IsAt ns over (number_of node) → IsLedOver doc route (Some over)
    led_over over at d shown =
        let w = led d shown in
        (w.0, w.1, w.2, path_once ns tree over w.0 (number_of node) at w.3)

    pub led_nowhere_else : ((over : List ℕ) → IsAt ns over (number_of node) → ⊥) → IsLedOver doc route None
    led_nowhere_else none d shown = λ path v leads. (let w = led d shown in absurd (none w.0 w.3))

-- the content of a property's node
pub property_content : (c : Content) (n : ℕ) (x : CstObjectProp) → typed c n ≡ object_prop_node x → c ≡ content.property
property_content content.property n x e = refl
property_content c n x e = cc

module _ (ns : List Node) (node : CstNode) (held : IsNodeOf ns node) where
  pub is_property : (x : CstObjectProp) → node ≡ object_prop_node x → content_at ns (number_of node) ≡ content.property
  is_property x e = property_content (content_at ns (number_of node)) (number_of node) x (held.1 ∙ e)

  pub no_property : ((x : CstObjectProp) → node ≡ object_prop_node x → ⊥) → content_at ns (number_of node) ≡ content.property → ⊥
  no_property other is = other (record { number = number_of node }) (sym held.1 ∙ ap (λ (c : Content). typed c (number_of node)) is)

-- what is no property is its own value
pub of_no_property : {A : Type 0} (doc : CstRootNode A) (entry : CstNode) → ((x : CstObjectProp) → entry ≡ object_prop_node x → ⊥) → value_of_entry doc entry ≡ Some entry
of_no_property doc (nodes.Container (containers.ObjectProp x)) other = absurd (other x refl)
of_no_property doc (nodes.Container x) other = refl
of_no_property doc (nodes.Leaf x) other = refl

module _ {A : Type 0} (doc : CstRootNode A) (tree : IsTree (nodes_of doc)) where
  -- the value of the entry that tokens lead to
  pub led_by_entry : (ts : List (List ℕ)) (entry : CstNode) → HasNode doc entry → IsOfShown doc (FindsEntry doc ts (Some entry)) → (r : Option CstNode) → r ≡ value_of_entry doc entry → IsLedTo doc (tokens ts) r
  led_by_entry ts (nodes.Container (containers.ObjectProp x)) held found r e =
      led_by_property doc tree ts (object_prop_node x) found (is_property (nodes_of doc) (object_prop_node x) held x refl) r e
  led_by_entry ts (nodes.Container x) held found r e =
      subst (IsLedTo doc (tokens ts)) (sym e) (led_by_element doc tree ts (nodes.Container x) found (no_property (nodes_of doc) (nodes.Container x) held (λ y same. cc)))
  led_by_entry ts (nodes.Leaf x) held found r e =
      subst (IsLedTo doc (tokens ts)) (sym e) (led_by_element doc tree ts (nodes.Leaf x) found (no_property (nodes_of doc) (nodes.Leaf x) held (λ y same. cc)))

  -- the positions that were answered
  pub path_led : (route : Route) (node : CstNode) → IsLedTo doc route (Some node) → (r : Result (Option (Vec ℕ A)) EditError) → IfOk r (λ found. IfSome found (λ path. IsAt (nodes_of doc) path.items (number_of node)))
      → IfOk r (λ found. IfNone found ((path : List ℕ) → IsAt (nodes_of doc) path (number_of node) → ⊥)) → IfOk r (λ found. IsLedOver doc route (option_map (λ path. path.items) found))
  path_led route node led (Ok (Some path)) at none = led_over doc tree route node led path.items at
  path_led route node led (Ok None) at none = led_nowhere_else doc tree route node led none
  path_led route node led (Err e) at none = tt

  pub names_led : (all : List (List ℕ)) (r : Result (Option CstNode) EditError) → IfOk r (FindsWhatShown doc all) → IfOk r (IsLedTo doc (names all))
  names_led all (Ok found) h = led_by_names doc tree all found h
  names_led all (Err e) h = tt
