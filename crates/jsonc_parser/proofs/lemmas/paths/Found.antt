-- What is found inside an object, and along a list of names.
use Rattle.std.proofs.Common.{ℕ, ◌≡◌, ◌++◌, ◌+◌, ◌<◌, ◌≤◌, ◌∙◌, List, [], ◌∷◌, Option, Some, None, sym, ap, subst, refl, map, take, drop, length, get_or, option_map}
use Rattle.std.proofs.lemmas.List.{drop_more, map-append, take-append-drop, take_all, take_more}
use Rattle.std.specs.declared.string.String.{String}
use Rattle.jsonc_layout.specs.input.Views.{chars_of}
use Rattle.jsonc_text.specs.Documents.{Document}
use Rattle.jsonc_tree.specs.Content.{Content, object}
use Rattle.jsonc_tree.specs.Tree.{content_at, IsTree}
use Rattle.jsonc_sound.specs.Documents.{Shows}
use Rattle.jsonc_layout.specs.nodes.Names.{FirstInObject}
use Rattle.jsonc_layout.specs.nodes.Properties.{value_at}
use Rattle.jsonc_cst.specs.declared.cst.CstRootNode.{CstRootNode}
use Rattle.jsonc_cst.specs.declared.cst.node.CstNode.{CstNode}
use Rattle.jsonc_cst.specs.declared.cst.node.CstObject.{CstObject}
use Rattle.jsonc_cst.specs.Document.{nodes_of, tree_of, HasNode}
use Rattle.jsonc_cst.specs.Nodes.{number_of, object_node, typed, typed_at}
use Rattle.jsonc_cst.specs.Readings.{value_under}
use Rattle.jsonc_cst.proofs.Family.{number_of-typed}
use Rattle.jsonc_parser.specs.paths.Found.{FindsInside, FindsInsideWhatShown, FindsWhatShown, names_of}
use Rattle.jsonc_parser.specs.paths.NamedNodes.{LeadsOnIn, NamesNode, NamesNothing}
use Rattle.jsonc_parser.specs.declared.paths.which.Which.{Which}
use Rattle.jsonc_parser.specs.declared.paths.which.Which.TheVariants.{First}
use Rattle.jsonc_parser.proofs.lemmas.paths.Paths.{at_none}
use Rattle.jsonc_parser.proofs.lemmas.paths.NodesAtNames.{begins_there, leads_on_there, stops_there}

-- the content of an object's node
pub object_content : (c : Content) (n : ℕ) (x : CstObject) → typed c n ≡ object_node x → c ≡ object
object_content object n x e = refl
object_content c n x e = cc

-- so far the names lead to this node
abbrev pub NamesWhatShown : {A : Type 0} → Which → CstRootNode A → List (List ℕ) → CstNode → Type 0
NamesWhatShown which doc names node = (d : Document) → Shows d (tree_of doc) → NamesNode which d (nodes_of doc) names (number_of node)

-- the value's node is what no names lead to
pub value_found : {A : Type 0} (which : Which) (doc : CstRootNode A) → IsTree (nodes_of doc) → (node : CstNode) → Some node ≡ value_under doc 0 → NamesWhatShown which doc [] node
value_found which doc tree node e d shown = go (value_at (nodes_of doc) 0) refl e
  where
    go : (q : Option ℕ) → value_at (nodes_of doc) 0 ≡ q → Some node ≡ option_map (typed_at (nodes_of doc)) q → NamesNode which d (nodes_of doc) [] (number_of node)
    go None is same = cc
    go (Some q) is same =
        let typed_so : typed_at (nodes_of doc) q ≡ node = cc in
        let n : q ≡ number_of node = sym (number_of-typed (content_at (nodes_of doc) q) q) ∙ ap number_of typed_so in
        subst (NamesNode which d (nodes_of doc) []) n ((begins_there which d (nodes_of doc) tree shown).some q is)

module _ {A : Type 0} (doc : CstRootNode A) (tree : IsTree (nodes_of doc)) where
  -- a node of the document is that of an object exactly where it has the content of one
  pub is_object : (x : CstObject) → HasNode doc (object_node x) → content_at (nodes_of doc) x.number ≡ object
  is_object x held = object_content (content_at (nodes_of doc) x.number) x.number x held.1

  pub no_object : (node : CstNode) → HasNode doc node → ((x : CstObject) → node ≡ object_node x → ⊥) → content_at (nodes_of doc) (number_of node) ≡ object → ⊥
  no_object node held other is = other (record { number = number_of node }) (sym held.1 ∙ ap (λ (c : Content). typed c (number_of node)) is)

  -- inside a node that is no object nothing is found
  pub no_object_found : (node : CstNode) (name : List ℕ) → HasNode doc node → ((x : CstObject) → node ≡ object_node x → ⊥) → FindsInsideWhatShown doc node name None
  no_object_found node name held other d names shown w rest = (stops_there First d (nodes_of doc) names (number_of node) tree shown w (no_object node held other)).nothing name rest

  none_in_object : (x : CstObject) (name : List ℕ) → HasNode doc (object_node x) → FirstInObject (nodes_of doc) x.number name None → FindsInsideWhatShown doc (object_node x) name None
  none_in_object x name held first d names shown w = (leads_on_there First d (nodes_of doc) names x.number name tree shown w (is_object x held)).nothing first

  pub none_found : (node : CstNode) (x : CstObject) (name : List ℕ) → HasNode doc node → node ≡ object_node x → FirstInObject (nodes_of doc) x.number name None → FindsInsideWhatShown doc node name None
  none_found node x name held is first =
      subst (λ (k : CstNode). FindsInsideWhatShown doc k name None) (sym is) (none_in_object x name (subst (HasNode doc) is held) first)

  one_in_object : (x : CstObject) (name : List ℕ) (r : ℕ) → HasNode doc (object_node x) → FirstInObject (nodes_of doc) x.number name (Some r) → FindsInsideWhatShown doc (object_node x) name (value_under doc r)
  one_in_object x name r held first d names shown w = go (leads_on_there First d (nodes_of doc) names x.number name tree shown w (is_object x held)) (value_at (nodes_of doc) r) refl
    where
      go : LeadsOnIn First d (nodes_of doc) names x.number name w → (q : Option ℕ) → value_at (nodes_of doc) r ≡ q → FindsInside d doc names name (option_map (typed_at (nodes_of doc)) q)
      go there None e = absurd (there.holds r first e)
      go there (Some q) e = subst (NamesNode First d (nodes_of doc) (names ++ name ∷ [])) (sym (number_of-typed (content_at (nodes_of doc) q) q)) (there.leads r q first e).2

  pub one_found : (node : CstNode) (x : CstObject) (name : List ℕ) (r : ℕ) (found : Option CstNode) → HasNode doc node → node ≡ object_node x → FirstInObject (nodes_of doc) x.number name (Some r) → found ≡ value_under doc r
      → FindsInsideWhatShown doc node name found
  one_found node x name r found held is first value =
      subst (λ (f : Option CstNode). FindsInsideWhatShown doc node name f) (sym value)
      (subst (λ (k : CstNode). FindsInsideWhatShown doc k name (value_under doc r)) (sym is) (one_in_object x name r (subst (HasNode doc) is held) first))

  pub no_value_found : None ≡ value_under doc 0 → (names : List (List ℕ)) → FindsWhatShown doc names None
  no_value_found e names d shown v a = go (value_at (nodes_of doc) 0) refl e
    where
      go : (q : Option ℕ) → value_at (nodes_of doc) 0 ≡ q → None ≡ option_map (typed_at (nodes_of doc)) q → ⊥
      go None is same = at_none a ((begins_there First d (nodes_of doc) tree shown).none is)
      go (Some q) is same = cc

  -- where the names so far lead to a node, and nothing is after the next one, nothing is at all of them
  pub none_along : (node : CstNode) (front rest all : List (List ℕ)) (name : List ℕ) → all ≡ front ++ name ∷ rest → NamesWhatShown First doc front node → FindsInsideWhatShown doc node name None → FindsWhatShown doc all None
  none_along node front rest all name split so_far none d shown = subst (NamesNothing First d) (sym split) (none d front shown (so_far d shown) rest)

  -- where they all lead to it, it was found
  pub all_along : (node : CstNode) (names : List (String A)) (k : ℕ) → length names ≤ k → NamesWhatShown First doc (names_of (take k names)) node → FindsWhatShown doc (names_of names) (Some node)
  all_along node names k h so_far = subst (λ (l : List (String A)). NamesWhatShown First doc (names_of l) node) (take_all k names h) so_far

  pub one_along : (node inner : CstNode) (front : List (List ℕ)) (name : List ℕ) → NamesWhatShown First doc front node → FindsInsideWhatShown doc node name (Some inner) → NamesWhatShown First doc (front ++ name ∷ []) inner
  one_along node inner front name so_far one d shown = one d front shown (so_far d shown)

module _ {A : Type 0} (names : List (String A)) (k : ℕ) (d : String A) (h : k < length names) where
  pub split_at : names_of names ≡ names_of (take k names) ++ chars_of (get_or names k d) ∷ names_of (drop (k + 1) names)
  split_at =
      ap (map chars_of) (sym (take-append-drop k names) ∙ ap (λ l. take k names ++ l) (drop_more names k d h))
      ∙ map-append chars_of (take k names) (get_or names k d ∷ drop (k + 1) names)

  pub one_more : names_of (take (k + 1) names) ≡ names_of (take k names) ++ chars_of (get_or names k d) ∷ []
  one_more = ap names_of (take_more names k d h) ∙ map-append chars_of (take k names) (get_or names k d ∷ [])
