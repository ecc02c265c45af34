-- One token further from a node of a document, and all tokens of a pointer.
use Rattle.std.proofs.Common.{ℕ, ◌≡◌, ◌<◌, ◌≤◌, ◌+◌, ◌++◌, ◌∙◌, sym, ap, subst, refl, true, false, inl, inr, List, [], ◌∷◌, Option, Some, None, length, take, drop, get_or, option_map, is_some}
use Rattle.std.proofs.lemmas.Bool.{false≢true}
use Rattle.std.proofs.lemmas.List.{take_all}
use Rattle.std.specs.declared.string.String.{String}
use Rattle.jsonc_text.specs.Documents.{Document}
use Rattle.jsonc_tree.specs.Content.{Content, object, array}
use Rattle.jsonc_tree.specs.OrderedTree.{ordered_tree}
use Rattle.jsonc_tree.specs.Tree.{children_at, content_at, IsTree}
use Rattle.jsonc_text.specs.Plain.{collapse}
use Rattle.jsonc_layout.specs.declared.input.value.CstInputValue.{CstInputValue}
use Rattle.jsonc_layout.specs.input.Views.{chars_of, plain}
use Rattle.jsonc_layout.specs.nodes.Names.{HoldsEscapedName}
use Rattle.jsonc_layout.specs.nodes.Properties.{value_at}
use Rattle.jsonc_sound.specs.Documents.{Shows}
use Rattle.jsonc_cst.specs.declared.cst.CstRootNode.{CstRootNode}
use Rattle.jsonc_cst.specs.declared.cst.node.CstNode.{CstNode}
use Rattle.jsonc_cst.specs.declared.cst.node.CstArray.{CstArray}
use Rattle.jsonc_cst.specs.declared.cst.node.CstObject.{CstObject}
use Rattle.jsonc_cst.specs.Document.{nodes_of, HasNode}
use Rattle.jsonc_cst.specs.Nodes.{array_node, number_of, object_node, typed, typed_at, IsAs}
use Rattle.jsonc_cst.specs.Readings.{value_under}
use Rattle.jsonc_cst.specs.Values.{IsValueTaken}
use Rattle.jsonc_cst.proofs.Family.{number_of-typed}
use Rattle.jsonc_parser.specs.paths.Found.{names_of}
use Rattle.jsonc_parser.specs.patch.Found.{FindFails, Finds, IsOfShown, PassesEscaped, ReadFails, Reads, RefersToNode, RefersToNothing}
use Rattle.jsonc_parser.specs.patch.Lookups.{FailsThere, IsElementBy, IsLookedUp, SaysRepeated, StepFails, StepsTo}
use Rattle.jsonc_parser.specs.patch.References.{FailsAt}
use Rattle.jsonc_parser.specs.declared.patch.reference.FindError.{FindError}
use Rattle.jsonc_parser.specs.declared.patch.reference.FindError.TheVariants as error
use Rattle.jsonc_parser.specs.declared.patch.reference.Lookup.TheVariants.{Missing, Once, Twice}
use Rattle.jsonc_parser.proofs.lemmas.paths.Found.{object_content, one_more, split_at}
use Rattle.jsonc_parser.proofs.lemmas.patch.Nodes.{begins, begins_nowhere, element_found, element_missing, member_found, member_missing, member_repeated, stops_here, taken_there}

-- so far the tokens refer to this node
abbrev pub RefersWhatShown : {A : Type 0} → CstRootNode A → List (List ℕ) → CstNode → Type 0
RefersWhatShown doc tokens node = IsOfShown doc (λ d. RefersToNode d (nodes_of doc) tokens (number_of node))

array_content : (c : Content) (n : ℕ) (x : CstArray) → typed c n ≡ array_node x → c ≡ array
array_content array n x e = refl
array_content c n x e = cc

module _ {A : Type 0} (doc : CstRootNode A) (tree : IsTree (nodes_of doc)) where
  pub begins_with : (node : CstNode) → Some node ≡ value_under doc 0 → RefersWhatShown doc [] node
  begins_with node e d shown = go (value_at (nodes_of doc) 0) refl e
    where
      go : (q : Option ℕ) → value_at (nodes_of doc) 0 ≡ q → Some node ≡ option_map (typed_at (nodes_of doc)) q → RefersToNode d (nodes_of doc) [] (number_of node)
      go None is same = cc
      go (Some q) is same =
          let typed_so : typed_at (nodes_of doc) q ≡ node = cc in
          let n : q ≡ number_of node = sym (number_of-typed (content_at (nodes_of doc) q) q) ∙ ap number_of typed_so in
          subst (RefersToNode d (nodes_of doc) []) n (begins d (nodes_of doc) tree shown q is)

  pub begins_without : None ≡ value_under doc 0 → (tokens : List (List ℕ)) → IsOfShown doc (λ d. Finds d doc tokens None)
  begins_without e tokens d shown = go (value_at (nodes_of doc) 0) refl e
    where
      go : (q : Option ℕ) → value_at (nodes_of doc) 0 ≡ q → None ≡ option_map (typed_at (nodes_of doc)) q → RefersToNothing d tokens
      go None is same = begins_nowhere d (nodes_of doc) tree shown is tokens
      go (Some q) is same = cc

  module _ (node : CstNode) (token : List ℕ) where
    pub step_stops : (content_at (nodes_of doc) (number_of node) ≡ object → ⊥) → (content_at (nodes_of doc) (number_of node) ≡ array → ⊥) → StepsTo doc node token None
    step_stops no_object no_array d tokens shown w = stops_here d (nodes_of doc) tree shown tokens (number_of node) w token no_object no_array

    pub step_element : content_at (nodes_of doc) (number_of node) ≡ array → (q : ℕ) → IsElementBy (nodes_of doc) (number_of node) token (Some q) → (inner : CstNode) → inner ≡ typed_at (nodes_of doc) q
        → StepsTo doc node token (Some inner)
    step_element is q element inner typed_so d tokens shown w =
        let n : q ≡ number_of inner = sym (number_of-typed (content_at (nodes_of doc) q) q) ∙ ap number_of (sym typed_so) in
        subst (RefersToNode d (nodes_of doc) (tokens ++ token ∷ [])) n (element_found d (nodes_of doc) tree shown tokens (number_of node) w token is element.0 q element.1 element.2)

    pub step_no_element : content_at (nodes_of doc) (number_of node) ≡ array → IsElementBy (nodes_of doc) (number_of node) token None → StepsTo doc node token None
    step_no_element is none d tokens shown w = element_missing d (nodes_of doc) tree shown tokens (number_of node) w token is none

    module _ (is : content_at (nodes_of doc) (number_of node) ≡ object) where
      pub step_missing : IsLookedUp (nodes_of doc) token (children_at (nodes_of doc) (number_of node)) Missing → StepsTo doc node token None
      step_missing found d tokens shown w = member_missing d (nodes_of doc) tree shown tokens (number_of node) w token is found

      pub step_member : (r q : ℕ) → IsLookedUp (nodes_of doc) token (children_at (nodes_of doc) (number_of node)) (Once r) → value_at (nodes_of doc) r ≡ Some q → (inner : CstNode) → inner ≡ typed_at (nodes_of doc) q
          → StepsTo doc node token (Some inner)
      step_member r q found value inner typed_so d tokens shown w =
          let m = member_found d (nodes_of doc) tree shown tokens (number_of node) w token is r found in
          let both : Some m.0 ≡ Some q = sym m.1 ∙ value in
          let same : m.0 ≡ q = cc in
          let n : m.0 ≡ number_of inner = same ∙ sym (number_of-typed (content_at (nodes_of doc) q) q) ∙ ap number_of (sym typed_so) in
          subst (RefersToNode d (nodes_of doc) (tokens ++ token ∷ [])) n m.2

      pub step_valueless : (r : ℕ) → IsLookedUp (nodes_of doc) token (children_at (nodes_of doc) (number_of node)) (Once r) → value_at (nodes_of doc) r ≡ None → StepsTo doc node token None
      step_valueless r found value d tokens shown w =
          (let m = member_found d (nodes_of doc) tree shown tokens (number_of node) w token is r found in
          let wrong : Some m.0 ≡ None = sym m.1 ∙ value in
          absurd (no_some wrong))
        where
          no_some : {n : ℕ} → Some n ≡ None → ⊥
          no_some e = cc

      pub step_once : (r : ℕ) → IsLookedUp (nodes_of doc) token (children_at (nodes_of doc) (number_of node)) (Once r) → (found : Option CstNode) → found ≡ value_under doc r → StepsTo doc node token found
      step_once r once found e = go (value_at (nodes_of doc) r) refl found e
        where
          go : (q : Option ℕ) → value_at (nodes_of doc) r ≡ q → (found : Option CstNode) → found ≡ option_map (typed_at (nodes_of doc)) q → StepsTo doc node token found
          go None is None same = step_valueless r once is
          go None is (Some inner) same = cc
          go (Some q) is None same = cc
          go (Some q) is (Some inner) same = step_member r q once is inner cc

      pub step_fails : IsLookedUp (nodes_of doc) token (children_at (nodes_of doc) (number_of node)) Twice → FailsThere doc node token
      step_fails found d tokens shown w = member_repeated d (nodes_of doc) tree shown tokens (number_of node) w token is found

  pub says_so : (node : CstNode) (token : List ℕ) (e : FindError A) → SaysRepeated token e → FailsThere doc node token → StepFails doc node token e
  says_so node token (error.RepeatedName name) same fails = (same, fails)
  says_so node token error.OutOfMemory same fails = inr fails

  -- what a node is, by its kind
  module _ (node : CstNode) (held : HasNode doc node) where
    pub object_by : (o : Option CstObject) → IsAs object_node node o → is_some o ≡ true → content_at (nodes_of doc) (number_of node) ≡ object
    object_by None is e = absurd (false≢true e)
    object_by (Some x) is e = object_content (content_at (nodes_of doc) (number_of node)) (number_of node) x (held.1 ∙ (is x).0 refl)

    pub no_object_by : (o : Option CstObject) → IsAs object_node node o → is_some o ≡ false → content_at (nodes_of doc) (number_of node) ≡ object → ⊥
    no_object_by (Some x) is e k = false≢true (sym e)
    no_object_by None is e k =
        let x : CstObject = record { number = number_of node } in
        let wrong : None ≡ Some x = (is x).1 (sym held.1 ∙ ap (λ c. typed c (number_of node)) k) in
        cc

    pub array_by : (o : Option CstArray) → IsAs array_node node o → is_some o ≡ true → content_at (nodes_of doc) (number_of node) ≡ array
    array_by None is e = absurd (false≢true e)
    array_by (Some x) is e = array_content (content_at (nodes_of doc) (number_of node)) (number_of node) x (held.1 ∙ (is x).0 refl)

    pub no_array_by : (o : Option CstArray) → IsAs array_node node o → is_some o ≡ false → content_at (nodes_of doc) (number_of node) ≡ array → ⊥
    no_array_by (Some x) is e k = false≢true (sym e)
    no_array_by None is e k =
        let x : CstArray = record { number = number_of node } in
        let wrong : None ≡ Some x = (is x).1 (sym held.1 ∙ ap (λ c. typed c (number_of node)) k) in
        cc

  -- so many tokens refer to a node
  module _ (names : List (String A)) (k : ℕ) (node : CstNode) (so_far : RefersWhatShown doc (names_of (take k names)) node) where
    pub all_lead : length names ≤ k → IsOfShown doc (λ d. Finds d doc (names_of names) (Some node))
    all_lead h = subst (λ (l : List (String A)). RefersWhatShown doc (names_of l) node) (take_all k names h) so_far

    module _ (s : String A) (h : k < length names) where
      pub one_leads : (inner : CstNode) → StepsTo doc node (chars_of (get_or names k s)) (Some inner) → RefersWhatShown doc (names_of (take (k + 1) names)) inner
      one_leads inner step d shown =
          subst (λ (l : List (List ℕ)). RefersToNode d (nodes_of doc) l (number_of inner)) (sym (one_more names k s h)) (step d (names_of (take k names)) shown (so_far d shown))

      pub none_leads : StepsTo doc node (chars_of (get_or names k s)) None → IsOfShown doc (λ d. Finds d doc (names_of names) None)
      none_leads step d shown = subst (RefersToNothing d) (sym (split_at names k s h)) (step d (names_of (take k names)) shown (so_far d shown) (names_of (drop (k + 1) names)))

      fails_so : FailsThere doc node (chars_of (get_or names k s)) → (d : Document) → Shows d (ordered_tree (nodes_of doc) 0) → FailsAt d.value (names_of names) (chars_of (get_or names k s))
      fails_so fails d shown =
          subst (λ (l : List (List ℕ)). FailsAt d.value l (chars_of (get_or names k s))) (sym (split_at names k s h)) (fails d (names_of (take k names)) shown (so_far d shown) (names_of (drop (k + 1) names)))

      escaped_so : HoldsEscapedName (nodes_of doc) (number_of node) → (d : Document) → Shows d (ordered_tree (nodes_of doc) 0) → PassesEscaped d (nodes_of doc) (names_of names)
      escaped_so escaped d shown = record {
        front = names_of (take k names);
        token = chars_of (get_or names k s);
        rest = names_of (drop (k + 1) names);
        split = split_at names k s h;
        object = number_of node;
        leads = so_far d shown;
        escaped = escaped;
      }

      pub one_fails : (e : FindError A) → StepFails doc node (chars_of (get_or names k s)) e → IsOfShown doc (λ d. FindFails d doc (names_of names) e)
      one_fails (error.RepeatedName name) fault d shown = subst (FailsAt d.value (names_of names)) (sym fault.0) (fails_so fault.1 d shown)
      one_fails error.OutOfMemory (inl escaped) d shown = inl (escaped_so escaped d shown)
      one_fails error.OutOfMemory (inr fails) d shown = inr (chars_of (get_or names k s), fails_so fails d shown)

  -- what is read of the node that they refer to
  module _ (tokens : List (List ℕ)) (node : CstNode) (refers : RefersWhatShown doc tokens node) where
    pub read_value : (value : Option (CstInputValue A)) → IsValueTaken doc node value → IsOfShown doc (λ d. Reads d tokens value)
    read_value None taken d shown =
        (let w = refers d shown in
        let wrong : None ≡ Some (collapse w.v) = taken_there d (nodes_of doc) tree shown tokens (number_of node) w None taken in
        cc)
    read_value (Some x) taken d shown =
        (let w = refers d shown in
        let same : Some (plain x) ≡ Some (collapse w.v) = taken_there d (nodes_of doc) tree shown tokens (number_of node) w (Some x) taken in
        (w.v, (w.value, w.is, w.path, w.refers), cc))

    pub read_wants : IsOfShown doc (λ d. ReadFails d doc tokens error.OutOfMemory)
    read_wants d shown = (let w = refers d shown in inr (w.v, (w.value, w.is, w.path, w.refers)))

  pub read_fails : (tokens : List (List ℕ)) (e : FindError A) → IsOfShown doc (λ d. FindFails d doc tokens e) → IsOfShown doc (λ d. ReadFails d doc tokens e)
  read_fails tokens (error.RepeatedName name) fails d shown = fails d shown
  read_fails tokens error.OutOfMemory fails d shown = inl (fails d shown)
