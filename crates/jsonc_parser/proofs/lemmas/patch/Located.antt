-- The tokens that refer to a node of a document, step by step along the path that leads to it.
use Rattle.std.proofs.Common.{ℕ, zero, suc, ◌≡◌, ◌<◌, ◌^◌, ◌+◌, ◌++◌, ◌∙◌, sym, ap, subst, refl, inl, inr, List, [], ◌∷◌, Option, Some, None, Result, Ok, Err, IfNone, IfOk, IfSome, length, drop, get_or, slice_get, slice_index, string_bytes, chars, option_map, arith}
use Rattle.std.specs.Fmt.{decimal}
use Rattle.std.specs.declared.string.String.{String}
use Rattle.std.specs.declared.vec.Vec.{Vec}
use Rattle.std.proofs.lemmas.List.{drop_more, map-append}
use Rattle.jsonc_text.specs.Documents.{Document}
use Rattle.jsonc_text.specs.Plain.{Plain}
use Rattle.jsonc_tree.specs.Content as content
use Rattle.jsonc_tree.specs.OrderedTree.{ordered_tree}
use Rattle.jsonc_tree.specs.Tree.{Node, children_at, content_at, IsTree}
use Rattle.jsonc_layout.specs.input.Views.{chars_of}
use Rattle.jsonc_layout.specs.nodes.Kinds.{is_element_at}
use Rattle.jsonc_layout.specs.nodes.Names.{HasName, IsNamed, Names}
use Rattle.jsonc_layout.specs.nodes.Properties.{value_at}
use Rattle.jsonc_layout.specs.nodes.Siblings.{elements_at}
use Rattle.jsonc_layout.proofs.lemmas.nodes.NodeNames.{names_once}
use Rattle.jsonc_sound.specs.Documents.{Shows}
use Rattle.jsonc_edit.specs.Changes.{row_below}
use Rattle.jsonc_edit.specs.Paths as paths
use Rattle.jsonc_edit.specs.Paths.{IsAt, IsElementOf, IsHeldBy, LeadsTo}
use Rattle.jsonc_edit.proofs.ChangesUpward.{Shows-row_below}
use Rattle.jsonc_edit.proofs.Elements.{stands_at}
use Rattle.jsonc_edit.proofs.Uniqueness.{element_once, node_once, no_kind_is_two, path_once}
use Rattle.jsonc_cst.specs.declared.cst.CstRootNode.{CstRootNode}
use Rattle.jsonc_cst.specs.declared.cst.node.CstNode.{CstNode}
use Rattle.jsonc_cst.specs.Document.{nodes_of, HasNode}
use Rattle.jsonc_cst.specs.Nodes.{number_of, typed_at}
use Rattle.jsonc_cst.specs.Readings.{value_under}
use Rattle.jsonc_cst.proofs.Family.{number_of-typed}
use Rattle.jsonc_parser.specs.paths.Found.{names_of}
use Rattle.jsonc_parser.specs.patch.Found.{IsOfShown, RefersToNode}
use Rattle.jsonc_parser.specs.patch.Locations.{AreTokensTo, HasNoToken, IsPointerTo, IsTokenTo, LeadsBack}
use Rattle.jsonc_parser.specs.patch.Lookups as lookups
use Rattle.jsonc_parser.specs.patch.Lookups.{IsLookedUp}
use Rattle.jsonc_parser.specs.patch.Pointer.{tokens_of}
use Rattle.jsonc_parser.specs.declared.patch.pointer.Pointer.{Pointer}
use Rattle.jsonc_parser.specs.patch.References.{IsOnly, Refers, whole}
use Rattle.jsonc_parser.specs.declared.patch.reference.Lookup.TheVariants.{Missing, Once, Twice}
use Rattle.jsonc_parser.proofs.lemmas.patch.Evaluation.{only_lacks, only_repeated}
use Rattle.jsonc_parser.proofs.lemmas.patch.Locations.{leads_on, named_there, only_named, only_path, over_path, parted, step_only, written_index}
use Rattle.jsonc_parser.proofs.lemmas.patch.Nodes.{all_whole, its, member_found, some_same, there}
use Rattle.jsonc_parser.proofs.lemmas.patch.Rows.{looked_up}
use Rattle.jsonc_parser.proofs.lemmas.patch.Steps.{begins_with, begins_without, step_element, step_once}

-- a property has one name
has_name_once : (ns : List Node) (r : ℕ) (a b : List ℕ) → HasName ns r a → HasName ns r b → a ≡ b
has_name_once ns r a b (m, e, is) (n, f, so) =
    let same : m ≡ n = let both : Some m ≡ Some n = sym e ∙ f in cc in
    names_once (content_at ns n) a b (subst (λ k. Names (content_at ns k) a) same is) so

-- what is found in a list at a place
got_at : (xs : List ℕ) (k r : ℕ) → k < length xs → slice_index xs k ≡ r → slice_get xs k ≡ Some r
got_at [] k r h is = absurd (omega (arith, h))
got_at (x ∷ xs) zero r h is = ap (λ n. Some n) is
got_at (x ∷ xs) (suc k) r h is = got_at xs k r (omega (arith, h)) is

-- the next step of a path
next_step : {ns : List Node} {n v place : ℕ} {rest : List ℕ} → LeadsTo ns n v (place ∷ rest) → (q : ℕ) × paths.StepsTo ns v place q × LeadsTo ns n q rest
next_step (paths.step {q = q} s l) = (q, s, l)

no_step : {ns : List Node} {n v : ℕ} → LeadsTo ns n v [] → v ≡ n
no_step paths.itself = refl

no_tokens : {x v : Plain} {path : List ℕ} → Refers x [] path v → path ≡ []
no_tokens whole = refl

module _ (d : Document) (ns : List Node) (tree : IsTree ns) (shown : Shows d (ordered_tree ns 0)) where
  -- no tokens refer to a node where none leads on over the path to it
  pub none_over : (tokens : List (List ℕ)) (v n place : ℕ) (rest : List ℕ) (w : RefersToNode d ns tokens v) → LeadsTo ns n v (place ∷ rest)
      → ((token : List ℕ) (x : Plain) → Refers w.v (token ∷ []) (place ∷ []) x → ⊥) → (others : List (List ℕ)) → RefersToNode d ns others n → ⊥
  none_over tokens v n place rest w leads none others u =
      let at : IsAt ns (w.path ++ place ∷ rest) n = (w.at.0, w.at.1, leads_on ns v n (place ∷ rest) w.at.2 leads) in
      let over : u.path ≡ w.path ++ place ∷ rest = path_once ns tree u.path (w.path ++ place ∷ rest) n u.at at in
      let top : u.value ≡ w.value = some_same d ns tree shown u.value w.value (sym u.is ∙ w.is) in
      let refers : Refers w.value others (w.path ++ place ∷ rest) u.v = subst (λ p. Refers w.value others p u.v) over (subst (λ x. Refers x others u.path u.v) top u.refers) in
      let p = parted w.path place rest refers in
      let same : p.there ≡ w.v = over_path p.leads w.refers in
      none p.token p.next (subst (λ x. Refers x (p.token ∷ []) (place ∷ []) p.next) same p.on)

module _ {A : Type 0} (doc : CstRootNode A) (tree : IsTree (nodes_of doc)) (node : CstNode) where
  -- an element, and its index
  module _ (place : ℕ) where
    pub told_element : (content_at (nodes_of doc) (number_of node) ≡ content.object → ⊥) → (entry : ℕ) → Some entry ≡ slice_get (elements_at (nodes_of doc) (number_of node)) place
        → (token : String A) (inner : CstNode) → string_bytes token ≡ decimal place → place < 2 ^ 64 → inner ≡ typed_at (nodes_of doc) entry
        → (q : ℕ) → paths.StepsTo (nodes_of doc) (number_of node) place q → IsTokenTo doc node place q (Some (token, inner))
    told_element no_object entry is token inner text fits typed_so q (paths.in_object object e h) = absurd (no_object object)
    told_element no_object entry is token inner text fits typed_so q (paths.in_array array e) =
        let same : entry ≡ q = element_once (nodes_of doc) (number_of node) place entry q (sym is) e in
        let number : number_of inner ≡ entry = ap number_of typed_so ∙ number_of-typed (content_at (nodes_of doc) entry) entry in
        (number ∙ same, step_element doc tree node (chars_of token) array entry (place, written_index (string_bytes token) place text fits, sym is) inner typed_so)

    pub no_element : None ≡ slice_get (elements_at (nodes_of doc) (number_of node)) place → (q : ℕ) → paths.StepsTo (nodes_of doc) (number_of node) place q → IsTokenTo doc node place q None
    no_element none q (paths.in_array array e) = absurd (let wrong : None ≡ Some q = none ∙ e in cc)
    no_element none q (paths.in_object {r = r} object e h) = absurd (let wrong : None ≡ Some r = none ∙ e in cc)

    -- what a property's step leads to, by what is known of the property
    pub told_property : content_at (nodes_of doc) (number_of node) ≡ content.object → (entry : ℕ) → Some entry ≡ slice_get (elements_at (nodes_of doc) (number_of node)) place → (reported : Option (String A × CstNode))
        → ((i q : ℕ) → IsElementOf (nodes_of doc) (number_of node) i entry → IsHeldBy (nodes_of doc) entry q → IsTokenTo doc node i q reported)
        → (q : ℕ) → paths.StepsTo (nodes_of doc) (number_of node) place q → IsTokenTo doc node place q reported
    told_property object entry is reported by q (paths.in_array array e) = absurd (no_kind_is_two (content_at (nodes_of doc) (number_of node)) array object)
    told_property object entry is reported by q (paths.in_object {r = r} other e h) =
        let same : r ≡ entry = element_once (nodes_of doc) (number_of node) place r entry e (sym is) in
        by place q (sym is) (subst (λ k. IsHeldBy (nodes_of doc) k q) same h)

    pub told_by_name : {E : Type 0} → content_at (nodes_of doc) (number_of node) ≡ content.object → (entry : ℕ) → Some entry ≡ slice_get (elements_at (nodes_of doc) (number_of node)) place → (r : Result (Option (String A × CstNode)) E)
        → IfOk r (λ reported. (i q : ℕ) → IsElementOf (nodes_of doc) (number_of node) i entry → IsHeldBy (nodes_of doc) entry q → IsTokenTo doc node i q reported)
        → IfOk r (λ reported. (q : ℕ) → paths.StepsTo (nodes_of doc) (number_of node) place q → IsTokenTo doc node place q reported)
    told_by_name object entry is (Ok reported) by = told_property object entry is reported by
    told_by_name object entry is (Err e) by = tt

  -- a property of an object, by its name
  module _ (object : content_at (nodes_of doc) (number_of node) ≡ content.object) (property : ℕ) where
    -- a token that leads to the place of the property is its name, which is that of no other
    leads_by_name : (i : ℕ) → IsElementOf (nodes_of doc) (number_of node) i property → (d : Document) (tokens : List (List ℕ)) (shown : Shows d (ordered_tree (nodes_of doc) 0)) (w : RefersToNode d (nodes_of doc) tokens (number_of node))
        → (token : List ℕ) (x : Plain) → Refers w.v (token ∷ []) (i ∷ []) x
        → (y : Plain) × IsOnly token y i (its d (nodes_of doc) tree shown tokens (number_of node) w token object).0 × HasName (nodes_of doc) property token
    leads_by_name i e d tokens shown w token x r =
        let ns : List Node = nodes_of doc in
        let n : ℕ = number_of node in
        let ms = its d ns tree shown tokens n w token object in
        let only = step_only r ms.1 in
        let row = Shows-row_below ns tree n (there d ns tree shown tokens n w token) in
        let named = named_there d.options ns (children_at ns n) (row_below ns n) (row_below ns n) ms.0 token only.0 i row ms.2 refl (all_whole d ns tree shown tokens n w token object) only.1 in
        let same : named.0 ≡ property = element_once ns n i named.0 property named.1 e in
        (only.0, only.1, subst (λ k. HasName ns k token) same named.2)

    pub nameless : ((v : List ℕ) → HasName (nodes_of doc) property v → ⊥) → (i q : ℕ) → IsElementOf (nodes_of doc) (number_of node) i property → IsHeldBy (nodes_of doc) property q → IsTokenTo doc node i q None
    nameless none i q e h d tokens shown w token x r = none token (leads_by_name i e d tokens shown w token x r).2

    module _ (name : List ℕ) (named : HasName (nodes_of doc) property name) where
      -- it leads there only where it was found
      found_there : (i : ℕ) → IsElementOf (nodes_of doc) (number_of node) i property → (d : Document) (tokens : List (List ℕ)) (shown : Shows d (ordered_tree (nodes_of doc) 0)) (w : RefersToNode d (nodes_of doc) tokens (number_of node))
          → (token : List ℕ) (x : Plain) → Refers w.v (token ∷ []) (i ∷ []) x → (y : Plain) × IsOnly name y i (its d (nodes_of doc) tree shown tokens (number_of node) w name object).0
      found_there i e d tokens shown w token x r =
          let by = leads_by_name i e d tokens shown w token x r in
          let same : token ≡ name = has_name_once (nodes_of doc) property token name by.2 named in
          (by.0, subst (λ t. IsOnly t by.0 i (its d (nodes_of doc) tree shown tokens (number_of node) w t object).0) same by.1)

      pub missing : IsLookedUp (nodes_of doc) name (children_at (nodes_of doc) (number_of node)) Missing → (i q : ℕ) → IsElementOf (nodes_of doc) (number_of node) i property → IsHeldBy (nodes_of doc) property q → IsTokenTo doc node i q None
      missing found i q e h d tokens shown w token x r =
          let ns : List Node = nodes_of doc in
          let n : ℕ = number_of node in
          let ms = its d ns tree shown tokens n w name object in
          let row = Shows-row_below ns tree n (there d ns tree shown tokens n w name) in
          let lacks = looked_up d.options ns (children_at ns n) (row_below ns n) (row_below ns n) ms.0 name Missing row ms.2 refl (all_whole d ns tree shown tokens n w name object) found in
          only_lacks (found_there i e d tokens shown w token x r).1 lacks

      pub twice : IsLookedUp (nodes_of doc) name (children_at (nodes_of doc) (number_of node)) Twice → (i q : ℕ) → IsElementOf (nodes_of doc) (number_of node) i property → IsHeldBy (nodes_of doc) property q → IsTokenTo doc node i q None
      twice found i q e h d tokens shown w token x r =
          let ns : List Node = nodes_of doc in
          let n : ℕ = number_of node in
          let ms = its d ns tree shown tokens n w name object in
          let row = Shows-row_below ns tree n (there d ns tree shown tokens n w name) in
          let again = looked_up d.options ns (children_at ns n) (row_below ns n) (row_below ns n) ms.0 name Twice row ms.2 refl (all_whole d ns tree shown tokens n w name object) found in
          only_repeated (found_there i e d tokens shown w token x r).1 again

      module _ (only : ℕ) (found : IsLookedUp (nodes_of doc) name (children_at (nodes_of doc) (number_of node)) (Once only)) where
        only_this : (i q : ℕ) → IsElementOf (nodes_of doc) (number_of node) i property → IsHeldBy (nodes_of doc) property q → only ≡ property
        only_this i q e h =
            let at = stands_at (is_element_at (nodes_of doc)) (children_at (nodes_of doc) (number_of node)) i property e in
            only_named (nodes_of doc) name only found at.0 property (got_at (children_at (nodes_of doc) (number_of node)) at.0 property at.1 at.2) (h.0, named)

        pub told_name : (value : CstNode) → Some value ≡ value_under doc only → (token : String A) → chars_of token ≡ name
            → (i q : ℕ) → IsElementOf (nodes_of doc) (number_of node) i property → IsHeldBy (nodes_of doc) property q → IsTokenTo doc node i q (Some (token, value))
        told_name value is token text i q e h =
            let ns : List Node = nodes_of doc in
            let same : only ≡ property = only_this i q e h in
            let held : value_at ns only ≡ Some q = ap (value_at ns) same ∙ h.2 in
            let typed_so : Some value ≡ Some (typed_at ns q) = is ∙ ap (option_map (typed_at ns)) held in
            let one : value ≡ typed_at ns q = cc in
            (ap number_of one ∙ number_of-typed (content_at ns q) q, subst (λ t. lookups.StepsTo doc node t (Some value)) (sym text) (step_once doc tree node name object only found (Some value) is))

        pub valueless : None ≡ value_under doc only → (i q : ℕ) → IsElementOf (nodes_of doc) (number_of node) i property → IsHeldBy (nodes_of doc) property q → IsTokenTo doc node i q None
        valueless is i q e h =
            let ns : List Node = nodes_of doc in
            let held : value_at ns only ≡ Some q = ap (value_at ns) (only_this i q e h) ∙ h.2 in
            absurd (let wrong : None ≡ Some (typed_at ns q) = is ∙ ap (option_map (typed_at ns)) held in cc)

-- so far the tokens refer to this node, from which the rest of the path leads to that of the number
abbrev pub IsOnTheWay : {A : Type 0} → CstRootNode A → ℕ → List (String A) → CstNode → List ℕ → Type 0
IsOnTheWay doc n tokens node rest = IsOfShown doc (λ d. RefersToNode d (nodes_of doc) (names_of tokens) (number_of node) × LeadsTo (nodes_of doc) n (number_of node) rest)

module _ {A : Type 0} (doc : CstRootNode A) (tree : IsTree (nodes_of doc)) where
  pub starts : (node : CstNode) → Some node ≡ value_under doc 0 → (path : List ℕ) (n : ℕ) → IsAt (nodes_of doc) path n → IsOnTheWay doc n [] node path
  starts node is path n at d shown =
      let w = begins_with doc tree node is d shown in
      let here : IsAt (nodes_of doc) [] (number_of node) = subst (λ p. IsAt (nodes_of doc) p (number_of node)) (no_tokens w.refers) w.at in
      let first : at.0 ≡ number_of node = element_once (nodes_of doc) 0 0 at.0 here.0 at.1 here.1 ∙ no_step here.2 in
      (w, subst (λ v. LeadsTo (nodes_of doc) n v path) first at.2)

  pub starts_nowhere : None ≡ value_under doc 0 → (n : ℕ) → IsOfShown doc (AreTokensTo doc n None)
  starts_nowhere is n d shown tokens u = (begins_without doc tree is tokens d shown).nothing u.v (u.value, u.is, u.path, u.refers)

  module _ (n : ℕ) (tokens : List (String A)) (node : CstNode) (place : ℕ) (rest : List ℕ) (way : IsOnTheWay doc n tokens node (place ∷ rest)) where
    pub goes_on : (token : String A) (inner : CstNode) → ((q : ℕ) → paths.StepsTo (nodes_of doc) (number_of node) place q → IsTokenTo doc node place q (Some (token, inner))) → IsOnTheWay doc n (tokens ++ token ∷ []) inner rest
    goes_on token inner reported d shown =
        let so = way d shown in
        let s = next_step so.1 in
        let t = reported s.0 s.1 in
        let refers : RefersToNode d (nodes_of doc) (names_of tokens ++ chars_of token ∷ []) (number_of inner) = t.1 d (names_of tokens) shown so.0 in
        (subst (λ l. RefersToNode d (nodes_of doc) l (number_of inner)) (sym (map-append chars_of tokens (token ∷ []))) refers, subst (λ v. LeadsTo (nodes_of doc) n v rest) (sym t.0) s.2)

    pub stops : ((q : ℕ) → paths.StepsTo (nodes_of doc) (number_of node) place q → IsTokenTo doc node place q None) → IsOfShown doc (AreTokensTo doc n None)
    stops reported d shown others u =
        let so = way d shown in
        let s = next_step so.1 in
        none_over d (nodes_of doc) tree shown (names_of tokens) (number_of node) n place rest so.0 so.1 (reported s.0 s.1 d (names_of tokens) shown so.0) others u

  module _ (n : ℕ) (tokens : List (String A)) (node : CstNode) (path : List ℕ) (k : ℕ) (h : k < length path) (way : IsOnTheWay doc n tokens node (drop k path)) (reported : Option (String A × CstNode))
      (by : (q : ℕ) → paths.StepsTo (nodes_of doc) (number_of node) (get_or path k 0) q → IsTokenTo doc node (get_or path k 0) q reported) where
    further : IsOnTheWay doc n tokens node (get_or path k 0 ∷ drop (k + 1) path)
    further = subst (IsOnTheWay doc n tokens node) (drop_more path k 0 h) way

    pub goes_on_by : (token : String A) (inner : CstNode) → reported ≡ Some (token, inner) → IsOnTheWay doc n (tokens ++ token ∷ []) inner (drop (k + 1) path)
    goes_on_by token inner is = goes_on n tokens node (get_or path k 0) (drop (k + 1) path) further token inner (λ q s. subst (IsTokenTo doc node (get_or path k 0) q) is (by q s))

    pub stops_here_by : reported ≡ None → IsOfShown doc (AreTokensTo doc n None)
    stops_here_by is = stops n tokens node (get_or path k 0) (drop (k + 1) path) further (λ q s. subst (IsTokenTo doc node (get_or path k 0) q) is (by q s))

  pub arrives : (n : ℕ) (tokens : Vec (String A) A) (node : CstNode) → IsOnTheWay doc n tokens.items node [] → IsOfShown doc (AreTokensTo doc n (Some tokens))
  arrives n tokens node way d shown =
      let so = way d shown in subst (RefersToNode d (nodes_of doc) (names_of tokens.items)) (no_step so.1) so.0

  -- a node of no path is one that no tokens refer to
  pub nowhere : (n : ℕ) → ((path : List ℕ) → IsAt (nodes_of doc) path n → ⊥) → IsOfShown doc (AreTokensTo doc n None)
  nowhere n none d shown tokens u = none u.path u.at

  module _ (n : ℕ) (found : Option (Vec ℕ A)) where
    pub nowhere_by : found ≡ None → IfNone found ((path : List ℕ) → IsAt (nodes_of doc) path n → ⊥) → IsOfShown doc (IsPointerTo doc n None)
    nowhere_by is none = nowhere n (subst (λ (o : Option (Vec ℕ A)). IfNone o ((path : List ℕ) → IsAt (nodes_of doc) path n → ⊥)) is none)

    -- a path was found, and tokens over it
    module _ (path : Vec ℕ A) (is : found ≡ Some path) (at : IfSome found (λ path. IsAt (nodes_of doc) path.items n)) (slice : List ℕ) (same : slice ≡ path.items) (reported : Option (Vec (String A) A))
        (by : (n : ℕ) → IsAt (nodes_of doc) slice n → IsOfShown doc (AreTokensTo doc n reported)) where
      over_path_there : IsOfShown doc (AreTokensTo doc n reported)
      over_path_there = by n (subst (λ l. IsAt (nodes_of doc) l n) (sym same) (subst (λ (o : Option (Vec ℕ A)). IfSome o (λ path. IsAt (nodes_of doc) path.items n)) is at))

      pub no_pointer : reported ≡ None → IsOfShown doc (IsPointerTo doc n None)
      no_pointer none d shown = subst (λ o. AreTokensTo doc n o d) none (over_path_there d shown)

      pub a_pointer : (tokens : Vec (String A) A) (pointer : Pointer A) → reported ≡ Some tokens → tokens_of pointer ≡ names_of tokens.items → IsOfShown doc (IsPointerTo doc n (Some pointer))
      a_pointer tokens pointer some text d shown = subst (λ l. RefersToNode d (nodes_of doc) l n) (sym text) (subst (λ o. AreTokensTo doc n o d) some (over_path_there d shown))

-- what tokens refer to is one node
pub one_node : (d : Document) (ns : List Node) (tokens : List (List ℕ)) (n m : ℕ) → RefersToNode d ns tokens n → RefersToNode d ns tokens m → n ≡ m
one_node d ns tokens n m u w =
    let top : u.value ≡ w.value = let both : Some u.value ≡ Some w.value = sym u.is ∙ w.is in cc in
    let path : u.path ≡ w.path = only_path (subst (λ x. Refers x tokens u.path u.v) top u.refers) w.refers in
    node_once ns w.path n m (subst (λ p. IsAt ns p n) path u.at) w.at

pub leads_back : {A : Type 0} (doc : CstRootNode A) (node : CstNode) (tokens : List (List ℕ)) → LeadsBack doc node tokens
leads_back doc node tokens held None others d shown u finds = absurd (finds.nothing u.v (u.value, u.is, u.path, u.refers))
leads_back doc node tokens held (Some other) others d shown u finds =
    let same : number_of other ≡ number_of node = one_node d (nodes_of doc) tokens (number_of other) (number_of node) finds u in
    let there = others other refl in
    ap (λ k. Some k) (sym there.1 ∙ ap (typed_at (nodes_of doc)) same ∙ held.1)
