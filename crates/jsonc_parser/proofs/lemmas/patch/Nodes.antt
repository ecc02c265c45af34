-- One token further from a node of a document that a tree shows.
use Rattle.std.proofs.Common.{ℕ, suc, ◌≡◌, ◌<◌, ◌∙◌, ◌++◌, sym, ap, subst, refl, true, Bool, List, [], ◌∷◌, length, filter, get_or, slice_get, option_map, Option, Some, None, zero, inl, inr, arith}
use Rattle.std.proofs.lemmas.Bool.{cases_Bool}
use Rattle.std.specs.List.{All}
use Rattle.jsonc_text.specs.Documents.{Document}
use Rattle.jsonc_text.specs.Options.{Options}
use Rattle.jsonc_text.specs.Plain.{Plain, Items, Members}
use Rattle.jsonc_text.specs.Plain as plain
use Rattle.jsonc_tree.specs.Content as content
use Rattle.jsonc_tree.specs.Content.{Content}
use Rattle.jsonc_tree.specs.OrderedTree.{OrderedTree, ordered_tree}
use Rattle.jsonc_tree.specs.Tree.{Node, content_at, children_at, IsTree}
use Rattle.jsonc_tree.specs.Values as values
use Rattle.jsonc_tree.specs.Values.{ItemsOf, MembersOf, ValueOf}
use Rattle.jsonc_tree.proofs.Order.{parent_there}
use Rattle.jsonc_tree.proofs.OrderedTrees.{Shows-unique}
use Rattle.jsonc_layout.specs.declared.input.value.CstInputValue.{CstInputValue}
use Rattle.jsonc_layout.specs.input.Views as views
use Rattle.jsonc_layout.specs.to_input.Taken.{IsTaken}
use Rattle.jsonc_layout.specs.nodes.Kinds.{is_element, is_element_at}
use Rattle.jsonc_layout.specs.nodes.Properties.{value_at}
use Rattle.jsonc_layout.specs.nodes.Siblings.{elements_at}
use Rattle.jsonc_sound.specs.Alone.{PropertyAlone}
use Rattle.jsonc_sound.specs.Changes as changes
use Rattle.jsonc_sound.specs.Changes.{Changed, ItemChanged, MemberChanged}
use Rattle.jsonc_sound.specs.Documents.{Shows}
use Rattle.jsonc_sound.specs.Sound.{HasValue}
use Rattle.jsonc_edit.specs.Changes.{row_below, top_at}
use Rattle.jsonc_edit.specs.Paths as paths
use Rattle.jsonc_edit.specs.Paths.{IsAt, IsElementOf, LeadsTo, StepsTo}
use Rattle.jsonc_edit.proofs.Elements.{taken, left}
use Rattle.jsonc_edit.proofs.FittingNodes.{over_there}
use Rattle.jsonc_edit.proofs.Uniqueness.{element_parent, over_at}
use Rattle.jsonc_edit.proofs.ChangesUpward.{Shows-row_below}
use Rattle.jsonc_edit.proofs.lemmas.set.PropertyRows.{counted_elements}
use Rattle.jsonc_insert.specs.elements.Laws.{item_count}
use Rattle.jsonc_insert.specs.named.Places.{IsPropertyOf, a_property}
use Rattle.jsonc_insert.proofs.lemmas.elements.Items.{counted}
use Rattle.jsonc_insert.proofs.lemmas.named.Names.{IsWhole}
use Rattle.jsonc_insert.proofs.lemmas.named.PathValues.{value_once}
use Rattle.jsonc_insert.proofs.lemmas.named.PropertyValues.{property_row, value_held}
use Rattle.jsonc_parser.proofs.lemmas.paths.AtPaths.{root_holds}
use Rattle.jsonc_parser.proofs.lemmas.paths.TakenValues.{nodes_have_values}
use Rattle.jsonc_parser.specs.patch.Found.{RefersToNode, RefersToNothing}
use Rattle.jsonc_parser.specs.patch.Lookups.{IsLookedUp}
use Rattle.jsonc_parser.specs.patch.References.{IsIndex, IsItem, this_item, later_item, Refers, whole, MeetsRepeated, here, FailsAt}
use Rattle.jsonc_parser.specs.declared.patch.reference.Lookup.TheVariants.{Missing, Once, Twice}
use Rattle.jsonc_parser.proofs.lemmas.patch.Evaluation.{array_stops, behind, element_further, fails_behind, fails_further, member_further, object_stops, other_stops, refers_changed, Stops}
use Rattle.jsonc_parser.proofs.lemmas.patch.Rows.{looked_up}

-- what a node of a content has
pub object_value : (o : Options) (c : Content) (below : OrderedTree) (v : Plain) → c ≡ content.object → ValueOf o c below v → (ms : Members) × (v ≡ plain.object ms) × MembersOf o below ms
object_value o _ below _ e (values.object {ms = ms} h) = (ms, refl, h)
object_value o _ below _ e (values.string h) = cc
object_value o _ below _ e values.number = cc
object_value o _ below _ e values.boolean = cc
object_value o _ below _ e values.null = cc
object_value o _ below _ e (values.array h) = cc

pub array_value : (o : Options) (c : Content) (below : OrderedTree) (v : Plain) → c ≡ content.array → ValueOf o c below v → (vs : Items) × (v ≡ plain.array vs) × ItemsOf o below vs
array_value o _ below _ e (values.array {vs = vs} h) = (vs, refl, h)
array_value o _ below _ e (values.string h) = cc
array_value o _ below _ e values.number = cc
array_value o _ below _ e values.boolean = cc
array_value o _ below _ e values.null = cc
array_value o _ below _ e (values.object h) = cc

pub object_content : (o : Options) (c : Content) (below : OrderedTree) (ms : Members) → ValueOf o c below (plain.object ms) → c ≡ content.object
object_content o _ below _ (values.object h) = refl

pub array_content : (o : Options) (c : Content) (below : OrderedTree) (vs : Items) → ValueOf o c below (plain.array vs) → c ≡ content.array
array_content o _ below _ (values.array h) = refl

-- a step further on the way to a node
pub leads_more : (ns : List Node) (n i q : ℕ) {v : ℕ} {path : List ℕ} → LeadsTo ns n v path → StepsTo ns n i q → LeadsTo ns q v (path ++ i ∷ [])
leads_more ns n i q paths.itself s = paths.step s paths.itself
leads_more ns n i q (paths.step t l) s = paths.step t (leads_more ns n i q l s)

-- what is at a place of what is at a path
item_at : {a b : Plain} {i : ℕ} {vs ws : Items} → ItemChanged a b i vs ws → IsItem a i vs
item_at changes.this_item = this_item
item_at (changes.later_item c) = later_item (item_at c)

item_same : {a b c d : Plain} {i : ℕ} {vs ws us : Items} → ItemChanged a b i vs ws → ItemChanged c d i vs us → a ≡ c
item_same changes.this_item changes.this_item = refl
item_same (changes.later_item k) (changes.later_item l) = item_same k l

member_same : {a b c d : Plain} {i : ℕ} {ms ns ls : Members} → MemberChanged a b i ms ns → MemberChanged c d i ms ls → a ≡ c
member_same changes.this_member changes.this_member = refl
member_same (changes.later_member k) (changes.later_member l) = member_same k l

one_step : {a b x y : Plain} {i : ℕ} {vs : Items} → Changed a b (i ∷ []) x y → x ≡ plain.array vs → IsItem a i vs
one_step {a} {b} {i = i} {vs = vs} (changes.in_array {vs = us} c changes.itself) e = let same : us ≡ vs = cc in subst (IsItem a i) same (item_at c)
one_step (changes.in_object c changes.itself) e = cc

inside : {a b w u x y z : Plain} {i : ℕ} {vs : Items} (path : List ℕ) → Changed a b (path ++ i ∷ []) x y → Changed w u path x z → w ≡ plain.array vs → IsItem a i vs
inside [] c changes.itself e = one_step c e
inside {a} {b} {i = i} (j ∷ path) (changes.in_array {y = p} k c) (changes.in_array l d) e = inside path (subst (λ h. Changed a b (path ++ i ∷ []) h p) (item_same k l) c) d e
inside {a} {b} {i = i} (j ∷ path) (changes.in_object {y = p} k c) (changes.in_object l d) e = inside path (subst (λ h. Changed a b (path ++ i ∷ []) h p) (member_same k l) c) d e

-- an element of an index is within the count
pub item_within : {v : Plain} {i : ℕ} {vs : Items} → IsItem v i vs → i < item_count vs
item_within (this_item {vs = vs}) = omega arith
item_within (later_item {i = i} {vs = vs} p) = let h = item_within p in omega (arith, h)

get_within : (xs : List ℕ) (i : ℕ) → i < length xs → (q : ℕ) × (slice_get xs i ≡ Some q)
get_within [] i h = absurd (omega (arith, h))
get_within (x ∷ xs) zero h = (x, refl)
get_within (x ∷ xs) (suc i) h = get_within xs i (omega (arith, h))

-- a node that passes is one of those that pass (as in jsonc_insert/proofs/lemmas/named/Writing.antt)
module _ (test : ℕ → Bool) where
  at_filter : (xs : List ℕ) (k d : ℕ) → k < length xs → test (get_or xs k d) ≡ true → (i : ℕ) × (slice_get (filter test xs) i ≡ Some (get_or xs k d))
  at_filter [] k d h is = absurd (omega (arith, h))
  at_filter (x ∷ xs) zero d h is = (0, ap (λ l. slice_get l 0) (taken test x xs is))
  at_filter (x ∷ xs) (suc k) d h is =
      let later = at_filter xs k d (omega (arith, h)) is in
      elim (cases_Bool (test x)) [
        | inl p ↦ (suc later.0, ap (λ l. slice_get l (suc later.0)) (taken test x xs p) ∙ later.1)
        | inr p ↦ (later.0, ap (λ l. slice_get l later.0) (left test x xs p) ∙ later.1)
      ]

module _ (d : Document) (ns : List Node) (tree : IsTree ns) (shown : Shows d (ordered_tree ns 0)) where
  pub some_same : (x y : Plain) → Some x ≡ Some y → x ≡ y
  some_same x y e = cc

  -- a node at positions that tokens lead over is what they refer to
  referred : (tokens : List (List ℕ)) (path : List ℕ) (n : ℕ) → IsAt ns path n → (x v : Plain) → d.value ≡ Some x → Refers x tokens path v → RefersToNode d ns tokens n
  referred tokens path n at x v is refers =
      let h = nodes_have_values {A = Unit {0}} d ns path n tree shown at in
      let top : h.x ≡ x = some_same h.x x (sym h.is ∙ is) in
      let same : v ≡ h.v = value_once (refers_changed refers) (subst (λ k. Changed h.v h.v path k k) top h.there) in
      record { value = x; is = is; v = v; path = path; refers = refers; at = at; has = subst (HasValue d.options (top_at ns n)) (sym same) h.has }

  -- what is taken of the node is the value
  pub taken_there : {A : Type 0} (tokens : List (List ℕ)) (n : ℕ) (w : RefersToNode d ns tokens n) (taken : Option (CstInputValue A)) → IsTaken (ordered_tree ns n) taken → option_map views.plain taken ≡ Some (plain.collapse w.v)
  taken_there {A} tokens n w taken is =
      let h = nodes_have_values {A = A} d ns w.path n tree shown w.at in
      let top : h.x ≡ w.value = some_same h.x w.value (sym h.is ∙ w.is) in
      let same : w.v ≡ h.v = value_once (refers_changed w.refers) (subst (λ k. Changed h.v h.v w.path k k) top h.there) in
      h.taken taken is ∙ ap (λ v. Some (plain.collapse v)) (sym same)

  pub begins : (n : ℕ) → value_at ns 0 ≡ Some n → RefersToNode d ns [] n
  begins n e =
      let at = (root_holds d ns tree shown).some n e in
      let h = nodes_have_values {A = Unit {0}} d ns [] n tree shown at in
      referred [] [] n at h.x h.x h.is whole

  pub begins_nowhere : value_at ns 0 ≡ None → (tokens : List (List ℕ)) → RefersToNothing d tokens
  begins_nowhere e tokens =
      let no_value : d.value ≡ None = (root_holds d ns tree shown).none.0 e in
      record {
        nothing = λ v r. (let wrong : None ≡ Some r.0 = sym no_value ∙ r.1 in cc);
        unique = λ name f. (let wrong : None ≡ Some f.0 = sym no_value ∙ f.1 in cc);
      }

  -- from here on of a node that tokens refer to
  module _ (tokens : List (List ℕ)) (n : ℕ) (w : RefersToNode d ns tokens n) (token : List ℕ) where
    leads_nowhere : Stops w.v token → (rest : List (List ℕ)) → RefersToNothing d (tokens ++ token ∷ rest)
    leads_nowhere stops rest = record {
      nothing = λ u r. (let top : r.0 ≡ w.value = some_same r.0 w.value (sym r.1 ∙ w.is) in
          let b = behind (token ∷ rest) w.refers (subst (λ x. Refers x (tokens ++ token ∷ rest) r.2 u) top r.3) in
          (stops rest).0 u b.0 b.1);
      unique = λ name f. (let top : f.0 ≡ w.value = some_same f.0 w.value (sym f.1 ∙ w.is) in
          (stops rest).1 name (fails_behind (token ∷ rest) w.refers (subst (λ x. MeetsRepeated name x (tokens ++ token ∷ rest)) top f.2)));
    }

    fails_there : (ms : Members) → w.v ≡ plain.object ms → (rest : List (List ℕ)) → MeetsRepeated token (plain.object ms) (token ∷ rest) → FailsAt d.value (tokens ++ token ∷ rest) token
    fails_there ms e rest m = (w.value, w.is, fails_further (token ∷ rest) w.refers (subst (λ x. MeetsRepeated token x (token ∷ rest)) (sym e) m))

    -- a node that is neither object nor array
    pub stops_here : (content_at ns n ≡ content.object → ⊥) → (content_at ns n ≡ content.array → ⊥) → (rest : List (List ℕ)) → RefersToNothing d (tokens ++ token ∷ rest)
    stops_here no_object no_array = leads_nowhere (other_stops
        (λ ms e. no_object (object_content d.options (content_at ns n) (row_below ns n) ms (subst (HasValue d.options (top_at ns n)) e w.has)))
        (λ vs e. no_array (array_content d.options (content_at ns n) (row_below ns n) vs (subst (HasValue d.options (top_at ns n)) e w.has))))

    pub there : n < length ns
    there = over_there ns tree n (over_at ns tree w.path n w.at)

    -- an array
    module _ (is : content_at ns n ≡ content.array) where
      pub element_found : (i q : ℕ) → IsIndex token i → IsElementOf ns n i q → RefersToNode d ns (tokens ++ token ∷ []) q
      element_found i q index element =
          let at : IsAt ns (w.path ++ i ∷ []) q = (w.at.0, w.at.1, leads_more ns n i q w.at.2 (StepsTo.in_array is element)) in
          let h = nodes_have_values {A = Unit {0}} d ns (w.path ++ i ∷ []) q tree shown at in
          let top : h.x ≡ w.value = some_same h.x w.value (sym h.is ∙ w.is) in
          let its = array_value d.options (content_at ns n) (row_below ns n) w.v is w.has in
          let item : IsItem h.v i its.0 = inside w.path (subst (λ k. Changed h.v h.v (w.path ++ i ∷ []) k k) top h.there) (refers_changed w.refers) its.1 in
          referred (tokens ++ token ∷ []) (w.path ++ i ∷ []) q at w.value h.v w.is (element_further w.refers its.1 index item)

      pub element_missing : ((i q : ℕ) → IsIndex token i → IsElementOf ns n i q → ⊥) → (rest : List (List ℕ)) → RefersToNothing d (tokens ++ token ∷ rest)
      element_missing none =
          let its = array_value d.options (content_at ns n) (row_below ns n) w.v is w.has in
          let count : item_count its.0 ≡ length (elements_at ns n) = counted d.options its.2 ∙ counted_elements (Shows-row_below ns tree n there) in
          leads_nowhere (array_stops its.1 (λ i x index item. (let within = item_within item in
          let q = get_within (elements_at ns n) i (omega (arith, within, count)) in
          none i q.0 index q.1)))

    -- an object
    module _ (is : content_at ns n ≡ content.object) where
      pub its : (ms : Members) × (w.v ≡ plain.object ms) × MembersOf d.options (row_below ns n) ms
      its = object_value d.options (content_at ns n) (row_below ns n) w.v is w.has

      pub all_whole : All (IsWhole d.options ns) (children_at ns n)
      all_whole = λ k e h kind row p.
          let r = get_or (children_at ns n) k e in
          let element = at_filter (is_element_at ns) (children_at ns n) k e h (ap is_element kind) in
          let alone = property_row d.options ns tree shown.sound w.path n element.0 r w.at (record { of_object = is; element = element.1; is = kind }) in
          subst (PropertyAlone d.options) (Shows-unique ns (children_at ns r) (row_below ns r) row (Shows-row_below ns tree r ((parent_there ns tree r n (element_parent ns tree n element.0 r element.1)).0)) p) alone

      pub member_missing : IsLookedUp ns token (children_at ns n) Missing → (rest : List (List ℕ)) → RefersToNothing d (tokens ++ token ∷ rest)
      member_missing found =
          let lacks = looked_up d.options ns (children_at ns n) (row_below ns n) (row_below ns n) its.0 token Missing (Shows-row_below ns tree n there) its.2 refl all_whole found in
          leads_nowhere (object_stops its.1 lacks)

      pub member_repeated : IsLookedUp ns token (children_at ns n) Twice → (rest : List (List ℕ)) → FailsAt d.value (tokens ++ token ∷ rest) token
      member_repeated found rest =
          let again = looked_up d.options ns (children_at ns n) (row_below ns n) (row_below ns n) its.0 token Twice (Shows-row_below ns tree n there) its.2 refl all_whole found in
          fails_there its.0 its.1 rest (here again)

      pub member_found : (r : ℕ) → IsLookedUp ns token (children_at ns n) (Once r) → (q : ℕ) × (value_at ns r ≡ Some q) × RefersToNode d ns (tokens ++ token ∷ []) q
      member_found r found =
          let one = looked_up d.options ns (children_at ns n) (row_below ns n) (row_below ns n) its.0 token (Once r) (Shows-row_below ns tree n there) its.2 refl all_whole found in
          let inner : IsPropertyOf ns n one.0 r = record { of_object = is; element = one.2; is = one.3 } in
          let held = value_held d.options ns tree shown.sound (w.path ++ one.0 ∷ []) r (a_property w.path n one.0 w.at inner) in
          (held.value, held.holds, referred (tokens ++ token ∷ []) (w.path ++ one.0 ∷ []) held.value held.at w.value one.1 w.is (member_further w.refers its.1 one.4))
