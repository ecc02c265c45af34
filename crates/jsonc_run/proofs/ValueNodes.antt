-- From a path in a document's value to the node at it: the elements of a row have the values that the row has, in order.
use Rattle.std.proofs.Common.{◌≡◌, ℕ, suc, Bool, true, false, not, IsTrue, List, [], ◌∷◌, ◌++◌, filter, slice_get, Option, Some, refl, sym, ap, subst, ◌∙◌}
use Rattle.std.proofs.lemmas.List.{append-nil, append_assoc}
use Rattle.jsonc_text.specs.Options.{Options}
use Rattle.jsonc_text.specs.Plain.{Plain, Items, Members}
use Rattle.jsonc_tree.specs.Content.{Content, root}
use Rattle.jsonc_tree.specs.OrderedTree.{OrderedTree, none, more, Shows, shows_none, shows_more, ordered_tree}
use Rattle.jsonc_tree.specs.Tree.{Node, children_at, content_at, IsTree}
use Rattle.jsonc_tree.specs.Values as values
use Rattle.jsonc_tree.specs.Values.{is_passed_over, ValueOf, ItemsOf, MembersOf, PropertyOf, HoldsValue, HoldsAtMostOne, DocumentValueOf}
use Rattle.jsonc_layout.specs.nodes.Kinds.{is_element_at}
use Rattle.jsonc_layout.proofs.lemmas.nodes.PropertyValues.{held_in, value_is_held}
use Rattle.jsonc_sound.specs.Alone as alone
use Rattle.jsonc_sound.specs.Alone.{PropertyAlone}
use Rattle.jsonc_sound.specs.Changes as changes
use Rattle.jsonc_sound.specs.Changes.{ItemChanged, MemberChanged, Changed}
use Rattle.jsonc_sound.specs.SoundTrees.{SoundTree}
use Rattle.jsonc_sound.specs.TreeChanges.{IsElement}
use Rattle.jsonc_sound.proofs.FirstNodes.{value_of_element, name_leaf_element}
use Rattle.jsonc_edit.specs.Changes.{row_below}
use Rattle.jsonc_edit.specs.Paths as paths
use Rattle.jsonc_edit.specs.Paths.{IsAt, IsElementOf, StepsTo}
use Rattle.jsonc_edit.proofs.Elements.{taken, left}
use Rattle.jsonc_edit.proofs.ShapedProperties.{second_is_held}
use Rattle.jsonc_edit.proofs.ShapedPlaces.{at_further}
use Rattle.jsonc_edit.proofs.Uniqueness.{element_there}
use Rattle.jsonc_edit.proofs.ChangesUpward.{Shows-row_below, document_is}
use Rattle.jsonc_insert.specs.named.Places.{IsPropertyOf}
use Rattle.jsonc_insert.proofs.lemmas.named.PropertyValues.{property_row}
use Rattle.jsonc_run.specs.Named.{StandsAt}
use Rattle.jsonc_run.proofs.lemmas.promise.Plains.{what_stands}

module _ (ns : List Node) where
  -- the first of a row, what is below it, and those behind it
  record First (xs : List ℕ) (content : Content) (below after : OrderedTree) : Type 0 where
    node : ℕ
    rest : List ℕ
    is : xs ≡ node ∷ rest
    kind : content_at ns node ≡ content
    under : Shows ns (children_at ns node) below
    shown : Shows ns rest after

  first_of : (xs : List ℕ) (t : OrderedTree) → Shows ns xs t → (content : Content) (below after : OrderedTree) → t ≡ more content below after → First xs content below after
  first_of _ _ shows_none content below after e = cc
  first_of _ _ (shows_more {n = n} {rest = rest} {below = b} {after = a} p q) content below after e =
      let kind : content_at ns n ≡ content = cc in
      let under : b ≡ below = cc in
      let same : a ≡ after = cc in
      record {
        node = n;
        rest = rest;
        is = refl;
        kind = kind;
        under = subst (λ t. Shows ns (children_at ns n) t) under p;
        shown = subst (λ t. Shows ns rest t) same q;
      }

  -- the element of this number among these nodes is so, with the row below it
  pub record Found (P : Content → OrderedTree → Type 0) (xs : List ℕ) (i : ℕ) : Type 0 where
    pub node : ℕ
    pub row : OrderedTree
    pub at : slice_get (filter (is_element_at ns) xs) i ≡ Some node
    pub shown : Shows ns (children_at ns node) row
    pub is : P (content_at ns node) row

  module _ (P : Content → OrderedTree → Type 0) (xs : List ℕ) {content : Content} {below after : OrderedTree} (first : First xs content below after) where
    -- what is passed over counts for none
    past : IsTrue (is_passed_over content) → (i : ℕ) → Found P first.rest i → Found P xs i
    past over i f =
        let test : ℕ → Bool = is_element_at ns in
        let out : test first.node ≡ false = ap (λ c. not (is_passed_over c)) first.kind ∙ ap not over in
        record {
          node = f.node;
          row = f.row;
          at = ap (λ l. slice_get (filter test l) i) first.is ∙ ap (λ l. slice_get l i) (left test first.node first.rest out) ∙ f.at;
          shown = f.shown;
          is = f.is;
        }

    behind : IsElement content → (i : ℕ) → Found P first.rest i → Found P xs (suc i)
    behind element i f =
        let test : ℕ → Bool = is_element_at ns in
        let here : test first.node ≡ true = ap (λ c. not (is_passed_over c)) first.kind ∙ element in
        record {
          node = f.node;
          row = f.row;
          at = ap (λ l. slice_get (filter test l) (suc i)) first.is ∙ ap (λ l. slice_get l (suc i)) (taken test first.node first.rest here) ∙ f.at;
          shown = f.shown;
          is = f.is;
        }

    at_first : IsElement content → P content below → Found P xs 0
    at_first element p =
        let test : ℕ → Bool = is_element_at ns in
        let here : test first.node ≡ true = ap (λ c. not (is_passed_over c)) first.kind ∙ element in
        record {
          node = first.node;
          row = below;
          at = ap (λ l. slice_get (filter test l) 0) first.is ∙ ap (λ l. slice_get l 0) (taken test first.node first.rest here);
          shown = first.under;
          is = subst (λ c. P c below) (sym first.kind) p;
        }

  module _ (o : Options) where
    abbrev HasIt : Plain → Content → OrderedTree → Type 0
    HasIt v content below = ValueOf o content below v

    -- an item is the value of an element
    item_found : (xs : List ℕ) {row : OrderedTree} {vs ws : Items} {x y : Plain} {i : ℕ} → Shows ns xs row → ItemsOf o row vs → ItemChanged x y i vs ws → Found (HasIt x) xs i
    item_found xs shown values.no_more_items k = elim k [ ]
    item_found xs {x = x} {i = i} shown (values.pass_to_items {content = content} {below = below} {after = after} over h) k =
        let first = first_of xs (more content below after) shown content below after refl in
        past (HasIt x) xs first over i (item_found first.rest first.shown h k)
    item_found xs {x = x} shown (values.one_item {content = content} {below = below} {after = after} v h) changes.this_item =
        let first = first_of xs (more content below after) shown content below after refl in
        at_first (HasIt x) xs first (value_of_element v) v
    item_found xs {x = x} shown (values.one_item {content = content} {below = below} {after = after} v h) (changes.later_item {i = i} k) =
        let first = first_of xs (more content below after) shown content below after refl in
        behind (HasIt x) xs first (value_of_element v) i (item_found first.rest first.shown h k)

    -- a property has its row
    abbrev HoldsIt : Plain → Content → OrderedTree → Type 0
    HoldsIt v content below = (name : List ℕ) × (content ≡ Content.property) × PropertyOf o below name v

    member_found : (xs : List ℕ) {row : OrderedTree} {ms ls : Members} {x y : Plain} {i : ℕ} → Shows ns xs row → MembersOf o row ms → MemberChanged x y i ms ls → Found (HoldsIt x) xs i
    member_found xs shown values.no_more_members k = elim k [ ]
    member_found xs {x = x} {i = i} shown (values.pass_to_members {content = content} {below = below} {after = after} over h) k =
        let first = first_of xs (more content below after) shown content below after refl in
        past (HoldsIt x) xs first over i (member_found first.rest first.shown h k)
    member_found xs {x = x} shown (values.one_member {below = below} {after = after} {name = name} p h) changes.this_member =
        let first = first_of xs (more Content.property below after) shown Content.property below after refl in
        at_first (HoldsIt x) xs first refl (name, refl, p)
    member_found xs {x = x} shown (values.one_member {below = below} {after = after} p h) (changes.later_member {i = i} k) =
        let first = first_of xs (more Content.property below after) shown Content.property below after refl in
        behind (HoldsIt x) xs first refl i (member_found first.rest first.shown h k)

    -- what is held is the first element that is left
    held_found : (xs : List ℕ) {row : OrderedTree} {x : Plain} → Shows ns xs row → HoldsValue o row x → Found (HasIt x) xs 0
    held_found xs {x = x} shown (values.pass_to_value {content = content} {below = below} {after = after} over h) =
        let first = first_of xs (more content below after) shown content below after refl in
        past (HasIt x) xs first over 0 (held_found first.rest first.shown h)
    held_found xs {x = x} shown (values.value_of {content = content} {below = below} {after = after} v h) =
        let first = first_of xs (more content below after) shown content below after refl in
        at_first (HasIt x) xs first (value_of_element v) v

    -- and in a property the one beside its name
    second_found : (xs : List ℕ) {row : OrderedTree} {name : List ℕ} {x : Plain} → Shows ns xs row → PropertyOf o row name x → Found (HasIt x) xs 1
    second_found xs {x = x} shown (values.pass_to_name {content = content} {below = below} {after = after} over h) =
        let first = first_of xs (more content below after) shown content below after refl in
        past (HasIt x) xs first over 1 (second_found first.rest first.shown h)
    second_found xs {name = name} {x = x} shown (values.name_of {content = content} {after = after} n h) =
        let first = first_of xs (more content none after) shown content none after refl in
        behind (HasIt x) xs first (name_leaf_element o content name n) 0 (held_found first.rest first.shown h)

    -- what is beside a name behind a colon is the value
    held_second : (xs : List ℕ) {row : OrderedTree} → Shows ns xs row → PropertyAlone o row → held_in ns xs ≡ slice_get (filter (is_element_at ns) xs) 1
    held_second xs shown (alone.named {name = name} {after = after} {u = u} k g h v) = second_is_held ns o xs name after u [] shown k g

-- a node that has a value, by the row below it
pub record HasHere (o : Options) (ns : List Node) (path : List ℕ) (v : Plain) : Type 0 where
  pub node : ℕ
  pub row : OrderedTree
  pub at : IsAt ns path node
  pub shown : Shows ns (children_at ns node) row
  pub has : ValueOf o (content_at ns node) row v

-- what has an array as its value is one, over its items, and what has an object one, over its members
pub is_array : {o : Options} {content : Content} {below : OrderedTree} {vs : Items} → ValueOf o content below (Plain.array vs) → (content ≡ Content.array) × ItemsOf o below vs
is_array (values.array h) = (refl, h)

pub is_object : {o : Options} {content : Content} {below : OrderedTree} {ms : Members} → ValueOf o content below (Plain.object ms) → (content ≡ Content.object) × MembersOf o below ms
is_object (values.object h) = (refl, h)

module _ (o : Options) (ns : List Node) (tree : IsTree ns) (sound : SoundTree o (ordered_tree ns 0)) where
  -- the property of this number in an object at a path
  pub property_found : (front : List ℕ) {ms ls : Members} {x y : Plain} {i : ℕ} (h : HasHere o ns front (Plain.object ms)) → MemberChanged x y i ms ls → (r : ℕ) × IsPropertyOf ns h.node i r × HasHere o ns (front ++ i ∷ []) x
  property_found front {x = x} {i = i} h k =
      let object = is_object h.has in
      let found = member_found ns o (children_at ns h.node) h.shown object.1 k in
      let inside : IsPropertyOf ns h.node i found.node = record { of_object = object.0; element = found.at; is = found.is.1 } in
      let second = second_found ns o (children_at ns found.node) found.shown found.is.2 in
      let there = element_there ns tree h.node i found.node found.at in
      let alone_row = property_row o ns tree sound front h.node i found.node h.at inside in
      let holds = value_is_held ns found.node found.is.1 ∙ held_second ns o (children_at ns found.node) (Shows-row_below ns tree found.node there) alone_row ∙ second.at in (
        found.node,
        inside,
        record {
          node = second.node;
          row = second.row;
          at = at_further ns h.node i second.node front h.at (paths.in_object {r = found.node} object.0 found.at (found.is.1, second.at, holds));
          shown = second.shown;
          has = second.is;
        },
      )

  element_found : (front : List ℕ) {vs ws : Items} {x y : Plain} {i : ℕ} → HasHere o ns front (Plain.array vs) → ItemChanged x y i vs ws → HasHere o ns (front ++ i ∷ []) x
  element_found front {x = x} {i = i} h k =
      let array = is_array h.has in
      let found = item_found ns o (children_at ns h.node) h.shown array.1 k in
      record {
        node = found.node;
        row = found.row;
        at = at_further ns h.node i found.node front h.at (paths.in_array array.0 found.at);
        shown = found.shown;
        has = found.is;
      }

  -- so a step at a time
  found_from : {v w : Plain} (front path : List ℕ) {x y : Plain} → HasHere o ns front x → Changed v w path x y → HasHere o ns (front ++ path) v
  found_from {v = v} front _ h changes.itself = subst (λ p. HasHere o ns p v) (sym (append-nil front)) h
  found_from {v = v} front _ h (changes.in_array {i = i} {path = path} e k) =
      subst (λ p. HasHere o ns p v) (append_assoc front (i ∷ []) path) (found_from (front ++ i ∷ []) path (element_found front h e) k)
  found_from {v = v} front _ h (changes.in_object {i = i} {path = path} e k) =
      subst (λ p. HasHere o ns p v) (append_assoc front (i ∷ []) path) (found_from (front ++ i ∷ []) path (property_found front h e).2 k)

  -- from the document's value on
  root_found : (x : Plain) → DocumentValueOf o (ordered_tree ns 0) (Some x) → HasHere o ns [] x
  root_found x (below, is, holds) =
      let whole : more root (row_below ns 0) none ≡ more root below none = document_is ns tree (row_below ns 0) (Shows-row_below ns tree 0 tree.first) ∙ is in
      let same : row_below ns 0 ≡ below = cc in
      let found = held_found ns o (children_at ns 0) (subst (λ t. Shows ns (children_at ns 0) t) same (Shows-row_below ns tree 0 tree.first)) holds in
      record { node = found.node; row = found.row; at = (found.node, found.at, paths.itself); shown = found.shown; has = found.is }

  pub node_found : (w : Option Plain) → DocumentValueOf o (ordered_tree ns 0) w → (path : List ℕ) (v : Plain) → StandsAt v path w → HasHere o ns path v
  node_found w value path v there =
      let s = what_stands w there in
      found_from [] path (root_found s.0 (subst (DocumentValueOf o (ordered_tree ns 0)) s.1 value)) s.2
