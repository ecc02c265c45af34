-- The value of a document changes where the node of a value is replaced by another.
use Rattle.std.proofs.Common.{ℕ, ◌≡◌, sym, subst, refl, List, Some, arith}
use Rattle.jsonc_text.specs.Options.{Options}
use Rattle.jsonc_text.specs.Plain.{Plain, Items, item, Members, member}
use Rattle.jsonc_tree.specs.Content.{Content}
use Rattle.jsonc_tree.specs.OrderedTree.{OrderedTree, Top}
use Rattle.jsonc_tree.specs.Values as values
use Rattle.jsonc_tree.specs.Values.{ValueOf, ItemsOf, MembersOf, PropertyOf, HoldsValue, DocumentValueOf}
use Rattle.jsonc_sound.specs.Changes as changes
use Rattle.jsonc_sound.specs.Changes.{ItemChanged, MemberChanged, Changed}
use Rattle.jsonc_sound.specs.ChangeLaws.{HasChangedValue}
use Rattle.jsonc_sound.specs.Sound.{HasValue}
use Rattle.jsonc_sound.specs.TreeChanges.{property_of, ElementChanged, HeldChanged, ValueChanged, itself, in_array, in_object, DocumentChanged, in_root}
use Rattle.jsonc_sound.proofs.FirstNodes.{here, over, beyond, meets_first, none_changed, no_element, value_of_element, name_leaf_element}

module _ (o : Options) where
  value_as : {content : Content} {below : OrderedTree} {v : Plain} (x : Top) → content ≡ x.content → below ≡ x.below → ValueOf o content below v → HasValue o x v
  value_as {below = below} {v = v} x p b h = subst (λ t. ValueOf o x.content t v) b (subst (λ c. ValueOf o c below v) p h)

  -- the items of a row, by the value of the one that is replaced
  record ItemsChange (x y : Top) (i : ℕ) (vs : Items) (new : OrderedTree) : Type 0 where
    old : Plain
    had : HasValue o x old
    has : (v : Plain) → HasValue o y v → (ws : Items) × ItemChanged old v i vs ws × ItemsOf o new ws

  items_change : {x y : Top} {i : ℕ} {row new : OrderedTree} {vs : Items} → ItemsOf o row vs → ElementChanged x y i row new → ItemsChange x y i vs new
  items_change values.no_more_items e = absurd (none_changed e)
  items_change (values.pass_to_items {content = content} h g) e =
      elim (meets_first e) [
        | here a p b q f ↦ absurd (no_element content q h)
        | over q k f ↦
            let m = items_change g k in
            record { old = m.old; had = m.had; has = λ v w. let n = m.has v w in (n.0, n.1, subst (λ t. ItemsOf o t n.0) (sym f) (values.pass_to_items h n.2)) }
        | beyond a q k f ↦ absurd (no_element content q h)
      ]
  items_change {x} {y} (values.one_item {content = content} {v = u} {vs = vs} h g) e =
      elim (meets_first e) [
        | here a p b q f ↦
            record { old = u; had = value_as x p b h; has = λ v w. (item v vs, subst (λ j. ItemChanged u v j (item u vs) (item v vs)) (sym a) changes.this_item, subst (λ t. ItemsOf o t (item v vs)) (sym f) (values.one_item w g)) }
        | over q k f ↦ absurd (no_element content (value_of_element h) q)
        | beyond a q k f ↦
            let m = items_change g k in
            record {
              old = m.old;
              had = m.had;
              has = λ v w. let n = m.has v w in (item u n.0, subst (λ j. ItemChanged m.old v j (item u vs) (item u n.0)) (sym a) (changes.later_item n.1), subst (λ t. ItemsOf o t (item u n.0)) (sym f) (values.one_item h n.2));
            }
      ]

  -- one value in a row
  record ValueChange (x y : Top) (old : Plain) (R : Plain → Type 0) : Type 0 where
    had : HasValue o x old
    has : (v : Plain) → HasValue o y v → R v

  held_change : {x y : Top} {row new : OrderedTree} {u : Plain} → HoldsValue o row u → ElementChanged x y 0 row new → ValueChange x y u (HoldsValue o new)
  held_change (values.pass_to_value {content = content} h g) e =
      elim (meets_first e) [
        | here a p b q f ↦ absurd (no_element content q h)
        | over q k f ↦ (let m = held_change g k in record { had = m.had; has = λ v w. subst (λ t. HoldsValue o t v) (sym f) (values.pass_to_value h (m.has v w)) })
        | beyond a q k f ↦ absurd (no_element content q h)
      ]
  held_change {x} (values.value_of {content = content} h g) e =
      elim (meets_first e) [
        | here a p b q f ↦ record { had = value_as x p b h; has = λ v w. subst (λ t. HoldsValue o t v) (sym f) (values.value_of w g) }
        | over q k f ↦ absurd (no_element content (value_of_element h) q)
        | beyond a q k f ↦ absurd (omega (arith, a))
      ]

  property_change : {x y : Top} {held given : OrderedTree} {name : List ℕ} {u : Plain} → PropertyOf o held name u → HeldChanged x y held given → ValueChange x y u (PropertyOf o given name)
  property_change {name = name} (values.pass_to_name {content = content} h g) e =
      elim (meets_first e) [
        | here a p b q f ↦ absurd (no_element content q h)
        | over q k f ↦ (let m = property_change g k in record { had = m.had; has = λ v w. subst (λ t. PropertyOf o t name v) (sym f) (values.pass_to_name h (m.has v w)) })
        | beyond a q k f ↦ absurd (no_element content q h)
      ]
  property_change {x} {y} {name = name} (values.name_of {content = content} {after = after} h g) e =
      elim (meets_first e) [
        | here a p b q f ↦ absurd (omega (arith, a))
        | over q k f ↦ absurd (no_element content (name_leaf_element o content name h) q)
        | beyond {j = j} {rest = rest} a q k f ↦
            let first : j ≡ 0 = omega (arith, a) in
            let m = held_change g (subst (λ i. ElementChanged x y i after rest) first k) in
            record { had = m.had; has = λ v w. subst (λ t. PropertyOf o t name v) (sym f) (values.name_of h (m.has v w)) }
      ]

  -- the members of a row, by the value of the property that is replaced
  record MembersChange (x y : Top) (i : ℕ) (ms : Members) (new : OrderedTree) : Type 0 where
    old : Plain
    had : HasValue o x old
    has : (v : Plain) → HasValue o y v → (ns : Members) × MemberChanged old v i ms ns × MembersOf o new ns

  members_change : {x y : Top} {held given : OrderedTree} {i : ℕ} {row new : OrderedTree} {ms : Members} → HeldChanged x y held given → MembersOf o row ms → ElementChanged (property_of held) (property_of given) i row new → MembersChange x y i ms new
  members_change g values.no_more_members e = absurd (none_changed e)
  members_change g (values.pass_to_members {content = content} h k) e =
      elim (meets_first e) [
        | here a p b q f ↦ absurd (no_element content q h)
        | over q l f ↦
            let m = members_change g k l in
            record { old = m.old; had = m.had; has = λ v w. let n = m.has v w in (n.0, n.1, subst (λ t. MembersOf o t n.0) (sym f) (values.pass_to_members h n.2)) }
        | beyond a q l f ↦ absurd (no_element content q h)
      ]
  members_change g (values.one_member {name = name} {v = u} {ms = ms} h k) e =
      elim (meets_first e) [
        | here a p b q f ↦
            let m = property_change (subst (λ t. PropertyOf o t name u) b h) g in
            record {
              old = u;
              had = m.had;
              has = λ v w. (member name v ms, subst (λ j. MemberChanged u v j (member name u ms) (member name v ms)) (sym a) changes.this_member, subst (λ t. MembersOf o t (member name v ms)) (sym f) (values.one_member (m.has v w) k));
            }
        | over q l f ↦ absurd (no_element Content.property refl q)
        | beyond a q l f ↦
            let m = members_change g k l in
            record {
              old = m.old;
              had = m.had;
              has = λ v w. let n = m.has v w in (member name u n.0, subst (λ j. MemberChanged m.old v j (member name u ms) (member name u n.0)) (sym a) (changes.later_member n.1), subst (λ t. MembersOf o t (member name u n.0)) (sym f) (values.one_member h n.2));
            }
      ]

  -- what a node's value becomes
  abbrev ChangedTo : Top → Top → Plain → List ℕ → Plain → Type 0
  ChangedTo was y v path a = (old b : Plain) × HasValue o was old × Changed old v path a b × HasValue o y b

  value_change : {was now : Top} {path : List ℕ} {x y : Top} {a : Plain} (v : Plain) → HasValue o now v → ValueChanged was now path x y → HasValue o x a → ChangedTo was y v path a
  value_change {a = a} v n itself h = (a, v, h, changes.itself, n)
  value_change v n (in_array e k) (values.array g) =
      let m = items_change g e in
      let l = value_change v n k m.had in
      let w = m.has l.1 l.4 in
      (l.0, Plain.array w.0, l.2, changes.in_array w.1 l.3, values.array w.2)
  value_change v n (in_object e d k) (values.object g) =
      let m = members_change d g e in
      let l = value_change v n k m.had in
      let w = m.has l.1 l.4 in
      (l.0, Plain.object w.0, l.2, changes.in_object w.1 l.3, values.object w.2)

  pub document_change : {was now : Top} {path : List ℕ} {t u : OrderedTree} (x v : Plain) → DocumentChanged was now path t u → HasValue o now v → DocumentValueOf o t (Some x) → HasChangedValue o was path u x v
  document_change x v (in_root {row = row} {new = new} e k) n (below, same, h) =
      let first : below ≡ row = cc in
      let m = held_change (subst (λ t. HoldsValue o t x) first h) e in
      let l = value_change v n k m.had in
      (l.0, l.1, l.2, l.3, (new, refl, m.has l.1 l.4))
