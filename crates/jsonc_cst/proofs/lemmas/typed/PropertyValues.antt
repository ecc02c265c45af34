-- The value of a property that was set or found, and a truth value that was set: every node that was there is there still.
use Rattle.std.proofs.Common.{◌≡◌, ℕ, ◌<◌, Bool, true, false, List, length, Option, Some, None, Result, Ok, Err, OnErr, OnOk, IfNone, IfSome, refl, ap, subst, sym, ◌∙◌, arith}
use Rattle.jsonc_text.specs.Plain.{Plain}
use Rattle.jsonc_tree.specs.Building.{Keeps}
use Rattle.jsonc_tree.specs.Changes.{Appends}
use Rattle.jsonc_tree.specs.Content as content
use Rattle.jsonc_tree.specs.OrderedTree.{Top}
use Rattle.jsonc_tree.specs.Tree.{Node, content_at, parent_at, IsTree}
use Rattle.jsonc_tree.proofs.Order.{parent_there}
use Rattle.jsonc_layout.specs.nodes.Properties.{value_at}
use Rattle.jsonc_layout.specs.from_input.Laid.{laid}
use Rattle.jsonc_layout.specs.from_input.Layout.{Layout}
use Rattle.jsonc_edit.specs.Reading.{layout_for, IsReplaced}
use Rattle.jsonc_edit.specs.Replacing.{ReplacedBy}
use Rattle.jsonc_edit.proofs.ReplacedChildren.{put_parent}
use Rattle.jsonc_edit.proofs.TakingOut.{parents_spaced}
use Rattle.jsonc_edit.specs.set.Booleans.{is_boolean, BooleanSet}
use Rattle.jsonc_edit.specs.set.Kinds.{KeptOrReplaced}
use Rattle.jsonc_edit.specs.set.PropertyValues.{HeldOrSet, LastValue}
use Rattle.jsonc_edit.proofs.lemmas.set.BooleanSetting.{boolean_of}
use Rattle.jsonc_edit.proofs.lemmas.set.PropertyValue.{held_child}
use Rattle.jsonc_cst.specs.declared.cst.node.CstArray.{CstArray}
use Rattle.jsonc_cst.specs.declared.cst.node.CstBooleanLit.{CstBooleanLit}
use Rattle.jsonc_cst.specs.declared.cst.node.CstNode.{CstNode}
use Rattle.jsonc_cst.specs.declared.cst.node.CstObject.{CstObject}
use Rattle.jsonc_cst.specs.declared.cst.node.CstObjectProp.{CstObjectProp}
use Rattle.jsonc_cst.specs.Nodes.{array_node, boolean_lit_node, object_node, object_prop_node, typed, IsNodeOf}
use Rattle.jsonc_cst.specs.typed.Edits.{NodesStillThere}
use Rattle.jsonc_cst.specs.typed.Values.{HeldBecomes}
use Rattle.jsonc_cst.proofs.lemmas.typed.HandlesKept.{Stays, nodes_stay, replaced_there, stay_both, stay_kept, stay_replaced, stay_spaced}
use Rattle.jsonc_cst.proofs.lemmas.typed.Leaves.{leaf_stays}
use Rattle.jsonc_cst.proofs.lemmas.typed.Roots.{kept_is, kept_stays}

-- what is typed so is so
array_of : (c : content.Content) (n : ℕ) (x : CstArray) → typed c n ≡ array_node x → c ≡ content.array
array_of content.array n x e = refl
array_of _ n x e = cc

object_of : (c : content.Content) (n : ℕ) (x : CstObject) → typed c n ≡ object_node x → c ≡ content.object
object_of content.object n x e = refl
object_of _ n x e = cc

property_of : (c : content.Content) (n : ℕ) (x : CstObjectProp) → typed c n ≡ object_prop_node x → c ≡ content.property
property_of content.property n x e = refl
property_of _ n x e = cc

boolean_kind : (c : content.Content) (n : ℕ) (x : CstBooleanLit) → typed c n ≡ boolean_lit_node x → is_boolean c ≡ true
boolean_kind (content.boolean b) n x e = refl
boolean_kind _ n x e = cc

-- a typed node that is there is what it says
module _ (ns : List Node) where
  pub held_array : (x : CstArray) → IsNodeOf ns (array_node x) → content_at ns x.number ≡ content.array
  held_array x held = array_of (content_at ns x.number) x.number x held.1

  pub held_object : (x : CstObject) → IsNodeOf ns (object_node x) → content_at ns x.number ≡ content.object
  held_object x held = object_of (content_at ns x.number) x.number x held.1

  pub held_property : (x : CstObjectProp) → IsNodeOf ns (object_prop_node x) → content_at ns x.number ≡ content.property
  held_property x held = property_of (content_at ns x.number) x.number x held.1

  pub held_boolean : (x : CstBooleanLit) → IsNodeOf ns (boolean_lit_node x) → is_boolean (content_at ns x.number) ≡ true
  held_boolean x held = boolean_kind (content_at ns x.number) x.number x held.1

-- where a node was inserted as the last child of a container
stay_appended : (old new : List Node) (c m : ℕ) → Appends old new c m → Stays old new
stay_appended old new c m a = record { len = omega (arith, a.len); content = λ n h. a.content n }

-- where a value was inserted after all that a property holds
module _ (old new : List Node) (p : ℕ) (v : Plain) (m : ℕ) (l : LastValue old new p v m) where
  spaces_stay : Stays l.held new
  spaces_stay = stay_spaced _ l.held new l.spaces

  stay_last : Stays old new
  stay_last = stay_both old l.ready new (stay_kept old l.ready l.prepared.keeps) (stay_both l.ready l.held new (stay_appended l.ready l.held p m l.put) spaces_stay)

  last_there : m < length new
  last_there = omega (arith, l.can.node, l.put.len, spaces_stay.len)

  last_content : content_at new m ≡ (laid (layout_for old p p) v).content
  last_content = spaces_stay.content m (omega (arith, l.can.node, l.put.len)) ∙ l.put.content m ∙ ap (λ (t : Top). t.content) l.is

-- a node that has taken the place of another is its container's child
given_child : (old new : List Node) (n m : ℕ) (now : Top) (c : ℕ) → IsTree old → parent_at old n ≡ Some c → ReplacedBy old new n m now → parent_at new m ≡ Some c
given_child old new n m now c tree said g =
    let ready : parent_at g.ready n ≡ Some c = g.prepared.keeps.parent n (parent_there old tree n c said).0 ∙ said in
    let spaced : parent_at g.spaced n ≡ Some c = parents_spaced _ g.ready g.spaced g.prepared.tree g.spaces n c ready in
    let r = g.place.replaces in
    put_parent g.spaced r.tree n r.container r.parent new m r.spliced ∙ sym r.parent ∙ spaced

-- and so the property's value is its child
module _ (old new : List Node) (p : ℕ) (v : Plain) (tree : IsTree old) (is : content_at old p ≡ content.property) where
  last_child : (m : ℕ) → LastValue old new p v m → parent_at new m ≡ Some p
  last_child m l = parents_spaced _ l.held new l.tree l.spaces m p l.put.parent

  replaced_child : (n m : ℕ) → value_at old p ≡ Some n → IsReplaced old new n v m → parent_at new m ≡ Some p
  replaced_child n m e r = given_child old new n m _ p tree (held_child old tree p n is e) r.2

  pub held_is_child : (o : Option ℕ) (m : ℕ) → value_at old p ≡ o → HeldBecomes old new p v o m → parent_at new m ≡ Some p
  held_is_child None m e l = last_child m l
  held_is_child (Some n) m e r = replaced_child n m e r

  kept_child : (n m : ℕ) (b : Bool) → value_at old p ≡ Some n → KeptOrReplaced b v old new n m → parent_at new m ≡ Some p
  kept_child n m true e (here, same) = ap (parent_at new) here ∙ ap (λ ns. parent_at ns n) same ∙ held_child old tree p n is e
  kept_child n m false e r = replaced_child n m e r

  pub found_is_child : (kind : content.Content → Bool) (o : Option ℕ) (m : ℕ) → value_at old p ≡ o → HeldOrSet kind v old new p o m → parent_at new m ≡ Some p
  found_is_child kind None m e l = last_child m l
  found_is_child kind (Some n) m e r = kept_child n m (kind (content_at old n)) e r

-- where the value of a property was set
pub held_there : (old new : List Node) (p : ℕ) (v : Plain) (o : Option ℕ) (m : ℕ) → HeldBecomes old new p v o m → m < length new
held_there old new p v None m l = last_there old new p v m l
held_there old new p v (Some n) m r = replaced_there old new n v m r

pub stay_held : (old new : List Node) (p : ℕ) (v : Plain) (o : Option ℕ) (m : ℕ) → HeldBecomes old new p v o m → Stays old new
stay_held old new p v None m l = stay_last old new p v m l
stay_held old new p v (Some n) m r = stay_replaced old new n v m r

-- by what the edit of numbers says
pub held_becomes : (old new : List Node) (p : ℕ) (v : Plain) (o : Option ℕ) (m : ℕ) → IfSome o (λ n. IsReplaced old new n v m) → IfNone o (LastValue old new p v m)
    → HeldBecomes old new p v o m
held_becomes old new p v None m r l = l
held_becomes old new p v (Some n) m r l = r

-- an array or object that was found, or has been set
module _ (kind : content.Content → Bool) (v : Plain) (old new : List Node) (p : ℕ) where
  pub stay_found : (o : Option ℕ) (m : ℕ) → HeldOrSet kind v old new p o m → Stays old new
  stay_found None m l = stay_last old new p v m l
  stay_found (Some n) m r = kept_stays kind v old new n m (kind (content_at old n)) r

  -- a value of another kind has been replaced
  pub other_replaced : (found : Option ℕ) (m : ℕ) → HeldOrSet kind v old new p found m → (n : ℕ) → found ≡ Some n → kind (content_at old n) ≡ false → IsReplaced old new n v m
  other_replaced found m r n e other = subst (λ b. KeptOrReplaced b v old new n m) other (subst (λ w. HeldOrSet kind v old new p w m) e r)

-- it is of its kind
module _ (kind : content.Content → Bool) (v : Plain) (what : content.Content) (made : (l : Layout) → (laid l v).content ≡ what)
    (is : (c : content.Content) → kind c ≡ true → c ≡ what) (old new : List Node) (p : ℕ) where
  pub found_is : (o : Option ℕ) (m : ℕ) → HeldOrSet kind v old new p o m → content_at new m ≡ what
  found_is None m l = last_content old new p v m l ∙ made (layout_for old p p)
  found_is (Some n) m r = kept_is kind v what made is old new n m (kind (content_at old n)) refl r

-- where a truth value was set
module _ (old new : List Node) (n : ℕ) (b : Bool) (there : n < length old) (is : is_boolean (content_at old n) ≡ true) where
  boolean_stays : BooleanSet old new n b → NodesStillThere old new
  boolean_stays s = λ other held.
      let spaced : Stays old s.spaced = stay_both old s.ready s.spaced (stay_kept old s.ready s.prepared.keeps) (stay_spaced _ s.ready s.spaced s.spaces) in
      let node : CstNode = boolean_lit_node (record { number = n }) in
      let was : IsNodeOf old node = (there, ap (λ w. typed w n) (boolean_of (content_at old n) is).1) in
      leaf_stays s.spaced new node (content.boolean b) (nodes_stay old s.spaced spaced node was) refl s.becomes other (nodes_stay old s.spaced spaced other held)

  -- or was not, for allocation failure
  pub boolean_or_kept : {T E : Type 0} (r : Result T E) → OnOk r (BooleanSet old new n b) → OnErr r (Keeps (length old) old new) → NodesStillThere old new
  boolean_or_kept (Ok x) set kept = boolean_stays set
  boolean_or_kept (Err e) set kept = nodes_stay old new (stay_kept old new kept)
