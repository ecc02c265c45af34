-- A property is replaced by one that was built apart: what is known at each step.
use Rattle.std.proofs.Common.{◌≡◌, ℕ, ◌+◌, ◌<◌, ◌++◌, cond, Bool, true, false, List, [], ◌∷◌, length, Option, Some, None, refl, sym, ap, subst, ◌∙◌, arith}
use Rattle.std.specs.List.{All}
use Rattle.std.proofs.lemmas.List.Elements.{All-nil, All-tail, All-weaker}
use Rattle.jsonc_text.specs.Plain.{Plain}
use Rattle.jsonc_tree.specs.Building.{Builds, Keeps}
use Rattle.jsonc_tree.specs.Changes.{CanJoin, Splices}
use Rattle.jsonc_tree.specs.Content.{Content, property}
use Rattle.jsonc_tree.specs.OrderedTree.{Top}
use Rattle.jsonc_tree.specs.Tree.{Node, content_at, parent_at, place_at, IsTree, IsOver}
use Rattle.jsonc_tree.proofs.Order.{parent_there}
use Rattle.jsonc_sound.specs.TreeChanges.{IsElement}
use Rattle.jsonc_layout.specs.from_input.Layout.{Layout}
use Rattle.jsonc_layout.specs.from_input.Laid.{laid, laid_property, property_of}
use Rattle.jsonc_edit.specs.Due.{space_needed_after, space_needed_before, listed}
use Rattle.jsonc_edit.specs.Put.{AreAtHand, AreChildren, AreSpaced, Extends, nodes_of}
use Rattle.jsonc_edit.specs.declared.put.Spaces.{Spaces}
use Rattle.jsonc_edit.specs.Changes.{top_at}
use Rattle.jsonc_edit.specs.Replacing.{TakesPlace}
use Rattle.jsonc_edit.specs.Reading.{layout_for}
use Rattle.jsonc_edit.proofs.SpacesNeededKept.{due_behind_same}
use Rattle.jsonc_edit.proofs.ReplacedChildren.{may_join, takes_place}
use Rattle.jsonc_edit.proofs.NodesKept.{built_top, over_no_old, top_stays}
use Rattle.jsonc_edit.proofs.SpacedNodes.{IsChild, around_children}
use Rattle.jsonc_edit.proofs.Spacing.{Aside, AnySpaced, any_spaced}
use Rattle.jsonc_edit.specs.set.Giving.{due_after, is_bare_value, property_top, PropertyReplacedBy, IsPropertyReplaced}
use Rattle.jsonc_layout.proofs.lemmas.Building.{still_kept}

pub last_all : (P : ℕ → Type 0) (o : Option ℕ) (ys : List ℕ) → All P (listed o ++ ys) → All P ys
last_all P None ys f = f
last_all P (Some x) ys f = All-tail P x ys f

-- what is due is somebody's child
due_children : (ns : List Node) → IsTree ns → (n c : ℕ) → parent_at ns n ≡ Some c → (v : Plain) → All (IsChild ns) (listed (due_after ns n v))
due_children ns tree n c said v = by (is_bare_value v)
  where
    by : (b : Bool) → All (IsChild ns) (listed (cond b (space_needed_after ns n) None))
    by true = last_all (IsChild ns) (space_needed_before ns n) (listed (space_needed_after ns n)) (around_children ns tree n c said Content.null)
    by false = All-nil (IsChild ns)

-- Of the nodes `old`, n is a child of c; m was built apart among the nodes `made` as the property, and a space was made where one is due.
module _ (old made ready : List Node) (tree : IsTree old) (n c m : ℕ) (layout : Layout) (name : List ℕ) (v : Plain) (said : parent_at old n ≡ Some c) (built : Builds old made m property (laid_property layout name v).below) (prepared : Extends made ready) where
  low : (n < length old) × (c < length old)
  low = parent_there old tree n c said

  kept : Keeps (length old) old ready
  kept = still_kept old made ready built.keeps prepared.keeps

  child_ready : parent_at ready n ≡ Some c
  child_ready = kept.parent n low.0 ∙ said

  m_element : IsElement (content_at ready m)
  m_element = subst IsElement (sym (prepared.keeps.content m built.in_tree ∙ built.is)) refl

  m_alone : parent_at ready m ≡ None
  m_alone = prepared.keeps.parent m built.in_tree ∙ built.alone

  m_ready : m < length ready
  m_ready = omega (arith, built.in_tree, prepared.keeps.len)

  m_top : top_at ready m ≡ property_top layout name v
  m_top = top_stays made ready built.tree prepared.keeps prepared.tree m built.in_tree ∙ built_top built

  due_same : due_after ready n v ≡ due_after old n v
  due_same = ap (λ o. cond (is_bare_value v) o None) (due_behind_same old ready tree kept n low.0)

  child_aside : (x : ℕ) → IsChild old x → Aside ready m x
  child_aside x (p, told) =
      let there = parent_there old tree x p told in
      (p, kept.parent x there.0 ∙ told, over_no_old old ready tree kept m p built.later there.1)

  child_still : (x : ℕ) → IsChild old x → IsChild ready x
  child_still x (p, told) = (p, kept.parent x (parent_there old tree x p told).0 ∙ told)

  pub after : (spaced : List Node) → AreSpaced ready (listed (due_after old n v)) spaced → AnySpaced ready spaced m
  after spaced put = any_spaced m (listed (due_after old n v)) ready spaced prepared.tree (All-weaker (IsChild old) (Aside ready m) child_aside (listed (due_after old n v)) (due_children old tree n c said v)) put

  module _ (behind : Option ℕ) (e : behind ≡ due_after old n v) (spaces : Spaces) (hand : AreAtHand ready (listed behind) spaces) where
    due_nodes : nodes_of spaces ≡ listed (due_after old n v)
    due_nodes = hand.are ∙ ap listed e

    pub given_children : AreChildren ready (nodes_of spaces)
    given_children = subst (AreChildren ready) (sym due_nodes) (All-weaker (IsChild old) (IsChild ready) child_still (listed (due_after old n v)) (due_children old tree n c said v))

    module _ (spaced : List Node) (put : AreSpaced ready (nodes_of spaces) spaced) where
      due_put : AreSpaced ready (listed (due_after old n v)) spaced
      due_put = subst (λ xs. AreSpaced ready xs spaced) due_nodes put

      known : AnySpaced ready spaced m
      known = after spaced due_put

      pub given_child : parent_at spaced n ≡ Some c
      given_child = known.parent n c child_ready

      there : m < length spaced
      there = omega (arith, m_ready, known.len)

      later : 0 < m
      later = omega (arith, built.later, low.0)

      alone : parent_at spaced m ≡ None
      alone = known.alone m_element m_alone

      apart : IsOver spaced m c → ⊥
      apart over = over_no_old old ready tree kept m c built.later low.1 (known.over m n c child_ready over)

      element : IsElement (content_at spaced m)
      element = subst IsElement (sym (known.content m)) m_element

      pub given_join : CanJoin spaced c (place_at spaced n) (place_at spaced n + 1) (m ∷ [])
      given_join = may_join spaced spaced known.tree n c m given_child there later alone apart

      pub gives_way : (new : List Node) → IsTree new → Splices spaced new c (place_at spaced n) (place_at spaced n + 1) (m ∷ []) → PropertyReplacedBy old new n m layout name v
      gives_way new last s = record {
        ready = ready;
        spaced = spaced;
        fresh = built.later;
        prepared = record { keeps = kept; tree = prepared.tree };
        spaces = subst (λ o. AreSpaced ready (listed o) spaced) (sym due_same) due_put;
        place = subst (TakesPlace spaced new n m) (known.top m_ready ∙ m_top) (takes_place spaced new known.tree n c m given_child there later alone apart last element s);
      }

      alike : (new : List Node) (k : Layout) → laid layout v ≡ laid k v → PropertyReplacedBy old new n m layout name v → PropertyReplacedBy old new n m k name v
      alike new k told g = record {
        ready = g.ready;
        spaced = g.spaced;
        fresh = g.fresh;
        prepared = g.prepared;
        spaces = g.spaces;
        place = subst (λ (t : Top). TakesPlace g.spaced new n m (record { content = property; below = (property_of name t).below })) told g.place;
      }

      pub is_replaced : laid layout v ≡ laid (layout_for old c n) v → (new : List Node) → IsTree new → Splices spaced new c (place_at spaced n) (place_at spaced n + 1) (m ∷ []) → IsPropertyReplaced old new n name v m
      is_replaced told new last s = (c, said, alike new (layout_for old c n) told (gives_way new last s))
