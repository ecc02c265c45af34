-- Where a value stands: in the root, in an array or in a property; and the rows around a value that has changed.
use Rattle.std.proofs.Common.{◌≡◌, ℕ, List, [], ◌∷◌, ◌++◌, subst}
use Rattle.jsonc_tree.specs.Content.{Content, array, object}
use Rattle.jsonc_tree.specs.OrderedTree.{OrderedTree, none, more, Replaced, here, deeper, later, Top}
use Rattle.jsonc_tree.specs.Tree.{Node, content_at}
use Rattle.jsonc_sound.specs.TreeChanges.{ElementChanged, this_element, passed, later_element, ValueChanged, DocumentChanged, in_root}
use Rattle.jsonc_edit.specs.Paths.{IsElementOf, IsHeldBy, StepsTo, in_array, in_object, LeadsTo, itself, step, IsAt}
use Rattle.jsonc_edit.proofs.ShapedPlaces.{at_further}

pub data HeldAt (ns : List Node) (n : ℕ) : Type 0 where
  by_root : IsElementOf ns 0 0 n → HeldAt ns n
  by_array : (p i : ℕ) (path : List ℕ) → IsAt ns path p → content_at ns p ≡ array → IsElementOf ns p i n → HeldAt ns n
  by_property : (p r i : ℕ) (path : List ℕ) → IsAt ns path p → content_at ns p ≡ object → IsElementOf ns p i r → IsHeldBy ns r n → HeldAt ns n

held_by_step : (ns : List Node) (p i n : ℕ) (path : List ℕ) → IsAt ns path p → StepsTo ns p i n → HeldAt ns n
held_by_step ns p i n path at (in_array a e) = by_array p i path at a e
held_by_step ns p i n path at (in_object {r = r} o e h) = by_property p r i path at o e h

leads_held : (ns : List Node) (n v : ℕ) (before path : List ℕ) → IsAt ns before v → HeldAt ns v → LeadsTo ns n v path → HeldAt ns n
leads_held ns n _ before _ at h itself = h
leads_held ns n v before _ at h (step {i = i} {q = q} {path = path} s rest) =
    leads_held ns n q (before ++ i ∷ []) path (at_further ns v i q before at s) (held_by_step ns v i q before at s) rest

pub held_at : (ns : List Node) (path : List ℕ) (n : ℕ) → IsAt ns path n → HeldAt ns n
held_at ns path n (v, e, leads) = leads_held ns n v [] path (v, e, itself) (by_root e) leads

-- where a node that stays what it is changes at a path, the row below it is replaced
pub no_row : {was now : OrderedTree} → Replaced was now none none → ⊥
no_row r = elim r [ ]

more_after : {was now : OrderedTree} {c d : Content} {x y : OrderedTree} (after : OrderedTree) → Replaced was now (more c x none) (more d y none) → Replaced was now (more c x after) (more d y after)
more_after after here = here
more_after after (deeper r) = deeper r
more_after after (later r) = absurd (no_row r)

element_replaced : {was now : OrderedTree} {x y : Top} {i : ℕ} {row new : OrderedTree} → ElementChanged x y i row new → Replaced was now (more x.content x.below none) (more y.content y.below none) → Replaced was now row new
element_replaced (this_element {after = after} a b) r = more_after after r
element_replaced (passed h e) r = later (element_replaced e r)
element_replaced (later_element h e) r = later (element_replaced e r)

value_replaced : {was now : Top} {path : List ℕ} {x y : Top} → was.content ≡ now.content → ValueChanged was now path x y → Replaced was.below now.below (more x.content x.below none) (more y.content y.below none)
value_replaced {was} {now} same ValueChanged.itself = subst (λ (c : Content). Replaced was.below now.below (more was.content was.below none) (more c now.below none)) same here
value_replaced same (ValueChanged.in_array e k) = deeper (element_replaced e (value_replaced same k))
value_replaced same (ValueChanged.in_object e h k) = deeper (element_replaced e (deeper (element_replaced h (value_replaced same k))))

pub document_replaced : {was now : Top} {path : List ℕ} {t u : OrderedTree} → was.content ≡ now.content → DocumentChanged was now path t u → Replaced was.below now.below t u
document_replaced same (in_root e k) = deeper (element_replaced e (value_replaced same k))
