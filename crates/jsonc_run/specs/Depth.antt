-- How deep values are nested in one another: what is around the value at a path, and around what an edit writes. An array counts one, and so do an object and a
-- property.
use Rattle.std.specs.Prelude.{ℕ, zero, suc, ◌+◌, ◌≤◌, Bool, true, false, List, [], ◌∷◌, Option, Some, None, max}
use Rattle.std.specs.List.{count_by}
use Rattle.jsonc_text.specs.Documents.{Document}
use Rattle.jsonc_text.specs.Plain.{Plain, array, object, Items, no_items, item, Members, no_members, member, around}
use Rattle.jsonc_tree.specs.Content.{Content, array as an_array_node, object as an_object_node, property}
use Rattle.jsonc_tree.specs.Order.{upward}
use Rattle.jsonc_tree.specs.Tree.{Node, content_at, parent_at}
use Rattle.jsonc_run.specs.Edits.{PlainEdit, replace, set_root, replace_property, set_value, ensure_value, insert_element, append_element, insert_property, append_property, ensure_property}
use Rattle.jsonc_run.specs.texts.Edits as texts
use Rattle.jsonc_run.specs.texts.Edits.{Operation, Makes}
use Rattle.jsonc_run.specs.texts.Paths.{Kind, an_array, an_object}

-- how many containers and properties are around the value at the path; a path that leads nowhere has what it passed, at most
abbrev mutual
  pub levels : List ℕ → Plain → ℕ
  levels [] v = 0
  levels (i ∷ path) (array vs) = suc (levels_of_item path i vs)
  levels (i ∷ path) (object ms) = suc (suc (levels_of_member path i ms))
  levels (i ∷ path) v = 0

  pub levels_of_item : List ℕ → ℕ → Items → ℕ
  levels_of_item path i no_items = 0
  levels_of_item path zero (item v vs) = levels path v
  levels_of_item path (suc i) (item v vs) = levels_of_item path i vs

  pub levels_of_member : List ℕ → ℕ → Members → ℕ
  levels_of_member path i no_members = 0
  levels_of_member path zero (member name v ms) = levels path v
  levels_of_member path (suc i) (member name v ms) = levels_of_member path i ms

-- so it is in a document that may have no value
abbrev pub levels_in : List ℕ → Option Plain → ℕ
levels_in path None = 0
levels_in path (Some w) = levels path w

-- how many containers and properties are around a value of the document, at most
abbrev pub around_in : Option Plain → ℕ
around_in None = 0
around_in (Some w) = around w

-- what an entry of a container adds to that: the array around an element, the object and the property around a property's value
abbrev pub entering : Kind → ℕ
entering an_array = 1
entering an_object = 2

-- how many containers and properties are around a value of what the operation writes, at most
abbrev pub needs : Option Plain → Operation → ℕ
needs w (texts.replace path v) = levels_in path w + around v
needs w (texts.replace_property path new) = levels_in path w + around new.value
needs w (texts.come_first v) = around v
needs w (texts.insert kind path i new) = levels_in path w + (entering kind + around new.value)
needs w op = 0

-- each value of the document has at most so many containers and properties around it
abbrev pub IsNoDeeper : ℕ → Option Plain → Type 0
IsNoDeeper limit w = around_in w ≤ limit

-- arrays, objects and properties nest, the root does not
abbrev pub is_nesting : Content → Bool
is_nesting an_array_node = true
is_nesting an_object_node = true
is_nesting property = true
is_nesting _ = false

abbrev pub is_nesting_at : List Node → ℕ → Bool
is_nesting_at ns n = is_nesting (content_at ns n)

-- how many of the nodes above n are arrays, objects and properties
abbrev pub nesting_at : List Node → ℕ → ℕ
nesting_at ns n = count_by (is_nesting_at ns) (upward ns (parent_at ns n))

-- how many containers and properties are around a value of what the edit may write, at most, where the document has this value
abbrev pub needs_in : Option Plain → PlainEdit → ℕ
needs_in w (replace path v) = levels_in path w + around v
needs_in w (set_root v) = around v
needs_in w (replace_property path name v) = levels_in path w + around v
needs_in w (set_value path v) = levels_in path w + around v
needs_in w (ensure_value path shape) = levels_in path w
needs_in w (insert_element path i v) = levels_in path w + (1 + around v)
needs_in w (append_element path v) = levels_in path w + (1 + around v)
needs_in w (insert_property path i name v) = levels_in path w + (2 + around v)
needs_in w (append_property path name v) = levels_in path w + (2 + around v)
needs_in w (ensure_property path name shape how) = levels_in path w + 2
needs_in w e = 0

-- so it is by nodes, where n is its place
abbrev pub needs_at : List Node → ℕ → PlainEdit → ℕ
needs_at ns n (replace path v) = nesting_at ns n + around v
needs_at ns n (set_root v) = around v
needs_at ns n (replace_property path name v) = nesting_at ns n + (1 + around v)
needs_at ns n (set_value path v) = nesting_at ns n + (1 + around v)
needs_at ns n (ensure_value path shape) = nesting_at ns n + 1
needs_at ns n (insert_element path i v) = nesting_at ns n + (1 + around v)
needs_at ns n (append_element path v) = nesting_at ns n + (1 + around v)
needs_at ns n (insert_property path i name v) = nesting_at ns n + (2 + around v)
needs_at ns n (append_property path name v) = nesting_at ns n + (2 + around v)
needs_at ns n (ensure_property path name shape how) = nesting_at ns n + 2
needs_at ns n e = 0

-- Where an operation leads to a document, its values are nested as deep as before or as what the operation writes.
abbrev pub KeepsDepth : Document → Operation → Document → Type 0
KeepsDepth d op e = Makes d op e → around_in e.value ≤ max (around_in d.value) (needs d.value op)
