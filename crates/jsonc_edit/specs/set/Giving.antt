-- A property is replaced by one of another name and value.
use Rattle.std.specs.Prelude.{◌≡◌, ℕ, ◌≤◌, Bool, true, false, List, length, Option, Some, None, if◌then◌else◌}
use Rattle.jsonc_text.specs.Plain.{Plain, null, boolean, number}
use Rattle.jsonc_tree.specs.Content.{property}
use Rattle.jsonc_tree.specs.Tree.{Node, parent_at}
use Rattle.jsonc_tree.specs.OrderedTree.{Top}
use Rattle.jsonc_layout.specs.from_input.Layout.{Layout}
use Rattle.jsonc_layout.specs.from_input.Laid.{laid_property}
use Rattle.jsonc_edit.specs.Due.{space_needed_after, listed}
use Rattle.jsonc_edit.specs.Put.{AreSpaced, Extends}
use Rattle.jsonc_edit.specs.Reading.{layout_for}
use Rattle.jsonc_edit.specs.Replacing.{TakesPlace}

-- a value that is written as a literal without quotes
abbrev pub is_bare_value : Plain → Bool
is_bare_value null = true
is_bare_value (boolean b) = true
is_bare_value (number s) = true
is_bare_value v = false

-- before which node a space is due where a property is replaced by one of this value: it begins with its name, between quotes, so only behind it can one be
abbrev pub due_after : List Node → ℕ → Plain → Option ℕ
due_after ns n v = if is_bare_value v then space_needed_after ns n else None

-- the node that a name and a value are laid out as
abbrev pub property_top : Layout → List ℕ → Plain → Top
property_top layout name v = record { content = property; below = (laid_property layout name v).below }

-- The child n has been replaced by a new node, m, that is the property: what is needed was made ready, the space has come
-- that is due behind it, and m has taken its place.
pub record PropertyReplacedBy (old new : List Node) (n m : ℕ) (layout : Layout) (name : List ℕ) (v : Plain) : Type 0 where
  pub ready : List Node
  pub spaced : List Node
  pub fresh : length old ≤ m
  pub prepared : Extends old ready
  pub spaces : AreSpaced ready (listed (due_after ready n v)) spaced
  pub place : TakesPlace spaced new n m (property_top layout name v)

-- laid out as the old nodes tell
abbrev pub IsPropertyReplaced : List Node → List Node → ℕ → List ℕ → Plain → ℕ → Type 0
IsPropertyReplaced old new n name v m = (c : ℕ) × (parent_at old n ≡ Some c) × PropertyReplacedBy old new n m (layout_for old c n) name v
