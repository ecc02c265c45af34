-- A truth value becomes another, in its place.
use Rattle.std.specs.Prelude.{◌≡◌, ℕ, ◌&&◌, Bool, true, false, not, List, option_map, Option, Some, None, if◌then◌else◌}
use Rattle.jsonc_text.specs.Options.{Options}
use Rattle.jsonc_text.specs.Plain.{Plain}
use Rattle.jsonc_tree.specs.Changes.{LeafBecomes}
use Rattle.jsonc_tree.specs.Content.{Content, boolean}
use Rattle.jsonc_tree.specs.OrderedTree.{ordered_tree}
use Rattle.jsonc_tree.specs.Tree.{Node, content_at, IsTree}
use Rattle.jsonc_sound.specs.Booleans.{boolean_leaf, is_hex_leaf}
use Rattle.jsonc_sound.specs.SoundTrees.{SoundTree}
use Rattle.jsonc_edit.specs.Due.{listed, seen_before}
use Rattle.jsonc_edit.specs.Put.{AreSpaced, IfDue, Extends}
use Rattle.jsonc_edit.specs.Changes.{top_at}
use Rattle.jsonc_edit.specs.Paths.{IsAt}
use Rattle.jsonc_edit.specs.Written.{IsWrittenAt}

abbrev pub is_boolean : Content → Bool
is_boolean (boolean b) = true
is_boolean content = false

-- a hexadecimal number stands there: it begins with `0x`, behind its sign if it has one
abbrev pub is_hex_at : List Node → Option ℕ → Bool
is_hex_at ns o = is_hex_leaf (option_map (content_at ns) o)

-- Before which node a space is due where the leaf n becomes this truth value: before n, where `false` would stand
-- directly behind a hexadecimal number, whose digits would read on into it. All else that ended before the one truth
-- value ends before the other.
abbrev pub space_needed_for : List Node → ℕ → Bool → Option ℕ
space_needed_for ns n b = if not b && is_hex_at ns (seen_before ns n) then Some n else None

-- The leaf n has become this truth value: what is needed was made ready, the space has come that was due before it, and it has become another in its place.
pub record BooleanSet (old new : List Node) (n : ℕ) (b : Bool) : Type 0 where
  pub ready : List Node
  pub spaced : List Node
  pub prepared : Extends old ready
  pub spaces : AreSpaced ready (listed (space_needed_for old n b)) spaced
  pub becomes : LeafBecomes spaced new n (boolean b)
  pub tree : IsTree new

-- a space is due
abbrev pub WantsSpaceFor : List Node → ℕ → Bool → Type 0
WantsSpaceFor ns n b = IfDue (space_needed_for ns n b)

-- a truth value at a path of a sound document that was set is written there, as any other value would be
abbrev pub WritesBoolean : Options → List Node → List Node → List ℕ → ℕ → Bool → Type 0
WritesBoolean o old new path n b =
    IsTree old → SoundTree o (ordered_tree old 0) → IsAt old path n → is_boolean (content_at old n) ≡ true → BooleanSet old new n b
    → IsWrittenAt o (Plain.boolean b) path (top_at old n) (boolean_leaf b) (ordered_tree old 0) (ordered_tree new 0)

-- it stands where it stood
abbrev pub StaysAtPath : List Node → List Node → List ℕ → ℕ → Bool → Type 0
StaysAtPath old new path n b = IsTree old → IsAt old path n → is_boolean (content_at old n) ≡ true
    → BooleanSet old new n b → IsAt new path n × (top_at new n ≡ boolean_leaf b)
