-- Laws of spaces that come in.
use Rattle.std.specs.Prelude.{◌≡◌, ◌<◌, ℕ, false, List, IsTrue}
use Rattle.jsonc_tree.specs.Content.{Content}
use Rattle.jsonc_tree.specs.OrderedTree.{ordered_tree}
use Rattle.jsonc_tree.specs.Tree.{Node, content_at, place_at, IsTree, IsOver}
use Rattle.jsonc_layout.specs.nodes.Siblings.{elements_at}
use Rattle.jsonc_sound.specs.TreeChanges.{IsElement}
use Rattle.jsonc_sound.specs.InRows.{SpacePut}
use Rattle.jsonc_sound.specs.Spaces.{is_bare}
use Rattle.jsonc_edit.specs.Due.{spaces_needed_around, begins_bare, ends_bare, seen_before, seen_behind}
use Rattle.jsonc_edit.specs.Put.{StandsBefore, AreSpaced}

-- before an element of the document, behind another child, the space has come into the document, and nothing else has
abbrev pub PutsSpace : List Node → List Node → ℕ → ℕ → Type 0
PutsSpace old new n space =
    IsTree old → StandsBefore old new n space → IsOver old 0 n → IsElement (content_at old n) → 0 < place_at old n
    → SpacePut (ordered_tree old 0) (ordered_tree new 0)

-- each node has the elements that it had
abbrev pub KeepsElements : List Node → List Node → ℕ → ℕ → Type 0
KeepsElements old new n space = IsTree old → StandsBefore old new n space → (k : ℕ) → elements_at new k ≡ elements_at old k

-- where the spaces have come that are due around n, none is due any more
abbrev pub NoneDueAround : List Node → List Node → ℕ → Content → Type 0
NoneDueAround old new n content =
    IsTree old → AreSpaced old (spaces_needed_around old n content) new → IsTrue (is_bare content)
    → (ends_bare new (seen_before new n) ≡ false) × (begins_bare new (seen_behind new n) ≡ false)
