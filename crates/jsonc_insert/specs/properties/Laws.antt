-- Laws of properties that come into documents.
use Rattle.std.specs.Prelude.{◌≡◌, ℕ, true, List, length, min}
use Rattle.jsonc_text.specs.Options.{Options}
use Rattle.jsonc_text.specs.Plain.{Plain}
use Rattle.jsonc_tree.specs.Content.{object}
use Rattle.jsonc_tree.specs.OrderedTree.{ordered_tree}
use Rattle.jsonc_tree.specs.Tree.{Node, children_at, content_at, IsTree}
use Rattle.jsonc_layout.specs.nodes.Siblings.{elements_at}
use Rattle.jsonc_layout.specs.from_input.Texts.{IsCharacters}
use Rattle.jsonc_sound.specs.SoundTrees.{SoundTree}
use Rattle.jsonc_edit.specs.Paths.{IsAt, IsElementOf}
use Rattle.jsonc_edit.specs.Writing.{IsWritable}
use Rattle.jsonc_insert.specs.Planned.{has_brackets}
use Rattle.jsonc_insert.specs.elements.Members.{IsMemberInserted, PropertyInsertedAt}
use Rattle.jsonc_insert.specs.members.Inserted.{PropertyPut}

-- a property that has come into c, an object at a path of a sound document, has come into its row
abbrev pub PropertiesInsertedAt : Options → List Node → List Node → List ℕ → ℕ → ℕ → List ℕ → Plain → ℕ → Type 0
PropertiesInsertedAt o old new path c i name v m =
    IsTree old → SoundTree o (ordered_tree old 0) → IsAt old path c → content_at old c ≡ object → PropertyPut old new c i name v m
    → PropertyInsertedAt o path i name v (ordered_tree old 0) (ordered_tree new 0)

-- and the text is a document again, with the property in the object's value, where documents may hold it
abbrev pub PropertiesAreWritten : Options → List Node → List Node → List ℕ → ℕ → ℕ → List ℕ → Plain → ℕ → Type 0
PropertiesAreWritten o old new path c i name v m =
    IsTree old → SoundTree o (ordered_tree old 0) → IsAt old path c → content_at old c ≡ object → IsCharacters name → IsWritable o v
    → PropertyPut old new c i name v m
    → (s : PropertyInsertedAt o path i name v (ordered_tree old 0) (ordered_tree new 0))
    × IsMemberInserted o path i name v (ordered_tree old 0) (ordered_tree new 0) s

-- the object stands where it stood, and the new property is its property of the number, or the last
abbrev pub StandsInPlace : List Node → List Node → List ℕ → ℕ → ℕ → List ℕ → Plain → ℕ → Type 0
StandsInPlace old new path c i name v m =
    IsTree old → IsAt old path c → has_brackets old (children_at old c) ≡ true → PropertyPut old new c i name v m
    → IsAt new path c × IsElementOf new c (min i (length (elements_at old c))) m
