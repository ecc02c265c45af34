-- A property of an object at a path of an ordered tree, and the leaves before it and behind it.
use Rattle.std.specs.Prelude.{◌≡◌, ℕ, Bool, true, List, ◌++◌}
use Rattle.jsonc_text.specs.Options.{Options}
use Rattle.jsonc_tree.specs.Content.{Content, object}
use Rattle.jsonc_tree.specs.OrderedTree.{OrderedTree}
use Rattle.jsonc_sound.specs.SoundTrees.{SoundTree}
use Rattle.jsonc_sound.specs.Spaces.{first_printed, is_bare_leaf}
use Rattle.jsonc_sound.specs.TreeChanges.{property_of}
use Rattle.jsonc_edit.specs.SeamPlaces.{RowHolds, DocumentHolds}
use Rattle.jsonc_edit.specs.Seams.{PrintNothing, space_if}

-- in the object at the path the property of this number has this row: before it in the document stand these leaves, and behind it those
pub record PropertyHolds (held : OrderedTree) (path : List ℕ) (i : ℕ) (t : OrderedTree) (front back : List Content) : Type 0 where
  pub row : OrderedTree
  pub before : List Content
  pub ahead : List Content
  pub beyond : List Content
  pub behind : List Content
  pub holder : DocumentHolds (record { content = object; below = row }) path t before behind
  pub property : RowHolds (property_of held) i row ahead beyond
  pub first : front ≡ before ++ ahead
  pub last : back ≡ beyond ++ behind

-- That property has been replaced by another, and nothing else has changed but that a space has come directly before what is printed behind it, or none. Before it
-- none ever comes: it begins with its name. In a sound document one that has come stands before a literal without quotes.
pub record PropertyReplacedWithSeam (path : List ℕ) (i : ℕ) (was now t u : OrderedTree) : Type 0 where
  pub front : List Content
  pub quiet : List Content
  pub rest : List Content
  pub behind : Bool
  pub silent : PrintNothing quiet
  pub stood : PropertyHolds was path i t front (quiet ++ rest)
  pub stands : PropertyHolds now path i u front (quiet ++ (space_if behind ++ rest))
  pub parts_behind : (o : Options) → SoundTree o t → behind ≡ true → is_bare_leaf (first_printed (quiet ++ rest)) ≡ true
