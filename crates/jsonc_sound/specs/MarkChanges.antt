-- How marks change: in one stretch, which is replaced by another.
use Rattle.std.specs.Prelude.{◌≡◌, ◌||◌, List, [], ◌∷◌, ◌++◌, IsTrue}
use Rattle.jsonc_tree.specs.Content.{Content}
use Rattle.jsonc_layout.specs.nodes.Kinds.{is_whitespace, is_newline}
use Rattle.jsonc_tree.specs.OrderedTree.{Top}
use Rattle.jsonc_sound.specs.TreeChanges.{leaves_of}
use Rattle.jsonc_sound.specs.Marks.{Mark, marks_of}

-- the marks y are the marks x, but that a stretch of them has been replaced by another
pub record MarksDifferIn (was now x y : List Mark) : Type 0 where
  pub front : List Mark
  pub back : List Mark
  pub before : x ≡ front ++ (was ++ back)
  pub after : y ≡ front ++ (now ++ back)

-- the marks of a node with what is below it
abbrev pub marks_under : Top → List Mark
marks_under top = marks_of (leaves_of top)

-- each of these leaves is whitespace or a line's end
abbrev pub AreBlanks : List Content → Type 0
AreBlanks [] = Unit {0}
AreBlanks (content ∷ rest) = IsTrue (is_whitespace content || is_newline content) × AreBlanks rest
