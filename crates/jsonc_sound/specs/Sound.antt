-- What a document's tree is that edits may change, and what may stand where a value stands.
use Rattle.std.specs.Prelude.{List, ℕ, [], false}
use Rattle.jsonc_text.specs.Options.{Options}
use Rattle.jsonc_text.specs.Plain.{Plain}
use Rattle.jsonc_tree.specs.OrderedTree.{OrderedTree, Top}
use Rattle.jsonc_tree.specs.Values.{ValueOf}
use Rattle.jsonc_sound.specs.Lines.{LinesEnd, DocumentLinesEnd}
use Rattle.jsonc_sound.specs.Shape.{DocumentShaped, ValueShaped}

-- the tree of a document that has the shape of the grammar, whose line comments end with their lines
pub record Sound (o : Options) (tree : OrderedTree) : Type 0 where
  pub shaped : DocumentShaped o tree
  pub lines : DocumentLinesEnd tree

-- the node is a value where the text r follows
abbrev pub IsValueBefore : Options → Top → List ℕ → Type 0
IsValueBefore o top r = ValueShaped o top.content top.below r

-- the node has the value
abbrev pub HasValue : Options → Top → Plain → Type 0
HasValue o top v = ValueOf o top.content top.below v

-- the node is a whole value, which may stand where another stood
pub record IsNewValue (o : Options) (top : Top) (v : Plain) : Type 0 where
  pub shaped : IsValueBefore o top []
  pub value : HasValue o top v
  pub lines : LinesEnd false top.below
