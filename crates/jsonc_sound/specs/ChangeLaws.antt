-- Laws of changes: what is said of each change of a document.
use Rattle.std.specs.Prelude.{◌≡◌, false, List, ℕ, ◌++◌, Some}
use Rattle.jsonc_text.specs.Options.{Options}
use Rattle.jsonc_text.specs.Plain.{Plain}
use Rattle.jsonc_tree.specs.Content.{Content}
use Rattle.jsonc_tree.specs.OrderedTree.{OrderedTree, leaves, Top}
use Rattle.jsonc_tree.specs.Values.{DocumentValueOf}
use Rattle.jsonc_sound.specs.Lines.{LinesEnd}
use Rattle.jsonc_sound.specs.Changes.{Changed}
use Rattle.jsonc_sound.specs.Sound.{Sound, IsValueBefore, HasValue}
use Rattle.jsonc_sound.specs.TreeChanges.{leaves_of, DocumentChanged}

-- the node is a value before some text, and its line comments end with their lines
pub record IsSoundValue (o : Options) (top : Top) : Type 0 where
  pub following : List ℕ
  pub shaped : IsValueBefore o top following
  pub lines : LinesEnd false top.below

-- each value of the document that can give way, if this is sound, is such a node
abbrev pub HoldsSoundValues : Options → OrderedTree → Type 0
HoldsSoundValues o t = Sound o t → (was now : Top) (path : List ℕ) (u : OrderedTree) → DocumentChanged was now path t u → IsSoundValue o was

-- what was replaced had a value, and the document u has the value x, but that at the path this one has been replaced by v
abbrev pub HasChangedValue : Options → Top → List ℕ → OrderedTree → Plain → Plain → Type 0
HasChangedValue o was path u x v = (old y : Plain) × HasValue o was old × Changed old v path x y × DocumentValueOf o u (Some y)

-- where a node of the document, if this has the value x, is replaced by one of value v, so is its value
abbrev pub ChangesValue : Options → OrderedTree → Plain → Type 0
ChangesValue o t x = DocumentValueOf o t (Some x) → (was now : Top) (path : List ℕ) (u : OrderedTree) (v : Plain)
    → DocumentChanged was now path t u → HasValue o now v → HasChangedValue o was path u x v

-- the leaves y are the leaves x, but that a stretch of them has been replaced by another
pub record DiffersIn (was now x y : List Content) : Type 0 where
  pub front : List Content
  pub back : List Content
  pub before : x ≡ front ++ (was ++ back)
  pub after : y ≡ front ++ (now ++ back)

-- where a node of the document is replaced by another, its leaves are replaced by those of the other
abbrev pub KeepsLeavesAround : OrderedTree → Type 0
KeepsLeavesAround t = (was now : Top) (path : List ℕ) (u : OrderedTree) → DocumentChanged was now path t u
    → DiffersIn (leaves_of was) (leaves_of now) (leaves t) (leaves u)
