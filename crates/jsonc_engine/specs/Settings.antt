-- What `get`, `put` and `drop` find at a path of names in a document, and make of it.
use Rattle.std.specs.Prelude.{◌≡◌, ◌⊎◌, ◌++◌, ◌∷◌, [], ℕ, Bool, true, List, Option, chars}
use Rattle.jsonc_text.specs.Documents.{Document}
use Rattle.jsonc_text.specs.Grammar.{IsDocument}
use Rattle.jsonc_text.specs.Options.{Options}
use Rattle.jsonc_text.specs.Plain.{Plain}
use Rattle.jsonc_tree.specs.OrderedTree.{ordered_tree, printed}
use Rattle.jsonc_tree.specs.Tree.{Node}
use Rattle.jsonc_sound.specs.Documents.{Shows}
use Rattle.jsonc_sound.specs.SoundTrees.{SoundTree}
use Rattle.jsonc_text.specs.declared.edit.Over.TheVariants.{Keep}
use Rattle.jsonc_parser.specs.declared.paths.which.Which.TheVariants.{First}
use Rattle.jsonc_parser.specs.paths.Calls.{DropsAt, FitsAt, PutsAt}
use Rattle.jsonc_parser.specs.paths.Memory.{PassesEscaped, SomethingAt}
use Rattle.jsonc_parser.specs.paths.Settings.{At, IsInTheWay}
use Rattle.jsonc_parser.specs.paths.NamedNodes.{NamesNode}

-- the nodes show a document under these options
pub record ShowsOne (o : Options) (ns : List Node) : Type 0 where
  pub document : Document
  pub options : document.options ≡ o
  pub shown : Shows document (ordered_tree ns 0)

-- In the document that the nodes show a value stands at the names; what is written is that value as it is printed there, and a line feed.
pub record IsShownAt (o : Options) (names : List (List ℕ)) (ns : List Node) (output : List ℕ) : Type 0 where
  pub one : ShowsOne o ns
  pub node : ℕ
  pub there : NamesNode First one.document ns names node
  pub prints : output ≡ printed (ordered_tree ns node) ++ 0x0A ∷ []

-- By one edit of the document that the old nodes show v was put at the names, where it fits; no value of another kind than an object stood in the way.
pub record PutsSetting (o : Options) (v : Plain) (names : List (List ℕ)) (old new : List Node) : Type 0 where
  pub fits : FitsAt names v
  pub one : ShowsOne o old
  pub puts : PutsAt First one.document v Keep names old new true

-- By one edit of the document that the old nodes show what stood at the names was dropped; or nothing stood there, and nothing has changed.
pub record DropsSetting (o : Options) (names : List (List ℕ)) (old new : List Node) : Type 0 where
  pub one : ShowsOne o old
  pub done : Bool
  pub drops : DropsAt one.document names old new done

-- the text of these bytes is a document, and nothing stands at the names in its value
abbrev pub HasNothingAt : Options → List ℕ → List (List ℕ) → Type 0
HasNothingAt o bytes names = (w : Option Plain) × IsDocument o (chars bytes) w × ((v : Plain) → At w names v → ⊥)

-- it is one, and a value of another kind than an object stands in the way
abbrev pub HasInTheWay : Options → List ℕ → List (List ℕ) → Type 0
HasInTheWay o bytes names = (w : Option Plain) × IsDocument o (chars bytes) w × IsInTheWay w names

-- it is one, and something stands at the names
abbrev pub HasSomethingAt : Options → List ℕ → List (List ℕ) → Type 0
HasSomethingAt o bytes names = (w : Option Plain) × IsDocument o (chars bytes) w × SomethingAt w names

-- it is one, and nothing stands in their way
abbrev pub HasFreeWay : Options → List ℕ → List (List ℕ) → Type 0
HasFreeWay o bytes names = (w : Option Plain) × IsDocument o (chars bytes) w × ¬ (IsInTheWay w names)

-- The bytes are what the nodes of a document print, where the names before one of these lead to an object that has a name with a backslash.
pub record LooksUpEscaped (o : Options) (bytes : List ℕ) (names : List (List ℕ)) : Type 0 where
  pub nodes : List Node
  pub reads : printed (ordered_tree nodes 0) ≡ bytes
  pub one : ShowsOne o nodes
  pub passes : PassesEscaped First one.document nodes names

-- memory is wanted to look up a name, or for what stands at the names
abbrev pub IsForSomething : Options → List ℕ → List (List ℕ) → Type 0
IsForSomething o bytes names = LooksUpEscaped o bytes names ⊎ HasSomethingAt o bytes names

-- to look up a name, or to put a value there, and nothing is in the way
abbrev pub IsForPutting : Options → List ℕ → List (List ℕ) → Type 0
IsForPutting o bytes names = LooksUpEscaped o bytes names ⊎ HasFreeWay o bytes names

-- so it is if the document was sound
abbrev pub ShownIfSound : Options → List (List ℕ) → List Node → List ℕ → Type 0
ShownIfSound o names ns output = SoundTree o (ordered_tree ns 0) → IsShownAt o names ns output

abbrev pub PutsIfSound : Options → Plain → List (List ℕ) → List Node → List Node → Type 0
PutsIfSound o v names old new = SoundTree o (ordered_tree old 0) → PutsSetting o v names old new

abbrev pub DropsIfSound : Options → List (List ℕ) → List Node → List Node → Type 0
DropsIfSound o names old new = SoundTree o (ordered_tree old 0) → DropsSetting o names old new
