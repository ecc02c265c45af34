-- Laws of places: what a sound tree's leaves print stands in its text where the grammar has it.
use Rattle.std.specs.Prelude.{◌≡◌, ℕ, List, [], ◌∷◌, ◌++◌, chars, if◌then◌else◌}
use Rattle.std.specs.List.{flat_map}
use Rattle.jsonc_text.specs.Options.{Options}
use Rattle.jsonc_tree.specs.Content.{Content, text_of}
use Rattle.jsonc_tree.specs.OrderedTree.{OrderedTree, Top, none, more, leaves, printed}
use Rattle.jsonc_tree.specs.Values.{is_passed_over}
use Rattle.jsonc_sound.specs.Rows.{RowKind, container_of}
use Rattle.jsonc_sound.specs.Shape.{printed_text}
use Rattle.jsonc_sound.specs.ChangeLaws.{DiffersIn}
use Rattle.jsonc_sound.specs.SoundTrees.{SoundTree}
use Rattle.jsonc_sound.specs.TreeChanges.{leaves_of, DocumentChanged}
use Rattle.jsonc_run.specs.texts.Paths.{Value, HasEntries}

-- the characters that leaves print
abbrev pub text_of_leaves : List Content → List ℕ
text_of_leaves contents = chars (flat_map text_of contents)

-- The value at a path prints from here to there: before it what the leaves before it print, behind it what those behind it print, whatever comes in its place.
pub record StandsInText (o : Options) (was now : Top) (path : List ℕ) (t u : OrderedTree) : Type 0 where
  pub around : DiffersIn (leaves_of was) (leaves_of now) (leaves t) (leaves u)
  pub text : printed_text t ≡ text_of_leaves around.front ++ (text_of_leaves (leaves_of was) ++ text_of_leaves around.back)
  pub stands : Value path o (printed_text t) (text_of_leaves (leaves_of was) ++ text_of_leaves around.back) (text_of_leaves around.back)

abbrev pub ValuesStand : Options → OrderedTree → Type 0
ValuesStand o t = SoundTree o t → (was now : Top) (path : List ℕ) (u : OrderedTree) → DocumentChanged was now path t u → StandsInText o was now path t u

-- what a node prints
abbrev pub node_chars : Top → List ℕ
node_chars top = chars (text_of top.content ++ printed top.below)

-- the texts of a row's elements
abbrev pub texts_of : OrderedTree → List (List ℕ)
texts_of none = []
texts_of (more content below after) = if is_passed_over content then texts_of after else node_chars (record { content = content; below = below }) ∷ texts_of after

-- the texts of the entries of a container are those of its row's elements
abbrev pub EntriesStand : Options → OrderedTree → Type 0
EntriesStand o t = SoundTree o t → (kind : RowKind) (row : OrderedTree) (now : Top) (path : List ℕ) (u : OrderedTree) → (d : DocumentChanged (container_of kind row) now path t u)
    → (back : List ℕ) × HasEntries o (text_of_leaves (leaves_of (container_of kind row)) ++ back) (texts_of row) back
    × Value path o (printed_text t) (text_of_leaves (leaves_of (container_of kind row)) ++ back) back
