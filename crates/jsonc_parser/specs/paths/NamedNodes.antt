-- What is at names in a document that a tree shows, as a node of the tree.
use Rattle.std.specs.Prelude.{◌≡◌, ◌≢◌, ◌++◌, [], ◌∷◌, ℕ, List, Some, None, filter, length}
use Rattle.jsonc_text.specs.Documents.{Document}
use Rattle.jsonc_text.specs.Plain.{Plain, Members}
use Rattle.jsonc_text.specs.Plain as plain
use Rattle.jsonc_tree.specs.Content.{object}
use Rattle.jsonc_tree.specs.OrderedTree.{ordered_tree}
use Rattle.jsonc_tree.specs.Tree.{Node, content_at, IsTree}
use Rattle.jsonc_layout.specs.nodes.Kinds.{is_property}
use Rattle.jsonc_layout.specs.nodes.Properties.{value_at}
use Rattle.jsonc_layout.specs.nodes.Siblings.{siblings_before}
use Rattle.jsonc_sound.specs.Documents.{Shows}
use Rattle.jsonc_sound.specs.Sound.{HasValue}
use Rattle.jsonc_edit.specs.Changes.{top_at}
use Rattle.jsonc_edit.specs.Paths.{IsAt, IsElementOf}
use Rattle.jsonc_insert.specs.named.Members.{LacksMember}
use Rattle.jsonc_parser.specs.paths.Settings.{At, IsNoObject}
use Rattle.jsonc_parser.specs.paths.Positions.{Leads}
use Rattle.jsonc_parser.specs.paths.Which.{IsChosenIn, seen, seen_if}
use Rattle.jsonc_parser.specs.declared.paths.which.Which.{Which}

-- In the document's value, as it is seen, v is at the names; and over the positions that these lead over is the node n, which has v.
pub record NamesNode (which : Which) (d : Document) (ns : List Node) (names : List (List ℕ)) (n : ℕ) : Type 0 where
  pub value : Plain
  pub is : d.value ≡ Some value
  pub v : Plain
  pub path : List ℕ
  pub leads : Leads which names path value v
  pub there : At (seen_if which d.value) names (seen which v)
  pub at : IsAt ns path n
  pub has : HasValue d.options (top_at ns n) v

-- nothing is at the names in the document's value
abbrev pub NamesNothing : Which → Document → List (List ℕ) → Type 0
NamesNothing which d names = (v : Plain) → At (seen_if which d.value) names v → ⊥

-- the value's node is what no names lead to; in a document without a value nothing is at any names
pub record BeginsIn (which : Which) (d : Document) (ns : List Node) : Type 0 where
  pub some : (n : ℕ) → value_at ns 0 ≡ Some n → NamesNode which d ns [] n
  pub none : value_at ns 0 ≡ None → d.value ≡ None

abbrev pub BeginsThere : Which → Document → List Node → Type 0
BeginsThere which d ns = IsTree ns → Shows d (ordered_tree ns 0) → BeginsIn which d ns

-- from a node that is no object no name leads on: its value is none, and nothing is at further names
pub record StopsIn (which : Which) (d : Document) (ns : List Node) (names : List (List ℕ)) (w : Plain) : Type 0 where
  pub another : IsNoObject w
  pub nothing : (name : List ℕ) (rest : List (List ℕ)) → NamesNothing which d (names ++ name ∷ rest)

abbrev pub StopsThere : Which → Document → List Node → List (List ℕ) → ℕ → Type 0
StopsThere which d ns names n = IsTree ns → Shows d (ordered_tree ns 0) → (w : NamesNode which d ns names n) → content_at ns n ≢ object → StopsIn which d ns names w.v

-- from an object a name leads to the value of the first property of the name, or the last, which is the element of the number that the path goes on with; and where none has
-- the name its value lacks it, and nothing is at further names
pub record LeadsOnIn (which : Which) (d : Document) (ns : List Node) (names : List (List ℕ)) (n : ℕ) (name : List ℕ) (w : NamesNode which d ns names n) : Type 0 where
  pub lacks : IsChosenIn which ns n name None → (ms : Members) × (w.v ≡ plain.object ms) × LacksMember name ms
  pub nothing : IsChosenIn which ns n name None → (rest : List (List ℕ)) → NamesNothing which d (names ++ name ∷ rest)
  pub holds : (r : ℕ) → IsChosenIn which ns n name (Some r) → value_at ns r ≢ None
  pub leads : (r q : ℕ) → IsChosenIn which ns n name (Some r) → value_at ns r ≡ Some q
      → (i : ℕ) × IsElementOf ns n i r × (further : NamesNode which d ns (names ++ name ∷ []) q) × (further.path ≡ w.path ++ i ∷ [])

abbrev pub LeadsOn : Which → Document → List Node → List (List ℕ) → ℕ → List ℕ → Type 0
LeadsOn which d ns names n name =
    IsTree ns → Shows d (ordered_tree ns 0) → (w : NamesNode which d ns names n) → content_at ns n ≡ object → LeadsOnIn which d ns names n name w

-- how many properties are before a property among its siblings
abbrev pub properties_before : List Node → ℕ → ℕ
properties_before ns r = length (filter (λ n. is_property (content_at ns n)) (siblings_before ns r))

-- as many as its number says, by which a path leads to it
abbrev pub CountsItsNumber : Document → List Node → List ℕ → ℕ → ℕ → ℕ → Type 0
CountsItsNumber d ns path c i r =
    IsTree ns → Shows d (ordered_tree ns 0) → IsAt ns path c → content_at ns c ≡ object → IsElementOf ns c i r → properties_before ns r ≡ i
