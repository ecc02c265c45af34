-- What `sort` makes of a document.
use Rattle.std.specs.Prelude.{◌≡◌, ◌<◌, ◌-◌, ℕ, Bool, false, true, List, [], drop, filter, length, map, slice_index, take, IsPermutation, Option, Some, None}
use Rattle.std.specs.Cmp.Lexicographic.{slice_cmp}
use Rattle.std.specs.List.{range_with_len}
use Rattle.std.specs.List.Sorted.{IsSortedBy, ties}
use Rattle.std.specs.Ordering.{is_lt, nat_cmp}
use Rattle.jsonc_text.specs.Options.{Options}
use Rattle.jsonc_tree.specs.Content.{Content, object, string, word}
use Rattle.jsonc_tree.specs.OrderedTree.{ordered_tree}
use Rattle.jsonc_tree.specs.Tree.{Node, content_at}
use Rattle.jsonc_layout.specs.nodes.Properties.{name_at, value_at}
use Rattle.jsonc_layout.specs.nodes.Siblings.{elements_at}
use Rattle.jsonc_sound.specs.SoundTrees.{SoundTree}
use Rattle.jsonc_edit.specs.Paths.{IsAt}
use Rattle.jsonc_run.specs.Edits.{rearrange}
use Rattle.jsonc_run.specs.promise.Steps.{IsStep}
use Rattle.jsonc_sort.specs.Above.{leads_read}
use Rattle.jsonc_sort.specs.Rearranged.{Rearranged, headers_of}
use Rattle.jsonc_cst.specs.declared.cst.CstRootNode.{CstRootNode}
use Rattle.jsonc_cst.specs.declared.cst.node.CstObject.{CstObject}
use Rattle.jsonc_cst.specs.Document.{nodes_of, tree_of}
use Rattle.jsonc_cst.specs.sorting.Pins.{header_pin}
use Rattle.jsonc_cst.specs.sorting.Sorted.{IsPlaced}

-- the bytes of a string without its quotes: all but the first and the last
abbrev pub between_quotes : List ℕ → List ℕ
between_quotes s = take (length s - 2) (drop 1 s)

-- a name as it is written, without quotes: a string undecoded, a word as it stands
abbrev pub without_quotes : Content → List ℕ
without_quotes (string s) = between_quotes s
without_quotes (word s) = s
without_quotes _ = []

abbrev pub name_under : List Node → Option ℕ → List ℕ
name_under ns None = []
name_under ns (Some m) = without_quotes (content_at ns m)

-- so the name of a property
abbrev pub written_name : List Node → ℕ → List ℕ
written_name ns n = name_under ns (name_at ns n)

-- the first of two names is less, byte by byte
abbrev pub is_less : List ℕ → List ℕ → Bool
is_less a b = is_lt (slice_cmp nat_cmp a b)

-- so is the name of one property of the object c than that of another, by their numbers among them
abbrev pub has_less_name : List Node → ℕ → ℕ → ℕ → Bool
has_less_name ns c i j = is_less (written_name ns (slice_index (elements_at ns c) i)) (written_name ns (slice_index (elements_at ns c) j))

-- the numbers of its properties
abbrev pub numbers_in : List Node → ℕ → List ℕ
numbers_in ns c = range_with_len 0 (length (elements_at ns c))

-- The order names each property of c once, by its number among them. Their names as they are written ascend, byte by byte, and properties of one name stay in
-- their order.
pub record IsByName (ns : List Node) (c : ℕ) (order : List ℕ) : Type 0 where
  pub all : IsPermutation (numbers_in ns c) order
  pub ascends : IsSortedBy (has_less_name ns c) order
  pub stable : (i : ℕ) → i < length (elements_at ns c) → filter (ties (has_less_name ns c) i) order ≡ filter (ties (has_less_name ns c) i) (numbers_in ns c)

-- how many comments stay where they are before each property of the object, as a header: where headers are kept those above the last blank line before it
abbrev pub pins_at : Bool → List Node → ℕ → List (Option ℕ)
pins_at false ns c = []
pins_at true ns c = map header_pin (leads_read ns c)

-- In nodes: where the object stands in a sound document, its properties come in the order of their names, each with all that belongs to it but for what is kept. That is
-- one step; where it stands in none, nothing of the document changes.
pub record IsSorted {A : Type 0} (keeps_headers : Bool) (old new : CstRootNode A) (x : CstObject) : Type 0 where
  pub order : List ℕ
  pub by_name : (o : Options) (path : List ℕ) → SoundTree o (tree_of old) → IsAt (nodes_of old) path x.number → content_at (nodes_of old) x.number ≡ object
      → IsByName (nodes_of old) x.number order
  pub placed : IsPlaced (nodes_of old) (nodes_of new) x.number (headers_of (pins_at keeps_headers (nodes_of old) x.number) false) order

-- The document's value is an object, whose properties are now in the order of their names, each with all that belongs to it: in one step, and nothing else has
-- changed.
pub record SortsByName (old new : List Node) : Type 0 where
  pub c : ℕ
  pub value : value_at old 0 ≡ Some c
  pub is_object : content_at old c ≡ object
  pub order : List ℕ
  pub by_name : IsByName old c order
  pub moved : Rearranged old new c (headers_of [] false) order
  pub step : IsStep IsAt (λ path. rearrange true path (headers_of [] false) order) old new c

-- so it is if the document was sound
abbrev pub SortsIfSound : Options → List Node → List Node → Type 0
SortsIfSound o old new = SoundTree o (ordered_tree old 0) → SortsByName old new
