-- Laws of sorted rows: what a row keeps, and what becomes of the document. `top` tells what each child is, with what is below it.
use Rattle.std.specs.Prelude.{◌≡◌, ℕ, zero, suc, Bool, true, false, ◌||◌, List, [], ◌∷◌, count_by, filter, length, IsPermutation, IsTrue, Option, Some}
use Rattle.std.specs.List.{range_with_len}
use Rattle.jsonc_text.specs.Options.{Options}
use Rattle.jsonc_text.specs.Plain.{Plain, Items, no_items, item, Members, no_members, member, null, array, object}
use Rattle.jsonc_tree.specs.Content.{Content}
use Rattle.jsonc_tree.specs.OrderedTree.{OrderedTree, Top, none, leaves}
use Rattle.jsonc_tree.specs.Values.{DocumentValueOf, ItemsOf, MembersOf}
use Rattle.jsonc_tree.specs.declared.node.CstNewlineKind.{CstNewlineKind}
use Rattle.jsonc_layout.specs.nodes.Kinds.{is_element, is_newline, is_whitespace, is_comma}
use Rattle.jsonc_sound.specs.Lines.{LinesEndLoosely}
use Rattle.jsonc_sound.specs.Shape.{token_then}
use Rattle.jsonc_sound.specs.Adjacent.{LeavesEnd}
use Rattle.jsonc_sound.specs.Alone.{RowAlone}
use Rattle.jsonc_sound.specs.Changes.{Changed}
use Rattle.jsonc_sound.specs.Marks.{Mark, marks}
use Rattle.jsonc_sound.specs.Rows.{RowKind, closing, container_of, nothing_yet}
use Rattle.jsonc_sound.specs.SoundTrees.{SoundTree}
use Rattle.jsonc_sound.specs.TreeChanges.{DocumentChanged}
use Rattle.jsonc_sort.specs.Slots.{Slot, all_stay, row_in, row_then, top_in}
use Rattle.jsonc_sort.specs.Sorting.{Headers, sorted}

-- what each child is
abbrev pub content_of : (ℕ → Top) → ℕ → Content
content_of top n = (top n).content

abbrev pub is_element_of : (ℕ → Top) → ℕ → Bool
is_element_of top n = is_element (content_of top n)

-- the order names each element of the row once, by its number among them
abbrev pub IsOrderOf : (ℕ → Top) → List ℕ → List ℕ → Type 0
IsOrderOf top row order = IsPermutation (range_with_len 0 (length (filter (is_element_of top) row))) order

-- how a sort is told: how lines end, the headers, what stands between the brackets, and the order
pub record Sort : Type 0 where
  pub newline : CstNewlineKind
  pub headers : Headers
  pub row : List ℕ
  pub order : List ℕ

abbrev pub slots_of : (ℕ → Top) → Sort → List Slot
slots_of top s = sorted (content_of top) s.newline s.headers s.row s.order

-- the trees of a row, and those of the sorted row
abbrev pub row_before : (ℕ → Top) → Sort → OrderedTree
row_before top s = row_in top (all_stay s.row)

abbrev pub row_after : (ℕ → Top) → Sort → OrderedTree
row_after top s = row_in top (slots_of top s)

-- with the last bracket; and the whole array or object
abbrev pub closed : RowKind → (ℕ → Top) → List Slot → OrderedTree
closed kind top slots = row_then top slots (token_then (closing kind) none)

abbrev pub container_before : RowKind → (ℕ → Top) → Sort → Top
container_before kind top s = container_of kind (closed kind top (all_stay s.row))

abbrev pub container_after : RowKind → (ℕ → Top) → Sort → Top
container_after kind top s = container_of kind (closed kind top (slots_of top s))

-- whitespace, a line's end or a comma
abbrev pub is_filling : Content → Bool
is_filling content = is_whitespace content || (is_newline content || is_comma content)

-- a test that none of these passes, whatever is below it
abbrev pub PassesFilling : (Top → Bool) → Type 0
PassesFilling test = (top : Top) → IsTrue (is_filling top.content) → test top ≡ false

-- each other node is there as often as it was, with what is below it: each such test is passed as often
abbrev pub KeepsNodes : (ℕ → Top) → Sort → (Top → Bool) → Type 0
KeepsNodes top s test =
    IsOrderOf top s.row s.order → PassesFilling test
    → count_by (λ slot. test (top_in top slot)) (slots_of top s) ≡ count_by (λ n. test (top n)) s.row

-- and so is each mark, where nothing is below whitespace, ends of lines and commas
abbrev pub KeepsMarks : (ℕ → Top) → Sort → (Mark → Bool) → Type 0
KeepsMarks top s test =
    ((n : ℕ) → IsTrue (is_filling (content_of top n)) → (top n).below ≡ none) → IsOrderOf top s.row s.order
    → count_by test (marks (row_after top s)) ≡ count_by test (marks (row_before top s))

-- the values of a list in an order, which names each by its number
abbrev pub item_at : ℕ → Items → Plain
item_at i no_items = null
item_at zero (item v vs) = v
item_at (suc i) (item v vs) = item_at i vs

abbrev pub items_in : List ℕ → Items → Items
items_in [] vs = no_items
items_in (i ∷ order) vs = item (item_at i vs) (items_in order vs)

-- and the properties
abbrev pub name_at : ℕ → Members → List ℕ
name_at i no_members = []
name_at zero (member name v ms) = name
name_at (suc i) (member name v ms) = name_at i ms

abbrev pub value_at : ℕ → Members → Plain
value_at i no_members = null
value_at zero (member name v ms) = v
value_at (suc i) (member name v ms) = value_at i ms

abbrev pub members_in : List ℕ → Members → Members
members_in [] ms = no_members
members_in (i ∷ order) ms = member (name_at i ms) (value_at i ms) (members_in order ms)

-- the values of the sorted row are those of the row in that order
abbrev pub SortsItems : Options → (ℕ → Top) → Sort → Items → Type 0
SortsItems o top s vs = IsOrderOf top s.row s.order → ItemsOf o (row_before top s) vs → ItemsOf o (row_after top s) (items_in s.order vs)

abbrev pub SortsMembers : Options → (ℕ → Top) → Sort → Members → Type 0
SortsMembers o top s ms = IsOrderOf top s.row s.order → MembersOf o (row_before top s) ms → MembersOf o (row_after top s) (members_in s.order ms)

-- where the row is one of the container, node by node, and its leaves end, the sorted row is
abbrev pub KeepsRow : Options → RowKind → (ℕ → Top) → Sort → Option ℕ → Type 0
KeepsRow o kind top s n =
    IsOrderOf top s.row s.order → RowAlone o kind nothing_yet (closed kind top (all_stay s.row))
    → LeavesEnd o (leaves (closed kind top (all_stay s.row))) n → RowAlone o kind nothing_yet (closed kind top (slots_of top s))

-- where the line comments of the row end with their lines, those of the sorted row do
abbrev pub KeepsLines : RowKind → (ℕ → Top) → Sort → Type 0
KeepsLines kind top s =
    IsOrderOf top s.row s.order → LinesEndLoosely true false (closed kind top (all_stay s.row)) → LinesEndLoosely true false (closed kind top (slots_of top s))

-- where a container of a sound document is sorted, the document stays sound
abbrev pub StaysSound : Options → OrderedTree → Type 0
StaysSound o t = SoundTree o t → (kind : RowKind) (top : ℕ → Top) (s : Sort) (path : List ℕ) (u : OrderedTree)
    → DocumentChanged (container_before kind top s) (container_after kind top s) path t u → IsOrderOf top s.row s.order → SoundTree o u

-- its plain value at the path of the container has its entries in that order, and nothing else has changed
pub data SortsEntries (path order : List ℕ) (x y : Plain) : Type 0 where
  sorts_items : {vs : Items} → Changed (array vs) (array (items_in order vs)) path x y → SortsEntries path order x y
  sorts_members : {ms : Members} → Changed (object ms) (object (members_in order ms)) path x y → SortsEntries path order x y

abbrev pub SortsValue : Options → OrderedTree → Plain → Type 0
SortsValue o t x = DocumentValueOf o t (Some x) → (kind : RowKind) (top : ℕ → Top) (s : Sort) (path : List ℕ) (u : OrderedTree)
    → DocumentChanged (container_before kind top s) (container_after kind top s) path t u → IsOrderOf top s.row s.order
    → (y : Plain) × DocumentValueOf o u (Some y) × SortsEntries path s.order x y

-- and where it is sound it has each mark as often as before
abbrev pub KeepsAllMarks : Options → OrderedTree → (Mark → Bool) → Type 0
KeepsAllMarks o t test = SoundTree o t → (kind : RowKind) (top : ℕ → Top) (s : Sort) (path : List ℕ) (u : OrderedTree)
    → DocumentChanged (container_before kind top s) (container_after kind top s) path t u → IsOrderOf top s.row s.order
    → count_by test (marks u) ≡ count_by test (marks t)
