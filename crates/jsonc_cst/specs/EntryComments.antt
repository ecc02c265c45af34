-- The comments that belong to an entry, an element of an array or a property of an object. What is before it, its lead, and what belongs to it after it
-- are read as a sort reads them (`Rattle.jsonc_sort.specs.Parts`).
use Rattle.std.specs.Prelude.{◌≡◌, ℕ, Bool, false, ◌&&◌, ◌==◌, List, [], ◌∷◌, ◌++◌, filter, map, take, IsTrue, Option, Some, None, if◌then◌else◌}
use Rattle.std.specs.List.{All}
use Rattle.jsonc_tree.specs.Content.{Content}
use Rattle.jsonc_tree.specs.Tree.{Node, children_at, content_at, parent_at}
use Rattle.jsonc_layout.specs.lines.Kinds.{is_array_or_object}
use Rattle.jsonc_layout.specs.nodes.Kinds.{is_element_at}
use Rattle.jsonc_edit.specs.multiline.Lines.{between}
use Rattle.jsonc_edit.specs.remove.Removed.{has_brackets}
use Rattle.jsonc_sort.specs.Leads.{is_comment_at, own_lead}
use Rattle.jsonc_sort.specs.Parts.{Part, parts, tail_length}
use Rattle.jsonc_sort.specs.Sorting.{Entry, Headers, entries}
use Rattle.jsonc_cst.specs.declared.cst.CstRootNode.{CstRootNode}
use Rattle.jsonc_cst.specs.declared.cst.node.CstComment.{CstComment}
use Rattle.jsonc_cst.specs.declared.cst.node.CstNode.{CstNode}
use Rattle.jsonc_cst.specs.Document.{content_of, nodes_of}
use Rattle.jsonc_cst.specs.Nodes.{number_of, typed_at}
use Rattle.jsonc_cst.specs.Readings.{comment_under, is_property_at, typed_if}
use Rattle.jsonc_cst.specs.sorting.Pins.{kept_headers}

module _ (at : ℕ → Content) where
  -- what belongs to an entry, the last or not, of what is between it and the next one or the last bracket
  abbrev pub tail_of : Bool → List ℕ → List ℕ
  tail_of last gap = take (tail_length at last gap) gap

  abbrev pub comments_around : List ℕ → List ℕ → List ℕ
  comments_around lead tail = filter (is_comment_at at) (own_lead at lead ++ tail)

  -- the comments of the part whose element this is, and of no other; the lead is before the first part
  abbrev pub comments_of_part : ℕ → List ℕ → List Part → List ℕ
  comments_of_part n lead [] = []
  comments_of_part n lead (part ∷ rest) = if part.element == n then comments_around lead part.tail else comments_of_part n part.behind rest

  abbrev pub comments_in : List ℕ → ℕ → List ℕ
  comments_in row n = comments_of_part n (parts at row).lead (parts at row).rest

  -- the comments of an entry that move with it
  abbrev pub moved_comments : Entry → List ℕ
  moved_comments e = filter (is_comment_at at) (e.lead.travels ++ e.tail)

-- the node is an element between the brackets of this array or object
abbrev pub is_entry_in : List Node → ℕ → Option ℕ → Bool
is_entry_in ns n None = false
is_entry_in ns n (Some c) = is_element_at ns n && (is_array_or_object (content_at ns c) && has_brackets ns c)

abbrev pub is_entry_at : List Node → ℕ → Bool
is_entry_at ns n = is_entry_in ns n (parent_at ns n)

-- the property that a node is the name or the value of, where it is an entry
abbrev pub entry_around : List Node → ℕ → Option ℕ → Option ℕ
entry_around ns n None = None
entry_around ns n (Some p) = if is_element_at ns n && (is_property_at ns p && is_entry_at ns p) then Some p else None

-- the entry that a node is, or is the name or the value of
abbrev pub entry_at_number : List Node → ℕ → Option ℕ
entry_at_number ns n = if is_entry_at ns n then Some n else entry_around ns n (parent_at ns n)

-- what is between the brackets
abbrev pub row_at : List Node → Option ℕ → List ℕ
row_at ns None = []
row_at ns (Some c) = between (children_at ns c)

-- the comments of an entry
abbrev pub comments_at : List Node → ℕ → List ℕ
comments_at ns n = comments_in (content_at ns) (row_at ns (parent_at ns n)) n

module _ {A : Type 0} where
  -- the entry of a node
  abbrev pub entry_of_node : CstRootNode A → CstNode → Option CstNode
  entry_of_node d node = typed_if (nodes_of d) (entry_at_number (nodes_of d) (number_of node))

  -- those of an entry, and none of a node that is no entry
  abbrev pub comments_of_entry : CstRootNode A → CstNode → List CstComment
  comments_of_entry d node = if is_entry_at (nodes_of d) (number_of node) then map comment_under (comments_at (nodes_of d) (number_of node)) else []

  -- and their numbers
  abbrev pub comment_numbers : CstRootNode A → CstNode → List ℕ
  comment_numbers d node = if is_entry_at (nodes_of d) (number_of node) then comments_at (nodes_of d) (number_of node) else []

  -- a sort under headers: of the comments above an entry all are pinned but those below its last blank line
  abbrev pub under_headers : CstRootNode A → CstNode → Headers
  under_headers d node = record { pinned = kept_headers d node; groups = false }

  -- the entries of an array or object as such a sort reads them
  abbrev pub entries_of : CstRootNode A → CstNode → List Entry
  entries_of d node = entries (content_at (nodes_of d)) (under_headers d node) (between (children_at (nodes_of d) (number_of node)))

  -- the comments that move with each entry are its own
  abbrev pub MoveTheirComments : CstRootNode A → CstNode → Type 0
  MoveTheirComments d node = IsTrue (is_array_or_object (content_of d node)) → IsTrue (has_brackets (nodes_of d) (number_of node))
      → All (λ e. comments_of_entry d (typed_at (nodes_of d) e.element) ≡ map comment_under (moved_comments (content_at (nodes_of d)) e)) (entries_of d node)
