-- How the nodes are stored in memory: by links.
use Rattle.std.specs.Prelude.{◌≡◌, ◌≤◌, ◌+◌, ◌^◌, ◌-◌, length, Vec, Bool, ℕ, zero, suc, List, [], ◌∷◌, Option, Some, None, string_bytes, map, slice_index_or, slice_get, slice_set, if◌then◌else◌}
use Rattle.jsonc_tree.specs.Content as content
use Rattle.jsonc_tree.specs.Content.{Content}
use Rattle.jsonc_tree.specs.Tree as tree
use Rattle.jsonc_tree.specs.Tree.{children_at, is_newline_at, parent_at, IsTree}
use Rattle.jsonc_tree.specs.Siblings.{before}
use Rattle.jsonc_tree.specs.declared.node.Ends.{Ends}
use Rattle.jsonc_tree.specs.declared.node.Kind.{Kind}
use Rattle.jsonc_tree.specs.declared.node.Kind.TheVariants.{Root, Object, Array, Property, String, Word, Number, Boolean, Null, Token, Whitespace, Newline, Comment, StringPart, WordPart, NumberPart, WhitespacePart, CommentPart}

module _ {A : Type 0} where
  -- what a node of this kind is
  abbrev pub content_of : Kind A → Content
  content_of (Root ends) = content.root
  content_of (Object ends) = content.object
  content_of (Array ends) = content.array
  content_of (Property ends) = content.property
  content_of (String s) = content.string (string_bytes s)
  content_of (Word s) = content.word (string_bytes s)
  content_of (Number s) = content.number (string_bytes s)
  content_of (Boolean b) = content.boolean b
  content_of Null = content.null
  content_of (Token c) = content.token c
  content_of (Whitespace s) = content.whitespace (string_bytes s)
  content_of (Newline k) = content.newline k
  content_of (Comment s) = content.comment (string_bytes s)
  content_of (StringPart s) = content.string s
  content_of (WordPart s) = content.word s
  content_of (NumberPart s) = content.number s
  content_of (WhitespacePart s) = content.whitespace s
  content_of (CommentPart s) = content.comment s

  -- the first child of a container of this kind
  abbrev pub first_end : Kind A → Option ℕ
  first_end (Root ends) = ends.first
  first_end (Object ends) = ends.first
  first_end (Array ends) = ends.first
  first_end (Property ends) = ends.first
  first_end _ = None

  -- its last child
  abbrev pub last_end : Kind A → Option ℕ
  last_end (Root ends) = ends.last
  last_end (Object ends) = ends.last
  last_end (Array ends) = ends.last
  last_end (Property ends) = ends.last
  last_end _ = None

-- the ends of a container without children
abbrev pub no_ends : Ends
no_ends = record { first = None; last = None }

-- a node as it is linked: what it is, its parent, its neighbours, the ends of its row, and how many ends of lines stand in that
pub record LinkedNode : Type 0 where
  pub content : Content
  pub parent : Option ℕ
  pub previous : Option ℕ
  pub next : Option ℕ
  pub first : Option ℕ
  pub last : Option ℕ
  pub lines : ℕ

-- a node that is detached
abbrev pub bare : Content → LinkedNode
bare content = record { content = content; parent = None; previous = None; next = None; first = None; last = None; lines = 0 }

abbrev pub nowhere : LinkedNode
nowhere = bare content.null

abbrev pub link_at : List LinkedNode → ℕ → LinkedNode
link_at ls n = slice_index_or ls n nowhere

-- the nodes from here on along the next links, in at most so many steps
abbrev pub chain : ℕ → List LinkedNode → Option ℕ → List ℕ
chain steps ls None = []
chain zero ls (Some n) = []
chain (suc steps) ls (Some n) = n ∷ chain steps ls (link_at ls n).next

-- a node as it is shown
abbrev pub shown : List LinkedNode → LinkedNode → tree.Node
shown ls n = record { content = n.content; parent = n.parent; children = chain (length ls) ls n.first }

abbrev pub nodes_of : List LinkedNode → List tree.Node
nodes_of ls = map (shown ls) ls

abbrev pub nodes_in : {A : Type 0} → Vec LinkedNode A → List tree.Node
nodes_in v = nodes_of v.items

-- the link from a child of the container to the next, or from the container to its first
abbrev pub ahead_at : List LinkedNode → ℕ → Option ℕ → Option ℕ
ahead_at ls c None = (link_at ls c).first
ahead_at ls c (Some n) = (link_at ls n).next

-- the link from a child of the container to the one before, or from the container to its last
abbrev pub back_at : List LinkedNode → ℕ → Option ℕ → Option ℕ
back_at ls c None = (link_at ls c).last
back_at ls c (Some n) = (link_at ls n).previous

-- the nodes, but that this link leads here
abbrev pub ahead_set : List LinkedNode → ℕ → Option ℕ → Option ℕ → List LinkedNode
ahead_set ls c None to = slice_set ls c (record (link_at ls c) { first = to })
ahead_set ls c (Some n) to = slice_set ls n (record (link_at ls n) { next = to })

abbrev pub back_set : List LinkedNode → ℕ → Option ℕ → Option ℕ → List LinkedNode
back_set ls c None to = slice_set ls c (record (link_at ls c) { last = to })
back_set ls c (Some n) to = slice_set ls n (record (link_at ls n) { previous = to })

-- but that this node has this parent and these neighbours
abbrev pub place_set : List LinkedNode → ℕ → Option ℕ → Option ℕ → Option ℕ → List LinkedNode
place_set ls n parent previous next = slice_set ls n (record (link_at ls n) { parent = parent; previous = previous; next = next })

-- but that this leaf is another
abbrev pub leaf_set : List LinkedNode → ℕ → Content → List LinkedNode
leaf_set ls n content = slice_set ls n (record (link_at ls n) { content = content })

-- but that so many ends of lines are counted in this container
abbrev pub lines_set : List LinkedNode → ℕ → ℕ → List LinkedNode
lines_set ls c to = slice_set ls c (record (link_at ls c) { lines = to })

-- one where it is so
abbrev pub one_if : Bool → ℕ
one_if b = if b then 1 else 0

-- but that the end of a line that came into this container, or left it, is counted
abbrev pub counted_in : List LinkedNode → ℕ → Bool → List LinkedNode
counted_in ls c b = lines_set ls c ((link_at ls c).lines + one_if b)

abbrev pub counted_out : List LinkedNode → ℕ → Bool → List LinkedNode
counted_out ls c b = lines_set ls c ((link_at ls c).lines - one_if b)

-- how many of these nodes are ends of lines
abbrev pub line_ends : List tree.Node → List ℕ → ℕ
line_ends ns [] = 0
line_ends ns (n ∷ row) = one_if (is_newline_at ns n) + line_ends ns row

-- Over each gap of each row the links lead from what stands before it to what stands behind it, and back; the container stands at both ends of its row. A
-- node without a parent has no neighbours.
pub record IsLinked (ls : List LinkedNode) (ns : List tree.Node) : Type 0 where
  pub ahead : (c k : ℕ) → k ≤ length (children_at ns c) → ahead_at ls c (before (children_at ns c) k) ≡ slice_get (children_at ns c) k
  pub back : (c k : ℕ) → k ≤ length (children_at ns c) → back_at ls c (slice_get (children_at ns c) k) ≡ before (children_at ns c) k
  pub alone : (n : ℕ) → parent_at ns n ≡ None → ((link_at ls n).next ≡ None) × ((link_at ls n).previous ≡ None)

-- the nodes from here on along the previous links, in at most so many steps
abbrev pub chain_back : ℕ → List LinkedNode → Option ℕ → List ℕ
chain_back steps ls None = []
chain_back zero ls (Some n) = []
chain_back (suc steps) ls (Some n) = n ∷ chain_back steps ls (link_at ls n).previous

-- this stands before a gap of a row
abbrev pub StandsBefore : List LinkedNode → Option ℕ → Type 0
StandsBefore ls o = (c : ℕ) × (k : ℕ) × (k ≤ length (children_at (nodes_of ls) c)) × (o ≡ before (children_at (nodes_of ls) c) k)

-- this stands at a place of a row, or past its end
abbrev pub Stands : List LinkedNode → Option ℕ → Type 0
Stands ls o = (c : ℕ) × (k : ℕ) × (k ≤ length (children_at (nodes_of ls) c)) × (o ≡ slice_get (children_at (nodes_of ls) c) k)

-- what is shown is a tree, the links are those of its rows, each container counts its ends of lines, and each node has a number that a link can hold
pub record IsStored (ls : List LinkedNode) : Type 0 where
  pub tree : IsTree (nodes_of ls)
  pub linked : IsLinked ls (nodes_of ls)
  pub lines : (c : ℕ) → (link_at ls c).lines ≡ line_ends (nodes_of ls) (children_at (nodes_of ls) c)
  pub few : length ls ≤ 2 ^ 32 - 1
