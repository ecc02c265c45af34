-- The value of the root, where it is set: another is replaced by it, or it is the first.
use Rattle.std.specs.Prelude.{◌≡◌, ◌≢◌, ◌≤◌, ◌<◌, ◌==◌, ℕ, Bool, false, List, [], ◌∷◌, ◌++◌, length, map, reverse, take, Option, None, Some, IfSome, if◌then◌else◌}
use Rattle.jsonc_text.specs.Plain.{Plain}
use Rattle.jsonc_tree.specs.Changes.{CanJoin, Splices}
use Rattle.jsonc_tree.specs.Content.{Content, newline}
use Rattle.jsonc_tree.specs.Tree.{Node, content_at, parent_at, children_at, IsTree}
use Rattle.jsonc_tree.specs.declared.node.CstNewlineKind.{CstNewlineKind}
use Rattle.jsonc_layout.specs.nodes.Kinds.{is_comment_at}
use Rattle.jsonc_layout.specs.lines.Breadth.{newline_kind_of}
use Rattle.jsonc_edit.specs.Due.{listed, nearest}
use Rattle.jsonc_edit.specs.Put.{Extends}
use Rattle.jsonc_edit.specs.Changes.{top_at}
use Rattle.jsonc_edit.specs.Comments.{newline_from}
use Rattle.jsonc_edit.specs.Reading.{layout_for}
use Rattle.jsonc_layout.specs.from_input.Laid.{laid}

-- where a first value comes in a row of nodes: before the last, if that is a newline, else behind all
abbrev pub place_in : List Node → List ℕ → ℕ
place_in ns row = newline_from ns row (length row)

-- a comment is found
abbrev pub is_comment_in : List Node → Option ℕ → Bool
is_comment_in ns None = false
is_comment_in ns (Some n) = is_comment_at ns n

-- of what stands before this place of a row the nearest that prints something is a comment
abbrev pub follows_comment : List Node → List ℕ → ℕ → Bool
follows_comment ns row place = is_comment_in ns (nearest ns (reverse (take place row)))

-- nothing stands behind it
abbrev pub ends_row : List ℕ → ℕ → Bool
ends_row row place = place == length row

-- the place in the root's row
abbrev pub first_place : List Node → ℕ
first_place ns = place_in ns (children_at ns 0)

-- a newline is wanted before a first value: it would stand directly behind a comment
abbrev pub leads_in : List Node → Bool
leads_in ns = follows_comment ns (children_at ns 0) (first_place ns)

-- one is wanted behind it: nothing stands there
abbrev pub leads_out : List Node → Bool
leads_out ns = ends_row (children_at ns 0) (first_place ns)

-- a newline of this kind, where one is wanted
abbrev pub line_end_if : Bool → CstNewlineKind → List Content
line_end_if wanted kind = if wanted then newline kind ∷ [] else []

-- a new leaf, if it is one, which is detached
abbrev pub IsFresh : List Node → List Node → Option ℕ → Type 0
IsFresh old new o = IfSome o (λ leaf. (length old ≤ leaf) × (leaf < length new) × (parent_at new leaf ≡ None))

-- a newline has been made where one is wanted
pub record LineEndMade (old new : List Node) (wanted : Bool) (kind : CstNewlineKind) (o : Option ℕ) : Type 0 where
  pub is : map (content_at new) (listed o) ≡ line_end_if wanted kind
  pub fresh : IsFresh old new o

-- A first value has come into the root's row, as the node m: its nodes and the newlines were made ready, and then it
-- came to its place, with a newline before it and one behind it where they are wanted.
pub record FirstValue (old new : List Node) (v : Plain) (m : ℕ) : Type 0 where
  pub ready : List Node
  pub before : List ℕ
  pub behind : List ℕ
  pub fresh : length old ≤ m
  pub prepared : Extends old ready
  pub is : top_at ready m ≡ laid (layout_for old 0 0) v
  pub leads : map (content_at ready) before ≡ line_end_if (leads_in old) (newline_kind_of old)
  pub ends : map (content_at ready) behind ≡ line_end_if (leads_out old) (newline_kind_of old)
  pub join : CanJoin ready 0 (first_place old) (first_place old) (before ++ m ∷ behind)
  pub put : Splices ready new 0 (first_place old) (first_place old) (before ++ m ∷ behind)
  pub tree : IsTree new

-- each node that was there is what it was, and but for the root has the children that it had
pub record KeepsNodes (old new : List Node) : Type 0 where
  pub len : length old ≤ length new
  pub content : (n : ℕ) → n < length old → content_at new n ≡ content_at old n
  pub parent : (n : ℕ) → n < length old → parent_at new n ≡ parent_at old n
  pub children : (n : ℕ) → n < length old → n ≢ 0 → children_at new n ≡ children_at old n
