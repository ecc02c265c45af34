-- What the nodes are where the comments of an element that has been taken out leave.
use Rattle.std.specs.Prelude.{◌≡◌, ◌≢◌, ℕ, zero, suc, ◌+◌, Bool, true, false, List, [], ◌∷◌, Option, Some, None, slice_index, if◌then◌else◌}
use Rattle.jsonc_tree.specs.Changes.{Splices}
use Rattle.jsonc_tree.specs.Siblings.{siblings_after}
use Rattle.jsonc_tree.specs.Tree.{Node, children_at, parent_at, place_at, IsTree}
use Rattle.jsonc_layout.specs.nodes.Kinds.{is_newline_at, is_whitespace_at}
use Rattle.jsonc_edit.specs.Comments.{blanks_from, space_needed_without, IsRemoved}
use Rattle.jsonc_edit.specs.remove.Removed.{IsClosedUp}

-- among the children of c, where the whitespace directly before n begins, or n
abbrev pub blanks_at : List Node → ℕ → ℕ → ℕ
blanks_at ns c n = blanks_from ns (children_at ns c) (place_at ns n)

-- a newline stands directly before a place of a row
abbrev pub begins_line : List Node → List ℕ → ℕ → Bool
begins_line ns row zero = false
begins_line ns row (suc place) = is_newline_at ns (slice_index row place)

-- the newline that a row comes to past whitespace
abbrev pub line_in : List Node → List ℕ → Option ℕ
line_in ns [] = None
line_in ns (m ∷ rest) = if is_newline_at ns m then Some m else (if is_whitespace_at ns m then line_in ns rest else None)

abbrev pub line_behind : List Node → ℕ → Option ℕ
line_behind ns n = line_in ns (siblings_after ns n)

-- the last that leaves with a comment, n, with which its line begins: the newline of the line, if n is alone on that
abbrev pub or_itself : ℕ → Option ℕ → ℕ
or_itself n None = n
or_itself n (Some line) = line

abbrev pub last_cleared : List Node → ℕ → ℕ
last_cleared ns n = or_itself n (line_behind ns n)

-- Where its line begins with it, n has left with the whitespace before it, and from a line of its own with all of that. Else it has left as a comment does
-- that is taken out alone, or it stands there still, where a space would have been due in its place.
abbrev pub ClearedBy : List Node → List Node → ℕ → ℕ → Bool → Option ℕ → Type 0
ClearedBy old new c n true due = Splices old new c (blanks_at old c n) (place_at old (last_cleared old n) + 1) []
ClearedBy old new c n false None = IsRemoved old new n
ClearedBy old new c n false (Some k) = new ≡ old

abbrev pub IsCleared : List Node → List Node → ℕ → ℕ → Type 0
IsCleared old new c n = ClearedBy old new c n (begins_line old (children_at old c) (blanks_at old c n)) (space_needed_without old c n)

-- so have those of these comments that the container had, one after another; and then blanks that were left alone
pub data AreCleared : List Node → List Node → ℕ → List ℕ → Type 0 where
  none_left : {old new : List Node} {c : ℕ} → IsClosedUp old new c → AreCleared old new c []
  not_there : {old new : List Node} {c n : ℕ} {rest : List ℕ} → parent_at old n ≢ Some c → AreCleared old new c rest → AreCleared old new c (n ∷ rest)
  one_cleared : {old new : List Node} {c n : ℕ} {rest : List ℕ} (mid : List Node) → IsTree mid → parent_at old n ≡ Some c → IsCleared old mid c n
      → AreCleared mid new c rest → AreCleared old new c (n ∷ rest)
