-- What the nodes are where an element has been taken out.
use Rattle.std.specs.Prelude.{◌≡◌, ℕ, ◌+◌, ◌-◌, ◌==◌, Bool, true, false, not, ◌&&◌, IsTrue, List, [], ◌∷◌, ◌++◌, length, drop, reverse, Option, Some, None, if◌then◌else◌, bytes_eq}
use Rattle.jsonc_tree.specs.Content.{Content, root, array, object}
use Rattle.jsonc_tree.specs.Changes.{Splices}
use Rattle.jsonc_tree.specs.Siblings.{first}
use Rattle.jsonc_tree.specs.Tree.{Node, content_at, children_at, parent_at, place_at}
use Rattle.jsonc_layout.specs.nodes.Kinds.{is_property, is_token}
use Rattle.jsonc_layout.specs.lines.Kinds.{is_array_or_object}
use Rattle.jsonc_edit.specs.Due.{space_needed_between, listed, seen_before}
use Rattle.jsonc_edit.specs.Put.{AreDue, AreSpaced, Extends}
use Rattle.jsonc_text.specs.declared.edit.EditError.{EditError}
use Rattle.jsonc_text.specs.declared.edit.EditError.TheVariants.{OutOfMemory, MissingBrackets}
use Rattle.jsonc_edit.specs.remove.Leaving.{comes_to, comma_gone, first_gone, last_gone}

-- the first and the last child of a container are tokens, and two
abbrev pub is_token_at : List Node → Option ℕ → Bool
is_token_at ns None = false
is_token_at ns (Some m) = is_token (content_at ns m)

abbrev pub has_two : List ℕ → Bool
has_two (m ∷ k ∷ rest) = true
has_two xs = false

abbrev pub has_brackets : List Node → ℕ → Bool
has_brackets ns c = has_two (children_at ns c) && (is_token_at ns (first (children_at ns c)) && is_token_at ns (first (reverse (children_at ns c))))

-- the comma that leaves from before n, in an array or object
abbrev pub comma_in : List Node → ℕ → ℕ → Option ℕ
comma_in ns c n = if is_array_or_object (content_at ns c) then comma_gone ns n else None

-- Before which nodes spaces are due where the siblings from one to another leave, and this comma before them: where the
-- comma stood, and where they stood. Where nothing that prints stands between, these are one place. What leaves a
-- property leaves no space.
abbrev pub is_next : Option ℕ → Option ℕ → Bool
is_next (Some m) (Some n) = bytes_eq (m ∷ []) (n ∷ [])
is_next m n = false

abbrev pub space_needed_at_comma : List Node → ℕ → Option ℕ → Option ℕ
space_needed_at_comma ns from None = None
space_needed_at_comma ns from (Some k) = if is_next (seen_before ns from) (Some k) then None else space_needed_between ns k k

abbrev pub space_needed_at_stretch : List Node → ℕ → ℕ → Option ℕ → Option ℕ
space_needed_at_stretch ns from to None = space_needed_between ns from to
space_needed_at_stretch ns from to (Some k) = if is_next (seen_before ns from) (Some k) then space_needed_between ns k to else space_needed_between ns from to

abbrev pub space_needed_before_gap : List Node → ℕ → ℕ → Option ℕ
space_needed_before_gap ns c n = space_needed_at_comma ns (first_gone ns n) (comma_in ns c n)

abbrev pub space_needed_after_gap : List Node → ℕ → ℕ → Option ℕ
space_needed_after_gap ns c n = if is_property (content_at ns c) then None else space_needed_at_stretch ns (first_gone ns n) (last_gone ns n) (comma_in ns c n)

-- this child leaves, if there is one
abbrev pub LosesChild : List Node → List Node → ℕ → Option ℕ → Type 0
LosesChild old new c None = new ≡ old
LosesChild old new c (Some k) = Splices old new c (place_at old k) (place_at old k + 1) []

-- it is this node
abbrev pub is_node : Option ℕ → ℕ → Bool
is_node None m = false
is_node (Some n) m = m == n

-- past blanks the row comes to this node, if there is one
abbrev pub comes_to_last : List Node → Option ℕ → List ℕ → Bool
comes_to_last ns None row = false
comes_to_last ns (Some last) row = comes_to ns (Some last) row

-- nothing but blanks stands between the first and the last of a row
abbrev pub blank_between : List Node → List ℕ → Bool
blank_between ns row = comes_to_last ns (first (reverse row)) (drop 1 row)

-- nothing but blanks stands between the first and the last child of an array or object, or in the root
abbrev pub is_hollow_as : Content → List Node → List ℕ → Bool
is_hollow_as array ns row = blank_between ns row
is_hollow_as object ns row = blank_between ns row
is_hollow_as root ns row = comes_to ns None row
is_hollow_as content ns row = false

abbrev pub is_hollow : List Node → ℕ → Bool
is_hollow ns c = is_hollow_as (content_at ns c) ns (children_at ns c)

-- they leave then
abbrev pub hollow_from : List Node → ℕ → ℕ
hollow_from ns c = if is_array_or_object (content_at ns c) then 1 else 0

abbrev pub hollow_to : List Node → ℕ → ℕ
hollow_to ns c = length (children_at ns c) - hollow_from ns c

abbrev pub IsClosedUp : List Node → List Node → ℕ → Type 0
IsClosedUp old new c = (IsTrue (is_hollow old c) → Splices old new c (hollow_from old c) (hollow_to old c) []) × (IsTrue (not (is_hollow old c)) → new ≡ old)

-- The element n has been taken out of its container, c: the spaces that are due were made, and have come; what leaves
-- with n has left, and the comma before it, if that leaves; and then blanks that were left alone.
pub record IsTakenFrom (old new : List Node) (n c : ℕ) : Type 0 where
  pub ready : List Node
  pub spaced : List Node
  pub parted : List Node
  pub joined : List Node
  pub prepared : Extends old ready
  pub spaces : AreSpaced ready (listed (space_needed_before_gap old c n) ++ listed (space_needed_after_gap old c n)) spaced
  pub stretch : Splices spaced parted c (place_at spaced (first_gone old n)) (place_at spaced (last_gone old n) + 1) []
  pub comma : LosesChild parted joined c (comma_in old c n)
  pub closed : IsClosedUp joined new c

-- an array or object from which an element is taken has its brackets
abbrev pub HasBracketsIfHolds : List Node → ℕ → Type 0
HasBracketsIfHolds ns c = IsTrue (is_array_or_object (content_at ns c)) → IsTrue (has_brackets ns c)

-- so wherever the element has a parent
abbrev pub TakesElement : List Node → List Node → ℕ → Type 0
TakesElement old new n = (c : ℕ) → parent_at old n ≡ Some c → HasBracketsIfHolds old c × IsTakenFrom old new n c

-- why it has not been taken out: a space is due, and its allocation failed; or its container lacks brackets
abbrev pub IsKeptFor : List Node → ℕ → EditError → Type 0
IsKeptFor ns n OutOfMemory = (c : ℕ) × (parent_at ns n ≡ Some c) × AreDue (space_needed_before_gap ns c n) (space_needed_after_gap ns c n)
IsKeptFor ns n MissingBrackets = (c : ℕ) × (parent_at ns n ≡ Some c) × IsTrue (is_array_or_object (content_at ns c)) × IsTrue (not (has_brackets ns c))
IsKeptFor ns n why = ⊥
