-- Laws of elements that come in: which nodes change, and where the new one stands.
use Rattle.std.specs.Prelude.{◌≡◌, ◌≢◌, ◌≤◌, ◌<◌, ◌⊎◌, ℕ, true, List, length, min, Some, None}
use Rattle.jsonc_text.specs.Plain.{Plain}
use Rattle.jsonc_tree.specs.Tree.{Node, content_at, parent_at, children_at, IsTree}
use Rattle.jsonc_layout.specs.nodes.Siblings.{elements_at}
use Rattle.jsonc_edit.specs.Paths.{IsElementOf}
use Rattle.jsonc_insert.specs.Planned.{has_brackets}
use Rattle.jsonc_insert.specs.Inserted.{ElementPut}
use Rattle.jsonc_layout.specs.nodes.Kinds.{is_blank_at}

-- the new node is the element of this number, or the last where there were fewer
abbrev pub TakesItsNumber : List Node → List Node → ℕ → ℕ → Plain → ℕ → Type 0
TakesItsNumber old new c i v m =
    IsTree old → c < length old → has_brackets old (children_at old c) ≡ true → ElementPut old new c i v m
    → IsElementOf new c (min i (length (elements_at old c))) m

-- each node that was there is what it was; but for the container it has the children that it had, and but for those of the container its parent
pub record KeepsNodesBut (old new : List Node) (c : ℕ) : Type 0 where
  pub len : length old ≤ length new
  pub content : (n : ℕ) → n < length old → content_at new n ≡ content_at old n
  pub children : (n : ℕ) → n < length old → n ≢ c → children_at new n ≡ children_at old n
  pub parent : (n : ℕ) → n < length old → parent_at old n ≢ Some c → parent_at new n ≡ parent_at old n

-- the container's row is the new one, and all other nodes are what they were
abbrev pub ChangesOneRow : List Node → List Node → ℕ → ℕ → Plain → ℕ → Type 0
ChangesOneRow old new c i v m =
    IsTree old → c < length old → has_brackets old (children_at old c) ≡ true → (e : ElementPut old new c i v m) → (children_at new c ≡ e.row)
    × KeepsNodesBut old new c

-- no more than the last place is asked for: past the end all numbers do the same
abbrev pub PastTheEnd : List Node → List Node → ℕ → ℕ → ℕ → Plain → ℕ → Type 0
PastTheEnd old new c i j v m = has_brackets old (children_at old c) ≡ true → length (elements_at old c) ≤ i → length (elements_at old c) ≤ j
    → ElementPut old new c i v m → ElementPut old new c j v m

-- a child of the container is one still, or it is whitespace or the end of a line, and is detached now
abbrev pub LosesBlanksAlone : List Node → List Node → ℕ → ℕ → Plain → ℕ → Type 0
LosesBlanksAlone old new c i v m =
    IsTree old → c < length old → has_brackets old (children_at old c) ≡ true → ElementPut old new c i v m
    → (n : ℕ) → parent_at old n ≡ Some c → (parent_at new n ≡ Some c) ⊎ ((is_blank_at old n ≡ true) × (parent_at new n ≡ None))
