-- Laws of properties that come in: which nodes change, and where the new one stands.
use Rattle.std.specs.Prelude.{◌≡◌, ◌≤◌, ◌<◌, ◌⊎◌, ℕ, true, List, [], ◌∷◌, ◌++◌, length, min, Some, None}
use Rattle.jsonc_text.specs.Options.{Options}
use Rattle.jsonc_text.specs.Plain.{Plain}
use Rattle.jsonc_tree.specs.Content.{object, token}
use Rattle.jsonc_tree.specs.OrderedTree.{OrderedTree, ordered_tree, Shows}
use Rattle.jsonc_tree.specs.Tree.{Node, content_at, parent_at, children_at, IsTree}
use Rattle.jsonc_layout.specs.nodes.Siblings.{elements_at}
use Rattle.jsonc_layout.specs.from_input.Laid.{laid_property}
use Rattle.jsonc_sound.specs.Rows.{of_properties}
use Rattle.jsonc_sound.specs.SoundTrees.{SoundTree}
use Rattle.jsonc_edit.specs.Changes.{top_at, ChangesAt}
use Rattle.jsonc_edit.specs.Paths.{IsAt, IsElementOf}
use Rattle.jsonc_edit.specs.Writing.{FitsLayout, IsIndent}
use Rattle.jsonc_text.specs.declared.edit.EditError.TheVariants.{OutOfMemory}
use Rattle.jsonc_insert.specs.Inserted.{refusal}
use Rattle.jsonc_insert.specs.Laws.{KeepsNodesBut}
use Rattle.jsonc_insert.specs.Planned.{has_brackets}
use Rattle.jsonc_insert.specs.Settings.{layout_inside, outer_indent}
use Rattle.jsonc_layout.specs.nodes.Kinds.{is_blank_at}
use Rattle.jsonc_edit.specs.multiline.Laws.{bracketed}
use Rattle.jsonc_edit.specs.multiline.Reflows.{SpreadsOut}
use Rattle.jsonc_insert.specs.members.Inserted.{PropertyPut}

-- the new node is the property of this number, or the last where there were fewer
abbrev pub TakesItsNumber : List Node → List Node → ℕ → ℕ → List ℕ → Plain → ℕ → Type 0
TakesItsNumber old new c i name v m =
    IsTree old → c < length old → has_brackets old (children_at old c) ≡ true → PropertyPut old new c i name v m
    → IsElementOf new c (min i (length (elements_at old c))) m

-- the object's row is the new one, and all other nodes are what they were
abbrev pub ChangesOneRow : List Node → List Node → ℕ → ℕ → List ℕ → Plain → ℕ → Type 0
ChangesOneRow old new c i name v m =
    IsTree old → c < length old → (e : PropertyPut old new c i name v m) → (children_at new c ≡ e.row) × KeepsNodesBut old new c

-- no more than the last place is asked for: past the end all numbers do the same
abbrev pub PastTheEnd : List Node → List Node → ℕ → ℕ → ℕ → List ℕ → Plain → ℕ → Type 0
PastTheEnd old new c i j name v m =
    IsTree old → c < length old → has_brackets old (children_at old c) ≡ true → length (elements_at old c) ≤ i → length (elements_at old c) ≤ j
    → PropertyPut old new c i name v m → PropertyPut old new c j name v m

-- a child of the object is one still, or it is whitespace or the end of a line, and is detached now
abbrev pub LosesBlanksAlone : List Node → List Node → ℕ → ℕ → List ℕ → Plain → ℕ → Type 0
LosesBlanksAlone old new c i name v m =
    IsTree old → c < length old → has_brackets old (children_at old c) ≡ true → PropertyPut old new c i name v m
    → (n : ℕ) → parent_at old n ≡ Some c → (parent_at new n ≡ Some c) ⊎ ((is_blank_at old n ≡ true) × (parent_at new n ≡ None))

-- The row that c had before the property came is its row spread out: what stood between its brackets had the end of a line in it, or has been put on several
-- lines.
pub record IsSpreadFirst (old lined : List Node) (c : ℕ) (lines : List ℕ) : Type 0 where
  pub open_with : ℕ
  pub inner : List ℕ
  pub last : ℕ
  pub are : lines ≡ open_with ∷ (inner ++ last ∷ [])
  pub opens : content_at lined open_with ≡ token 0x7B
  pub closes : content_at lined last ≡ token 0x7D
  pub row : OrderedTree
  pub spread : OrderedTree
  pub was : top_at old c ≡ bracketed of_properties row
  pub shown : Shows lined inner spread
  pub spreads : SpreadsOut row spread

-- so it is in an object at a path of a sound document
abbrev pub SpreadsFirst : Options → List Node → List Node → List ℕ → ℕ → ℕ → List ℕ → Plain → ℕ → Type 0
SpreadsFirst o old new path c i name v m =
    IsTree old → SoundTree o (ordered_tree old 0) → IsAt old path c → content_at old c ≡ object → (e : PropertyPut old new c i name v m)
    → IsSpreadFirst old e.lined c e.before.lines

-- such an object has its brackets, so nothing is refused but for allocation failure
abbrev pub OnlyOutOfMemory : Options → List Node → List ℕ → ℕ → Type 0
OnlyOutOfMemory o ns path c =
    IsTree ns → SoundTree o (ordered_tree ns 0) → IsAt ns path c → content_at ns c ≡ object
    → (has_brackets ns (children_at ns c) ≡ true) × (refusal ns c ≡ OutOfMemory)

-- nothing outside of the object changes
abbrev pub ChangesObjectAlone : List Node → List Node → ℕ → ℕ → List ℕ → Plain → ℕ → Type 0
ChangesObjectAlone old new c i name v m = IsTree old → c < length old → PropertyPut old new c i name v m → ChangesAt old new c (top_at new c)

-- the new node is the property of this name and value, laid out as the object tells once it has the row that the property comes into
abbrev pub IsTheProperty : List Node → List Node → ℕ → ℕ → List ℕ → Plain → ℕ → Type 0
IsTheProperty old new c i name v m =
    IsTree old → c < length old → (e : PropertyPut old new c i name v m)
    → top_at new m ≡ laid_property (layout_inside e.made.kept c) name v

-- and the layout that it tells is one that documents of these options may have
abbrev pub FitsAsTold : Options → List Node → List Node → List ℕ → ℕ → ℕ → List ℕ → Plain → ℕ → Type 0
FitsAsTold o old new path c i name v m =
    IsTree old → SoundTree o (ordered_tree old 0) → IsAt old path c → content_at old c ≡ object → (e : PropertyPut old new c i name v m)
    → FitsLayout o (layout_inside e.made.kept c) × IsIndent (outer_indent e.made.kept c)
