-- Laws of paths and changes: what is said of each list of nodes, node or change.
use Rattle.std.specs.Prelude.{◌≡◌, ◌<◌, ℕ, false, List, length, take, drop, Option, Some, IsTrue}
use Rattle.jsonc_text.specs.Options.{Options}
use Rattle.jsonc_text.specs.Plain.{Plain}
use Rattle.jsonc_tree.specs.Tree.{Node, content_at, parent_at, children_at, IsTree, IsOver}
use Rattle.jsonc_tree.specs.OrderedTree.{OrderedTree, followed_by, ordered_tree, Shows, Top}
use Rattle.jsonc_tree.specs.Values.{DocumentValueOf}
use Rattle.jsonc_sound.specs.Shape.{DocumentShaped}
use Rattle.jsonc_sound.specs.Sound.{HasValue, IsNewValue}
use Rattle.jsonc_sound.specs.TreeChanges.{IsElement}
use Rattle.jsonc_sound.specs.ChangeLaws.{HasChangedValue}
use Rattle.jsonc_layout.specs.from_input.Layout.{Layout}
use Rattle.jsonc_layout.specs.from_input.Laid.{laid, laid_property}
use Rattle.jsonc_layout.specs.from_input.Texts.{IsCharacters, IsOfTexts}
use Rattle.jsonc_sound.specs.Spaces.{is_bare}
use Rattle.jsonc_sound.specs.SoundTrees.{SoundTree}
use Rattle.jsonc_edit.specs.Due.{begins_bare, ends_bare, seen_before, seen_behind}
use Rattle.jsonc_sound.specs.Properties.{IsNewProperty}
use Rattle.jsonc_edit.specs.Paths.{IsAt, Stands}
use Rattle.jsonc_edit.specs.Changes.{row_below, top_at, ChangesAt, Replaces, Respliced, LeafChanged}
use Rattle.jsonc_edit.specs.Reading.{layout_for, IsReplaced}
use Rattle.jsonc_edit.specs.Replacing.{ReplacedBy}
use Rattle.jsonc_edit.specs.Writing.{FitsLayout, IsWritable}
use Rattle.jsonc_edit.specs.Written.{Writes}

-- a path leads to no two nodes
abbrev pub HasOneNode : List Node → List ℕ → Type 0
HasOneNode ns path = (n m : ℕ) → IsAt ns path n → IsAt ns path m → n ≡ m

-- in a tree no two paths lead to a node
abbrev pub HasOnePath : List Node → ℕ → Type 0
HasOnePath ns n = IsTree ns → (p q : List ℕ) → IsAt ns p n → IsAt ns q n → p ≡ q

-- in a tree of a document's shape each node below the root has its place
abbrev pub AllStand : Options → List Node → Type 0
AllStand o ns = IsTree ns → DocumentShaped o (ordered_tree ns 0) → (n : ℕ) → IsOver ns 0 n → Stands ns n

-- in a tree a node's children stand for the row below it
abbrev pub ShowsBelow : List Node → ℕ → Type 0
ShowsBelow ns n = IsTree ns → n < length ns → Shows ns (children_at ns n) (row_below ns n)

-- where n stood, the document has changed to m with the row below that
abbrev pub ReplacesAtPath : List Node → List Node → ℕ → ℕ → Type 0
ReplacesAtPath old new n m = Replaces old new n m → ChangesAt old new n (top_at old m)

-- m and the row below it are what they were
abbrev pub KeepsReplacement : List Node → List Node → ℕ → ℕ → Type 0
KeepsReplacement old new n m = Replaces old new n m → top_at new m ≡ top_at old m

-- each node over c, and c itself, has changed where it stands to the row that is now below it
abbrev pub ChangesOver : List Node → List Node → ℕ → Type 0
ChangesOver old new c = (n : ℕ) → IsOver old n c → ChangesAt old new n (top_at new n)

-- so has each node over c that is an element still, if it was one
abbrev pub ChangesElementsOver : List Node → List Node → ℕ → Type 0
ChangesElementsOver old new c =
    (n : ℕ) → IsOver old n c → (IsElement (content_at old n) → IsElement (content_at new n)) → ChangesAt old new n (top_at new n)

-- any other node, and the row below it, are what they were
abbrev pub KeepsOthers : List Node → List Node → ℕ → Type 0
KeepsOthers old new c = (n : ℕ) → n < length old → (IsOver old n c → ⊥) → top_at new n ≡ top_at old n

-- the row below c is now what the children before the stretch stood for, what those stand for that were put in, and what those after it stood for
abbrev pub HasNewRow : {old new : List Node} {c : ℕ} → Respliced old new c → Type 0
HasNewRow {old} {new} {c} s =
    (front inner back : OrderedTree) → Shows old (take s.from (children_at old c)) front → Shows old s.put inner
    → Shows old (drop s.to (children_at old c)) back → row_below new c ≡ followed_by front (followed_by inner back)

-- the leaf is what it became, over what was below it
abbrev pub HasNewContent : {old new : List Node} {leaf : ℕ} → LeafChanged old new leaf → Type 0
HasNewContent {old} {new} {leaf} r = top_at new leaf ≡ record { content = r.content; below = row_below old leaf }

-- nothing that stands beside n ends or begins with a literal without quotes
abbrev pub IsApart : List Node → ℕ → Type 0
IsApart ns n = (ends_bare ns (seen_before ns n) ≡ false) × (begins_bare ns (seen_behind ns n) ≡ false)

-- where n stands at the path in a sound document, and a node that may stand there takes its place, the document that
-- this makes is sound, if no literal without quotes comes to stand beside another
abbrev pub StaysSoundAt : Options → List Node → List Node → List ℕ → ℕ → ℕ → Type 0
StaysSoundAt o old new path n m =
    IsTree old → SoundTree o (ordered_tree old 0) → IsAt old path n → (now : Top) (v : Plain) → Replaces old new n m
    → top_at old m ≡ now → IsNewValue o now v → (IsTrue (is_bare now.content) → IsApart old n)
    → SoundTree o (ordered_tree new 0)

-- where n stands at the path in a document of value x, and is replaced by a node of value v, so is its value there
abbrev pub ChangesValueAt : Options → List Node → List Node → List ℕ → ℕ → Plain → Type 0
ChangesValueAt o old new path n x =
    DocumentValueOf o (ordered_tree old 0) (Some x) → IsAt old path n → (now : Top) (v : Plain)
    → ChangesAt old new n now → HasValue o now v → HasChangedValue o (top_at old n) path (ordered_tree new 0) x v

-- in a layout that fits, a value that may be written is laid out as a whole value
abbrev pub LaysOutWhole : Options → Layout → Plain → Type 0
LaysOutWhole o layout v = FitsLayout o layout → IsWritable o v → IsNewValue o (laid layout v) v

-- and under a name as a whole property
abbrev pub LaysOutWholeNamed : Options → Layout → List ℕ → Plain → Type 0
LaysOutWholeNamed o layout name v =
    FitsLayout o layout → IsCharacters name → IsWritable o v → IsNewProperty o (laid_property layout name v).below name v

-- the layout that a document of the grammar's shape tells for what replaces n, a node of it and a child of c, is one that such documents may have
abbrev pub HasFittingLayout : Options → List Node → ℕ → ℕ → Type 0
HasFittingLayout o ns c n =
    IsTree ns → DocumentShaped o (ordered_tree ns 0) → IsOver ns 0 n → parent_at ns n ≡ Some c → FitsLayout o (layout_for ns c n)

-- a document has no two values
abbrev pub HasOneValue : Options → OrderedTree → Type 0
HasOneValue o t = (v w : Option Plain) → DocumentValueOf o t v → DocumentValueOf o t w → v ≡ w

-- where n stands at the path in a document of value x, this has become x but that at the path v stands
abbrev pub ChangesValueTo : Options → List Node → List Node → List ℕ → ℕ → Plain → Plain → Type 0
ChangesValueTo o old new path n x v =
    DocumentValueOf o (ordered_tree old 0) (Some x) → IsAt old path n → HasChangedValue o (top_at old n) path (ordered_tree new 0) x v

-- so it is wherever n is replaced by a value of texts, laid out in this layout
abbrev pub ChangesValueLaidOut : Options → List Node → List Node → ℕ → ℕ → Layout → Plain → Type 0
ChangesValueLaidOut o old new n m layout v =
    IsTree old → IsOfTexts v → ReplacedBy old new n m (laid layout v) → (path : List ℕ) (x : Plain) → ChangesValueTo o old new path n x v

-- or as the document tells
abbrev pub ChangesValueReplaced : Options → List Node → List Node → ℕ → ℕ → Plain → Type 0
ChangesValueReplaced o old new n m v =
    IsTree old → IsOfTexts v → IsReplaced old new n v m → (path : List ℕ) (x : Plain) → ChangesValueTo o old new path n x v

-- a value is written where a node is replaced by it, laid out in a layout that fits
abbrev pub WritesLaidOut : Options → List Node → List Node → ℕ → ℕ → Layout → Plain → Type 0
WritesLaidOut o old new n m layout v = IsTree old → FitsLayout o layout → ReplacedBy old new n m (laid layout v) → Writes o old new n m v

-- or as the document tells
abbrev pub WritesReplaced : Options → List Node → List Node → ℕ → ℕ → Plain → Type 0
WritesReplaced o old new n m v = IsTree old → IsReplaced old new n v m → Writes o old new n m v

-- where n is replaced by a value, this stands at the path of n
abbrev pub TakesPath : List Node → List Node → ℕ → ℕ → Layout → Plain → Type 0
TakesPath old new n m layout v = IsTree old → ReplacedBy old new n m (laid layout v) → (path : List ℕ) → IsAt old path n → IsAt new path m
