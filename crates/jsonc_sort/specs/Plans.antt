-- A row that is planned from its end on: the nodes that fill its places, and the ends of lines among them.
use Rattle.std.specs.Prelude.{◌≡◌, ◌<◌, ◌≤◌, ◌==◌, ℕ, suc, Bool, true, false, not, List, [], ◌∷◌, ◌++◌, drop, length, map, reverse, slice_index, slice_range, if◌then◌else◌}
use Rattle.jsonc_tree.specs.Building.{Keeps}
use Rattle.jsonc_tree.specs.Changes.{Adds}
use Rattle.jsonc_tree.specs.Content.{Content, token}
use Rattle.jsonc_tree.specs.Tree.{Node, content_at, IsTree}
use Rattle.jsonc_tree.specs.declared.node.CstNewlineKind.{CstNewlineKind}
use Rattle.jsonc_layout.specs.nodes.Kinds.{is_newline_at, is_whitespace_at}
use Rattle.jsonc_edit.specs.multiline.Slots.{AreFilled}
use Rattle.jsonc_sort.specs.Slots.{Slot, stays, comes, all_stay}
use Rattle.jsonc_sort.specs.Sorting.{goes_on, lines_ended, rearranged}
use Rattle.jsonc_sort.specs.Places.{bare_tail_of, end_after, entry_of, has_comma_of, tail_of}
use Rattle.jsonc_sort.specs.declared.places.Places.{Places}
use Rattle.jsonc_sort.specs.declared.plan.Plan.{Plan}

-- what belongs to an element, with its comma or without, by its places
abbrev pub tail_by : List ℕ → Bool → Places → List Slot
tail_by row true p = if has_comma_of p then all_stay (tail_of row p) else comes (token 0x2C) ∷ all_stay (tail_of row p)
tail_by row false p = if has_comma_of p then all_stay (bare_tail_of row p) else all_stay (tail_of row p)

-- where what travels begins, before an element that comes first or not
abbrev pub travels_from : Bool → Places → ℕ
travels_from true p = p.solid
travels_from false p = p.travels

-- an entry in the place of another: what stays is that of the place, what travels that of the entry
abbrev pub entry_by : List ℕ → Bool → Bool → Places → Places → List Slot
entry_by row first comma p q =
    all_stay (slice_range row p.lead p.travels) ++ all_stay (slice_range row (travels_from first q) q.indent)
    ++ all_stay (slice_range row p.indent p.element) ++ stays (slice_index row q.element) ∷ tail_by row comma q

-- the last of the entries has a comma
abbrev pub last_has_comma : List Places → Bool
last_has_comma [] = false
last_has_comma (p ∷ []) = has_comma_of p
last_has_comma (p ∷ q ∷ ps) = last_has_comma (q ∷ ps)

-- how often a number is in a list
abbrev pub times : ℕ → List ℕ → ℕ
times n [] = 0
times n (m ∷ row) = if n == m then suc (times n row) else times n row

-- no node that was made since is in the row twice, and none that is still to be made
pub record MadeOnce (old now : List Node) (row : List ℕ) : Type 0 where
  pub once : (n : ℕ) → length old ≤ n → times n row ≤ 1
  pub none : (n : ℕ) → length now ≤ n → times n row ≡ 0

-- these nodes fill the places, each made once, and nothing that was there has changed
pub record IsReady (old now : List Node) (slots : List Slot) (row : List ℕ) : Type 0 where
  pub tree : IsTree now
  pub keeps : Keeps (length old) old now
  pub filled : AreFilled old now slots row
  pub made : MadeOnce old now row

-- what stays was there
abbrev pub Stood : List Node → List Slot → Type 0
Stood old [] = Unit {0}
Stood old (stays n ∷ slots) = (n < length old) × Stood old slots
Stood old (comes content ∷ slots) = Stood old slots

-- something else than whitespace and a line's end comes next, where this node is put before the others
abbrev pub goes_before : List Node → ℕ → Bool → Bool
goes_before ns n goes = if is_whitespace_at ns n then goes else not (is_newline_at ns n)

module _ {A : Type 0} where
  -- The end of a row has been planned, its places before the ends of lines came.
  pub record Planned (old now : List Node) (kind : CstNewlineKind) (plan : Plan A) (slots : List Slot) : Type 0 where
    pub newline : plan.newline ≡ kind
    pub goes_on : plan.goes_on ≡ goes_on (content_at old) slots
    pub ready : IsReady old now (lines_ended (content_at old) kind slots) (reverse plan.nodes.items)

  -- whatever was planned is planned still, with these places before it
  abbrev pub Gains : List Node → Plan A → List Node → Plan A → List Slot → Type 0
  Gains now plan later next more = (old : List Node) (kind : CstNewlineKind) (slots : List Slot)
      → Planned old now kind plan slots → Stood old more → Planned old later kind next (more ++ slots)

  -- a leaf has been made, and is planned first
  pub record GainsLeaf (now : List Node) (plan : Plan A) (later : List Node) (next : Plan A) (content : Content) : Type 0 where
    pub added : Adds now later content
    pub newline : next.newline ≡ plan.newline
    pub goes_on : next.goes_on ≡ plan.goes_on
    pub nodes : next.nodes.items ≡ plan.nodes.items ++ length now ∷ []

  -- a node is planned first, and no end of a line
  pub record GainsNode (now : List Node) (plan next : Plan A) (n : ℕ) : Type 0 where
    pub newline : next.newline ≡ plan.newline
    pub goes_on : next.goes_on ≡ goes_before now n plan.goes_on
    pub nodes : next.nodes.items ≡ plan.nodes.items ++ n ∷ []

-- the row with its entries in an order, before ends of lines come; and that is planned
abbrev pub row_by : (ℕ → Content) → List ℕ → List Places → List ℕ → List Slot
row_by at row places order = rearranged at (map (entry_of row) places) order ++ all_stay (drop (end_after 0 places) row)

abbrev pub RowPlanned : List Node → List Node → CstNewlineKind → List ℕ → List Places → List ℕ → List ℕ → Type 0
RowPlanned old now kind row places order nodes = IsReady old now (lines_ended (content_at old) kind (row_by (content_at old) row places order)) nodes
