-- Groups of the elements of arrays and objects, which blank lines part.
use Rattle.std.specs.Prelude.{ℕ, Bool, List, length, map, IsTrue, Option}
use Rattle.jsonc_tree.specs.Tree.{Node}
use Rattle.jsonc_layout.specs.nodes.Siblings.{elements_at}
use Rattle.jsonc_edit.specs.remove.Removed.{has_brackets}
use Rattle.jsonc_sort.specs.Above.{leads_read}
use Rattle.jsonc_sort.specs.ordering.Groups.{group_starts}
use Rattle.jsonc_sort.specs.ordering.Order.{comes_before, IsOrderedBy}
use Rattle.jsonc_sort.specs.groups.Groups.{KeepsStretches}
use Rattle.jsonc_sort.specs.declared.above.LeadRead.{LeadRead}

-- a blank line stands before the element
abbrev pub is_separated : LeadRead → Bool
is_separated lead = lead.blank_line

-- before which elements of c a blank line stands, and so of an order of these that goes by such groups first
abbrev pub separated_at : List Node → ℕ → List Bool
separated_at ns c = map is_separated (leads_read ns c)

abbrev pub SeparatedStay : {N : Type 0} → List Node → ℕ → (N → N → Bool) → List (Option N) → List ℕ → Type 0
SeparatedStay ns c lt nodes order =
    IsTrue (has_brackets ns c) → IsOrderedBy (comes_before lt nodes (group_starts (separated_at ns c))) (length (elements_at ns c)) order
    → KeepsStretches (separated_at ns c) order
