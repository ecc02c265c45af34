-- Where a node is in the text that its document prints.
use Rattle.std.specs.Prelude.{◌≡◌, ◌≤◌, ◌<◌, ◌+◌, ◌^◌, ℕ, List, [], ◌∷◌, ◌++◌, length, nat_lt, option_and_then, option_map, IfNone, IfSome, Option, None, Some, if◌then◌else◌}
use Rattle.std.specs.List.{flat_map}
use Rattle.jsonc_tree.specs.Order.{following, printed_at, text_at}
use Rattle.jsonc_tree.specs.OrderedTree.{ordered_tree, printed}
use Rattle.jsonc_tree.specs.Tree.{Node, children_at, IsOver}
use Rattle.jsonc_text.specs.declared.common.Range.{Range}
use Rattle.jsonc_cst.specs.declared.cst.node.CstNode.{CstNode}
use Rattle.jsonc_cst.specs.Nodes.{typed_at}

-- the bytes of the document after those of the node
abbrev pub printed_after : List Node → ℕ → List ℕ
printed_after ns n = flat_map (text_at ns) (following ns 0 n)

-- The node is in the document, and prints the bytes from start up to end: the text is so many bytes, then what the node and those below it print, and then
-- what those after them print.
pub record PrintsRange (ns : List Node) (n start end : ℕ) : Type 0 where
  pub in_document : IsOver ns 0 n
  pub before : List ℕ
  pub split : printed (ordered_tree ns 0) ≡ before ++ (printed_at ns n ++ printed_after ns n)
  pub starts : start ≡ length before
  pub ends : end ≡ length before + length (printed_at ns n)

-- the node is in the document, and its bytes begin after so many
abbrev pub IsBefore : List Node → ℕ → ℕ → Type 0
IsBefore ns n start = PrintsRange ns n start (start + length (printed_at ns n))

-- the node has no children, and prints the byte at this place
abbrev pub PrintsByte : List Node → ℕ → ℕ → Type 0
PrintsByte ns place n = (children_at ns n ≡ []) × (start : ℕ) × (end : ℕ) × PrintsRange ns n start end × (start ≤ place) × (place < end)

-- This is what is answered as the range of the node. Where it is a range, the node prints these bytes; where it is none, the node is not in the document,
-- or the text has more bytes than memory can count.
pub record IsRangeOf (ns : List Node) (n : ℕ) (answer : Option Range) : Type 0 where
  pub range : IfSome answer (λ r. PrintsRange ns n r.start r.end)
  pub none : IfNone answer (IsOver ns 0 n → 2 ^ 64 ≤ length (printed (ordered_tree ns 0)))

-- This is what is answered as the place where the node begins. Where it is a place, so many bytes are before the node; where it is none, the node is not in the
-- document, or the text has more bytes than memory can count.
pub record IsStartOf (ns : List Node) (n : ℕ) (answer : Option ℕ) : Type 0 where
  pub start : IfSome answer (IsBefore ns n)
  pub none : IfNone answer (IsOver ns 0 n → 2 ^ 64 ≤ length (printed (ordered_tree ns 0)))

-- a place, if memory can count to it
abbrev pub counted : ℕ → Option ℕ
counted n = if nat_lt n (2 ^ 64) then Some n else None

-- the place so many bytes after another
abbrev pub place_past : Option ℕ → ℕ → Option ℕ
place_past at size = option_and_then (λ k. counted (k + size)) at

-- so many bytes from a place on
abbrev pub range_from : Option ℕ → ℕ → Option Range
range_from at size = option_and_then (λ k. option_map (λ e. record { start = k; end = e }) (counted (k + size))) at

-- these nodes, each with the range of what it and those below it print, where the first begins at this place and each next one where what the one before it prints
-- itself is over
abbrev pub with_ranges : List Node → Option ℕ → List ℕ → List (CstNode × Option Range)
with_ranges ns at [] = []
with_ranges ns at (n ∷ row) = (typed_at ns n, range_from at (length (printed_at ns n))) ∷ with_ranges ns (place_past at (length (text_at ns n))) row

-- the same nodes, each with the place where it begins
abbrev pub with_starts : List Node → Option ℕ → List ℕ → List (CstNode × Option ℕ)
with_starts ns at [] = []
with_starts ns at (n ∷ row) = (typed_at ns n, at) ∷ with_starts ns (place_past at (length (text_at ns n))) row
