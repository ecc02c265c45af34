-- Edits of a document as changes of its text: which leaves stay in their place, and what is between them.
use Rattle.std.specs.Prelude.{ℕ, suc, ◌+◌, ◌≡◌, ◌<◌, ◌≤◌, ◌^◌, ◌⊎◌, List, Option, Some, All, IsUtf8, length, slice_get, slice_index_or, slice_range}
use Rattle.jsonc_text.specs.declared.common.Range.{Range}
use Rattle.jsonc_text.specs.Text.{Spans}
use Rattle.jsonc_tree.specs.Order.{in_order, text_at}
use Rattle.jsonc_tree.specs.OrderedTree.{ordered_tree, printed}
use Rattle.jsonc_tree.specs.Tree.{Node, IsOver}
use Rattle.jsonc_cst.specs.Ranges.{IsBefore}
use Rattle.jsonc_mends.specs.declared.mends.TextChange.{TextChange}
use Rattle.jsonc_changes.specs.Changes.{Changes, Puts}
use Rattle.jsonc_ranges.specs.declared.changes.Done.{Done}

-- each node of the document, by its number, has the range of the bytes that it prints itself, in a text that memory can count
abbrev pub AreLeafRanges : List Node → List Range → Type 0
AreLeafRanges ns rs = length (printed (ordered_tree ns 0)) < 2 ^ 64 → (n : ℕ) → IsOver ns 0 n
    → (r : Range) × (slice_get rs n ≡ Some r) × IsBefore ns n r.start × (r.end ≡ r.start + length (text_at ns n))

-- the node prints now what the old text has in the range that is noted for it, which is a text of its own
pub record IsUntouched (rs : List Range) (ns : List Node) (old : List ℕ) (n : ℕ) (r : Range) : Type 0 where
  pub noted : slice_get rs n ≡ Some r
  pub some : r.start < r.end
  pub within : r.end ≤ length old
  pub same : slice_range old r.start r.end ≡ text_at ns n
  pub text : IsUtf8 (text_at ns n)

-- A node that prints what it printed when the ranges were noted is untouched in the text that was printed then: its range begins where it did.
abbrev pub IsUntouchedAlike : List Node → List Node → List Range → ℕ → Type 0
IsUntouchedAlike was ns rs n = AreLeafRanges was rs → length (printed (ordered_tree was 0)) < 2 ^ 64 → IsOver was 0 n → text_at ns n ≡ text_at was n
    → IsUtf8 (text_at ns n) → 0 < length (text_at ns n) → (r : Range) × IsUntouched rs ns (printed (ordered_tree was 0)) n r × IsBefore was n r.start

-- the i-th node of the document is untouched, and after all untouched ones that are before it now
pub record Stays (rs : List Range) (ns : List Node) (old : List ℕ) (i : ℕ) (r : Range) : Type 0 where
  pub node : ℕ
  pub place : slice_get (in_order ns 0) i ≡ Some node
  pub untouched : IsUntouched rs ns old node r
  pub after : (k m : ℕ) (q : Range) → k < i → slice_get (in_order ns 0) k ≡ Some m → IsUntouched rs ns old m q → q.end ≤ r.start

-- the change begins after the range or ends before it
abbrev pub IsOutside : Range → TextChange → Type 0
IsOutside r c = (r.end ≤ c.range.start) ⊎ (c.range.end ≤ r.start)

-- With the changes the one text is the other. They are in order and apart, on boundaries of characters, and none writes what is there.
-- Where the new text is the document's, each leaf that stays lies in none.
pub record AreEdits (rs : List Range) (ns : List Node) (old : List ℕ) (cs : List TextChange) (new : List ℕ) : Type 0 where
  pub changes : Changes old cs new
  pub spans : All (λ c. Spans old c.range.start c.range.end) cs
  pub apart : (i : ℕ) (c : TextChange) → suc i < length cs → (slice_index_or cs i c).range.end < (slice_index_or cs (suc i) c).range.start
  pub differ : All (λ c. slice_range old c.range.start c.range.end ≡ c.new_text.now → ⊥) cs
  pub stay : new ≡ printed (ordered_tree ns 0) → (i : ℕ) (r : Range) → Stays rs ns old i r → All (IsOutside r) cs

-- the leaf that prints this range of the new text has the same in this one of the old, from a place on
pub record IsKept (old : List ℕ) (from : ℕ) (new : List ℕ) (own r : Range) : Type 0 where
  pub after : from ≤ r.start
  pub some : r.start < r.end
  pub was : Spans old r.start r.end
  pub now : Spans new own.start own.end
  pub same : slice_range old r.start r.end ≡ slice_range new own.start own.end

-- where the leaf has nothing to keep it by, nothing is done
pub record IsPassedOver (known : Option Range) (old new : List ℕ) (was : Done) (own : Range) (cs ds : List TextChange) (now : Done) : Type 0 where
  pub none : (r : Range) → known ≡ Some r → IsKept old was.old new own r → ⊥
  pub changes : ds ≡ cs
  pub done : now ≡ was

-- else the change before it is added
pub record IsPassed (known : Option Range) (old new : List ℕ) (was : Done) (own : Range) (cs ds : List TextChange) (now : Done) : Type 0 where
  pub range : Range
  pub is_known : known ≡ Some range
  pub kept : IsKept old was.old new own range
  pub puts : Puts old (record { start = was.old; end = range.start }) new (record { start = was.new; end = own.start }) cs ds
  pub done : now ≡ record { old = range.end; new = own.end }

abbrev pub Passes : Option Range → List ℕ → List ℕ → Done → Range → List TextChange → List TextChange → Done → Type 0
Passes known old new was own cs ds now = IsPassedOver known old new was own cs ds now ⊎ IsPassed known old new was own cs ds now
