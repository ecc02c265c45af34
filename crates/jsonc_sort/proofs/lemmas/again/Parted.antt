-- Blank lines tell of each element of an array or object with its brackets whether it begins a group.
use Rattle.std.proofs.Common.{◌≡◌, ℕ, suc, Bool, false, List, [], ◌∷◌, drop, length, IsTrue, Option, sym, ap, subst, ◌∙◌, refl}
use Rattle.std.proofs.lemmas.List.{length-map}
use Rattle.jsonc_tree.specs.Content.{Content}
use Rattle.jsonc_tree.specs.Tree.{Node, children_at, content_at}
use Rattle.jsonc_layout.specs.nodes.Siblings.{elements_at}
use Rattle.jsonc_edit.specs.remove.Removed.{has_brackets}
use Rattle.jsonc_edit.specs.multiline.Lines.{between}
use Rattle.jsonc_sort.specs.ordering.Groups.{group_starts}
use Rattle.jsonc_sort.specs.ordering.Order.{comes_before, IsOrderedBy}
use Rattle.jsonc_sort.specs.Above.{lead_read, leads, leads_at, leads_from, leads_read}
use Rattle.jsonc_sort.specs.Parts.{Part, parts}
use Rattle.jsonc_sort.specs.Sorting.{entries_from}
use Rattle.jsonc_sort.specs.Rearranged.{headers_of}
use Rattle.jsonc_sort.proofs.SortedRow.{elements_between}
use Rattle.jsonc_sort.proofs.Weights.{entry_count}
use Rattle.jsonc_sort.specs.again.Parted.{is_separated, separated_at, SeparatedStay}
use Rattle.jsonc_sort.proofs.lemmas.groups.Stretches.{stretches_stay}

leads_count : (at : ℕ → Content) (groups : Bool) (pins : List (Option ℕ)) (lead : List ℕ) (rest : List Part) → length (leads_from lead rest) ≡ length (entries_from at groups pins lead rest)
leads_count at groups pins lead [] = refl
leads_count at groups pins lead (part ∷ rest) = ap suc (leads_count at groups (drop 1 pins) part.behind rest)

module _ (ns : List Node) (c : ℕ) (whole : IsTrue (has_brackets ns c)) where
  abbrev at : ℕ → Content
  at = content_at ns

  abbrev inner : List ℕ
  inner = between (children_at ns c)

  leads_are : leads_at ns c ≡ leads at inner
  leads_are = rw whole refl

  parted_count : length (separated_at ns c) ≡ length (elements_at ns c)
  parted_count =
      length-map (leads_read ns c) is_separated ∙ length-map (leads_at ns c) (lead_read at) ∙ ap length leads_are
      ∙ leads_count at false [] (parts at inner).lead (parts at inner).rest ∙ entry_count at (headers_of [] false) inner ∙ sym (ap length (elements_between ns c whole))

pub parted_stay : {N : Type 0} (ns : List Node) (c : ℕ) (lt : N → N → Bool) (nodes : List (Option N)) (order : List ℕ) → SeparatedStay ns c lt nodes order
parted_stay ns c lt nodes order whole o =
    stretches_stay (separated_at ns c) lt nodes order (subst (λ (n : ℕ). IsOrderedBy (comes_before lt nodes (group_starts (separated_at ns c))) n order) (sym (parted_count ns c whole)) o)
