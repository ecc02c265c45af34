-- A truth value is set: the space that is due before it, and what it is then.
use Rattle.std.proofs.Common.{◌≡◌, ℕ, ◌<◌, Bool, true, false, not, ◌&&◌, cond, List, [], length, take, reverse, Option, Some, None, refl, sym, ap, ◌∙◌}
use Rattle.std.specs.List.{All}
use Rattle.std.proofs.lemmas.Bool.{false≢true}
use Rattle.std.proofs.lemmas.List.Elements.{All-cons, All-nil}
use Rattle.jsonc_tree.specs.Building.{Keeps}
use Rattle.jsonc_tree.specs.Content.{Content}
use Rattle.jsonc_tree.specs.Order.{with_parent}
use Rattle.jsonc_tree.specs.Tree.{Node, parent_at, children_at, place_at}
use Rattle.jsonc_edit.specs.Due.{nearest, listed, seen_before}
use Rattle.jsonc_edit.proofs.SpacedNodes.{IsChild}
use Rattle.jsonc_edit.specs.set.Booleans.{space_needed_for, is_boolean, is_hex_at}
use Rattle.jsonc_edit.proofs.SeamsParting.{none_first}
use Rattle.jsonc_edit.proofs.lemmas.commas.ReachedContainers.{second}

seen_child : (ns : List Node) (n : ℕ) → is_hex_at ns (seen_before ns n) ≡ true → IsChild ns n
seen_child ns n h = by (parent_at ns n) refl
  where
    by : (o : Option ℕ) → parent_at ns n ≡ o → IsChild ns n
    by (Some c) e = (c, e)
    by None e =
        let alone : seen_before ns n ≡ None = ap (λ o. nearest ns (reverse (take (place_at ns n) (with_parent o (children_at ns))))) e ∙ none_first ns (place_at ns n) in
        absurd (false≢true (sym (ap (is_hex_at ns) alone) ∙ h))

-- before which the space comes
pub due_children : (old ready : List Node) → Keeps (length old) old ready → (n : ℕ) → n < length old → (b : Bool) → All (IsChild ready) (listed (space_needed_for old n b))
due_children old ready keeps n there b = by (not b && is_hex_at old (seen_before old n)) refl
  where
    by : (d : Bool) → (not b && is_hex_at old (seen_before old n)) ≡ d → All (IsChild ready) (listed (cond d (Some n) None))
    by false e = All-nil (IsChild ready)
    by true e =
        let child = seen_child old n (second (not b) (is_hex_at old (seen_before old n)) e) in
        All-cons (IsChild ready) n [] (child.0, keeps.parent n there ∙ child.1) (All-nil (IsChild ready))

-- which truth value it is
pub boolean_of : (content : Content) → is_boolean content ≡ true → (b : Bool) × (content ≡ Content.boolean b)
boolean_of (Content.boolean b) e = (b, refl)
boolean_of content e = absurd (false≢true e)
