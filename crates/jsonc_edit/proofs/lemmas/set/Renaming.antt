-- A property gets another name: what is known at each step.
use Rattle.std.proofs.Common.{◌≡◌, ℕ, ◌+◌, cond, not, All, List, [], ◌∷◌, length, Some, None, Bool, true, inl, inr, refl, sym, ap, subst, ◌∙◌}
use Rattle.std.specs.List.{find, list_any}
use Rattle.std.proofs.lemmas.Bool.{cases_Bool}
use Rattle.std.proofs.lemmas.List.{get_or_default}
use Rattle.jsonc_text.specs.Plain.{Plain}
use Rattle.jsonc_tree.specs.Building.{Builds}
use Rattle.jsonc_tree.specs.Changes.{Adds, CanJoin, Splices}
use Rattle.jsonc_tree.specs.OrderedTree.{none}
use Rattle.jsonc_tree.specs.Tree.{Node, parent_at, children_at, place_at, IsTree}
use Rattle.jsonc_tree.proofs.Builder.{Builds-adds}
use Rattle.jsonc_layout.specs.from_input.Laid.{string_leaf}
use Rattle.jsonc_layout.specs.nodes.Kinds.{is_colon_at}
use Rattle.jsonc_layout.specs.nodes.Properties.{behind_first, is_name_at, lacks_name_at, name_at}
use Rattle.jsonc_layout.proofs.lemmas.nodes.PropertyValues.{found_among}
use Rattle.jsonc_edit.specs.Reading.{layout_for}
use Rattle.jsonc_edit.specs.set.Names.{IsRenamed}
use Rattle.jsonc_edit.proofs.ReplacedChildren.{child_raw, gives_way_raw, join_raw}

-- where nothing is found nothing stands behind it
none_behind : (test : ℕ → Bool) (xs : List ℕ) → find test xs ≡ None → behind_first test xs ≡ []
none_behind test [] e = refl
none_behind test (x ∷ xs) e =
    elim (cases_Bool (test x)) [
      | inl h ↦ (let wrong : Some x ≡ None = sym (ap (λ b. cond b (Some x) (find test xs)) h) ∙ e in cc)
      | inr h ↦ ap (λ b. cond b xs (behind_first test xs)) h ∙ none_behind test xs (sym (ap (λ b. cond b (Some x) (find test xs)) h) ∙ e)
    ]

-- so a property without a name lacks it
pub no_name : (ns : List Node) (p : ℕ) → name_at ns p ≡ None → lacks_name_at ns p ≡ true
no_name ns p e = ap (λ l. not (list_any (is_colon_at ns) l)) (none_behind (is_name_at ns) (children_at ns p) e)

-- the name of a property is its child
pub named_child : (ns : List Node) → IsTree ns → (p n : ℕ) → name_at ns p ≡ Some n → parent_at ns n ≡ Some p
named_child ns tree p n e = found_among (is_name_at ns) (λ k. parent_at ns k ≡ Some p) (children_at ns p) n all e
  where
    all : All (λ k. parent_at ns k ≡ Some p) (children_at ns p)
    all k d l = subst (λ j. parent_at ns j ≡ Some p) (get_or_default (children_at ns p) k 0 d l) (tree.named p k l)

-- n is the name of p, and m has been added as the new one
module _ (old made : List Node) (tree : IsTree old) (p n m : ℕ) (name : List ℕ) (named : name_at old p ≡ Some n) (after : IsTree made) (last : m ≡ length old) (added : Adds old made (string_leaf name)) where
  said : parent_at old n ≡ Some p
  said = named_child old tree p n named

  built : Builds old made m (string_leaf name) none
  built = subst (λ k. Builds old made k (string_leaf name) none) (sym last) (Builds-adds old made (string_leaf name) after added)

  pub renamed_child : parent_at made n ≡ Some p
  renamed_child = child_raw old made tree n p m (layout_for old p p) (Plain.string name) said built

  pub renamed_join : CanJoin made p (place_at made n) (place_at made n + 1) (m ∷ [])
  renamed_join = join_raw old made tree n p m (layout_for old p p) (Plain.string name) said built

  pub is_renamed : (new : List Node) → IsTree new → Splices made new p (place_at made n) (place_at made n + 1) (m ∷ []) → IsRenamed old new p name m
  is_renamed new there s = (n, named, (p, said, gives_way_raw old made tree n p m (layout_for old p p) (Plain.string name) said built new there s))
