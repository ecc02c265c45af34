-- What is read of a row stays where another row changes.
use Rattle.std.proofs.Common.{◌≡◌, ◌≢◌, ◌∙◌, sym, ap, refl, ℕ, suc, ◌+◌, ◌<◌, Bool, not, cond, List, [], ◌∷◌, length, get_or, reverse, drop, Option, Some, None, IfSome, is_some, arith}
use Rattle.std.specs.List.{find, list_any, All}
use Rattle.std.specs.Option.{option_and_then}
use Rattle.jsonc_tree.specs.Order.{with_parent}
use Rattle.jsonc_tree.specs.Siblings.{siblings_after}
use Rattle.jsonc_tree.specs.Tree.{Node, content_at, children_at, parent_at, place_among, place_at, place_under, IsTree}
use Rattle.jsonc_layout.specs.nodes.Kinds.{is_element, is_element_at, is_newline, is_newline_at, is_trivia, is_comma}
use Rattle.jsonc_layout.specs.nodes.Siblings.{IsThere}
use Rattle.jsonc_layout.proofs.lemmas.nodes.InTree.{after_there, children_there, find_there, All-reverse}
use Rattle.jsonc_layout.specs.lines.Siblings.{if_comma, is_no_trivia_at, trailing_comma_at}
use Rattle.jsonc_text.specs.declared.edit.TrailingCommaMode.{TrailingCommaMode}
use Rattle.jsonc_text.specs.declared.edit.TrailingCommaMode.TheVariants.{Never, IfMultiline}
use Rattle.jsonc_edit.specs.commas.Commas.{comma_gone, comma_wanted_behind, has_newline, if_without_comma, last_element, CommaIsSet, GainsIt, LosesIt}
use Rattle.jsonc_edit.specs.commas.Laws.{IsSet}
use Rattle.jsonc_edit.proofs.lemmas.commas.Children.{last_child, IsChild}
use Rattle.jsonc_edit.proofs.lemmas.commas.ContainersKept.{ready_children, set_keeps}

-- tests that agree on all of a list
module _ (p q : ℕ → Bool) (P : ℕ → Type 0) (same : (x : ℕ) → P x → q x ≡ p x) where
  pub find_alike : (xs : List ℕ) → All P xs → find q xs ≡ find p xs
  find_alike [] all = refl
  find_alike (x ∷ xs) all =
      ap (λ b. cond b (Some x) (find q xs)) (same x (all 0 0 (omega arith))) ∙ ap (λ o. cond (p x) (Some x) o) (find_alike xs (λ k d l. all (suc k) d (omega arith)))

  any_alike : (xs : List ℕ) → All P xs → list_any q xs ≡ list_any p xs
  any_alike [] all = refl
  any_alike (x ∷ xs) all =
      let here : q x ≡ p x = same x (all 0 0 (omega arith)) in
      let rest : list_any q xs ≡ list_any p xs = any_alike xs (λ k d l. all (suc k) d (omega arith)) in
      cc

-- the row of m is what it was
pub record SameRow (old new : List Node) (m : ℕ) : Type 0 where
  pub children : children_at new m ≡ children_at old m
  pub content : (x : ℕ) → x < length old → content_at new x ≡ content_at old x

module _ (old new : List Node) (tree : IsTree old) (after : IsTree new) (m : ℕ) (s : SameRow old new m) where
  abbrev Low : ℕ → Type 0
  Low x = x < length old

  kids : All Low (children_at old m)
  kids = children_there old tree m

  last_same : last_element new m ≡ last_element old m
  last_same =
      ap (λ (l : List ℕ). find (is_element_at new) (reverse l)) s.children
      ∙ find_alike (is_element_at old) (is_element_at new) Low (λ x h. ap is_element (s.content x h)) (reverse (children_at old m)) (All-reverse Low (children_at old m) kids)

  newline_same : has_newline new m ≡ has_newline old m
  newline_same =
      ap (list_any (is_newline_at new)) s.children
      ∙ any_alike (is_newline_at old) (is_newline_at new) Low (λ x h. ap is_newline (s.content x h)) (children_at old m) kids

  child_still : (x : ℕ) → IsChild old m x → parent_at new x ≡ Some m
  child_still x said =
      let within : place_at old x < length (children_at new m) = omega (arith, tree.within x m said, ap length s.children) in
      let it : get_or (children_at new m) (place_at old x) 0 ≡ x = ap (λ l. get_or l (place_at old x) 0) s.children ∙ tree.found x m said in
      ap (parent_at new) (sym it) ∙ after.named m (place_at old x) within

  behind_child : (ns : List Node) (x : ℕ) → parent_at ns x ≡ Some m → siblings_after ns x ≡ drop (place_among x (children_at ns m) + 1) (children_at ns m)
  behind_child ns x said = ap (λ o. drop (place_under ns x o + 1) (with_parent o (children_at ns))) said

  after_same : (x : ℕ) → IsChild old m x → siblings_after new x ≡ siblings_after old x
  after_same x said =
      behind_child new x (child_still x said) ∙ ap (λ l. drop (place_among x l + 1) l) s.children ∙ sym (behind_child old x said)

  if_comma_same : (o : Option ℕ) → IsThere old o → if_comma new o ≡ if_comma old o
  if_comma_same None h = refl
  if_comma_same (Some k) h = ap (λ w. cond (is_comma w) (Some k) None) (s.content k h)

  pub trailing_same : (x : ℕ) → IsChild old m x → trailing_comma_at new x ≡ trailing_comma_at old x
  trailing_same x said =
      let row : List ℕ = siblings_after old x in
      ap (λ l. if_comma new (find (is_no_trivia_at new) l)) (after_same x said)
      ∙ ap (if_comma new) (find_alike (is_no_trivia_at old) (is_no_trivia_at new) Low (λ k h. ap (λ w. not (is_trivia w)) (s.content k h)) row (after_there old tree x))
      ∙ if_comma_same (find (is_no_trivia_at old) row) (find_there old (is_no_trivia_at old) row (after_there old tree x))

  gone_by : (o : Option ℕ) → IfSome o (IsChild old m) → option_and_then (trailing_comma_at new) o ≡ option_and_then (trailing_comma_at old) o
  gone_by None h = refl
  gone_by (Some n) h = trailing_same n h

  pub gone_same : comma_gone new m ≡ comma_gone old m
  gone_same = ap (option_and_then (trailing_comma_at new)) last_same ∙ gone_by (last_element old m) (last_child old tree m)

  wanted_by : (o : Option ℕ) → IfSome o (IsChild old m) → option_and_then (if_without_comma new) o ≡ option_and_then (if_without_comma old) o
  wanted_by None h = refl
  wanted_by (Some n) h = ap (λ t. cond (is_some t) None (Some n)) (trailing_same n h)

  pub wanted_same : comma_wanted_behind new m ≡ comma_wanted_behind old m
  wanted_same =
      ap (λ b. cond b (option_and_then (if_without_comma new) (last_element new m)) None) newline_same
      ∙ ap (λ o. cond (has_newline old m) o None) (ap (option_and_then (if_without_comma new)) last_same ∙ wanted_by (last_element old m) (last_child old tree m))

  pub set_same : (mode : TrailingCommaMode) → IsSet mode old m → IsSet mode new m
  set_same Never h = gone_same ∙ h
  set_same IfMultiline h = wanted_same ∙ h

-- a comma that is set leaves every other row
loses_others : (old new : List Node) (c : ℕ) (o : Option ℕ) → LosesIt old new c o → (m : ℕ) → m ≢ c → children_at new m ≡ children_at old m
loses_others old new c None e m ne = ap (λ ns. children_at ns m) e
loses_others old new c (Some k) s m ne = (s.others m ne)

gains_others : (old new : List Node) (c : ℕ) (o : Option ℕ) → GainsIt old new c o → (m : ℕ) → m ≢ c → children_at new m ≡ children_at old m
gains_others old new c None e m ne = ap (λ ns. children_at ns m) e
gains_others old new c (Some n) r m ne = (r.put.others m ne) ∙ ready_children old new c n r m

set_others : (mode : TrailingCommaMode) (old new : List Node) (c : ℕ) → CommaIsSet mode old new c → (m : ℕ) → m ≢ c → children_at new m ≡ children_at old m
set_others Never old new c s m ne = loses_others old new c (comma_gone old c) s m ne
set_others IfMultiline old new c s m ne = gains_others old new c (comma_wanted_behind old c) s m ne

pub other_row : (mode : TrailingCommaMode) (old new : List Node) → IsTree old → (c : ℕ) → CommaIsSet mode old new c → (m : ℕ) → m ≢ c → SameRow old new m
other_row mode old new tree c s m ne = record { children = set_others mode old new c s m ne; content = (set_keeps mode old new tree c s).content }
