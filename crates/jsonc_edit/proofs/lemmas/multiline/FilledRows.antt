-- Nodes that fill the places of a row, and what they stand for.
use Rattle.std.proofs.Common.{◌≡◌, ◌∙◌, ℕ, ◌<◌, false, List, [], ◌∷◌, ◌++◌, All, length, refl, ap, subst, arith}
use Rattle.std.proofs.lemmas.List.Elements.{All-cons, All-nil}
use Rattle.jsonc_tree.specs.Content.{Content, is_container}
use Rattle.jsonc_tree.specs.OrderedTree.{more, none, Shows}
use Rattle.jsonc_tree.specs.Tree.{Node, content_at, IsTree}
use Rattle.jsonc_edit.specs.Changes.{row_below}
use Rattle.jsonc_edit.specs.Put.{Extends}
use Rattle.jsonc_edit.specs.multiline.Slots.{Slot, stays, comes, AreFilled, no_more, stayed, came, row_in}
use Rattle.jsonc_edit.proofs.NodesKept.{row_kept}
use Rattle.jsonc_edit.proofs.Standing.{bare_below, shows_standing, standing}

module _ (P : ℕ → Type 0) (C : Content → Type 0) where
  -- of a child that stays the one holds, and of a leaf that comes the other
  abbrev pub Holds : Slot → Type 0
  Holds (stays n) = P n
  Holds (comes content) = C content

  abbrev pub AllHold : List Slot → Type 0
  AllHold [] = Unit {0}
  AllHold (slot ∷ rest) = Holds slot × AllHold rest

  pub hold_then : (first second : List Slot) → AllHold first → AllHold second → AllHold (first ++ second)
  hold_then [] second a b = b
  hold_then (slot ∷ first) second a b = (a.0, hold_then first second a.1 b)

-- a child that is there, or a leaf
abbrev pub IsLeaf : Content → Type 0
IsLeaf content = is_container content ≡ false

abbrev pub AllFit : List Node → List Slot → Type 0
AllFit ns slots = AllHold (λ n. n < length ns) IsLeaf slots

pub fit_then : (ns : List Node) (first second : List Slot) → AllFit ns first → AllFit ns second → AllFit ns (first ++ second)
fit_then ns first second a b = hold_then (λ n. n < length ns) IsLeaf first second a b

module _ (old ready : List Node) (tree : IsTree old) (p : Extends old ready) where
  pub filled_stands : {slots : List Slot} {row : List ℕ} → AreFilled old ready slots row → AllFit old slots → standing ready row ≡ row_in old slots
  filled_stands no_more h = refl
  filled_stands (stayed {n = n} {slots = slots} {row = row} f) h =
      ap (λ w. more w (row_below ready n) (standing ready row)) (p.keeps.content n h.0)
      ∙ ap (λ b. more (content_at old n) b (standing ready row)) (row_kept old ready tree p.keeps p.tree n h.0)
      ∙ ap (more (content_at old n) (row_below old n)) (filled_stands f h.1)
  filled_stands (came {n = n} {content = content} {slots = slots} {row = row} later there is alone f) h =
      ap (λ w. more w (row_below ready n) (standing ready row)) is
      ∙ ap (λ b. more content b (standing ready row)) (bare_below ready n (p.tree.leaf n (ap is_container is ∙ h.0)))
      ∙ ap (more content none) (filled_stands f h.1)

  pub filled_there : {slots : List Slot} {row : List ℕ} → AreFilled old ready slots row → AllFit old slots → All (λ n. n < length ready) row
  filled_there no_more h = All-nil (λ n. n < length ready)
  filled_there (stayed {n = n} {row = row} f) h = All-cons (λ n. n < length ready) n row (omega (arith, h.0, p.keeps.len)) (filled_there f h.1)
  filled_there (came {n = n} {row = row} later there is alone f) h = All-cons (λ n. n < length ready) n row there (filled_there f h.1)

  pub filled_shown : {slots : List Slot} {row : List ℕ} → AreFilled old ready slots row → AllFit old slots → Shows ready row (row_in old slots)
  filled_shown {row = row} f h = subst (Shows ready row) (filled_stands f h) (shows_standing ready p.tree row (filled_there f h))
