-- Where spaces are due stays so while other nodes are made.
use Rattle.std.proofs.Common.{◌≡◌, ℕ, ◌+◌, ◌<◌, cond, ◌&&◌, ◌||◌, List, [], ◌∷◌, length, take, drop, reverse, Option, Some, None, refl, ap, ◌∙◌}
use Rattle.std.proofs.lemmas.List.Elements.{All-head, All-tail}
use Rattle.std.specs.List.{find}
use Rattle.std.specs.Option.{option_and_then}
use Rattle.jsonc_tree.specs.Building.{Keeps}
use Rattle.jsonc_tree.specs.Content.{Content, property}
use Rattle.jsonc_tree.specs.Order.{with_parent}
use Rattle.jsonc_tree.specs.Siblings.{first, row_of, siblings_after, siblings_before}
use Rattle.jsonc_tree.specs.Tree.{Node, content_at, parent_at, children_at, place_at, place_among, place_under, IsTree}
use Rattle.jsonc_tree.proofs.Order.{parent_there}
use Rattle.jsonc_layout.specs.nodes.Siblings.{AreThere, IsThere}
use Rattle.jsonc_layout.proofs.lemmas.nodes.InTree.{All-reverse, children_there, after_there, before_there, find_there}
use Rattle.jsonc_sound.specs.Adjacent.{or_else}
use Rattle.jsonc_sound.specs.Spaces.{is_bare}
use Rattle.jsonc_edit.specs.Due.{prints, prints_at, nearest, beginning_in, is_bare_at, begins_bare, ends_bare, seen_before, seen_behind, behind_holder, behind_property, space_needed_before, space_needed_after, space_needed_between, is_other, prints_within}

module _ (old new : List Node) (tree : IsTree old) (keeps : Keeps (length old) old new) where
  nearest_same : (xs : List ℕ) → AreThere old xs → nearest new xs ≡ nearest old xs
  nearest_same [] h = refl
  nearest_same (x ∷ xs) h =
      ap (λ b. cond b (Some x) (find (prints_at new) xs)) (ap prints (keeps.content x (All-head (λ m. m < length old) x xs h))) ∙ ap (λ o. cond (prints_at old x) (Some x) o) (nearest_same xs (All-tail (λ m. m < length old) x xs h))

  row_same : (k : ℕ) → k < length old → row_of new k ≡ row_of old k
  row_same k there = ap (λ o. with_parent o (children_at new)) (keeps.parent k there) ∙ by (parent_at old k) refl
    where
      by : (o : Option ℕ) → parent_at old k ≡ o → with_parent o (children_at new) ≡ with_parent o (children_at old)
      by None e = refl
      by (Some p) e = keeps.children p (parent_there old tree k p e).1

  place_same : (k : ℕ) → k < length old → place_at new k ≡ place_at old k
  place_same k there = ap (place_under new k) (keeps.parent k there) ∙ by (parent_at old k) refl
    where
      by : (o : Option ℕ) → parent_at old k ≡ o → place_under new k o ≡ place_under old k o
      by None e = refl
      by (Some p) e = ap (place_among k) (keeps.children p (parent_there old tree k p e).1)

  after_same : (k : ℕ) → k < length old → nearest new (siblings_after new k) ≡ nearest old (siblings_after old k)
  after_same k there =
      ap (λ z. nearest new (drop (z + 1) (row_of new k))) (place_same k there) ∙ ap (λ l. nearest new (drop (place_at old k + 1) l)) (row_same k there) ∙ nearest_same (siblings_after old k) (after_there old tree k)

  before_same : (k : ℕ) → k < length old → seen_before new k ≡ seen_before old k
  before_same k there =
      ap (λ z. nearest new (reverse (take z (row_of new k)))) (place_same k there) ∙ ap (λ l. nearest new (reverse (take (place_at old k) l))) (row_same k there) ∙ nearest_same (siblings_before old k) (before_there old tree k)

  holder_same : (k : ℕ) → k < length old → behind_holder new k ≡ behind_holder old k
  holder_same k there = ap (option_and_then (λ p. behind_property new (content_at new p) p)) (keeps.parent k there) ∙ by (parent_at old k) refl
    where
      held : (p : ℕ) → p < length old → (content : Content) → behind_property new content p ≡ behind_property old content p
      held p low property = after_same p low
      held p low content = refl

      by : (o : Option ℕ) → parent_at old k ≡ o → option_and_then (λ p. behind_property new (content_at new p) p) o ≡ option_and_then (λ p. behind_property old (content_at old p) p) o
      by None e = refl
      by (Some p) e = let low = (parent_there old tree k p e).1 in ap (λ w. behind_property new w p) (keeps.content p low) ∙ held p low (content_at old p)

  behind_same : (k : ℕ) → k < length old → seen_behind new k ≡ seen_behind old k
  behind_same k there = ap (λ o. or_else o (behind_holder new k)) (after_same k there) ∙ ap (or_else (nearest old (siblings_after old k))) (holder_same k there)

  -- what stands at either end of a node that was there
  bare_first : (xs : List ℕ) → AreThere old xs → is_bare_at new (first xs) ≡ is_bare_at old (first xs)
  bare_first [] h = refl
  bare_first (x ∷ xs) h = ap is_bare (keeps.content x (All-head (λ m. m < length old) x xs h))

  bare_in : (xs : List ℕ) (k : ℕ) → k < length old → AreThere old xs → (content : Content) → is_bare_at new (beginning_in xs k content) ≡ is_bare_at old (beginning_in xs k content)
  bare_in xs k there h property = bare_first xs h
  bare_in xs k there h content = ap is_bare (keeps.content k there)

  ends_same : (o : Option ℕ) → IsThere old o → ends_bare new o ≡ ends_bare old o
  ends_same None h = refl
  ends_same (Some k) there =
      ap (λ w. is_bare_at new (beginning_in (reverse (children_at new k)) k w)) (keeps.content k there) ∙ ap (λ l. is_bare_at new (beginning_in (reverse l) k (content_at old k))) (keeps.children k there)
      ∙ bare_in (reverse (children_at old k)) k there (All-reverse (λ m. m < length old) (children_at old k) (children_there old tree k)) (content_at old k)

  begins_same : (o : Option ℕ) → IsThere old o → begins_bare new o ≡ begins_bare old o
  begins_same None h = refl
  begins_same (Some k) there =
      ap (λ w. is_bare_at new (beginning_in (children_at new k) k w)) (keeps.content k there) ∙ ap (λ l. is_bare_at new (beginning_in l k (content_at old k))) (keeps.children k there)
      ∙ bare_in (children_at old k) k there (children_there old tree k) (content_at old k)

  before_is_there : (k : ℕ) → IsThere old (seen_before old k)
  before_is_there k = find_there old (prints_at old) (siblings_before old k) (before_there old tree k)

  behind_is_there : (k : ℕ) → IsThere old (seen_behind old k)
  behind_is_there k = either (nearest old (siblings_after old k)) (behind_holder old k) (find_there old (prints_at old) (siblings_after old k) (after_there old tree k)) (holder_there (parent_at old k))
    where
      either : (x y : Option ℕ) → IsThere old x → IsThere old y → IsThere old (or_else x y)
      either None y h g = g
      either (Some j) y h g = h

      held_there : (content : Content) (p : ℕ) → IsThere old (behind_property old content p)
      held_there property p = find_there old (prints_at old) (siblings_after old p) (after_there old tree p)
      held_there content p = tt

      holder_there : (o : Option ℕ) → IsThere old (option_and_then (λ p. behind_property old (content_at old p) p) o)
      holder_there None = tt
      holder_there (Some p) = held_there (content_at old p) p

  ends_before : (k : ℕ) → k < length old → ends_bare new (seen_before new k) ≡ ends_bare old (seen_before old k)
  ends_before k there = ap (ends_bare new) (before_same k there) ∙ ends_same (seen_before old k) (before_is_there k)

  begins_behind : (k : ℕ) → k < length old → begins_bare new (seen_behind new k) ≡ begins_bare old (seen_behind old k)
  begins_behind k there = ap (begins_bare new) (behind_same k there) ∙ begins_same (seen_behind old k) (behind_is_there k)

  pub due_before_same : (k : ℕ) → k < length old → space_needed_before new k ≡ space_needed_before old k
  due_before_same k there = ap (λ b. cond b (Some k) None) (ends_before k there)

  pub due_behind_same : (k : ℕ) → k < length old → space_needed_after new k ≡ space_needed_after old k
  due_behind_same k there = ap (λ b. cond b (seen_behind new k) None) (begins_behind k there) ∙ ap (λ o. cond (begins_bare old (seen_behind old k)) o None) (behind_same k there)

  within_same : (from to : ℕ) → from < length old → to < length old → prints_within new from to ≡ prints_within old from to
  within_same from to there there_too =
      ap (λ w. prints w || is_other (seen_before new to) (seen_before new from)) (keeps.content to there_too)
      ∙ ap (λ o. prints_at old to || is_other o (seen_before new from)) (before_same to there_too)
      ∙ ap (λ o. prints_at old to || is_other (seen_before old to) o) (before_same from there)

  pub due_between_same : (from to : ℕ) → from < length old → to < length old → space_needed_between new from to ≡ space_needed_between old from to
  due_between_same from to there there_too =
      ap (λ w. cond (w && (ends_bare new (seen_before new from) && begins_bare new (seen_behind new to))) (seen_behind new to) None) (within_same from to there there_too)
      ∙ ap (λ b. cond (prints_within old from to && (b && begins_bare new (seen_behind new to))) (seen_behind new to) None) (ends_before from there)
      ∙ ap (λ b. cond (prints_within old from to && (ends_bare old (seen_before old from) && b)) (seen_behind new to) None) (begins_behind to there_too)
      ∙ ap (λ o. cond (prints_within old from to && (ends_bare old (seen_before old from) && begins_bare old (seen_behind old to))) o None) (behind_same to there_too)
