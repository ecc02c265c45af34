-- A value that was made ready comes as the last child of a property: what is known at each step.
use Rattle.std.proofs.Common.{◌≡◌, ◌≢◌, ℕ, ◌+◌, ◌<◌, Bool, true, false, cond, List, [], ◌∷◌, ◌++◌, length, take, drop, reverse, slice_index, Option, Some, None, IfSome, if◌then◌else◌, refl, sym, ap, subst, ◌∙◌, arith, length-append, length-drop, get_or-drop}
use Rattle.std.specs.List.{All, find}
use Rattle.std.specs.Option.{option_and_then}
use Rattle.std.proofs.Math.Seq.{get_or-append_seam, take-append_seam}
use Rattle.std.proofs.lemmas.List.{drop_all, get_or_default}
use Rattle.std.proofs.lemmas.List.Elements.{All-drop, All-from_get_or, All-head, All-nil, All-tail}
use Rattle.jsonc_text.specs.Plain.{Plain}
use Rattle.jsonc_tree.specs.Building.{Builds, Keeps}
use Rattle.jsonc_tree.specs.Changes.{Appends, CanAppend}
use Rattle.jsonc_tree.specs.Content.{Content, is_container, property}
use Rattle.jsonc_tree.specs.Order.{with_parent}
use Rattle.jsonc_tree.specs.OrderedTree.{Top}
use Rattle.jsonc_tree.specs.Siblings.{first, row_of, siblings_after}
use Rattle.jsonc_tree.specs.Tree.{Node, content_at, parent_at, children_at, place_at, place_among, place_under, IsTree, IsOver}
use Rattle.jsonc_tree.proofs.Order.{not_over_parent, parent_there}
use Rattle.jsonc_layout.specs.nodes.Siblings.{AreThere}
use Rattle.jsonc_layout.proofs.lemmas.nodes.InTree.{All-reverse, after_there, children_there}
use Rattle.jsonc_sound.specs.Adjacent.{or_else}
use Rattle.jsonc_sound.specs.Spaces.{is_bare}
use Rattle.jsonc_sound.specs.TreeChanges.{IsElement}
use Rattle.jsonc_layout.specs.from_input.Layout.{Layout}
use Rattle.jsonc_layout.specs.from_input.Laid.{laid}
use Rattle.jsonc_edit.specs.Changes.{top_at}
use Rattle.jsonc_edit.specs.Due.{prints, prints_at, nearest, beginning_in, is_bare_at, begins_bare, ends_bare, seen_before, seen_behind, seen_last, behind_holder, behind_property, spaces_needed_around, space_needed_before, space_needed_after, space_needed_last, space_needed_past, listed}
use Rattle.jsonc_edit.specs.Put.{AreAtHand, AreChildren, AreSpaced, IsFree, Extends, nodes_of}
use Rattle.jsonc_edit.specs.Reading.{layout_for}
use Rattle.jsonc_edit.specs.declared.put.Space.{Space}
use Rattle.jsonc_edit.specs.declared.put.Spaces.{Spaces}
use Rattle.jsonc_edit.proofs.ReplacedChildren.{laid_element}
use Rattle.jsonc_edit.proofs.NodesKept.{built_top, over_no_old, top_stays}
use Rattle.jsonc_edit.proofs.SpacedNodes.{around_children}
use Rattle.jsonc_edit.specs.set.PropertyValues.{LastValue}
use Rattle.jsonc_layout.proofs.lemmas.Building.{still_kept}
use Rattle.jsonc_edit.proofs.LeafKinds.{no_space}
use Rattle.jsonc_edit.proofs.lemmas.commas.Children.{found_like}

either : (P : ℕ → Type 0) (b : Bool) (x : ℕ) (o : Option ℕ) → P x → IfSome o P → IfSome (cond b (Some x) o) P
either P true x o here there = here
either P false x o here there = there

-- Of the nodes `made`, p is a property; m, detached, has become its last child.
module _ (made held : List Node) (tree : IsTree made) (after : IsTree held) (p m : ℕ) (inside : p < length made) (is : content_at held p ≡ property) (contents : (k : ℕ) → k < length made → content_at held k ≡ content_at made k)
    (others : (k : ℕ) → k < length made → k ≢ p → children_at held k ≡ children_at made k) (above : parent_at held p ≡ parent_at made p) (row_is : children_at held p ≡ children_at made p ++ m ∷ []) (said : parent_at held m ≡ Some p) where
  abbrev row : List ℕ
  row = children_at made p

  place_is : place_at held m ≡ length row
  place_is =
      sym (ap (place_at held) (ap (λ l. slice_index l (length row)) row_is ∙ get_or-append_seam row m [] 0)) ∙ after.placed p (length row) (omega (arith, ap length row_is, length-append row (m ∷ [])))

  row_held : row_of held m ≡ row ++ m ∷ []
  row_held = ap (λ o. with_parent o (children_at held)) said ∙ row_is

  nearest_same : (xs : List ℕ) → AreThere made xs → nearest held xs ≡ nearest made xs
  nearest_same [] h = refl
  nearest_same (x ∷ xs) h =
      ap (λ b. cond b (Some x) (find (prints_at held) xs)) (ap prints (contents x (All-head (λ k. k < length made) x xs h))) ∙ ap (λ o. cond (prints_at made x) (Some x) o) (nearest_same xs (All-tail (λ k. k < length made) x xs h))

  before_is : seen_before held m ≡ seen_last made p
  before_is =
      ap (λ l. nearest held (reverse (take (place_at held m) l))) row_held
      ∙ ap (λ k. nearest held (reverse (take k (row ++ m ∷ [])))) place_is
      ∙ ap (λ l. nearest held (reverse l)) (take-append_seam row (m ∷ []))
      ∙ nearest_same (reverse row) (All-reverse (λ k. k < length made) row (children_there made tree p))

  -- a node that was there, and another than p
  abbrev Apart : ℕ → Type 0
  Apart k = (k < length made) × (k ≢ p)

  bare_first : (xs : List ℕ) → AreThere made xs → is_bare_at held (first xs) ≡ is_bare_at made (first xs)
  bare_first [] h = refl
  bare_first (x ∷ xs) h = ap is_bare (contents x (All-head (λ k. k < length made) x xs h))

  bare_in : (xs : List ℕ) (k : ℕ) → k < length made → AreThere made xs → (content : Content) → is_bare_at held (beginning_in xs k content) ≡ is_bare_at made (beginning_in xs k content)
  bare_in xs k there h property = bare_first xs h
  bare_in xs k there h content = ap is_bare (contents k there)

  ends_same : (o : Option ℕ) → IfSome o Apart → ends_bare held o ≡ ends_bare made o
  ends_same None h = refl
  ends_same (Some k) h =
      ap (λ w. is_bare_at held (beginning_in (reverse (children_at held k)) k w)) (contents k h.0) ∙ ap (λ l. is_bare_at held (beginning_in (reverse l) k (content_at made k))) (others k h.0 h.1)
      ∙ bare_in (reverse (children_at made k)) k h.0 (All-reverse (λ j. j < length made) (children_at made k) (children_there made tree k)) (content_at made k)

  begins_same : (o : Option ℕ) → IfSome o Apart → begins_bare held o ≡ begins_bare made o
  begins_same None h = refl
  begins_same (Some k) h =
      ap (λ w. is_bare_at held (beginning_in (children_at held k) k w)) (contents k h.0) ∙ ap (λ l. is_bare_at held (beginning_in l k (content_at made k))) (others k h.0 h.1)
      ∙ bare_in (children_at made k) k h.0 (children_there made tree k) (content_at made k)

  child_apart : (x : ℕ) → parent_at made x ≡ Some p → Apart x
  child_apart x told = ((parent_there made tree x p told).0, λ e. not_over_parent made tree x p told (subst (λ k. IsOver made x k) e IsOver.itself))

  row_apart : All Apart row
  row_apart = λ k d l. child_apart _ (subst (λ j. parent_at made j ≡ Some p) (get_or_default row k 0 d l) (tree.named p k l))

  ends_last : ends_bare held (seen_before held m) ≡ ends_bare made (seen_last made p)
  ends_last = ap (ends_bare held) before_is ∙ ends_same (seen_last made p) (found_like Apart (prints_at made) (reverse row) (All-reverse Apart row row_apart))

  pub last_is : space_needed_last made p m ≡ space_needed_before held m
  last_is = sym (ap (λ b. cond b (Some m) None) ends_last)

  -- what stands behind p
  after_same : siblings_after held p ≡ siblings_after made p
  after_same = by (parent_at made p) refl
    where
      by : (o : Option ℕ) → parent_at made p ≡ o → siblings_after held p ≡ siblings_after made p
      by None e =
          ap (λ o. drop (place_under held p o + 1) (with_parent o (children_at held))) (above ∙ e) ∙ sym (ap (λ o. drop (place_under made p o + 1) (with_parent o (children_at made))) e)
      by (Some g) e =
          let low = parent_there made tree p g e in
          let same : children_at held g ≡ children_at made g = others g low.1 (λ f. not_over_parent made tree p g e (subst (λ k. IsOver made p k) (sym f) IsOver.itself)) in
          ap (λ o. drop (place_under held p o + 1) (with_parent o (children_at held))) (above ∙ e)
          ∙ ap (λ l. drop (place_among p l + 1) l) same
          ∙ sym (ap (λ o. drop (place_under made p o + 1) (with_parent o (children_at made))) e)

  after_apart : All Apart (siblings_after made p)
  after_apart = by (parent_at made p) refl
    where
      by : (o : Option ℕ) → parent_at made p ≡ o → All Apart (siblings_after made p)
      by None e = subst (λ o. All Apart (drop (place_at made p + 1) (with_parent o (children_at made)))) (sym e) (All-drop Apart (place_at made p + 1) [] (All-nil Apart))
      by (Some g) e =
          let from : ℕ = place_at made p + 1 in
          let beside : List ℕ = children_at made g in
          subst (λ o. All Apart (drop from (with_parent o (children_at made)))) (sym e)
          (All-from_get_or Apart (drop from beside) 0 (λ k h.
          let low : from + k < length beside = omega (arith, h, length-drop from beside) in
          subst Apart (sym (get_or-drop from beside k 0)) (tree.in_tree g (from + k) low, λ f. omega (arith, tree.placed g (from + k) low, ap (place_at made) f))))

  behind_is : seen_behind held m ≡ nearest made (siblings_after made p)
  behind_is =
      ap (λ l. or_else (nearest held (drop (place_at held m + 1) l)) (behind_holder held m)) row_held
      ∙ ap (λ l. or_else (nearest held l) (behind_holder held m)) (drop_all (place_at held m + 1) (row ++ m ∷ []) (omega (arith, place_is, length-append row (m ∷ []))))
      ∙ ap (option_and_then (λ q. behind_property held (content_at held q) q)) said
      ∙ ap (λ w. behind_property held w p) is
      ∙ ap (nearest held) after_same
      ∙ nearest_same (siblings_after made p) (after_there made tree p)

  pub past_is : space_needed_past made p ≡ space_needed_after held m
  past_is =
      let same : begins_bare held (nearest made (siblings_after made p)) ≡ begins_bare made (nearest made (siblings_after made p)) = begins_same (nearest made (siblings_after made p)) (found_like Apart (prints_at made) (siblings_after made p) after_apart) in
      sym (ap (λ o. cond (begins_bare held o) o None) behind_is ∙ ap (λ b. cond b (nearest made (siblings_after made p)) None) same)

-- Among the nodes `made` a value was laid out, and then its spaces were made.
module _ (old made ready : List Node) (tree : IsTree old) (p m : ℕ) (inside : p < length old) (is : content_at old p ≡ property) (l : Layout) (v : Plain) (built : Builds old made m (laid l v).content (laid l v).below)
    (prepared : Extends made ready) where
  from_made : Keeps (length made) made ready
  from_made = prepared.keeps

  kept : Keeps (length old) old ready
  kept = still_kept old made ready built.keeps prepared.keeps

  there : p < length made
  there = omega (arith, inside, built.keeps.len)

  pub can_come : CanAppend ready p m
  can_come = record {
    container = omega (arith, inside, kept.len);
    holds = ap is_container (kept.content p inside ∙ is);
    node = omega (arith, built.in_tree, from_made.len);
    not_root = λ e. omega (arith, e, built.later, inside);
    alone = from_made.parent m built.in_tree ∙ built.alone;
    not_over = λ over. over_no_old old ready tree kept m p built.later inside over;
  }

  top_is : top_at ready m ≡ laid l v
  top_is = top_stays made ready built.tree from_made prepared.tree m built.in_tree ∙ built_top built

  apart : p ≢ m
  apart e = omega (arith, e, built.later, inside)

  module _ (held : List Node) (put : Appends ready held p m) (after : IsTree held) where
    contents : (k : ℕ) → k < length made → content_at held k ≡ content_at made k
    contents k h = put.content k ∙ from_made.content k h

    others : (k : ℕ) → k < length made → k ≢ p → children_at held k ≡ children_at made k
    others k h ne = put.others k ne ∙ from_made.children k h

    above : parent_at held p ≡ parent_at made p
    above = put.parents p apart ∙ from_made.parent p there

    row_then : children_at held p ≡ children_at made p ++ m ∷ []
    row_then = put.children ∙ ap (λ r. r ++ m ∷ []) (from_made.children p there)

    still : content_at held p ≡ property
    still = contents p there ∙ built.keeps.content p inside ∙ is

    module _ (before behind : Option ℕ) (e : before ≡ space_needed_last made p m) (f : behind ≡ space_needed_past made p) (spaces : Spaces)
        (hand : AreAtHand ready (if is_bare (content_at made m) then listed before ++ listed behind else []) spaces) where
      due_nodes : nodes_of spaces ≡ spaces_needed_around held m (laid l v).content
      due_nodes =
          hand.are ∙ ap (λ w. if is_bare w then listed before ++ listed behind else []) built.is
          ∙ ap (λ o. if is_bare (laid l v).content then listed o ++ listed behind else []) (e ∙ last_is made held built.tree after p m there still contents others above row_then put.parent)
          ∙ ap (λ o. if is_bare (laid l v).content then listed (space_needed_before held m) ++ listed o else []) (f ∙ past_is made held built.tree after p m there still contents others above row_then put.parent)

      pub come_children : AreChildren held (nodes_of spaces)
      come_children = subst (AreChildren held) (sym due_nodes) (around_children held after m p put.parent (laid l v).content)

      element : IsElement (content_at ready m)
      element = subst IsElement (sym (prepared.keeps.content m built.in_tree ∙ built.is)) (laid_element l v)

      come_free : (o : Option Space) → IsFree ready o → IsFree held o
      come_free None free = tt
      come_free (Some s) free = record {
        in_tree = omega (arith, free.in_tree, put.len);
        is = put.content s.leaf ∙ free.is;
        alone = put.parents s.leaf (λ same. no_space (content_at ready m) element (ap (content_at ready) (sym same) ∙ free.is)) ∙ free.alone;
      }

      pub come_hand : AreAtHand held (nodes_of spaces) spaces
      come_hand = record { are = refl; before = come_free spaces.before hand.before; behind = come_free spaces.behind hand.behind; two = hand.two }

      pub last_value : laid l v ≡ laid (layout_for old p p) v → (new : List Node) → AreSpaced held (nodes_of spaces) new → LastValue old new p v m
      last_value told new spaced = record {
        ready = ready;
        held = held;
        fresh = built.later;
        prepared = record { keeps = kept; tree = prepared.tree };
        is = top_is ∙ told;
        can = can_come;
        put = put;
        tree = after;
        spaces = subst (λ (t : Top). AreSpaced held (spaces_needed_around held m t.content) new) told (subst (λ xs. AreSpaced held xs new) due_nodes spaced);
      }
