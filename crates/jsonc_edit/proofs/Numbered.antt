-- Where a comment leaves a document, which leaves stand before it, and that as many of them are comments as its number says.
use Rattle.std.proofs.Common.{◌≡◌, ◌≢◌, ℕ, ◌+◌, ◌-◌, ◌<◌, List, [], ◌∷◌, ◌++◌, length, filter, drop, slice_range, Some, None, refl, sym, ap, ◌∙◌, arith, append-nil}
use Rattle.std.proofs.lemmas.List.{append_assoc}
use Rattle.std.proofs.lemmas.List.Concat.{flat_map-append}
use Rattle.std.proofs.lemmas.List.Elements.{All-take, All-drop, filter-append}
use Rattle.std.specs.List.{flat_map}
use Rattle.jsonc_tree.specs.Content.{Content}
use Rattle.jsonc_tree.specs.Order.{in_order}
use Rattle.jsonc_tree.specs.OrderedTree.{leaves, ordered_tree, own_leaf}
use Rattle.jsonc_tree.specs.Tree.{Node, parent_at, children_at, place_at}
use Rattle.jsonc_tree.proofs.Order.{over_step, parent_there}
use Rattle.jsonc_layout.specs.nodes.Kinds.{is_comment_at}
use Rattle.jsonc_layout.specs.nodes.Siblings.{AreThere}
use Rattle.jsonc_layout.proofs.lemmas.nodes.InTree.{children_there}
use Rattle.jsonc_sound.specs.ChangeLaws.{DiffersIn}
use Rattle.jsonc_sound.specs.Marks.{comments_of, marks_of}
use Rattle.jsonc_edit.specs.Comments.{comment_at, removed_from, CommentRemoved, leaves_gone}
use Rattle.jsonc_edit.proofs.CommentOrder.{blanks_uncounted, comments_counted, picked, trivia_in_order, trivia_leaves}
use Rattle.jsonc_edit.proofs.InOrder.{as_many_before, leaf_at, leaves_in_order, spliced_order, SplicedOrder}
use Rattle.jsonc_edit.proofs.Removal.{all_trivia, blanks_gone, from_before, gone_is}

same_leaves : (f g : ℕ → List Content) → ((x : ℕ) → f x ≡ g x) → (xs : List ℕ) → flat_map f xs ≡ flat_map g xs
same_leaves f g h [] = refl
same_leaves f g h (x ∷ xs) = ap (λ l. l ++ flat_map f xs) (h x) ∙ ap (λ l. g x ++ l) (same_leaves f g h xs)

module _ (old new : List Node) (n : ℕ) (r : CommentRemoved old new n) where
  abbrev c : ℕ
  c = r.container

  abbrev row : List ℕ
  row = children_at old c

  abbrev from : ℕ
  from = removed_from old c n

  abbrev to : ℕ
  to = place_at old n + 1

  abbrev gone : List ℕ
  gone = slice_range row from to

  abbrev blanks : List ℕ
  blanks = slice_range row from (place_at old n)

  no_root : n ≢ 0
  no_root e = let wrong : None ≡ Some c = sym r.tree.root_alone ∙ ap (parent_at old) (sym e) ∙ r.parent in cc

  parts : SplicedOrder old new r.tree r.after c from to [] (r.removed c r.parent)
  parts =
      spliced_order old new r.tree r.after c from to [] (r.removed c r.parent) (parent_there old r.tree n c r.parent).1
      (over_step old r.tree 0 n c r.below no_root r.parent) (omega (arith, from_before old r.tree c n r.parent))

  gone_there : AreThere old gone
  gone_there = All-take (λ m. m < length old) (to - from) (drop from row) (All-drop (λ m. m < length old) from row (children_there old r.tree c))

  in_it : flat_map (in_order old) gone ≡ gone
  in_it = trivia_in_order old r.tree gone gone_there (all_trivia old new n r)

  was : in_order old 0 ≡ parts.front ++ (gone ++ parts.behind)
  was = parts.was ∙ ap (λ l. parts.front ++ (l ++ parts.behind)) in_it

  three : (f : ℕ → List Content) (xs ys zs : List ℕ) → flat_map f (xs ++ (ys ++ zs)) ≡ flat_map f xs ++ (flat_map f ys ++ flat_map f zs)
  three f xs ys zs = flat_map-append f xs (ys ++ zs) ∙ ap (λ l. flat_map f xs ++ l) (flat_map-append f ys zs)

  -- what leaves stands between the leaves of the nodes before it in order, and of those behind it
  pub leaves_apart : DiffersIn (leaves_gone r) [] (leaves (ordered_tree old 0)) (leaves (ordered_tree new 0))
  leaves_apart = record {
    front = flat_map (leaf_at old) parts.front;
    back = flat_map (leaf_at old) parts.behind;
    before =
        leaves_in_order old r.tree ∙ ap (flat_map (leaf_at old)) was ∙ three (leaf_at old) parts.front gone parts.behind
        ∙ ap (λ l. flat_map (leaf_at old) parts.front ++ (l ++ flat_map (leaf_at old) parts.behind)) (trivia_leaves old r.tree gone (all_trivia old new n r));
    after =
        leaves_in_order new r.after ∙ ap (flat_map (leaf_at new)) parts.is ∙ same_leaves (leaf_at new) (leaf_at old) (λ k. ap own_leaf ((r.removed c r.parent).content k)) (parts.front ++ parts.behind)
        ∙ flat_map-append (leaf_at old) parts.front parts.behind;
  }

  pub number_ahead : (number : ℕ) → comment_at old number ≡ Some n → length (comments_of (marks_of leaves_apart.front)) ≡ number
  unfolding leaves_apart
  number_ahead number at =
      let told = picked (is_comment_at old) (in_order old 0) number n at in
      let mine : in_order old 0 ≡ (parts.front ++ blanks) ++ n ∷ parts.behind =
      was ∙ ap (λ l. parts.front ++ (l ++ parts.behind)) (gone_is old r.tree c n r.parent) ∙ ap (λ l. parts.front ++ l) (append_assoc blanks (n ∷ []) parts.behind) ∙ sym (append_assoc parts.front blanks (n ∷ parts.behind)) in
      let as_told : length (filter (is_comment_at old) told.0) ≡ length (filter (is_comment_at old) (parts.front ++ blanks)) = as_many_before old r.tree (is_comment_at old) n told.0 told.1 (parts.front ++ blanks) parts.behind told.2 mine in
      let none : filter (is_comment_at old) (parts.front ++ blanks) ≡ filter (is_comment_at old) parts.front =
      filter-append (is_comment_at old) parts.front blanks ∙ ap (λ l. filter (is_comment_at old) parts.front ++ l) (blanks_uncounted old blanks (blanks_gone old r.tree c n r.parent)) ∙ append-nil (filter (is_comment_at old) parts.front) in
      comments_counted old parts.front ∙ sym (as_told ∙ ap (λ (l : List ℕ). length l) none) ∙ told.3
