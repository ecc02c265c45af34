-- How many comments are among the leaves before a comment: as many as its number says.
use Rattle.std.proofs.Common.{◌≡◌, ℕ, ◌+◌, ◌<◌, false, List, [], ◌∷◌, ◌++◌, length, filter, take, drop, Some, refl, sym, ap, ◌∙◌}
use Rattle.std.proofs.lemmas.List.{append_assoc, append-nil, drop_more, take-append-drop}
use Rattle.std.proofs.lemmas.List.Concat.{flat_map-append}
use Rattle.std.proofs.lemmas.List.Elements.{All-take}
use Rattle.std.specs.List.{flat_map}
use Rattle.jsonc_tree.specs.Content.{Content, is_container}
use Rattle.jsonc_tree.specs.Order.{in_order}
use Rattle.jsonc_tree.specs.OrderedTree.{leaves}
use Rattle.jsonc_tree.specs.Tree.{Node, content_at, children_at, place_at, IsTree}
use Rattle.jsonc_tree.proofs.Order.{in_order_is, parent_there}
use Rattle.jsonc_layout.specs.nodes.Kinds.{is_comment_at}
use Rattle.jsonc_layout.proofs.lemmas.nodes.InTree.{children_there}
use Rattle.jsonc_sound.specs.Marks.{comments_of, marks_of}
use Rattle.jsonc_edit.specs.Comments.{comment_at}
use Rattle.jsonc_edit.specs.Seams.{StandsBetween, as_root, as_child}
use Rattle.jsonc_edit.proofs.CommentOrder.{comments_counted, picked}
use Rattle.jsonc_edit.proofs.InOrder.{as_many_before, leaf_at, shown_leaves}
use Rattle.jsonc_edit.proofs.SeamsAround.{holds_children}

module _ (ns : List Node) (tree : IsTree ns) where
  -- the leaves before a node are those of the nodes before it in order
  record Before (n : ℕ) (f : List Content) : Type 0 where
    nodes : List ℕ
    behind : List ℕ
    order : in_order ns 0 ≡ nodes ++ (in_order ns n ++ behind)
    shown : f ≡ flat_map (leaf_at ns) nodes

  regrouped : (f g own b d : List ℕ) (c : ℕ) → f ++ ((c ∷ (g ++ (own ++ b))) ++ d) ≡ (f ++ c ∷ g) ++ (own ++ (b ++ d))
  regrouped f g own b d c = simp (append_assoc) refl

  stands_before : (n : ℕ) (f b : List Content) → StandsBetween ns n f b → Before n f
  stands_before _ _ _ as_root = record { nodes = []; behind = []; order = sym (append-nil (in_order ns 0)); shown = refl }
  stands_before n _ _ (as_child {c = c} {f = f} {b = b} {front = front} said up fr bk) =
      let above = stands_before c f b up in
      let cs : List ℕ = children_at ns c in
      let k : ℕ = place_at ns n in
      let there = parent_there ns tree n c said in
      let parts : cs ≡ take k cs ++ n ∷ drop (k + 1) cs = sym (take-append-drop k cs) ∙ ap (λ l. take k cs ++ l) (drop_more cs k 0 (tree.within n c said)) ∙ ap (λ m. take k cs ++ m ∷ drop (k + 1) cs) (tree.found n c said) in
      let first : List ℕ = flat_map (in_order ns) (take k cs) in
      let last : List ℕ = flat_map (in_order ns) (drop (k + 1) cs) in
      let whole : in_order ns c ≡ c ∷ (first ++ (in_order ns n ++ last)) =
      in_order_is ns tree c there.1 ∙ ap (λ l. c ∷ flat_map (in_order ns) l) parts ∙ ap (λ (l : List ℕ). c ∷ l) (flat_map-append (in_order ns) (take k cs) (n ∷ drop (k + 1) cs)) in
      let row : leaves front ≡ flat_map (leaf_at ns) (c ∷ first) =
      shown_leaves ns tree (take k cs) front (All-take (λ m. m < length ns) k cs (children_there ns tree c)) fr ∙ ap (λ l. l ++ flat_map (leaf_at ns) first) (sym (holds_children ns tree n c said)) in
      record {
        nodes = above.nodes ++ c ∷ first;
        behind = last ++ above.behind;
        order = above.order ∙ ap (λ l. above.nodes ++ (l ++ above.behind)) whole ∙ regrouped above.nodes first (in_order ns n) last above.behind c;
        shown = ap (λ l. l ++ leaves front) above.shown ∙ ap (λ l. flat_map (leaf_at ns) above.nodes ++ l) row ∙ sym (flat_map-append (leaf_at ns) above.nodes (c ∷ first));
      }

  -- so many are comments
  pub comments_stand_before : (n : ℕ) (f b : List Content) → StandsBetween ns n f b → n < length ns → is_container (content_at ns n) ≡ false → (number : ℕ) → comment_at ns number ≡ Some n
      → length (comments_of (marks_of f)) ≡ number
  comments_stand_before n f b stands there leaf number at =
      let o = stands_before n f b stands in
      let told = picked (is_comment_at ns) (in_order ns 0) number n at in
      let own : in_order ns n ≡ n ∷ [] = in_order_is ns tree n there ∙ ap (λ l. n ∷ flat_map (in_order ns) l) (tree.leaf n leaf) in
      let mine : in_order ns 0 ≡ o.nodes ++ n ∷ o.behind = o.order ∙ ap (λ l. o.nodes ++ (l ++ o.behind)) own in
      let as_told : length (filter (is_comment_at ns) told.0) ≡ length (filter (is_comment_at ns) o.nodes) = as_many_before ns tree (is_comment_at ns) n told.0 told.1 o.nodes o.behind told.2 mine in
      ap (λ l. length (comments_of (marks_of l))) o.shown ∙ comments_counted ns o.nodes ∙ sym as_told ∙ told.3
