-- The leaves of a document around a node: what stands before it, its own, and what stands behind it.
use Rattle.std.proofs.Common.{◌≡◌, ℕ, ◌+◌, ◌<◌, ◌||◌, false, cond, List, [], ◌∷◌, ◌++◌, length, map, take, drop, Some, IsTrue, inl, inr, refl, sym, ap, subst, ◌∙◌, arith}
use Rattle.std.proofs.lemmas.Bool.{cases_Bool}
use Rattle.std.proofs.lemmas.List.{append_assoc, drop_more, take-append-drop}
use Rattle.jsonc_tree.specs.Content.{Content, is_container}
use Rattle.jsonc_tree.specs.OrderedTree.{OrderedTree, none, more, own_leaf, leaves, followed_by, ordered_tree, Shows, shows_none, shows_more}
use Rattle.jsonc_tree.specs.Tree.{Node, content_at, parent_at, children_at, place_at, IsTree, IsOver}
use Rattle.jsonc_tree.proofs.Order.{parent_there}
use Rattle.jsonc_tree.proofs.OrderedTrees.{Shows-unique, leaves-followed_by}
use Rattle.jsonc_tree.proofs.Rows.{Shows-append, Shows-part}
use Rattle.jsonc_layout.specs.nodes.Kinds.{is_whitespace, is_newline}
use Rattle.jsonc_sound.specs.MarkChanges.{AreBlanks}
use Rattle.jsonc_sound.specs.TreeChanges.{leaves_of}
use Rattle.jsonc_edit.specs.Changes.{row_below, top_at}
use Rattle.jsonc_edit.proofs.ChangesUpward.{Shows-row_below}
use Rattle.jsonc_edit.specs.Seams.{StandsBetween, as_root, as_child}

module _ (ns : List Node) (tree : IsTree ns) where
  -- a node's row is that of its children: those before one, that one, and those behind it
  pub row_around : (n c : ℕ) (front back : OrderedTree) → parent_at ns n ≡ Some c → Shows ns (take (place_at ns n) (children_at ns c)) front
      → Shows ns (drop (place_at ns n + 1) (children_at ns c)) back → row_below ns c ≡ followed_by front (more (content_at ns n) (row_below ns n) back)
  row_around n c front back said fr bk =
      let cs : List ℕ = children_at ns c in
      let k : ℕ = place_at ns n in
      let there = parent_there ns tree n c said in
      let inn : k < length cs = tree.within n c said in
      let parts : cs ≡ take k cs ++ n ∷ drop (k + 1) cs = sym (take-append-drop k cs) ∙ ap (λ l. take k cs ++ l) (drop_more cs k 0 inn) ∙ ap (λ m. take k cs ++ m ∷ drop (k + 1) cs) (tree.found n c said) in
      let row : OrderedTree = followed_by front (more (content_at ns n) (row_below ns n) back) in
      let shown : Shows ns (take k cs ++ n ∷ drop (k + 1) cs) row = Shows-append ns (take k cs) (n ∷ drop (k + 1) cs) front (more (content_at ns n) (row_below ns n) back) fr (shows_more (Shows-row_below ns tree n there.0) bk) in
      Shows-unique ns cs (row_below ns c) row (Shows-row_below ns tree c there.1) (subst (λ (l : List ℕ). Shows ns l row) (sym parts) shown)

  pub holds_children : (n c : ℕ) → parent_at ns n ≡ Some c → own_leaf (content_at ns c) ≡ []
  holds_children n c said =
      elim (cases_Bool (is_container (content_at ns c))) [
        | inl holds ↦ ap (λ b. cond b [] (content_at ns c ∷ [])) holds
        | inr leaf ↦ absurd (omega (arith, tree.within n c said, ap length (tree.leaf c leaf)))
      ]

  regrouped : (f a own under b d : List Content) → f ++ ((a ++ (own ++ (under ++ b))) ++ d) ≡ (f ++ a) ++ ((own ++ under) ++ (b ++ d))
  regrouped f a own under b d =
      ap (λ l. f ++ l) (append_assoc a (own ++ (under ++ b)) d ∙ ap (λ l. a ++ l) (append_assoc own (under ++ b) d ∙ ap (λ l. own ++ l) (append_assoc under b d) ∙ sym (append_assoc own under (b ++ d))))
      ∙ sym (append_assoc f a ((own ++ under) ++ (b ++ d)))

  -- the leaves of the document around a node
  pub leaves_around : (n : ℕ) (f b : List Content) → StandsBetween ns n f b → leaves (ordered_tree ns 0) ≡ f ++ (leaves_of (top_at ns n) ++ b)
  unfolding ordered_tree
  leaves_around _ _ _ as_root = sym (append_assoc (own_leaf (content_at ns 0)) (leaves (row_below ns 0)) [])
  leaves_around n _ _ (as_child {c = c} {f = f} {b = b} {front = front} {back = back} said up fr bk) =
      let own : List Content = own_leaf (content_at ns n) in
      let under : List Content = leaves (row_below ns n) in
      let row : leaves (row_below ns c) ≡ leaves front ++ (own ++ (under ++ leaves back)) =
      ap leaves (row_around n c front back said fr bk) ∙ leaves-followed_by front (more (content_at ns n) (row_below ns n) back) in
      let whole : leaves_of (top_at ns c) ≡ leaves front ++ (own ++ (under ++ leaves back)) = ap (λ l. l ++ leaves (row_below ns c)) (holds_children n c said) ∙ row in
      leaves_around c f b up ∙ ap (λ l. f ++ (l ++ b)) whole ∙ regrouped f (leaves front) own under (leaves back) b

  -- a node of the document stands between leaves of it
  pub stands_somewhere : (n : ℕ) → IsOver ns 0 n → (f : List Content) × (b : List Content) × StandsBetween ns n f b
  stands_somewhere _ IsOver.itself = ([], [], as_root)
  stands_somewhere n (IsOver.above {c = c} said over) =
      let up = stands_somewhere c over in
      let cs : List ℕ = children_at ns c in
      let k : ℕ = place_at ns n in
      let whole : Shows ns cs (row_below ns c) = Shows-row_below ns tree c (parent_there ns tree n c said).1 in
      let one = Shows-part ns (take k cs) (drop k cs) (row_below ns c) (subst (λ (l : List ℕ). Shows ns l (row_below ns c)) (sym (take-append-drop k cs)) whole) in
      let two = Shows-part ns (take (k + 1) cs) (drop (k + 1) cs) (row_below ns c) (subst (λ (l : List ℕ). Shows ns l (row_below ns c)) (sym (take-append-drop (k + 1) cs)) whole) in
      (up.0 ++ leaves one.0, leaves two.1 ++ up.1, as_child said up.2 one.3 two.4)

  -- blanks are leaves
  blank_leaf : (content : Content) → IsTrue (is_whitespace content || is_newline content) → is_container content ≡ false
  blank_leaf (Content.whitespace s) h = refl
  blank_leaf (Content.newline k) h = refl
  blank_leaf content h = cc

  nothing_below : (xs : List ℕ) (t : OrderedTree) → xs ≡ [] → Shows ns xs t → t ≡ none
  nothing_below _ _ e shows_none = refl
  nothing_below _ _ e (shows_more p q) = absurd (let wrong = ap length e in omega (arith, wrong))

  pub leaf_alone : (n : ℕ) (t : OrderedTree) → is_container (content_at ns n) ≡ false → Shows ns (children_at ns n) t → t ≡ none
  leaf_alone n t leaf shows = nothing_below (children_at ns n) t (tree.leaf n leaf) shows

  pub blank_row : (xs : List ℕ) (t : OrderedTree) → AreBlanks (map (content_at ns) xs) → Shows ns xs t → leaves t ≡ map (content_at ns) xs
  blank_row _ _ h shows_none = refl
  blank_row _ _ h (shows_more {n = n} {rest = rest} {below = below} {after = after} p q) =
      let leaf = blank_leaf (content_at ns n) h.0 in
      let bare : below ≡ none = leaf_alone n below leaf p in
      ap (λ (t : OrderedTree). own_leaf (content_at ns n) ++ (leaves t ++ leaves after)) bare
      ∙ ap (λ b. (cond b [] (content_at ns n ∷ [])) ++ leaves after) leaf
      ∙ ap (λ l. content_at ns n ∷ l) (blank_row rest after h.1 q)
