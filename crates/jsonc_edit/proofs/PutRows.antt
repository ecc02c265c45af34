-- Nodes are made, and then those of a container's children that stand between two places are replaced by others: what is below the container then, and the document.
use Rattle.std.proofs.Common.{◌≡◌, ◌∙◌, ℕ, suc, ◌+◌, ◌<◌, List, ◌∷◌, ◌++◌, All, length, take, drop, sym, ap, subst, arith, append_assoc, length-append}
use Rattle.std.proofs.lemmas.List.{drop_at, take_at}
use Rattle.std.proofs.lemmas.List.Elements.{All-drop, All-from_get_or, All-take}
use Rattle.jsonc_tree.specs.Changes.{CanJoin, Splices}
use Rattle.jsonc_tree.specs.Content.{Content, token}
use Rattle.jsonc_tree.specs.OrderedTree.{OrderedTree, Top, followed_by, ordered_tree, Replaced, Shows}
use Rattle.jsonc_tree.specs.Tree.{Node, content_at, children_at, IsTree, IsOver}
use Rattle.jsonc_tree.proofs.Builder.{Shows-keeps}
use Rattle.jsonc_tree.proofs.SplicedTrees.{Replaced-splice}
use Rattle.jsonc_layout.proofs.lemmas.nodes.InTree.{children_there}
use Rattle.jsonc_sound.specs.Rows.{RowKind, container_of, holder, opening}
use Rattle.jsonc_sound.specs.Shape.{token_then}
use Rattle.jsonc_sound.specs.TreeChanges.{DocumentChanged}
use Rattle.jsonc_edit.specs.Changes.{row_below, top_at, Respliced}
use Rattle.jsonc_edit.specs.Paths.{IsAt}
use Rattle.jsonc_edit.specs.Put.{Extends}
use Rattle.jsonc_edit.specs.Seams.{StandsBetween}
use Rattle.jsonc_edit.proofs.ChangesUpward.{Shows-row_below}
use Rattle.jsonc_edit.proofs.LeavesAroundNodes.{between_above, stands_kept}
use Rattle.jsonc_edit.proofs.NodesKept.{at_kept, over_keeps, row_kept, top_stays, tree_stays}
use Rattle.jsonc_edit.proofs.Splices.{respliced_over, respliced_row}
use Rattle.jsonc_edit.proofs.Standing.{row_stands, same_top, shows_standing, standing, standing_then, token_first}

-- all nodes were made ready, and then those between two places among the children of c were replaced
pub record RowPut (old new : List Node) (c : ℕ) : Type 0 where
  pub ready : List Node
  pub from : ℕ
  pub to : ℕ
  pub put : List ℕ
  pub tree : IsTree old
  pub there : c < length old
  pub prepared : Extends old ready
  pub join : CanJoin ready c from to put
  pub spliced : Splices ready new c from to put
  pub after : IsTree new

abbrev top_of : Content → OrderedTree → Top
top_of content below = record { content = content; below = below }

three : {a b c x y z : OrderedTree} → a ≡ x → b ≡ y → c ≡ z → followed_by a (followed_by b c) ≡ followed_by x (followed_by y z)
three {a} {b} {c} {x} {y} e f g = ap (λ t. followed_by t (followed_by b c)) e ∙ ap (λ t. followed_by x (followed_by t c)) f ∙ ap (λ t. followed_by x (followed_by y t)) g

module _ (old new : List Node) (c : ℕ) (r : RowPut old new c) where
  abbrev kids : List ℕ
  kids = children_at old c

  abbrev ready : IsTree r.ready
  ready = r.prepared.tree

  abbrev respliced : Respliced r.ready new c
  respliced = record { from = r.from; to = r.to; put = r.put; tree = ready; in_tree = omega (arith, r.there, r.prepared.keeps.len); after = r.after; join = r.join; spliced = r.spliced }

  -- what is below the container
  part : (cut : List ℕ → List ℕ) {t : OrderedTree} → All (λ n. n < length old) (cut kids) → Shows old (cut kids) t → Shows r.ready (cut (children_at r.ready c)) t
  part cut {t} all shown = subst (λ (l : List ℕ). Shows r.ready (cut l) t) (sym (r.prepared.keeps.children c r.there)) (Shows-keeps old r.ready r.tree r.prepared.keeps (cut kids) t (λ k h. all k 0 h) shown)

  pub shown_put : {front made back : OrderedTree} → Shows old (take r.from kids) front → Shows r.ready r.put made → Shows old (drop r.to kids) back → row_below new c ≡ followed_by front (followed_by made back)
  shown_put {front} {made} {back} before inner later =
      let all : All (λ n. n < length old) kids = children_there old r.tree c in
      respliced_row r.ready new c respliced front made back (part (take r.from) (All-take (λ n. n < length old) r.from kids all) before) inner (part (drop r.to) (All-drop (λ n. n < length old) r.to kids all) later)

  -- a node over the container changes at its path, and nothing else
  pub changed_put : (q : ℕ) → q < length old → IsOver old q c → (path : List ℕ) → IsAt old path q → DocumentChanged (top_at old q) (top_at new q) path (ordered_tree old 0) (ordered_tree new 0)
  changed_put q there over path at =
      let changed : DocumentChanged (top_at r.ready q) (top_at new q) path (ordered_tree r.ready 0) (ordered_tree new 0) =
      respliced_over r.ready new c respliced q (over_keeps old r.ready r.tree r.prepared.keeps c r.there over) path (at_kept old r.ready r.tree r.prepared.keeps path q at) in
      subst (λ (t : OrderedTree). DocumentChanged (top_at old q) (top_at new q) path t (ordered_tree new 0)) (tree_stays old r.ready r.tree r.prepared.keeps ready)
      (subst (λ (w : Top). DocumentChanged w (top_at new q) path (ordered_tree r.ready 0) (ordered_tree new 0)) (top_stays old r.ready r.tree r.prepared.keeps ready q there) changed)

  pub replaced_put : IsOver old 0 c → Replaced (row_below old c) (row_below new c) (ordered_tree old 0) (ordered_tree new 0)
  replaced_put over =
      subst (λ t. Replaced (row_below old c) (row_below new c) t (ordered_tree new 0)) (tree_stays old r.ready r.tree r.prepared.keeps ready)
      (Replaced-splice r.ready new ready r.after c r.from r.to r.put r.spliced (row_below old c) (row_below new c)
      (subst (Shows r.ready (children_at r.ready c)) (row_kept old r.ready r.tree r.prepared.keeps ready c r.there) (Shows-row_below r.ready ready c respliced.in_tree))
      (Shows-row_below new r.after c (omega (arith, respliced.in_tree, r.spliced.len))) 0 ready.first (over_keeps old r.ready r.tree r.prepared.keeps c r.there over))

  -- it stands between the leaves between which it stood
  pub stands_put : {g d : List Content} → StandsBetween old c g d → StandsBetween new c g d
  stands_put {g} {d} stands =
      between_above r.ready new c (record { tree = ready; content = λ n ne. r.spliced.content n; children = r.spliced.others }) r.after c g d (stands_kept old r.ready r.tree r.prepared.keeps c g d stands) IsOver.itself

  pub document_put : {w : Content} {was now : OrderedTree} → content_at old c ≡ w → row_below old c ≡ was → row_below new c ≡ now → (path : List ℕ) → IsAt old path c → DocumentChanged (top_of w was) (top_of w now) path (ordered_tree old 0) (ordered_tree new 0)
  document_put {w} {was} {now} is e f path at =
      let new_is : content_at new c ≡ w = r.spliced.content c ∙ r.prepared.keeps.content c r.there ∙ is in
      subst (λ (t : Top). DocumentChanged t (top_of w now) path (ordered_tree old 0) (ordered_tree new 0)) (same_top (content_at old c) w (row_below old c) was is e)
      (subst (λ (t : Top). DocumentChanged (top_at old c) t path (ordered_tree old 0) (ordered_tree new 0)) (same_top (content_at new c) w (row_below new c) now new_is f) (changed_put c r.there IsOver.itself path at))

  -- the children in three parts, of which the middle one is replaced
  module _ (front was back : List ℕ) (parts : kids ≡ front ++ (was ++ back)) where
    pub part_was : row_below old c ≡ followed_by (standing old front) (followed_by (standing old was) (standing old back))
    part_was = row_stands old r.tree c r.there ∙ ap (standing old) parts ∙ standing_then old front (was ++ back) ∙ ap (followed_by (standing old front)) (standing_then old was back)

    stands_as : (xs : List ℕ) {ys : List ℕ} → ys ≡ xs → All (λ n. n < length old) ys → Shows old ys (standing old xs)
    stands_as xs e all = subst (λ (l : List ℕ). Shows old l (standing old xs)) (sym e) (shows_standing old r.tree xs (subst (All (λ n. n < length old)) e all))

    pub part_put : r.from ≡ length front → r.to ≡ length front + length was → row_below new c ≡ followed_by (standing old front) (followed_by (standing r.ready r.put) (standing old back))
    part_put from to =
        let all : All (λ n. n < length old) kids = children_there old r.tree c in
        shown_put (stands_as front (ap (take r.from) parts ∙ take_at front (was ++ back) r.from (sym from)) (All-take (λ n. n < length old) r.from kids all))
        (shows_standing r.ready ready r.put (All-from_get_or (λ n. n < length r.ready) r.put 0 (λ k h. r.join.in_tree k h)))
        (stands_as back (ap (drop r.to) (parts ∙ sym (append_assoc front was back)) ∙ drop_at (front ++ was) back r.to (omega (arith, to, length-append front was))) (All-drop (λ n. n < length old) r.to kids all))

  -- of an array or object, behind its first bracket
  pub inside_put : (kind : RowKind) (x : ℕ) (front was back : List ℕ) → content_at old c ≡ holder kind → content_at old x ≡ token (opening kind) → kids ≡ x ∷ (front ++ (was ++ back)) → r.from ≡ suc (length front) → r.to ≡ suc (length front + length was)
      → {f w p b : OrderedTree} → standing old front ≡ f → standing old was ≡ w → standing r.ready r.put ≡ p → standing old back ≡ b
      → (path : List ℕ) → IsAt old path c → DocumentChanged (container_of kind (followed_by f (followed_by w b))) (container_of kind (followed_by f (followed_by p b))) path (ordered_tree old 0) (ordered_tree new 0)
  inside_put kind x front was back is opens parts from to {f} {w} {p} {b} first middle made last path at =
      let bracket = λ (row : OrderedTree). token_first old r.tree x (opening kind) row opens in
      document_put is
      (part_was (x ∷ front) was back parts ∙ bracket (followed_by (standing old front) (followed_by (standing old was) (standing old back))) ∙ ap (token_then (opening kind)) (three first middle last))
      (part_put (x ∷ front) was back parts from (omega (arith, to)) ∙ bracket (followed_by (standing old front) (followed_by (standing r.ready r.put) (standing old back))) ∙ ap (token_then (opening kind)) (three first made last)) path at
