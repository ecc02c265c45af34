-- Leaves that come into a row: what the row of trees is then, the document, and its leaves.
use Rattle.std.proofs.Common.{◌≡◌, ◌∙◌, ℕ, ◌<◌, List, [], ◌∷◌, ◌++◌, length, map, take, drop, refl, sym, ap, subst}
use Rattle.std.proofs.lemmas.List.{take-append-drop}
use Rattle.std.proofs.lemmas.List.Elements.{All-drop, All-take}
use Rattle.jsonc_tree.specs.Content.{Content, root}
use Rattle.jsonc_tree.specs.OrderedTree.{OrderedTree, none, more, followed_by, leaves, ordered_tree, own_leaf, Replaced, Shows, shows_none, shows_more}
use Rattle.jsonc_tree.specs.Tree.{Node, content_at, children_at, IsOver, IsTree}
use Rattle.jsonc_tree.proofs.OrderedTrees.{leaves-followed_by, Shows-unique}
use Rattle.jsonc_tree.proofs.Rows.{Shows-append}
use Rattle.jsonc_layout.proofs.lemmas.nodes.InTree.{children_there}
use Rattle.jsonc_sound.specs.ChangeLaws.{DiffersIn}
use Rattle.jsonc_sound.specs.TreeChanges.{leaves_of}
use Rattle.jsonc_sound.specs.TriviaChanges.{AreTrivia, leaves_then}
use Rattle.jsonc_sound.proofs.TriviaLeaves.{front_leaves}
use Rattle.jsonc_edit.specs.Changes.{row_below, top_at}
use Rattle.jsonc_edit.specs.Seams.{StandsBetween}
use Rattle.jsonc_edit.specs.commenting.Come.{LeavesCome}
use Rattle.jsonc_edit.proofs.ChangesUpward.{document_is, Shows-row_below}
use Rattle.jsonc_edit.proofs.LeafKinds.{trivia_leaf}
use Rattle.jsonc_edit.proofs.PutRows.{replaced_put, shown_put, stands_put, RowPut}
use Rattle.jsonc_edit.proofs.SeamsAround.{leaves_around}
use Rattle.jsonc_edit.proofs.Standing.{shows_standing, standing}
use Rattle.jsonc_edit.proofs.lemmas.remove.PartedTrivia.{around}

pub then_joined : (contents : List Content) (back : OrderedTree) → followed_by (leaves_then contents none) back ≡ leaves_then contents back
then_joined [] back = refl
then_joined (content ∷ rest) back = ap (more content none) (then_joined rest back)

-- what trivia stands for
trivia_shown : (ns : List Node) → IsTree ns → (row : List ℕ) → AreTrivia (map (content_at ns) row) → Shows ns row (leaves_then (map (content_at ns) row) none)
trivia_shown ns tree [] t = shows_none
trivia_shown ns tree (n ∷ row) t = shows_more (subst (λ (l : List ℕ). Shows ns l none) (sym (tree.leaf n (trivia_leaf (content_at ns n) t.0))) shows_none) (trivia_shown ns tree row t.1)

-- the trees that stand before a place of a row, and those behind it
pub record Cut (ns : List Node) (xs : List ℕ) (place : ℕ) : Type 0 where
  pub front : OrderedTree
  pub back : OrderedTree
  pub ahead : Shows ns (take place xs) front
  pub behind : Shows ns (drop place xs) back

pub cut_at : (ns : List Node) → IsTree ns → (c : ℕ) → c < length ns → (place : ℕ) → Cut ns (children_at ns c) place
cut_at ns tree c there place =
    let kids : List ℕ = children_at ns c in
    record {
      front = standing ns (take place kids);
      back = standing ns (drop place kids);
      ahead = shows_standing ns tree (take place kids) (All-take (λ n. n < length ns) place kids (children_there ns tree c));
      behind = shows_standing ns tree (drop place kids) (All-drop (λ n. n < length ns) place kids (children_there ns tree c));
    }

-- a root over a row
root_over : (ns : List Node) → IsTree ns → {c : ℕ} {t : OrderedTree} → c ≡ 0 → row_below ns c ≡ t → ordered_tree ns 0 ≡ more root t none
root_over ns tree e f = sym (document_is ns tree (row_below ns 0) (Shows-row_below ns tree 0 tree.first)) ∙ ap (λ t. more root t none) (ap (row_below ns) (sym e) ∙ f)

module _ (old new : List Node) (tree : IsTree old) (c place : ℕ) (contents : List Content) (r : LeavesCome old new c place contents) (trivia : AreTrivia contents) (there : c < length old) (cut : Cut old (children_at old c) place) where
  abbrev put : RowPut old new c
  put = record { ready = r.ready; from = place; to = place; put = r.row; tree = tree; there = there; prepared = r.prepared; join = r.join; spliced = r.put; after = r.tree }

  abbrev was : OrderedTree
  was = followed_by cut.front cut.back

  abbrev now : OrderedTree
  now = followed_by cut.front (leaves_then contents cut.back)

  row_was : row_below old c ≡ was
  row_was =
      let kids : List ℕ = children_at old c in
      Shows-unique old kids (row_below old c) was (Shows-row_below old tree c there)
      (subst (λ (l : List ℕ). Shows old l was) (take-append-drop place kids) (Shows-append old (take place kids) (drop place kids) cut.front cut.back cut.ahead cut.behind))

  row_now : row_below new c ≡ now
  row_now =
      shown_put old new c put cut.ahead (subst (λ l. Shows r.ready r.row (leaves_then l none)) r.made.are (trivia_shown r.ready r.prepared.tree r.row (subst AreTrivia (sym r.made.are) trivia))) cut.behind
      ∙ ap (followed_by cut.front) (then_joined contents cut.back)

  pub come_replaced : IsOver old 0 c → Replaced was now (ordered_tree old 0) (ordered_tree new 0)
  come_replaced over =
      subst (λ t. Replaced t now (ordered_tree old 0) (ordered_tree new 0)) row_was (subst (λ t. Replaced (row_below old c) t (ordered_tree old 0) (ordered_tree new 0)) row_now (replaced_put old new c put over))

  -- in the root
  pub root_was : c ≡ 0 → ordered_tree old 0 ≡ more root was none
  root_was e = root_over old tree e row_was

  pub root_now : c ≡ 0 → ordered_tree new 0 ≡ more root now none
  root_now e = root_over new r.tree e row_now

  -- among the leaves of the document
  module _ (bare : own_leaf (content_at old c) ≡ []) (g d : List Content) (up : StandsBetween old c g d) where
    pub under_old : leaves_of (top_at old c) ≡ leaves cut.front ++ leaves cut.back
    under_old = ap (λ l. l ++ leaves (row_below old c)) bare ∙ ap leaves row_was ∙ leaves-followed_by cut.front cut.back

    pub under_new : leaves_of (top_at new c) ≡ leaves cut.front ++ (contents ++ leaves cut.back)
    under_new =
        ap (λ w. own_leaf w ++ leaves (row_below new c)) (r.put.content c ∙ r.prepared.keeps.content c there) ∙ ap (λ l. l ++ leaves (row_below new c)) bare ∙ ap leaves row_now
        ∙ leaves-followed_by cut.front (leaves_then contents cut.back) ∙ ap (λ l. leaves cut.front ++ l) (front_leaves contents cut.back trivia)

    abbrev pub come_around : DiffersIn [] contents (leaves (ordered_tree old 0)) (leaves (ordered_tree new 0))
    come_around = record {
      front = g ++ leaves cut.front;
      back = leaves cut.back ++ d;
      before = leaves_around old tree c g d up ∙ ap (λ l. g ++ (l ++ d)) under_old ∙ around g (leaves cut.front) [] (leaves cut.back) d;
      after = leaves_around new r.tree c g d (stands_put old new c put up) ∙ ap (λ l. g ++ (l ++ d)) under_new ∙ around g (leaves cut.front) contents (leaves cut.back) d;
    }
