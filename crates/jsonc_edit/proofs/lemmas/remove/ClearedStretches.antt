-- Trivia of a container leaves directly behind a newline or a token: what becomes of the document.
use Rattle.std.proofs.Common.{◌≡◌, ◌≢◌, ℕ, suc, ◌+◌, ◌<◌, false, List, [], ◌∷◌, ◌++◌, length, map, take, drop, Option, refl, sym, ap, subst, ◌∙◌}
use Rattle.std.proofs.Math.Seq.{drop-append-add, drop-append_seam, take-append-add}
use Rattle.jsonc_text.specs.Options.{Options}
use Rattle.jsonc_text.specs.Plain.{Plain}
use Rattle.jsonc_tree.specs.Changes.{Splices}
use Rattle.jsonc_tree.specs.Content.{Content, is_container}
use Rattle.jsonc_tree.specs.OrderedTree as ordered
use Rattle.jsonc_tree.specs.OrderedTree.{OrderedTree, none, more, leaves, followed_by, ordered_tree, Replaced, Shows, shows_none, shows_more}
use Rattle.jsonc_tree.specs.Tree.{Node, content_at, children_at, IsOver, IsTree}
use Rattle.jsonc_tree.specs.Values.{DocumentValueOf}
use Rattle.jsonc_tree.proofs.Rows.{followed_by-assoc, Shows-append, Shows-part}
use Rattle.jsonc_tree.proofs.SplicedTrees.{Replaced-splice, Shows-spliced}
use Rattle.jsonc_tree.proofs.Moves.{CanJoin-none}
use Rattle.jsonc_sound.specs.ChangeLaws.{DiffersIn}
use Rattle.jsonc_sound.specs.SoundTrees.{SoundTree}
use Rattle.jsonc_sound.specs.TriviaChanges.{AreTrivia, leaves_then}
use Rattle.jsonc_edit.specs.Changes.{row_below}
use Rattle.jsonc_edit.proofs.ChangesUpward.{Shows-row_below}
use Rattle.jsonc_edit.proofs.lemmas.remove.PartedTrivia.{Parts, sound_still, trivia_gone, value_still}
use Rattle.jsonc_edit.proofs.lemmas.remove.Trees.{leaves_shown, trivia_leaves}

empty : {ns : List Node} {t : OrderedTree} → Shows ns [] t → t ≡ none
empty shows_none = refl

-- where a row is replaced by itself, nothing changes
same_replaced : {row t u : OrderedTree} → Replaced row row t u → t ≡ u
same_replaced ordered.here = refl
same_replaced (ordered.deeper {content = content} {after = a} r) = ap (λ k. more content k a) (same_replaced r)
same_replaced (ordered.later {content = content} {below = below} r) = ap (more content below) (same_replaced r)

-- what has become of a sound document that these leaves have left
pub record LeftSound (o : Options) (gone : List Content) (t u : OrderedTree) : Type 0 where
  pub sound : SoundTree o u
  pub value : (w : Option Plain) → DocumentValueOf o t w → DocumentValueOf o u w
  pub leaves : DiffersIn gone [] (leaves t) (leaves u)

module _ (o : Options) (old new : List Node) (tree : IsTree old) (after : IsTree new) (c x : ℕ) (front mid back : List ℕ) where
  abbrev contents : List Content
  contents = map (content_at old) mid

  abbrev content : Content
  content = content_at old x

  -- the rows of trees that stand for such a row
  record Cut (t : OrderedTree) : Type 0 where
    before : OrderedTree
    behind : OrderedTree
    shows_before : Shows old front before
    shows_behind : Shows old back behind
    is : t ≡ followed_by before (more content none (leaves_then contents behind))

  module _ (leaf : is_container content ≡ false) (trivia : AreTrivia contents) where
    bare : {t : OrderedTree} → Shows old (children_at old x) t → t ≡ none
    bare {t} p = empty (subst (λ (l : List ℕ). Shows old l t) (tree.leaf x leaf) p)

    cut_rest : (f : OrderedTree) → Shows old front f → (t r : OrderedTree) → t ≡ followed_by f r → Shows old (x ∷ (mid ++ back)) r → Cut t
    cut_rest f p t _ e (shows_more {below = below} {after = a} q s) =
        let d = Shows-part old mid back a s in
        record {
          before = f;
          behind = d.1;
          shows_before = p;
          shows_behind = d.4;
          is = e ∙ ap (λ b. followed_by f (more content b a)) (bare q) ∙ ap (λ r. followed_by f (more content none r)) (d.2 ∙ leaves_shown old tree mid d.0 d.1 (trivia_leaves contents trivia) d.3);
        }

    cut : (t : OrderedTree) → Shows old (front ++ (x ∷ (mid ++ back))) t → Cut t
    cut t shown = let d = Shows-part old front (x ∷ (mid ++ back)) t shown in cut_rest d.0 d.3 t d.1 d.2 d.4

    module _ (there : c < length old) (over : IsOver old 0 c) (row : children_at old c ≡ front ++ (x ∷ (mid ++ back))) (i j : ℕ) (from : i ≡ length front + 1) (to : j ≡ length front + suc (length mid)) (gone : Splices old new c i j []) where
      first_part : take i (children_at old c) ≡ front ++ x ∷ []
      first_part = ap (λ k. take k (children_at old c)) from ∙ ap (λ (l : List ℕ). take (length front + 1) l) row ∙ take-append-add front (x ∷ (mid ++ back)) 1

      last_part : drop j (children_at old c) ≡ back
      last_part = ap (λ k. drop k (children_at old c)) to ∙ ap (λ (l : List ℕ). drop (length front + suc (length mid)) l) row ∙ drop-append-add front (x ∷ (mid ++ back)) (suc (length mid)) ∙ drop-append_seam mid back

      cut_here : Cut (row_below old c)
      cut_here = cut (row_below old c) (subst (λ (l : List ℕ). Shows old l (row_below old c)) row (Shows-row_below old tree c there))

      abbrev f : OrderedTree
      f = cut_here.before

      abbrev b : OrderedTree
      b = cut_here.behind

      first_shown : Shows old (take i (children_at old c)) (followed_by f (more content none none))
      first_shown =
          subst (λ (l : List ℕ). Shows old l (followed_by f (more content none none))) (sym first_part)
          (Shows-append old front (x ∷ []) f (more content none none) cut_here.shows_before (shows_more (subst (λ (l : List ℕ). Shows old l none) (sym (tree.leaf x leaf)) shows_none) shows_none))

      new_shown : Shows new (children_at new c) (followed_by f (more content none b))
      new_shown =
          subst (Shows new (children_at new c)) (followed_by-assoc f (more content none none) b)
          (Shows-spliced old new tree after c i j [] gone (CanJoin-none old c i j) (followed_by f (more content none none)) none b first_shown shows_none (subst (λ (l : List ℕ). Shows old l b) (sym last_part) cut_here.shows_behind))

      old_shown : Shows old (children_at old c) (followed_by f (more content none (leaves_then contents b)))
      old_shown = subst (Shows old (children_at old c)) cut_here.is (Shows-row_below old tree c there)

      replaced : Replaced (followed_by f (more content none (leaves_then contents b))) (followed_by f (more content none b)) (ordered_tree old 0) (ordered_tree new 0)
      replaced = Replaced-splice old new tree after c i j [] gone (followed_by f (more content none (leaves_then contents b))) (followed_by f (more content none b)) old_shown new_shown 0 tree.first over

      pub left_sound : Parts o content → contents ≢ [] → SoundTree o (ordered_tree old 0) → LeftSound o contents (ordered_tree old 0) (ordered_tree new 0)
      left_sound p ne s = record {
        sound = sound_still o content p contents trivia b f ne replaced s;
        value = value_still o content p contents trivia b f ne replaced s;
        leaves = trivia_gone o content p contents trivia b f replaced;
      }

      -- of no leaves the document is what it was
      pub left_same : contents ≡ [] → ordered_tree new 0 ≡ ordered_tree old 0
      left_same e = sym (same_replaced (subst (λ cs. Replaced (followed_by f (more content none (leaves_then cs b))) (followed_by f (more content none b)) (ordered_tree old 0) (ordered_tree new 0)) e replaced))
