-- Trivia comes into a row of a sound document: this stays sound, and has the value that it had.
use Rattle.std.proofs.Common.{◌≡◌, ◌≢◌, ◌∙◌, Bool, true, false, List, [], ◌++◌, Option, None, IsTrue, refl, sym, ap, subst}
use Rattle.std.proofs.lemmas.List.{append_assoc}
use Rattle.jsonc_text.specs.Options.{Options}
use Rattle.jsonc_text.specs.Plain.{Plain}
use Rattle.jsonc_tree.specs.Content.{Content, root}
use Rattle.jsonc_tree.specs.OrderedTree as ordered
use Rattle.jsonc_tree.specs.OrderedTree.{OrderedTree, none, more, leaves, followed_by, Replaced}
use Rattle.jsonc_tree.specs.Values.{DocumentValueOf}
use Rattle.jsonc_tree.proofs.OrderedTrees.{leaves-followed_by}
use Rattle.jsonc_sound.specs.Adjacent.{follower, LastEnds, LeavesEnd}
use Rattle.jsonc_sound.specs.ChangeLaws.{DiffersIn}
use Rattle.jsonc_sound.specs.Lines.{is_loose, LinesEndLoosely, DocumentLinesEndLoosely}
use Rattle.jsonc_sound.specs.SoundTrees.{SoundTree}
use Rattle.jsonc_sound.specs.TriviaChanges as changes
use Rattle.jsonc_sound.specs.TriviaChanges.{AreTrivia, AreTriviaOf, leaves_then, LeavesChanged, StretchChanged}
use Rattle.jsonc_sound.proofs.NodesAlone.{document_leaves}
use Rattle.jsonc_sound.proofs.RowsWithin.{both_within, leaves_within}
use Rattle.jsonc_sound.proofs.Trivia.{shaped_with_trivia}
use Rattle.jsonc_sound.proofs.TriviaLeaves.{front_leaves}
use Rattle.jsonc_sound.proofs.TriviaValues.{document_kept}
use Rattle.jsonc_edit.proofs.lemmas.remove.PartedTrivia.{around, below_same, no_replaced, over_lines, Kept}

-- behind the first node of a row something has come
pub comes_inside : (contents : List Content) (front : OrderedTree) → front ≢ none → (content : Content) (below after : OrderedTree)
    → LeavesChanged [] contents (followed_by front (more content below after)) (followed_by front (leaves_then contents (more content below after)))
comes_inside contents none ne content below after = absurd (ne refl)
comes_inside contents (more first under none) ne content below after = changes.come {first = first} {below = under} content below after refl
comes_inside contents (more first under (more next inner rest)) ne content below after = changes.later (comes_inside contents (more next inner rest) (λ e. cc) content below after)

-- what has become of a sound document into which these leaves have come
pub record Arrival (o : Options) (contents : List Content) (t u : OrderedTree) : Type 0 where
  pub sound : SoundTree o u
  pub value : (w : Option Plain) → DocumentValueOf o t w → DocumentValueOf o u w

-- where these leaves come between two rows, and these stand around them, the leaves before end
abbrev pub EndsAhead : Options → List Content → OrderedTree → OrderedTree → List Content → List Content → Type 0
EndsAhead o contents f back front behind =
    LeavesEnd o ((front ++ leaves f) ++ (leaves back ++ behind)) None → LastEnds o (front ++ leaves f) (follower (contents ++ (leaves back ++ behind)) None)

module _ (contents : List Content) (f back : OrderedTree) where
  abbrev row_was : OrderedTree
  row_was = followed_by f back

  abbrev row_now : OrderedTree
  row_now = followed_by f (leaves_then contents back)

  -- all other leaves stay
  abbrev pub come_differs : AreTrivia contents → {t u : OrderedTree} → Replaced row_was row_now t u → DiffersIn [] contents (leaves t) (leaves u)
  come_differs trivia r =
      let w = both_within r in
      record {
        front = w.front ++ leaves f;
        back = leaves back ++ w.back;
        before = leaves_within w.old ∙ ap (λ l. w.front ++ (l ++ w.back)) (leaves-followed_by f back) ∙ around w.front (leaves f) [] (leaves back) w.back;
        after = leaves_within w.new ∙ ap (λ l. w.front ++ (l ++ w.back)) (leaves-followed_by f (leaves_then contents back) ∙ ap (λ l. leaves f ++ l) (front_leaves contents back trivia)) ∙ around w.front (leaves f) contents (leaves back) w.back;
      }

  abbrev pub root_differs : AreTrivia contents → DiffersIn [] contents (leaves (more root row_was none)) (leaves (more root row_now none))
  root_differs trivia = record {
    front = leaves f;
    back = leaves back ++ [];
    before = ap (λ l. l ++ []) (leaves-followed_by f back) ∙ append_assoc (leaves f) (leaves back) [];
    after =
        ap (λ l. l ++ []) (leaves-followed_by f (leaves_then contents back) ∙ ap (λ l. leaves f ++ l) (front_leaves contents back trivia)) ∙ append_assoc (leaves f) (contents ++ leaves back) []
        ∙ ap (λ l. leaves f ++ l) (append_assoc contents (leaves back) []);
  }

  module _ (lines : (loose at_end : Bool) → LinesEndLoosely loose at_end row_was → LinesEndLoosely loose at_end row_now) where
    lifted : {t u : OrderedTree} → Replaced row_was row_now t u → (loose at_end : Bool) → LinesEndLoosely loose at_end t → Kept loose at_end t u
    lifted (ordered.here {content = content} {after = after}) loose at_end l = ((l.0, lines (is_loose content) false l.1, l.2), λ e. subst IsTrue (below_same loose at_end content row_was row_now after) e)
    lifted (ordered.deeper {content = content} {x = s} {y = t} {after = after} r) loose at_end l = ((l.0, (lifted r (is_loose content) false l.1).0, l.2), λ e. subst IsTrue (below_same loose at_end content s t after) e)
    lifted (ordered.later {content = content} {below = below} {x = s} {y = t} r) loose at_end l = over_lines loose at_end content below s t l (lifted r loose at_end l.2)

    root_lines : {u : OrderedTree} (row : OrderedTree) → LinesEndLoosely false true row → Replaced row_was row_now (more root row none) u → DocumentLinesEndLoosely u
    root_lines row l ordered.here = (row_now, refl, lines false true l)
    root_lines row l (ordered.deeper {y = y} r) = (y, refl, (lifted r false true l).0)
    root_lines row l (ordered.later r) = absurd (no_replaced r)

  below_changed : {s t : OrderedTree} → LeavesChanged [] contents row_was row_now → Replaced row_was row_now s t → LeavesChanged [] contents s t
  below_changed k ordered.here = changes.deeper k
  below_changed k (ordered.deeper r) = changes.deeper (below_changed k r)
  below_changed k (ordered.later r) = changes.later (below_changed k r)

  root_changed : {u : OrderedTree} (row : OrderedTree) → LeavesChanged [] contents row_was row_now → Replaced row_was row_now (more root row none) u → StretchChanged [] contents (more root row none) u
  root_changed row k ordered.here = changes.inside k
  root_changed row k (ordered.deeper r) = changes.inside (below_changed k r)
  root_changed row k (ordered.later r) = absurd (no_replaced r)

  module _ (o : Options) (trivia : AreTrivia contents) (allowed : AreTriviaOf o contents) where
    arrives : {t u : OrderedTree} → SoundTree o t → StretchChanged [] contents t u → DocumentLinesEndLoosely u → (d : DiffersIn [] contents (leaves t) (leaves u)) → LastEnds o d.front (follower (contents ++ d.back) None) → Arrival o contents t u
    arrives {t} {u} s change lines d ends = record {
      sound = record { shaped = shaped_with_trivia o t s.shaped [] contents u change tt allowed d ends; lines = lines };
      value = λ w h. document_kept o [] contents tt trivia w change h;
    }

    all_end : {t : OrderedTree} {x : List Content} → SoundTree o t → leaves t ≡ x → LeavesEnd o x None
    all_end s e = subst (λ l. LeavesEnd o l None) e (document_leaves o s.shaped)

    -- in an array or object, between two nodes
    pub arrives_inside : LeavesChanged [] contents row_was row_now → ((loose at_end : Bool) → LinesEndLoosely loose at_end row_was → LinesEndLoosely loose at_end row_now)
        → ((front behind : List Content) → EndsAhead o contents f back front behind) → {t u : OrderedTree} → Replaced row_was row_now t u → SoundTree o t → Arrival o contents t u
    arrives_inside k lines ends {t} {u} r s =
        let w = both_within r in
        let d : DiffersIn [] contents (leaves t) (leaves u) = come_differs trivia r in
        let l = s.lines in
        let change : StretchChanged [] contents t u = subst (λ x. StretchChanged [] contents x u) (sym l.1) (root_changed l.0 k (subst (λ x. Replaced row_was row_now x u) l.1 r)) in
        arrives s change (root_lines lines l.0 l.2 (subst (λ x. Replaced row_was row_now x u) l.1 r)) d (ends w.front w.back (all_end s d.before))

    -- in the root
    pub arrives_in_root : (LinesEndLoosely false true row_was → LinesEndLoosely false true row_now) → EndsAhead o contents f back [] [] → SoundTree o (more root row_was none) → Arrival o contents (more root row_was none) (more root row_now none)
    arrives_in_root lines ends s =
        let d : DiffersIn [] contents (leaves (more root row_was none)) (leaves (more root row_now none)) = root_differs trivia in
        let l = s.lines in
        let same : l.0 ≡ row_was = (let whole : more root row_was none ≡ more root l.0 none = l.1 in cc) in
        arrives s (changes.in_root f back) (row_now, refl, lines (subst (LinesEndLoosely false true) same l.2)) d (ends (all_end s d.before))
