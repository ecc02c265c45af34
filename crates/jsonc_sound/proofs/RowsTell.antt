-- A comment leaves a row, or a value of it is replaced: what meets is seen in that row.
use Rattle.std.proofs.Common.{◌≡◌, ◌≢◌, ◌∙◌, sym, ap, subst, refl, false, ◌&&◌, List, [], ◌∷◌, ◌++◌, is_some, IsTrue, append-nil}
use Rattle.std.proofs.lemmas.List.{append_assoc}
use Rattle.jsonc_text.specs.Options.{Options}
use Rattle.jsonc_tree.specs.Content.{Content, root}
use Rattle.jsonc_tree.specs.OrderedTree as ordered
use Rattle.jsonc_tree.specs.OrderedTree.{OrderedTree, none, more, own_leaf, leaves, followed_by, Replaced, Top}
use Rattle.jsonc_tree.proofs.OrderedTrees.{leaves-followed_by}
use Rattle.jsonc_sound.specs.ChangeLaws.{DiffersIn}
use Rattle.jsonc_sound.specs.TreeChanges.{leaves_of}
use Rattle.jsonc_sound.specs.TriviaChanges as changes
use Rattle.jsonc_sound.specs.TriviaChanges.{AreTrivia, leaves_then, LeavesChanged, StretchChanged, EndsInComment, one_comment, line_comment}
use Rattle.jsonc_sound.proofs.TriviaLeaves.{front_leaves}
use Rattle.jsonc_sound.specs.Adjacent.{or_else, last_printed}
use Rattle.jsonc_sound.specs.Alone.{RootAlone, DocumentAlone}
use Rattle.jsonc_sound.specs.InRows.{KeptWithoutCommentInRow, KeptByValueInRow, KeptByValueInRoot, KeptByValueInProperty, row_around, holding}
use Rattle.jsonc_sound.specs.SoundTrees.{SoundTree}
use Rattle.jsonc_sound.specs.Spaces.{is_bare_leaf, first_printed, meet}
use Rattle.jsonc_sound.proofs.NodesAlone.{document_alone}
use Rattle.jsonc_sound.proofs.LooseComments.{kept_without_comment}
use Rattle.jsonc_sound.proofs.RowsWithin.{Within, here, deeper, later, InDocument, no_row, root_in, leaves_within, both_within, LeafPrints, last_some, same_if_some, Starts, starts_with, Ends, ends_with, goes_on, Bounded, nothing, bounded, ends_print, no_more, at_root, further_in, document_in, none_meet_around}
use Rattle.jsonc_sound.proofs.SoundTrees.{kept_by_values}
use Rattle.jsonc_sound.proofs.Spaces.{last_append, first_append}

-- a row with a stretch, wherever it stands
stretch_leaves : {was : List Content} (front back : OrderedTree) → was ≢ [] → LeavesChanged was [] (followed_by front (leaves_then was back)) (followed_by front back)
stretch_leaves none back ne = changes.given_way back ne
stretch_leaves (more content below after) back ne = changes.later (stretch_leaves after back ne)

below_changed : {cs : List Content} {was now x y : OrderedTree} → LeavesChanged cs [] was now → Replaced was now x y → LeavesChanged cs [] x y
below_changed h ordered.here = changes.deeper h
below_changed h (ordered.deeper r) = changes.deeper (below_changed h r)
below_changed h (ordered.later r) = changes.later (below_changed h r)

no_replaced : {was now y : OrderedTree} → Replaced was now none y → ⊥
no_replaced r = elim r [ ]

root_stretch : {cs : List Content} (front back row : OrderedTree) {u : OrderedTree} → cs ≢ [] → Replaced (followed_by front (leaves_then cs back)) (followed_by front back) (more root row none) u → StretchChanged cs [] (more root row none) u
root_stretch front back row ne ordered.here = changes.in_root front back
root_stretch front back row ne (ordered.deeper r) = changes.inside (below_changed (stretch_leaves front back ne) r)
root_stretch front back row ne (ordered.later r) = absurd (no_replaced r)

no_end : (front : List Content) (x : Content) → front ++ x ∷ [] ≡ [] → ⊥
no_end [] x e = cc
no_end (y ∷ front) x e = cc

ends_some : {cs : List Content} → EndsInComment cs → cs ≢ []
ends_some one_comment e = cc
ends_some (line_comment front content h) e = no_end front content e

-- the leaves of a document around a stretch of a row
around_row : (f x y z b : List Content) → f ++ ((x ++ (y ++ z)) ++ b) ≡ (f ++ x) ++ (y ++ (z ++ b))
around_row f x y z b =
    ap (λ l. f ++ l) (append_assoc x (y ++ z) b ∙ ap (λ l. x ++ l) (append_assoc y z b)) ∙ sym (append_assoc f x (y ++ (z ++ b)))

stretch_list : (front back : OrderedTree) (gone : List Content) → AreTrivia gone → leaves (followed_by front (leaves_then gone back)) ≡ leaves front ++ (gone ++ leaves back)
stretch_list front back gone h = leaves-followed_by front (leaves_then gone back) ∙ ap (λ l. leaves front ++ l) (front_leaves gone back h)

node_list : (front back : OrderedTree) (top : Top) → leaves (row_around front top back) ≡ leaves front ++ (leaves_of top ++ leaves back)
node_list front back top = leaves-followed_by front (more top.content top.below back) ∙ ap (λ l. leaves front ++ l) (sym (append_assoc (own_leaf top.content) (leaves top.below) (leaves back)))

listed : {x t : OrderedTree} {f b : List Content} (l m r : List Content) → Within x f b t → leaves x ≡ l ++ (m ++ r) → leaves t ≡ (f ++ l) ++ (m ++ (r ++ b))
listed {f = f} {b = b} l m r w e = leaves_within w ∙ ap (λ k. f ++ (k ++ b)) e ∙ around_row f l m r b

module _ (o : Options) where
  comment_in_row : (t : OrderedTree) → SoundTree o t → (front back : OrderedTree) (c : Content) (gone : List Content) (u : OrderedTree)
      → Replaced (followed_by front (leaves_then (c ∷ gone) back)) (followed_by front back) t u → AreTrivia (c ∷ gone) → EndsInComment (c ∷ gone) → meet (leaves front) (leaves back) ≡ false → SoundTree o u
  comment_in_row t s front back c gone u r h ends m =
      let g = document_alone o s.shaped in
      let w = both_within r in
      let d : DiffersIn (c ∷ gone) [] (leaves t) (leaves u) = record {
        front = w.front ++ leaves front;
        back = leaves back ++ w.back;
        before = listed (leaves front) (c ∷ gone) (leaves back) w.old (stretch_list front back (c ∷ gone) h);
        after = listed (leaves front) [] (leaves back) w.new (leaves-followed_by front back);
      } in
      let stretch = subst (λ x. StretchChanged (c ∷ gone) [] x u) (sym g.1) (root_stretch front back g.0 (λ e. cc) (subst (λ x. Replaced (followed_by front (leaves_then (c ∷ gone) back)) (followed_by front back) x u) g.1 r)) in
      kept_without_comment o t s (c ∷ gone) u stretch h ends d (none_meet_around o g front back c gone h w.old m)

  pub kept_without_comment_in_row : (t : OrderedTree) → KeptWithoutCommentInRow o t
  kept_without_comment_in_row t s front back [] u r h ends m = absurd (ends_some ends refl)
  kept_without_comment_in_row t s front back (c ∷ gone) u r h ends m = comment_in_row t s front back c gone u r h ends m

-- what stands before a node, where something does in its row; and behind it
before_same : {x : OrderedTree} (f : List Content) → Starts x → (front rest : OrderedTree) → front ≢ none → x ≡ followed_by front rest → last_printed (f ++ leaves front) ≡ last_printed (leaves front)
before_same f s none rest ne e = absurd (ne refl)
before_same f (starts_with {content = content} n p l) (more d y front) rest ne e =
    let same : content ≡ d = cc in
    let own : own_leaf d ≡ d ∷ [] = subst (λ z. own_leaf z ≡ z ∷ []) same l in
    let some : IsTrue (is_some (last_printed (leaves (more d y front)))) = subst (λ l. IsTrue (is_some (last_printed (l ++ (leaves y ++ leaves front))))) (sym own) (last_some d (leaves y ++ leaves front) (subst LeafPrints same p)) in
    last_append f (leaves (more d y front)) ∙ same_if_some (last_printed (leaves (more d y front))) (last_printed f) some

ends_after : {x : OrderedTree} → Ends x → (front : OrderedTree) (c : Content) (below back : OrderedTree) → back ≢ none → x ≡ followed_by front (more c below back) → Ends back
ends_after (ends_with n p) none c below back ne e = let same : back ≡ none = cc in absurd (ne same)
ends_after (ends_with n p) (more d y front) c below back ne e = let same : none ≡ followed_by front (more c below back) = cc in absurd (no_more front c below back same)
ends_after (goes_on {after = after} k) none c below back ne e = let same : after ≡ back = cc in subst Ends same k
ends_after (goes_on {after = after} k) (more d y front) c below back ne e = let same : after ≡ followed_by front (more c below back) = cc in ends_after k front c below back ne same

behind_same : (b : List Content) (back : OrderedTree) → Ends back → (ls : List Content) → first_printed (ls ++ (leaves back ++ b)) ≡ first_printed (ls ++ leaves back)
behind_same b back k ls =
    let own = first_append (leaves back) b ∙ same_if_some (first_printed (leaves back)) (first_printed b) (ends_print k) in
    first_append ls (leaves back ++ b) ∙ ap (or_else (first_printed ls)) own ∙ sym (first_append ls (leaves back))

-- nothing meets, where nothing does in the row
record Quiet (f b front now back : List Content) : Type 0 where
  before : meet (f ++ front) (now ++ (back ++ b)) ≡ false
  behind : meet now (back ++ b) ≡ false

quiet : (f b front now back : List Content) → last_printed (f ++ front) ≡ last_printed front → ((ls : List Content) → first_printed (ls ++ (back ++ b)) ≡ first_printed (ls ++ back)) → meet front (now ++ back) ≡ false → meet now back ≡ false → Quiet f b front now back
quiet f b front now back p q m n = record {
  before = ap (λ x. is_bare_leaf x && is_bare_leaf (first_printed (now ++ (back ++ b)))) p ∙ ap (λ x. is_bare_leaf (last_printed front) && is_bare_leaf x) (q now) ∙ m;
  behind = ap (λ x. is_bare_leaf (last_printed now) && is_bare_leaf x) (q []) ∙ n;
}

module _ (o : Options) where
  -- what is printed last before a node of a row of the document, and first behind it, where something stands there in the row
  seen_before : {t : OrderedTree} {f b : List Content} → DocumentAlone o t → (was : Top) (front back : OrderedTree) → Within (row_around front was back) f b t → front ≢ none → last_printed (f ++ leaves front) ≡ last_printed (leaves front)
  seen_before {f = f} {b = b} g was front back w ne = by (document_in o g w) refl
    where
      by : {x : OrderedTree} → InDocument o x f b → x ≡ row_around front was back → last_printed (f ++ leaves front) ≡ last_printed (leaves front)
      by (at_root p q) e = ap (λ l. last_printed (l ++ leaves front)) p
      by (further_in nothing) e = absurd (no_more front was.content was.below back e)
      by (further_in (bounded s k)) e = before_same f s front (more was.content was.below back) ne e

  seen_behind : {t : OrderedTree} {f b : List Content} → DocumentAlone o t → (was : Top) (front back : OrderedTree) → Within (row_around front was back) f b t → back ≢ none → (ls : List Content) → first_printed (ls ++ (leaves back ++ b)) ≡ first_printed (ls ++ leaves back)
  seen_behind {f = f} {b = b} g was front back w me ls = by (document_in o g w) refl
    where
      by : {x : OrderedTree} → InDocument o x f b → x ≡ row_around front was back → first_printed (ls ++ (leaves back ++ b)) ≡ first_printed (ls ++ leaves back)
      by (at_root p q) e = ap (λ l. first_printed (ls ++ (leaves back ++ l))) q ∙ ap (λ l. first_printed (ls ++ l)) (append-nil (leaves back))
      by (further_in nothing) e = absurd (no_more front was.content was.below back e)
      by (further_in (bounded s k)) e = behind_same b back (ends_after k front was.content was.below back me e) ls

  pub kept_by_value_in_row : (t : OrderedTree) → KeptByValueInRow o t
  kept_by_value_in_row t s was now path u c v l front back r ne me m n =
      let w = both_within r in
      let g = document_alone o s.shaped in
      let q = quiet w.front w.back (leaves front) (leaves_of now) (leaves back) (seen_before g was front back w.old ne) (seen_behind g was front back w.old me) m n in
      let d : DiffersIn (leaves_of was) (leaves_of now) (leaves t) (leaves u) = record {
        front = w.front ++ leaves front;
        back = leaves back ++ w.back;
        before = listed (leaves front) (leaves_of was) (leaves back) w.old (node_list front back was);
        after = listed (leaves front) (leaves_of now) (leaves back) w.new (node_list front back now);
      } in
      kept_by_values o t s was now path u c v l d q.before q.behind

  pub kept_by_value_in_root : (was now : Top) (front back : OrderedTree) → KeptByValueInRoot o was now front back
  kept_by_value_in_root was now front back s path c v l m n =
      let d : DiffersIn (leaves_of was) (leaves_of now) (leaves (more root (row_around front was back) none)) (leaves (more root (row_around front now back) none)) = record {
        front = leaves front;
        back = leaves back;
        before = append-nil (leaves (row_around front was back)) ∙ node_list front back was;
        after = append-nil (leaves (row_around front now back)) ∙ node_list front back now;
      } in
      kept_by_values o (more root (row_around front was back) none) s was now path (more root (row_around front now back) none) c v l d m n

  -- a row further below
  record Somewhere (x t : OrderedTree) : Type 0 where
    front : List Content
    back : List Content
    in_tree : Within x front back t

  further_below : {x y t : OrderedTree} {f b g c : List Content} → Within x f b t → Within y g c x → Somewhere y t
  further_below here k = record { front = _; back = _; in_tree = deeper k }
  further_below (deeper w) k = let r = further_below w k in record { front = _; back = _; in_tree = deeper r.in_tree }
  further_below (later w) k = let r = further_below w k in record { front = _; back = _; in_tree = later r.in_tree }

  held_there : (before behind : OrderedTree) (top : Top) → Somewhere top.below (row_around before top behind)
  held_there none behind top = record { front = _; back = _; in_tree = here }
  held_there (more content below before) behind top = let r = held_there before behind top in record { front = _; back = _; in_tree = later r.in_tree }

  held_bounded : {t : OrderedTree} {f b : List Content} → DocumentAlone o t → (before behind : OrderedTree) (top : Top) → Within (row_around before top behind) f b t → Bounded top.below
  held_bounded {t} {f} {b} (row, e, g) before behind top w = by row g (subst (Within (row_around before top behind) f b) e w)
    where
      by : (row : OrderedTree) → RootAlone o false row → {h c : List Content} → Within (row_around before top behind) h c (more root row none) → Bounded top.below
      by row g here = root_in o g (held_there before behind top).in_tree
      by row g (deeper k) = root_in o g (further_below k (held_there before behind top).in_tree).in_tree
      by row g (later k) = absurd (no_row k)

  seen_in_property : {x : OrderedTree} (f : List Content) → Bounded x → (top : Top) (front : OrderedTree) → front ≢ none → x ≡ row_around front top none → last_printed (f ++ leaves front) ≡ last_printed (leaves front)
  seen_in_property f nothing top front ne e = absurd (no_more front top.content top.below none e)
  seen_in_property f (bounded s k) top front ne e = before_same f s front (more top.content top.below none) ne e

  held_list : (before front behind : OrderedTree) (top : Top) → leaves (row_around before (holding front top) behind) ≡ (leaves before ++ leaves front) ++ (leaves_of top ++ leaves behind)
  held_list before front behind top =
      node_list before behind (holding front top)
      ∙ ap (λ l. leaves before ++ (l ++ leaves behind)) (node_list front none top ∙ ap (λ l. leaves front ++ l) (append-nil (leaves_of top)))
      ∙ ap (λ l. leaves before ++ l) (append_assoc (leaves front) (leaves_of top) (leaves behind))
      ∙ sym (append_assoc (leaves before) (leaves front) (leaves_of top ++ leaves behind))

  pub kept_by_value_in_property : (t : OrderedTree) → KeptByValueInProperty o t
  kept_by_value_in_property t s was now path u c v l front before behind r ne me m n =
      let w = both_within r in
      let g = document_alone o s.shaped in
      let held = held_bounded g before behind (holding front was) w.old in
      let first = ap last_printed (sym (append_assoc w.front (leaves before) (leaves front))) ∙ seen_in_property (w.front ++ leaves before) held was front ne refl in
      let later_on = seen_behind g (holding front was) before behind w.old me in
      let d : DiffersIn (leaves_of was) (leaves_of now) (leaves t) (leaves u) = record {
        front = w.front ++ (leaves before ++ leaves front);
        back = leaves behind ++ w.back;
        before = listed (leaves before ++ leaves front) (leaves_of was) (leaves behind) w.old (held_list before front behind was);
        after = listed (leaves before ++ leaves front) (leaves_of now) (leaves behind) w.new (held_list before front behind now);
      } in
      kept_by_values o t s was now path u c v l d
      (ap (λ x. is_bare_leaf x && is_bare_leaf (first_printed (leaves_of now ++ (leaves behind ++ w.back)))) first ∙ ap (λ x. is_bare_leaf (last_printed (leaves front)) && is_bare_leaf x) (later_on (leaves_of now)) ∙ m)
      (ap (λ x. is_bare_leaf (last_printed (leaves_of now)) && is_bare_leaf x) (later_on []) ∙ n)
