-- Where a comment leaves, a space has come where it stood, or none.
use Rattle.std.proofs.Common.{◌≡◌, ℕ, ◌+◌, ◌-◌, ◌<◌, ◌≤◌, ◌&&◌, Bool, true, false, cond, List, [], ◌∷◌, ◌++◌, length, map, take, drop, slice_index, slice_range, Option, Some, None, refl, sym, ap, subst, ◌∙◌, arith, length-take, get_or-take, length-drop, get_or-drop, IsTrue}
use Rattle.std.specs.List.{slice_get}
use Rattle.std.proofs.lemmas.List.{append-nil, append_assoc, append_cancel_right, drop-take, take-append-drop, take-take}
use Rattle.jsonc_text.specs.Options.{Options}
use Rattle.jsonc_tree.specs.Content.{Content, comment, is_container}
use Rattle.jsonc_tree.specs.OrderedTree.{OrderedTree, none, own_leaf, leaves, followed_by, ordered_tree, Shows}
use Rattle.jsonc_tree.specs.Tree.{Node, content_at, parent_at, children_at, place_at, IsTree, IsOver}
use Rattle.jsonc_tree.specs.Changes.{Splices}
use Rattle.jsonc_tree.proofs.Order.{not_over_parent, parent_there}
use Rattle.jsonc_tree.proofs.OrderedTrees.{Shows-unique, leaves-followed_by}
use Rattle.jsonc_tree.proofs.Rows.{Shows-append, Shows-part}
use Rattle.jsonc_sound.specs.MarkChanges.{AreBlanks}
use Rattle.jsonc_sound.specs.Adjacent.{last_printed}
use Rattle.jsonc_sound.specs.Lines.{is_line_comment}
use Rattle.jsonc_sound.specs.Marks.{comments_of, marks_of}
use Rattle.jsonc_sound.specs.SoundTrees.{SoundTree}
use Rattle.jsonc_sound.specs.Spaces.{first_printed, is_bare_leaf}
use Rattle.jsonc_sound.proofs.ReplacedStretches.{blanks_unmarked, marks_join}
use Rattle.jsonc_sound.specs.TreeChanges.{leaves_of}
use Rattle.jsonc_edit.specs.Changes.{row_below, top_at}
use Rattle.jsonc_edit.specs.Comments.{comment_at, removed_from, space_needed_without, CommentRemoved, CommentTaken}
use Rattle.jsonc_edit.proofs.NodesKept.{over_keeps, tree_stays}
use Rattle.jsonc_edit.proofs.Removal.{from_before, blanks_gone}
use Rattle.jsonc_edit.proofs.Splices.{spliced_in}
use Rattle.jsonc_edit.proofs.Elements.{Some_same}
use Rattle.jsonc_edit.proofs.TakingOut.{parents_spaced, removed}
use Rattle.jsonc_edit.specs.Due.{begins_bare, ends_bare, listed, prints_within, seen_before, seen_behind}
use Rattle.jsonc_edit.specs.Put.{AreSpaced}
use Rattle.jsonc_layout.specs.nodes.Kinds.{is_comment}
use Rattle.jsonc_edit.proofs.ChangesUpward.{ChangedIn, Shows-row_below, apart_kept}
use Rattle.jsonc_edit.specs.SeamLaws.{comments_before, BlanksRemoved, LosesWithSeam}
use Rattle.jsonc_edit.specs.Seams.{space_if, is_space_needed_between, StandsBetween, as_child}
use Rattle.jsonc_edit.proofs.RowAhead.{row_stays}
use Rattle.jsonc_edit.proofs.SeamsParting.{tells_what_is_printed}
use Rattle.jsonc_edit.proofs.SeamsAround.{blank_row, leaf_alone, leaves_around, holds_children, stands_somewhere}
use Rattle.jsonc_edit.proofs.BeforeComments.{blanks_removed}
use Rattle.jsonc_edit.proofs.CommentOrder.{making_keeps_comments}
use Rattle.jsonc_edit.proofs.CommentsBefore.{comments_stand_before}
use Rattle.jsonc_edit.proofs.LeavesAroundNodes.{between_above, space_stands_between, within}
use Rattle.jsonc_edit.proofs.Lists.{contents_same, both_true}

comment_leaf : (content : Content) (s : List ℕ) → content ≡ comment s → is_container content ≡ false
comment_leaf content s e = ap is_container e

comment_text : (content : Content) → IsTrue (is_comment content) → (s : List ℕ) × (content ≡ comment s)
comment_text (comment s) h = (s, refl)
comment_text content h = cc

-- of the children of c those from a place up to n leave
module _ (old new : List Node) (tree : IsTree old) (after : IsTree new) (c n i : ℕ) (said : parent_at old n ≡ Some c) (low : i ≤ place_at old n) (gone : Splices old new c i (place_at old n + 1) []) where
  abbrev row : List ℕ
  row = children_at old c

  abbrev place : ℕ
  place = place_at old n

  changed : ChangedIn old new c
  changed = spliced_in old new c i (place + 1) [] tree gone

  child_apart : (e : ℕ) → e < length row → IsOver old (slice_index row e) c → ⊥
  child_apart e h = not_over_parent old tree (slice_index row e) c (tree.named c e h)

  shows_first : (k : ℕ) (t : OrderedTree) → Shows old (take k row) t → Shows new (take k row) t
  shows_first k t shows = apart_kept old new c changed (take k row) t (λ e l over. let less : e < k = omega (arith, l, length-take k row) in child_apart e (omega (arith, l, length-take k row)) (subst (λ m. IsOver old m c) (get_or-take k row e 0 less) over)) shows

  shows_last : (k : ℕ) (t : OrderedTree) → Shows old (drop k row) t → Shows new (drop k row) t
  shows_last k t shows = apart_kept old new c changed (drop k row) t (λ e l over. child_apart (k + e) (omega (arith, l, length-drop k row)) (subst (λ m. IsOver old m c) (get_or-drop k row e 0) over)) shows

  -- what was before n, and what is left
  pub record StretchGone (f b : List Content) : Type 0 where
    pub front : List Content
    pub middle : OrderedTree
    pub shows : Shows old (drop i (take place row)) middle
    pub before : f ≡ front ++ leaves middle
    pub left : leaves (ordered_tree new 0) ≡ front ++ b

  pub stretch_gone : (f b : List Content) → StandsBetween old n f b → StretchGone f b
  stretch_gone f b s =
      let w = within old tree n c f b said s in
      let there : c < length old = (parent_there old tree n c said).1 in
      let two = Shows-part old (take i (take place row)) (drop i (take place row)) w.front (subst (λ (l : List ℕ). Shows old l w.front) (sym (take-append-drop i (take place row))) w.before) in
      let first : Shows old (take i row) two.0 = subst (λ (l : List ℕ). Shows old l two.0) (take-take i place row low) two.3 in
      let kids : children_at new c ≡ take i row ++ drop (place + 1) row = gone.children in
      let joined : Shows new (take i row ++ drop (place + 1) row) (followed_by two.0 w.back) = Shows-append new (take i row) (drop (place + 1) row) two.0 w.back (shows_first i two.0 first) (shows_last (place + 1) w.back w.behind) in
      let row_now : row_below new c ≡ followed_by two.0 w.back =
      Shows-unique new (children_at new c) (row_below new c) (followed_by two.0 w.back) (Shows-row_below new after c (omega (arith, there, gone.len))) (subst (λ (l : List ℕ). Shows new l (followed_by two.0 w.back)) (sym kids) joined) in
      let own : own_leaf (content_at new c) ≡ [] = ap own_leaf (gone.content c) ∙ holds_children old tree n c said in
      let whole : leaves_of (top_at new c) ≡ leaves two.0 ++ leaves w.back = ap (λ l. l ++ leaves (row_below new c)) own ∙ ap leaves row_now ∙ leaves-followed_by two.0 w.back in
      record {
        front = w.g ++ leaves two.0;
        middle = two.1;
        shows = two.4;
        before = w.first ∙ ap (λ l. w.g ++ l) (ap leaves two.2 ∙ leaves-followed_by two.0 two.1) ∙ sym (append_assoc w.g (leaves two.0) (leaves two.1));
        left =
            leaves_around new after c w.g w.d (between_above old new c changed after c w.g w.d w.up IsOver.itself)
            ∙ ap (λ l. w.g ++ (l ++ w.d)) whole ∙ ap (λ l. w.g ++ l) (append_assoc (leaves two.0) (leaves w.back) w.d)
            ∙ sym (append_assoc w.g (leaves two.0) (leaves w.back ++ w.d)) ∙ ap (λ l. (w.g ++ leaves two.0) ++ l) (sym w.last);
      }

-- a comment of the document
module _ (old new : List Node) (n : ℕ) (r : CommentRemoved old new n) where
  gone : Splices old new r.container (removed_from old r.container n) (place_at old n + 1) []
  gone = r.removed r.container r.parent

  -- with blanks before it
  pub record CommentGone (f b : List Content) : Type 0 where
    pub front : List Content
    pub blanks : List Content
    pub are_blanks : AreBlanks blanks
    pub are : blanks ≡ map (content_at old) (slice_range (children_at old r.container) (removed_from old r.container n) (place_at old n))
    pub before : f ≡ front ++ blanks
    pub left : leaves (ordered_tree new 0) ≡ front ++ b

  pub comment_gone : (f b : List Content) → StandsBetween old n f b → CommentGone f b
  comment_gone f b s =
      let c : ℕ = r.container in
      let i : ℕ = removed_from old c n in
      let place : ℕ = place_at old n in
      let low : i ≤ place = from_before old r.tree c n r.parent in
      let g = stretch_gone old new r.tree r.after c n i r.parent low gone f b s in
      let far : i + (place - i) ≡ place = omega (arith, low) in
      let same : drop i (take place (children_at old c)) ≡ slice_range (children_at old c) i place = ap (λ k. drop i (take k (children_at old c))) (sym far) ∙ drop-take i (place - i) (children_at old c) in
      let nodes : List ℕ = slice_range (children_at old c) i place in
      let blanks : AreBlanks (map (content_at old) nodes) = blanks_gone old r.tree c n r.parent in
      let shown : leaves g.middle ≡ map (content_at old) nodes = blank_row old r.tree nodes g.middle blanks (subst (λ (l : List ℕ). Shows old l g.middle) same g.shows) in
      record { front = g.front; blanks = map (content_at old) nodes; are_blanks = blanks; are = refl; before = g.before ∙ ap (λ l. g.front ++ l) shown; left = g.left }

-- its own leaf
own_is : (ns : List Node) → IsTree ns → (n : ℕ) (s : List ℕ) → n < length ns → content_at ns n ≡ comment s → leaves_of (top_at ns n) ≡ comment s ∷ []
own_is ns tree n s there is =
    let bare : row_below ns n ≡ none = leaf_alone ns tree n (row_below ns n) (comment_leaf (content_at ns n) s is) (Shows-row_below ns tree n there) in
    ap (λ (t : OrderedTree). own_leaf (content_at ns n) ++ leaves t) bare ∙ ap (λ w. own_leaf w ++ []) is

-- what nodes are stays where spaces come
pub contents_spaced : (xs : List ℕ) (old new : List Node) → AreSpaced old xs new → (k : ℕ) → content_at new k ≡ content_at old k
contents_spaced [] old new e k = ap (λ ns. content_at ns k) e
contents_spaced (x ∷ xs) old new (now, leaf, r, rest) k = contents_spaced xs now new rest k ∙ r.put.content k

-- what stands before the first node that leaves with a comment, and the blanks from there up to the comment
module _ (ns : List Node) (tree : IsTree ns) (n c : ℕ) (said : parent_at ns n ≡ Some c) where
  record FirstGone (f : List Content) : Type 0 where
    front : List Content
    back : List Content
    before : f ≡ front ++ map (content_at ns) (slice_range (children_at ns c) (removed_from ns c n) (place_at ns n))
    stands : StandsBetween ns (slice_index (children_at ns c) (removed_from ns c n)) front back
    ahead : List Content
    behind : List Content
    first : OrderedTree
    up : StandsBetween ns c ahead behind
    shows : Shows ns (take (removed_from ns c n) (children_at ns c)) first
    is : front ≡ ahead ++ leaves first

  first_gone : (f b : List Content) → StandsBetween ns n f b → FirstGone f
  first_gone f b s =
      let i : ℕ = removed_from ns c n in
      let place : ℕ = place_at ns n in
      let row : List ℕ = children_at ns c in
      let low : i ≤ place = from_before ns tree c n said in
      let inn : i < length row = omega (arith, low, tree.within n c said) in
      let w = within ns tree n c f b said s in
      let two = Shows-part ns (take i (take place row)) (drop i (take place row)) w.front (subst (λ (l : List ℕ). Shows ns l w.front) (sym (take-append-drop i (take place row))) w.before) in
      let at : place_at ns (slice_index row i) ≡ i = tree.placed c i inn in
      let first : Shows ns (take i row) two.0 = subst (λ (l : List ℕ). Shows ns l two.0) (take-take i place row low) two.3 in
      let there : c < length ns = (parent_there ns tree n c said).1 in
      let whole = Shows-part ns (take (i + 1) row) (drop (i + 1) row) (row_below ns c) (subst (λ (l : List ℕ). Shows ns l (row_below ns c)) (sym (take-append-drop (i + 1) row)) (Shows-row_below ns tree c there)) in
      let far : i + (place - i) ≡ place = omega (arith, low) in
      let nodes : List ℕ = slice_range row i place in
      let same : drop i (take place row) ≡ nodes = ap (λ k. drop i (take k row)) (sym far) ∙ drop-take i (place - i) row in
      let shown : leaves two.1 ≡ map (content_at ns) nodes = blank_row ns tree nodes two.1 (blanks_gone ns tree c n said) (subst (λ (l : List ℕ). Shows ns l two.1) same two.4) in
      record {
        front = w.g ++ leaves two.0;
        back = leaves whole.1 ++ w.d;
        before =
            w.first ∙ ap (λ l. w.g ++ l) (ap leaves two.2 ∙ leaves-followed_by two.0 two.1) ∙ sym (append_assoc w.g (leaves two.0) (leaves two.1)) ∙ ap (λ l. (w.g ++ leaves two.0) ++ l) shown;
        stands = as_child (tree.named c i inn) w.up (subst (λ k. Shows ns (take k row) two.0) (sym at) first) (subst (λ k. Shows ns (drop (k + 1) row) whole.1) (sym at) whole.4);
        ahead = w.g;
        behind = w.d;
        first = two.0;
        up = w.up;
        shows = first;
        is = refl;
      }

-- those blanks are the same where the space has come that is due behind the comment
module _ (ready spaced : List Node) (tree : IsTree ready) (n c : ℕ) (said : parent_at ready n ≡ Some c) where
  abbrev gone_blanks : List Node → List Content
  gone_blanks ns = map (content_at ns) (slice_range (children_at ns c) (removed_from ns c n) (place_at ns n))

  blanks_same : (o : Option ℕ) → seen_behind ready n ≡ o → begins_bare ready o ≡ true → AreSpaced ready (listed o) spaced → gone_blanks spaced ≡ gone_blanks ready
  blanks_same None seen bare put = let wrong : false ≡ true = bare in cc
  blanks_same (Some x) seen bare (now, leaf, r, same) =
      let s = row_stays ready now x leaf n c tree r said seen in
      let i : ℕ = removed_from ready c n in
      let place : ℕ = place_at ready n in
      let low : i ≤ place = from_before ready tree c n said in
      let far : i + (place - i) ≡ place = omega (arith, low) in
      let range : (row : List ℕ) → slice_range row i place ≡ drop i (take place row) = λ row. sym (ap (λ k. drop i (take k row)) (sym far) ∙ drop-take i (place - i) row) in
      let rows : slice_range (children_at now c) i place ≡ slice_range (children_at ready c) i place = range (children_at now c) ∙ ap (drop i) (s.rows place (omega arith)) ∙ sym (range (children_at ready c)) in
      subst (λ ns. gone_blanks ns ≡ gone_blanks ready) (sym same)
      (ap (λ k. map (content_at now) (slice_range (children_at now c) k (place_at now n))) s.removed ∙ ap (λ k. map (content_at now) (slice_range (children_at now c) i k)) s.place
      ∙ ap (map (content_at now)) rows ∙ contents_same (content_at now) (content_at ready) (λ k. r.put.content k) (slice_range (children_at ready c) i place))

  blanks_kept : (due : Bool) → is_space_needed_between ready (slice_index (children_at ready c) (removed_from ready c n)) n ≡ due → AreSpaced ready (listed (space_needed_without ready c n)) spaced → gone_blanks spaced ≡ gone_blanks ready
  blanks_kept true due put =
      let from : ℕ = slice_index (children_at ready c) (removed_from ready c n) in
      let bare = (both_true (ends_bare ready (seen_before ready from)) (begins_bare ready (seen_behind ready n)) (both_true (prints_within ready from n) (ends_bare ready (seen_before ready from) && begins_bare ready (seen_behind ready n)) due).1).1 in
      let is : space_needed_without ready c n ≡ seen_behind ready n = ap (λ d. cond d (seen_behind ready n) None) due in
      blanks_same (seen_behind ready n) refl bare (subst (λ o. AreSpaced ready (listed o) spaced) is put)
  blanks_kept false due put =
      let is : space_needed_without ready c n ≡ None = ap (λ d. cond d (seen_behind ready n) None) due in
      let same : spaced ≡ ready = subst (λ o. AreSpaced ready (listed o) spaced) is put in
      ap gone_blanks same

  module _ (f b front : List Content) (s : StandsBetween ready n f b) (before : f ≡ front ++ gone_blanks spaced) (put : AreSpaced ready (listed (space_needed_without ready c n)) spaced) where
    blanks : gone_blanks spaced ≡ gone_blanks ready
    blanks = blanks_kept (is_space_needed_between ready (slice_index (children_at ready c) (removed_from ready c n)) n) refl put

    fronts : front ≡ (first_gone ready tree n c said f b s).front
    fronts =
        let g = first_gone ready tree n c said f b s in
        append_cancel_right front g.front (gone_blanks ready) (sym (before ∙ ap (λ l. front ++ l) blanks) ∙ g.before)

    -- in a sound document that space parts two literals without quotes
    space_parts : (o : Options) → SoundTree o (ordered_tree ready 0) → is_space_needed_between ready (slice_index (children_at ready c) (removed_from ready c n)) n ≡ true
        → (is_bare_leaf (last_printed front) ≡ true) × (is_bare_leaf (first_printed b) ≡ true)
    space_parts o sound due =
        let from : ℕ = slice_index (children_at ready c) (removed_from ready c n) in
        let bare = both_true (ends_bare ready (seen_before ready from)) (begins_bare ready (seen_behind ready n)) (both_true (prints_within ready from n) (ends_bare ready (seen_before ready from) && begins_bare ready (seen_behind ready n)) due).1 in
        let g = first_gone ready tree n c said f b s in
        let first = (tells_what_is_printed o ready from tree sound g.front g.back g.stands).0 bare.0 in
        (ap (λ l. is_bare_leaf (last_printed l)) fronts ∙ first, (tells_what_is_printed o ready n tree sound f b s).1 bare.1)

    -- and the blanks are those of the comment
    blanks_so : (o : Options) → SoundTree o (ordered_tree ready 0) → IsTrue (is_comment (content_at ready n)) → BlanksRemoved front (is_line_comment (content_at ready n)) (gone_blanks spaced)
    blanks_so o sound is_one =
        let g = first_gone ready tree n c said f b s in
        let own = blanks_removed ready tree n c said is_one o sound g.ahead g.behind g.up g.front g.first g.shows g.is in
        subst (λ l. BlanksRemoved l (is_line_comment (content_at ready n)) (gone_blanks spaced)) (sym fronts) (subst (BlanksRemoved g.front (is_line_comment (content_at ready n))) (sym blanks) own)

-- a comment that was taken out
module _ (old new : List Node) (n : ℕ) (r : CommentTaken old new n) where
  pub comment_has_seam : (loses : LosesWithSeam (ordered_tree old 0) (ordered_tree new 0)) × ((number : ℕ) → comment_at old number ≡ Some n → comments_before loses ≡ number)
  comment_has_seam =
      let taken = r.taken in
      let c : ℕ = r.container in
      let keeps = taken.prepared.keeps in
      let there : n < length old = (parent_there old r.tree n c r.parent).0 in
      let from : ℕ = slice_index (children_at taken.ready c) (removed_from taken.ready c n) in
      let place = stands_somewhere taken.ready taken.prepared.tree n (over_keeps old taken.ready r.tree keeps n there r.below) in
      let f : List Content = place.0 in
      let b : List Content = place.1 in
      let seam = space_stands_between taken.ready taken.spaced from n taken.prepared.tree taken.spaces f b place.2 in
      let gone = removed old new n r in
      let behind : List Content = seam.0 ++ (space_if (is_space_needed_between taken.ready from n) ++ seam.1) in
      let left = comment_gone taken.spaced new n gone f behind seam.4 in
      let told = comment_text (content_at taken.spaced n) gone.comment in
      let s : List ℕ = told.0 in
      let was : content_at taken.ready n ≡ comment s = sym (contents_spaced (listed (space_needed_without taken.ready c n)) taken.ready taken.spaced taken.spaces n) ∙ told.1 in
      let own = own_is taken.ready taken.prepared.tree n s (omega (arith, there, keeps.len)) was in
      let ahead : (number : ℕ) → comment_at old number ≡ Some n → length (comments_of (marks_of left.front)) ≡ number = λ number at.
      sym (ap (λ l. length (comments_of l)) (ap marks_of left.before ∙ marks_join left.front left.blanks ∙ ap (λ l. marks_of left.front ++ l) (blanks_unmarked left.blanks left.are_blanks) ∙ append-nil (marks_of left.front)))
      ∙ comments_stand_before taken.ready taken.prepared.tree n f b place.2 (omega (arith, there, keeps.len)) (comment_leaf (content_at taken.ready n) s was) number (ap (λ l. slice_get l number) (making_keeps_comments old taken.ready r.tree keeps) ∙ at) in
      let same : gone.container ≡ c = Some_same gone.container c (sym gone.parent ∙ parents_spaced (listed (space_needed_without taken.ready c n)) taken.ready taken.spaced taken.prepared.tree taken.spaces n c (keeps.parent n there ∙ r.parent)) in
      let are : left.blanks ≡ gone_blanks taken.ready taken.spaced taken.prepared.tree n c (keeps.parent n there ∙ r.parent) taken.spaced =
      subst (λ k. left.blanks ≡ map (content_at taken.spaced) (slice_range (children_at taken.spaced k) (removed_from taken.spaced k n) (place_at taken.spaced n))) same left.are in
      let loses : LosesWithSeam (ordered_tree old 0) (ordered_tree new 0) = record {
        front = left.front;
        blanks = left.blanks;
        text = s;
        quiet = seam.0;
        rest = seam.1;
        behind = is_space_needed_between taken.ready from n;
        are_blanks = left.are_blanks;
        silent = seam.3;
        blanks_are = λ o sound.
            let sound_ready : SoundTree o (ordered_tree taken.ready 0) = subst (SoundTree o) (sym (tree_stays old taken.ready r.tree keeps taken.prepared.tree)) sound in
            let so = blanks_so taken.ready taken.spaced taken.prepared.tree n c (keeps.parent n there ∙ r.parent) f b left.front place.2 (left.before ∙ ap (λ l. left.front ++ l) are) taken.spaces o sound_ready
            (subst (λ k. IsTrue (is_comment k)) (sym was) refl) in
            subst (λ k. BlanksRemoved left.front (is_line_comment k) left.blanks) was (subst (BlanksRemoved left.front (is_line_comment (content_at taken.ready n))) (sym are) so);
        parts = λ o sound due.
            let sound_ready : SoundTree o (ordered_tree taken.ready 0) = subst (SoundTree o) (sym (tree_stays old taken.ready r.tree keeps taken.prepared.tree)) sound in
            let told = space_parts taken.ready taken.spaced taken.prepared.tree n c (keeps.parent n there ∙ r.parent) f b left.front place.2 (left.before ∙ ap (λ l. left.front ++ l) are) taken.spaces o sound_ready due in
            (told.0, ap (λ l. is_bare_leaf (first_printed l)) (sym seam.2) ∙ told.1);
        before =
            ap leaves (sym (tree_stays old taken.ready r.tree keeps taken.prepared.tree)) ∙ leaves_around taken.ready taken.prepared.tree n f b place.2
            ∙ ap (λ l. f ++ (l ++ b)) own ∙ ap (λ l. l ++ (comment s ∷ b)) left.before ∙ ap (λ l. (left.front ++ left.blanks) ++ (comment s ∷ l)) seam.2
            ∙ append_assoc left.front left.blanks (comment s ∷ (seam.0 ++ seam.1)) ∙ ap (λ l. left.front ++ l) (sym (append_assoc left.blanks (comment s ∷ []) (seam.0 ++ seam.1)));
        after = left.left;
      } in
      (loses, ahead)
