-- A comment is taken out, with a space in its place where one is due.
use Rattle.std.proofs.Common.{◌≡◌, ℕ, zero, suc, ◌<◌, ◌≤◌, Bool, true, false, ◌&&◌, ◌||◌, cond, List, [], ◌∷◌, ◌++◌, length, slice_index, Option, Some, None, IsTrue, if◌then◌else◌, refl, sym, ap, subst, ◌∙◌, arith}
use Rattle.std.proofs.lemmas.List.Elements.{All-weaker}
use Rattle.std.specs.List.{slice_get, All}
use Rattle.jsonc_text.specs.Options.{Options}
use Rattle.jsonc_text.specs.Plain.{Plain}
use Rattle.jsonc_tree.specs.Building.{Keeps}
use Rattle.jsonc_tree.specs.Content.{comment}
use Rattle.jsonc_tree.specs.OrderedTree.{leaves, ordered_tree}
use Rattle.jsonc_tree.specs.Tree.{Node, content_at, parent_at, children_at, place_at, IsTree, IsOver}
use Rattle.jsonc_tree.specs.Values.{DocumentValueOf}
use Rattle.jsonc_tree.proofs.Order.{parent_there}
use Rattle.jsonc_layout.specs.nodes.Kinds.{is_comment, is_newline, is_whitespace, is_whitespace_at}
use Rattle.jsonc_sound.specs.Lines.{is_line_comment}
use Rattle.jsonc_sound.specs.ChangeLaws.{DiffersIn}
use Rattle.jsonc_sound.proofs.TriviaValues.{document_kept}
use Rattle.jsonc_sound.specs.SoundTrees.{SoundTree}
use Rattle.jsonc_sound.proofs.Commas.{and_false}
use Rattle.jsonc_edit.specs.Due as due
use Rattle.jsonc_edit.specs.Due.{prints_at, prints_within, is_other, begins_bare, ends_bare, seen_before, seen_behind, space_needed_between, listed}
use Rattle.jsonc_edit.specs.Put.{AreChildren, AreSpaced, Extends, nodes_of}
use Rattle.jsonc_edit.specs.declared.put.Spaces.{Spaces}
use Rattle.jsonc_edit.proofs.UnneededSpaces.{quiet_behind}
use Rattle.jsonc_edit.specs.Comments.{blanks_from, newline_from, removed_from, space_needed_without, IsRemoved, IsTakenOut, TakesOut, CommentRemoved, CommentTaken, comment_at, comments_ahead, leaves_gone, LosesComment}
use Rattle.jsonc_edit.specs.Spaced.{SpacesPut}
use Rattle.jsonc_edit.proofs.CommentOrder.{making_keeps_comments}
use Rattle.jsonc_edit.proofs.Numbered.{leaves_apart, number_ahead}
use Rattle.jsonc_edit.proofs.Elements.{Some_same}
use Rattle.jsonc_edit.proofs.SpacesNeededKept.{due_between_same}
use Rattle.jsonc_edit.proofs.NodesKept.{over_keeps, tree_stays, place_kept}
use Rattle.jsonc_edit.proofs.SpacedNodes.{IsChild, between_children, between_placed}
use Rattle.jsonc_edit.proofs.Removal.{from_before, takes_trivia, gone_blanks, gone_text, are_gone_blanks, blanks_and_comment, sound_without}
use Rattle.jsonc_edit.proofs.Spacing.{Spaced, all_spaced, parent_stays, spaces_sound, spaces_value}
use Rattle.jsonc_edit.proofs.BlanksBefore.{blanks_low}

-- what leaves with a comment stays the same while other nodes are made
module _ (old new : List Node) (tree : IsTree old) (keeps : Keeps (length old) old new) (c : ℕ) where
  abbrev row : List ℕ
  row = children_at old c

  same_content : (k : ℕ) → k < length row → content_at new (slice_index row k) ≡ content_at old (slice_index row k)
  same_content k h = keeps.content (slice_index row k) (tree.in_tree c k h)

  blanks_same : (place : ℕ) → place ≤ length row → blanks_from new row place ≡ blanks_from old row place
  blanks_same zero h = refl
  blanks_same (suc place) h =
      ap (λ b. cond b (blanks_from new row place) (suc place)) (ap is_whitespace (same_content place (omega (arith, h))))
      ∙ ap (λ k. cond (is_whitespace_at old (slice_index row place)) k (suc place)) (blanks_same place (omega (arith, h)))

  newline_same : (place : ℕ) → place ≤ length row → newline_from new row place ≡ newline_from old row place
  newline_same zero h = refl
  newline_same (suc place) h = ap (λ b. cond b place (suc place)) (ap is_newline (same_content place (omega (arith, h))))

  module _ (n : ℕ) (said : parent_at old n ≡ Some c) where
    low : (n < length old) × (c < length old)
    low = parent_there old tree n c said

    place_in : place_at old n ≤ length row
    place_in = omega (arith, tree.within n c said)

    removed_same : removed_from new c n ≡ removed_from old c n
    removed_same =
        ap (λ w. if is_line_comment w then newline_from new (children_at new c) (blanks_from new (children_at new c) (place_at new n)) else place_at new n) (keeps.content n low.0)
        ∙ ap (λ l. if is_line_comment (content_at old n) then newline_from new l (blanks_from new l (place_at new n)) else place_at new n) (keeps.children c low.1)
        ∙ ap (λ k. if is_line_comment (content_at old n) then newline_from new row (blanks_from new row k) else k) (place_kept old new tree keeps n c said)
        ∙ ap (λ k. if is_line_comment (content_at old n) then newline_from new row k else place_at old n) (blanks_same (place_at old n) place_in)
        ∙ ap (λ k. if is_line_comment (content_at old n) then k else place_at old n) (newline_same (blanks_from old row (place_at old n)) (omega (arith, blanks_low old row (place_at old n), place_in)))

    first_there : slice_index row (removed_from old c n) < length old
    first_there = tree.in_tree c (removed_from old c n) (omega (arith, from_before old tree c n said, tree.within n c said))

    pub due_kept : space_needed_without new c n ≡ space_needed_without old c n
    due_kept =
        ap (λ l. space_needed_between new (slice_index l (removed_from new c n)) n) (keeps.children c low.1) ∙ ap (λ k. space_needed_between new (slice_index row k) n) removed_same
        ∙ due_between_same old new tree keeps (slice_index row (removed_from old c n)) n first_there low.0

-- parents stay where spaces come
pub parents_spaced : (xs : List ℕ) (old new : List Node) → IsTree old → AreSpaced old xs new → (k p : ℕ) → parent_at old k ≡ Some p → parent_at new k ≡ Some p
parents_spaced [] old new tree e k p said = ap (λ ns. parent_at ns k) e ∙ said
parents_spaced (x ∷ xs) old new tree (now, leaf, r, rest) k p said = parents_spaced xs now new r.tree rest k p (parent_stays old now x leaf tree r k p said)

module _ (old ready : List Node) (tree : IsTree old) (prepared : Extends old ready) (n c : ℕ) (said : parent_at old n ≡ Some c) where
  pub said_ready : parent_at ready n ≡ Some c
  said_ready = prepared.keeps.parent n (parent_there old tree n c said).0 ∙ said

  pub children_due : All (IsChild ready) (listed (space_needed_without old c n))
  children_due =
      All-weaker (IsChild old) (IsChild ready) (λ x (p, told). (p, prepared.keeps.parent x (parent_there old tree x p told).0 ∙ told)) (listed (space_needed_without old c n))
      (between_children old tree n c said (slice_index (children_at old c) (removed_from old c n)))

  pub due_ready : space_needed_without ready c n ≡ space_needed_without old c n
  due_ready = due_kept old ready tree prepared.keeps c n said

  -- the space for it, if one is due
  module _ (first : ℕ) (e : first ≡ slice_index (children_at old c) (removed_from old c n)) (due : Option ℕ) (f : due ≡ space_needed_between old first n) (spaces : Spaces) (hand : nodes_of spaces ≡ listed due) where
    due_is : nodes_of spaces ≡ listed (space_needed_without old c n)
    due_is = hand ∙ ap listed (f ∙ ap (λ k. space_needed_between old k n) e)

    pub space_children : AreChildren ready (nodes_of spaces)
    space_children = subst (AreChildren ready) (sym due_is) children_due

    module _ (spaced : List Node) (put : AreSpaced ready (nodes_of spaces) spaced) where
      pub space_child : parent_at spaced n ≡ Some c
      space_child = parents_spaced (nodes_of spaces) ready spaced prepared.tree put n c said_ready

      pub comment_taken_out : (new : List Node) → IsRemoved spaced new n → TakesOut old new n
      comment_taken_out new removed d told =
          let same : d ≡ c = Some_same d c (sym told ∙ said) in
          subst (IsTakenOut old new n) (sym same) (record {
            ready = ready;
            spaced = spaced;
            prepared = prepared;
            spaces = subst (λ xs. AreSpaced ready xs spaced) (due_is ∙ ap listed (sym due_ready)) put;
            removed = removed;
          })

-- what is due, or nothing meets
module _ (ready spaced : List Node) (tree : IsTree ready) (n from other : ℕ) where
  none_meets : (a : Bool) (o : Option ℕ) → seen_behind ready n ≡ o → cond (a && begins_bare ready o) o None ≡ None → a && begins_bare ready o ≡ false
  none_meets true None seen e = refl
  none_meets true (Some x) seen e = by (begins_bare ready (Some x)) e
    where
      by : (b : Bool) → cond b (Some x) None ≡ None → b ≡ false
      by true e = absurd (let wrong : Some x ≡ None = e in cc)
      by false e = refl
  none_meets false o seen e = refl

  some_seen : (b : Bool) (o : Option ℕ) (x : ℕ) → cond b o None ≡ Some x → o ≡ Some x
  some_seen true o x e = e
  some_seen false o x e = absurd (let wrong : None ≡ Some x = e in cc)

  pub quiet_between : prints_at ready n ≡ true → (spaced ≡ ready → other ≡ from) → (o : Option ℕ) → space_needed_between ready from n ≡ o → AreSpaced ready (listed o) spaced
      → ends_bare spaced (seen_before spaced other) && begins_bare spaced (seen_behind spaced n) ≡ false
  quiet_between prints same None due e =
      let none : cond (ends_bare ready (seen_before ready from) && begins_bare ready (seen_behind ready n)) (seen_behind ready n) None ≡ None =
      sym (ap (λ b. cond ((b || is_other (seen_before ready n) (seen_before ready from)) && (ends_bare ready (seen_before ready from) && begins_bare ready (seen_behind ready n))) (seen_behind ready n) None) prints) ∙ due in
      let calm : ends_bare ready (seen_before ready from) && begins_bare ready (seen_behind ready n) ≡ false = none_meets (ends_bare ready (seen_before ready from)) (seen_behind ready n) refl none in
      subst (λ ns. ends_bare ns (seen_before ns other) && begins_bare ns (seen_behind ns n) ≡ false) (sym e) (subst (λ k. ends_bare ready (seen_before ready k) && begins_bare ready (seen_behind ready n) ≡ false) (sym (same e)) calm)
  quiet_between prints same (Some x) due (now, leaf, r, e) =
      let seen : seen_behind ready n ≡ Some x = some_seen (prints_within ready from n && (ends_bare ready (seen_before ready from) && begins_bare ready (seen_behind ready n))) (seen_behind ready n) x due in
      let behind : begins_bare now (seen_behind now n) ≡ false = quiet_behind ready now tree n x leaf r seen in
      subst (λ ns. ends_bare ns (seen_before ns other) && begins_bare ns (seen_behind ns n) ≡ false) (sym e) (and_false (ends_bare now (seen_before now other)) (begins_bare now (seen_behind now n)) behind)

module _ (old new : List Node) (n : ℕ) (r : CommentTaken old new n) where
  abbrev c : ℕ
  c = r.container

  abbrev taken : IsTakenOut old new n c
  taken = r.taken

  abbrev ready : List Node
  ready = taken.ready

  abbrev spaced_nodes : List Node
  spaced_nodes = taken.spaced

  there : n < length old
  there = (parent_there old r.tree n c r.parent).0

  child : parent_at ready n ≡ Some c
  child = said_ready old ready r.tree taken.prepared n c r.parent

  below_ready : IsOver ready 0 n
  below_ready = over_keeps old ready r.tree taken.prepared.keeps n there r.below

  abbrev from : ℕ
  from = slice_index (children_at ready c) (removed_from ready c n)

  spaced : Spaced ready spaced_nodes n
  spaced = all_spaced n (listed (space_needed_without ready c n)) ready spaced_nodes taken.prepared.tree (between_placed ready taken.prepared.tree n c child below_ready from) taken.spaces

  -- then the comment is one of the document with spaces
  pub removed : CommentRemoved spaced_nodes new n
  removed = record {
    container = c;
    tree = spaced.tree;
    after = r.after;
    below = spaced.over n c child below_ready;
    comment = subst (λ w. IsTrue (is_comment w)) (sym (spaced.content n ∙ taken.prepared.keeps.content n there)) r.comment;
    parent = spaced.parent n c child;
    removed = taken.removed;
  }

  same_tree : ordered_tree ready 0 ≡ ordered_tree old 0
  same_tree = tree_stays old ready r.tree taken.prepared.keeps taken.prepared.tree

  abbrev other : ℕ
  other = slice_index (children_at spaced_nodes c) (removed_from spaced_nodes c n)

  calm : prints_at spaced_nodes n ≡ true → ends_bare spaced_nodes (seen_before spaced_nodes other) && begins_bare spaced_nodes (seen_behind spaced_nodes n) ≡ false
  calm prints = quiet_between ready spaced_nodes taken.prepared.tree n from other (ap due.prints (sym (spaced.content n)) ∙ prints) (λ e. ap (λ ns. slice_index (children_at ns c) (removed_from ns c n)) e) (space_needed_without ready c n) refl taken.spaces

  pub loses_comment : LosesComment (ordered_tree old 0) (ordered_tree new 0)
  loses_comment =
      let apart : DiffersIn (leaves_gone removed) [] (leaves (ordered_tree spaced_nodes 0)) (leaves (ordered_tree new 0)) = leaves_apart spaced_nodes new n removed in
      record {
        spaced = ordered_tree spaced_nodes 0;
        blanks = gone_blanks spaced_nodes new n removed;
        text = (gone_text spaced_nodes new n removed).0;
        spaces = subst (λ u. SpacesPut u (ordered_tree spaced_nodes 0)) same_tree spaced.put;
        are_blanks = are_gone_blanks spaced_nodes new n removed;
        around = record {
          front = apart.front;
          back = apart.back;
          before = apart.before ∙ ap (λ l. apart.front ++ (l ++ apart.back)) (blanks_and_comment spaced_nodes new n removed);
          after = apart.after;
        };
      }

  -- as many comments stand before it as its number says
  pub numbered : (number : ℕ) → comment_at old number ≡ Some n → comments_ahead loses_comment ≡ number
  unfolding loses_comment
  numbered number at =
      number_ahead spaced_nodes new n removed number (ap (λ l. slice_get l number) (spaced.comments ∙ making_keeps_comments old ready r.tree taken.prepared.keeps) ∙ at)

  -- the comment has the text that it had
  pub text_stays : (s : List ℕ) → content_at old n ≡ comment s → loses_comment.text ≡ s
  unfolding loses_comment
  text_stays s is =
      let e : comment (gone_text spaced_nodes new n removed).0 ≡ comment s = sym (gone_text spaced_nodes new n removed).1 ∙ spaced.content n ∙ taken.prepared.keeps.content n there ∙ is in
      cc

  pub taken_sound : (o : Options) → SoundTree o (ordered_tree old 0) → SoundTree o (ordered_tree new 0)
  unfolding removed
  taken_sound o s = sound_without spaced_nodes new n removed o (spaces_sound o spaced.put (subst (SoundTree o) (sym same_tree) s)) calm

  pub taken_value : (o : Options) (w : Option Plain) → DocumentValueOf o (ordered_tree old 0) w → DocumentValueOf o (ordered_tree new 0) w
  taken_value o w d =
      let t = takes_trivia spaced_nodes new n removed in
      document_kept o (leaves_gone removed) [] t.trivia tt w t.changed (spaces_value o w spaced.put (subst (λ u. DocumentValueOf o u w) (sym same_tree) d))
