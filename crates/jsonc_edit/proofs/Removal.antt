-- What leaves with a comment is trivia, and it leaves the ordered tree.
use Rattle.std.proofs.Common.{◌≡◌, ◌≢◌, ℕ, zero, suc, ◌+◌, ◌-◌, ◌<◌, ◌≤◌, Bool, true, false, ◌&&◌, ◌||◌, List, [], ◌∷◌, ◌++◌, length, get_or, map, slice_index, slice_range, take, drop, reverse, Option, Some, None, IsTrue, inl, inr, refl, sym, ap, subst, ◌∙◌, arith, length-drop, get_or-drop}
use Rattle.std.proofs.lemmas.Bool.{cases_Bool, cases_lt}
use Rattle.std.proofs.lemmas.List.{append_assoc, take_more, map-append}
use Rattle.std.proofs.lemmas.List.Edits.{get_or-between, length-between, split_between}
use Rattle.jsonc_tree.specs.Content.{Content, root, comment}
use Rattle.jsonc_tree.specs.OrderedTree.{OrderedTree, none, more, leaves, followed_by, Shows, shows_none, shows_more, ordered_tree, Replaced, here, deeper, later}
use Rattle.jsonc_tree.specs.Tree.{Node, content_at, parent_at, children_at, place_at, IsTree, IsOver}
use Rattle.jsonc_tree.proofs.SplicedTrees.{Shows-spliced, Replaced-splice}
use Rattle.jsonc_tree.proofs.Order.{over_step, parent_there}
use Rattle.jsonc_tree.proofs.Rows.{Shows-part}
use Rattle.jsonc_layout.specs.nodes.Kinds.{is_whitespace, is_newline, is_comment, is_trivia, is_newline_at, is_comment_at, is_trivia_at}
use Rattle.jsonc_sound.specs.Lines.{is_line_comment}
use Rattle.jsonc_sound.specs.TriviaChanges.{AreTrivia, leaves_then, LeavesChanged, StretchChanged, in_root, inside, EndsInComment, one_comment, line_comment}
use Rattle.jsonc_text.specs.Options.{Options}
use Rattle.jsonc_tree.specs.Order.{with_parent}
use Rattle.jsonc_tree.specs.Siblings.{row_of, siblings_after}
use Rattle.jsonc_sound.specs.Adjacent.{first_char, or_else}
use Rattle.jsonc_sound.proofs.LeafByLeaf.{AllLeaves, begins_slash, behind_all, document_leaves_all}
use Rattle.jsonc_sound.proofs.TriviaLeaves.{document_differs}
use Rattle.jsonc_text.specs.Text.{starts}
use Rattle.jsonc_tree.proofs.Moves.{CanJoin-none}
use Rattle.jsonc_sound.specs.SoundTrees.{SoundTree}
use Rattle.jsonc_sound.specs.Spaces.{meet}
use Rattle.jsonc_sound.proofs.NodesAlone.{document_alone}
use Rattle.jsonc_sound.proofs.RowsTell.{kept_without_comment_in_row}
use Rattle.jsonc_sound.proofs.RowsWithin.{both_within}
use Rattle.jsonc_sound.specs.MarkChanges.{AreBlanks}
use Rattle.jsonc_edit.specs.Due.{prints, prints_at, nearest, begins_bare, ends_bare, seen_before, seen_behind, behind_holder}
use Rattle.jsonc_edit.proofs.WholeRows.{Whole, whole_before, whole_behind, whole_within}
use Rattle.jsonc_edit.proofs.NearestLeaves.{meet_bare}
use Rattle.jsonc_edit.specs.Changes.{row_below}
use Rattle.jsonc_edit.specs.Comments.{blanks_from, newline_from, removed_from, CommentRemoved, leaves_gone, TakesTrivia}
use Rattle.jsonc_edit.proofs.ChangesUpward.{Shows-row_below, document_is}
use Rattle.jsonc_edit.proofs.LeafKinds.{trivia_leaf, comment_trivia}
use Rattle.jsonc_edit.proofs.Elements.{none_some}
use Rattle.jsonc_edit.proofs.ValuePlaces.{no_row}
use Rattle.jsonc_edit.proofs.BlanksBefore.{blanks_low, blanks_are}

whitespace_trivia : (c : Content) → is_whitespace c ≡ true → IsTrue (is_trivia c)
whitespace_trivia (Content.whitespace s) h = refl
whitespace_trivia c h = cc

newline_trivia : (c : Content) → is_newline c ≡ true → IsTrue (is_trivia c)
newline_trivia (Content.newline k) h = refl
newline_trivia c h = cc

-- a comment alone ends in a comment
comment_ends : (c : Content) → IsTrue (is_comment c) → EndsInComment (c ∷ [])
comment_ends (Content.comment s) h = one_comment
comment_ends c h = cc

-- blanks, or a line's end
abbrev is_gap : Content → Bool
is_gap content = is_whitespace content || is_newline content

abbrev is_gap_at : List Node → ℕ → Bool
is_gap_at ns n = is_gap (content_at ns n)

whitespace_gap : (c : Content) → is_whitespace c ≡ true → IsTrue (is_gap c)
whitespace_gap c h = ap (λ b. b || is_newline c) h

newline_gap : (c : Content) → is_newline c ≡ true → IsTrue (is_gap c)
newline_gap (Content.newline k) h = refl
newline_gap c h = cc

gap_trivia : (c : Content) → IsTrue (is_gap c) → IsTrue (is_trivia c)
gap_trivia (Content.whitespace s) h = refl
gap_trivia (Content.newline k) h = refl
gap_trivia c h = cc

module _ (ns : List Node) (row : List ℕ) where
  newline_before : (place : ℕ) → newline_from ns row place ≤ place
  newline_before zero = omega arith
  newline_before (suc place) =
      elim (cases_Bool (is_newline_at ns (slice_index row place))) [
        | inl h ↦ (let e : newline_from ns row (suc place) ≡ place = rw h refl in omega (arith, e))
        | inr h ↦ (let e : newline_from ns row (suc place) ≡ suc place = rw h refl in omega (arith, e))
      ]

  newline_is : (place at : ℕ) → newline_from ns row place ≤ at → at < place → IsTrue (is_gap_at ns (slice_index row at))
  newline_is zero at a b = absurd (omega (arith, b))
  newline_is (suc place) at a b =
      elim (cases_Bool (is_newline_at ns (slice_index row place))) [
        | inr h ↦ (let e : newline_from ns row (suc place) ≡ suc place = rw h refl in absurd (omega (arith, e, a, b)))
        | inl h ↦
            let e : newline_from ns row (suc place) ≡ place = rw h refl in
            let s : place ≡ at = omega (arith, e, a, b) in
            subst (λ k. IsTrue (is_gap_at ns (slice_index row k))) s (newline_gap (content_at ns (slice_index row place)) h)
      ]

-- these nodes are blanks if each is
are_gaps : (ns : List Node) (xs : List ℕ) → ((k : ℕ) → k < length xs → IsTrue (is_gap_at ns (get_or xs k 0))) → AreBlanks (map (content_at ns) xs)
are_gaps ns [] h = tt
are_gaps ns (x ∷ xs) h = (h 0 (omega arith), are_gaps ns xs (λ k l. h (suc k) (omega (arith, l))))

-- a comment has its text
comment_text : (c : Content) → IsTrue (is_comment c) → (s : List ℕ) × (c ≡ Content.comment s)
comment_text (Content.comment s) h = (s, refl)
comment_text c h = cc

-- these nodes are trivia if each is
are_trivia : (ns : List Node) (xs : List ℕ) → ((k : ℕ) → k < length xs → IsTrue (is_trivia_at ns (get_or xs k 0))) → AreTrivia (map (content_at ns) xs)
are_trivia ns [] h = tt
are_trivia ns (x ∷ xs) h = (h 0 (omega arith), are_trivia ns xs (λ k l. h (suc k) (omega (arith, l))))

module _ (ns : List Node) (tree : IsTree ns) where
  -- leaves in front of a row
  leaves_shown : (xs : List ℕ) (t back : OrderedTree) → AreTrivia (map (content_at ns) xs) → Shows ns xs t → followed_by t back ≡ leaves_then (map (content_at ns) xs) back
  leaves_shown _ _ back h shows_none = refl
  leaves_shown _ _ back h (shows_more {n = n} {rest = rest} {below = below} {after = after} p q) =
      let bare : below ≡ none = empty (subst (λ (l : List ℕ). Shows ns l below) (tree.leaf n (trivia_leaf (content_at ns n) h.0)) p) in
      ap (λ b. more (content_at ns n) b (followed_by after back)) bare ∙ ap (more (content_at ns n) none) (leaves_shown rest after back h.1 q)
    where
      empty : {b : OrderedTree} → Shows ns [] b → b ≡ none
      empty shows_none = refl

  module _ (c n : ℕ) (said : parent_at ns n ≡ Some c) where
    abbrev cs : List ℕ
    cs = children_at ns c

    abbrev place : ℕ
    place = place_at ns n

    abbrev from : ℕ
    from = removed_from ns c n

    pub from_before : from ≤ place
    from_before =
        elim (cases_Bool (is_line_comment (content_at ns n))) [
          | inl h ↦
              let e : from ≡ newline_from ns cs (blanks_from ns cs place) = rw h refl in
              omega (arith, e, newline_before ns cs (blanks_from ns cs place), blanks_low ns cs place)
          | inr h ↦ (let e : from ≡ place = rw h refl in omega (arith, e))
        ]

    between_gap : (at : ℕ) → from ≤ at → at < place → IsTrue (is_gap_at ns (slice_index cs at))
    between_gap at a b =
        elim (cases_Bool (is_line_comment (content_at ns n))) [
          | inr h ↦ (let e : from ≡ place = rw h refl in absurd (omega (arith, e, a, b)))
          | inl h ↦
              let e : from ≡ newline_from ns cs (blanks_from ns cs place) = rw h refl in
              elim (cases_lt at (blanks_from ns cs place)) [
                | inl l ↦ newline_is ns cs (blanks_from ns cs place) at (omega (arith, e, a)) l
                | inr m ↦ whitespace_gap (content_at ns (slice_index cs at)) (blanks_are ns cs place at m b)
              ]
        ]

    pub between_trivia : (at : ℕ) → from ≤ at → at < place → IsTrue (is_trivia_at ns (slice_index cs at))
    between_trivia at a b = gap_trivia (content_at ns (slice_index cs at)) (between_gap at a b)

    abbrev gone : List ℕ
    gone = slice_range cs from (place + 1)

    abbrev first : List ℕ
    first = slice_range cs from place

    pub gone_is : gone ≡ first ++ n ∷ []
    gone_is =
        let inn : place < length cs = tree.within n c said in
        let le : from ≤ place = from_before in
        let count : place + 1 - from ≡ (place - from) + 1 = omega (arith, le) in
        let low : place - from < length (drop from cs) = omega (arith, inn, le, length-drop from cs) in
        let last : get_or (drop from cs) (place - from) 0 ≡ n = get_or-drop from cs (place - from) 0 ∙ ap (λ k. get_or cs k 0) (let e : from + (place - from) ≡ place = omega (arith, le) in e) ∙ tree.found n c said in
        ap (λ k. take k (drop from cs)) count ∙ take_more (drop from cs) (place - from) 0 low ∙ ap (λ m. take (place - from) (drop from cs) ++ m ∷ []) last

    gone_contents : map (content_at ns) gone ≡ map (content_at ns) first ++ content_at ns n ∷ []
    gone_contents = ap (map (content_at ns)) gone_is ∙ map-append (content_at ns) first (n ∷ [])

    pub blanks_gone : AreBlanks (map (content_at ns) first)
    blanks_gone =
        are_gaps ns first (λ k l.
        let le : from ≤ place = from_before in
        let inn : place < length cs = tree.within n c said in
        let size : length first ≡ place - from = length-between cs from place (omega (arith, inn)) in
        let low : from + k < place = omega (arith, l, size, le) in
        let here_is : get_or first k 0 ≡ get_or cs (from + k) 0 = get_or-between cs from place k 0 (omega (arith, low)) in
        subst (λ m. IsTrue (is_gap_at ns m)) (sym here_is) (between_gap (from + k) (omega arith) low))

    pub trivia_gone : IsTrue (is_comment_at ns n) → AreTrivia (map (content_at ns) gone)
    trivia_gone h =
        are_trivia ns gone (λ k l.
        let le : from ≤ place = from_before in
        let inn : place < length cs = tree.within n c said in
        let size : length gone ≡ place + 1 - from = length-between cs from (place + 1) (omega (arith, inn)) in
        let here_is : get_or gone k 0 ≡ get_or cs (from + k) 0 = get_or-between cs from (place + 1) k 0 (omega (arith, l, size, le)) in
        subst (λ m. IsTrue (is_trivia_at ns m)) (sym here_is)
        (elim (cases_lt (from + k) place) [
          | inl low ↦ between_trivia (from + k) (omega arith) low
          | inr m ↦
              let same : place ≡ from + k = omega (arith, m, l, size, le) in
              subst (λ j. IsTrue (is_trivia_at ns (get_or cs j 0))) same (subst (λ j. IsTrue (is_trivia_at ns j)) (sym (tree.found n c said)) (comment_trivia (content_at ns n) h))
        ]))

    ends_gone : IsTrue (is_comment_at ns n) → EndsInComment (map (content_at ns) gone)
    ends_gone h =
        subst EndsInComment (sym gone_contents)
        (elim (cases_Bool (is_line_comment (content_at ns n))) [
          | inl l ↦ line_comment (map (content_at ns) first) (content_at ns n) l
          | inr l ↦
              let e : from ≡ place = rw l refl in
              let nothing : first ≡ [] = ap (λ k. slice_range cs k place) e ∙ (let z : place - place ≡ 0 = omega arith in ap (λ k. take k (drop place cs)) z) in
              subst (λ (l : List ℕ). EndsInComment (map (content_at ns) l ++ content_at ns n ∷ [])) (sym nothing) (comment_ends (content_at ns n) h)
        ])

-- a row with a stretch, wherever it stands
gives_way : {was : List Content} (front back : OrderedTree) → was ≢ [] → LeavesChanged was [] (followed_by front (leaves_then was back)) (followed_by front back)
gives_way none back ne = LeavesChanged.given_way back ne
gives_way (more content below after) back ne = LeavesChanged.later (gives_way after back ne)

-- where the row that changed is below another
below_changed : {cs : List Content} {was now x y : OrderedTree} → LeavesChanged cs [] was now → Replaced was now x y → LeavesChanged cs [] x y
below_changed h here = LeavesChanged.deeper h
below_changed h (deeper r) = LeavesChanged.deeper (below_changed h r)
below_changed h (later r) = LeavesChanged.later (below_changed h r)

root_changed : {cs : List Content} (front back : OrderedTree) {was now x y : OrderedTree} → cs ≢ [] → was ≡ followed_by front (leaves_then cs back) → now ≡ followed_by front back → Replaced was now (more root x none) (more root y none) → StretchChanged cs [] (more root x none) (more root y none)
root_changed {cs} front back {was} {now} ne e f here = subst (λ t. StretchChanged cs [] (more root t none) (more root now none)) (sym e) (subst (λ t. StretchChanged cs [] (more root (followed_by front (leaves_then cs back)) none) (more root t none)) (sym f) (in_root front back))
root_changed {cs} front back {was} {now} ne e f (deeper r) =
    inside (below_changed (subst (λ t. LeavesChanged cs [] t now) (sym e) (subst (λ t. LeavesChanged cs [] (followed_by front (leaves_then cs back)) t) (sym f) (gives_way front back ne))) r)
root_changed front back ne e f (later r) = absurd (no_row r)

-- the rows of three lists of numbers, one after another
record Three (ns : List Node) (xs ys zs : List ℕ) (t : OrderedTree) : Type 0 where
  front : OrderedTree
  inner : OrderedTree
  back : OrderedTree
  before : Shows ns xs front
  between : Shows ns ys inner
  behind : Shows ns zs back
  joined : t ≡ followed_by front (followed_by inner back)

two_parts : (ns : List Node) (xs ys zs : List ℕ) (t front rest : OrderedTree) → t ≡ followed_by front rest → Shows ns xs front → (inner : OrderedTree) × (back : OrderedTree) × (rest ≡ followed_by inner back) × Shows ns ys inner × Shows ns zs back → Three ns xs ys zs t
two_parts ns xs ys zs t front rest e p (inner, back, f, q, s) = record {
  front = front;
  inner = inner;
  back = back;
  before = p;
  between = q;
  behind = s;
  joined = e ∙ ap (followed_by front) f;
}

three_parts : (ns : List Node) (xs ys zs : List ℕ) (t : OrderedTree) → Shows ns (xs ++ (ys ++ zs)) t → Three ns xs ys zs t
three_parts ns xs ys zs t shown = by (Shows-part ns xs (ys ++ zs) t shown)
  where
    by : (front : OrderedTree) × (rest : OrderedTree) × (t ≡ followed_by front rest) × Shows ns xs front × Shows ns (ys ++ zs) rest → Three ns xs ys zs t
    by (front, rest, e, p, q) = two_parts ns xs ys zs t front rest e p (Shows-part ns ys zs rest q)

no_end : (front : List Content) (x : Content) → front ++ x ∷ [] ≡ [] → ⊥
no_end [] x e = cc
no_end (y ∷ front) x e = cc

module _ (old new : List Node) (n : ℕ) (r : CommentRemoved old new n) where
  abbrev c : ℕ
  c = r.container

  abbrev row : List ℕ
  row = children_at old c

  abbrev i : ℕ
  i = removed_from old c n

  abbrev j : ℕ
  j = place_at old n + 1

  abbrev gone_nodes : List ℕ
  gone_nodes = slice_range row i j

  parts : Three old (take i row) gone_nodes (drop j row) (row_below old c)
  parts =
      three_parts old (take i row) gone_nodes (drop j row) (row_below old c)
      (subst (λ (l : List ℕ). Shows old l (row_below old c)) (split_between row i j (omega (arith, from_before old r.tree c n r.parent))) (Shows-row_below old r.tree c (parent_there old r.tree n c r.parent).1))

  pub all_trivia : AreTrivia (leaves_gone r)
  all_trivia = trivia_gone old r.tree c n r.parent r.comment

  some_gone : leaves_gone r ≢ []
  some_gone e = no_end (map (content_at old) (slice_range row i (place_at old n))) (content_at old n) (sym (gone_contents old r.tree c n r.parent) ∙ e)

  over_container : IsOver old 0 c
  over_container = over_step old r.tree 0 n c r.below (λ e. none_some (sym r.tree.root_alone ∙ ap (parent_at old) (sym e) ∙ r.parent)) r.parent

  old_is : more root (row_below old 0) none ≡ ordered_tree old 0
  old_is = document_is old r.tree (row_below old 0) (Shows-row_below old r.tree 0 r.tree.first)

  new_is : more root (row_below new 0) none ≡ ordered_tree new 0
  new_is = document_is new r.after (row_below new 0) (Shows-row_below new r.after 0 r.after.first)

  -- the container's row, by its three parts
  module _ (three : Three old (take i row) gone_nodes (drop j row) (row_below old c)) where
    abbrev left : OrderedTree
    left = followed_by three.front three.back

    row_was : row_below old c ≡ followed_by three.front (leaves_then (leaves_gone r) three.back)
    row_was = three.joined ∙ ap (followed_by three.front) (leaves_shown old r.tree gone_nodes three.inner three.back all_trivia three.between)

    row_is : Shows new (children_at new c) left
    row_is = Shows-spliced old new r.tree r.after c i j [] (r.removed c r.parent) (CanJoin-none old c i j) three.front none three.back three.before shows_none three.behind

    replaced : Replaced (row_below old c) left (ordered_tree old 0) (ordered_tree new 0)
    replaced = Replaced-splice old new r.tree r.after c i j [] (r.removed c r.parent) (row_below old c) left (Shows-row_below old r.tree c (parent_there old r.tree n c r.parent).1) row_is 0 r.tree.first over_container

    roots : Replaced (row_below old c) left (more root (row_below old 0) none) (more root (row_below new 0) none)
    roots = subst (λ t. Replaced (row_below old c) left t (more root (row_below new 0) none)) (sym old_is) (subst (λ t. Replaced (row_below old c) left (ordered_tree old 0) t) (sym new_is) replaced)

    changed : StretchChanged (leaves_gone r) [] (ordered_tree old 0) (ordered_tree new 0)
    changed =
        subst (λ t. StretchChanged (leaves_gone r) [] t (ordered_tree new 0)) old_is
        (subst (λ t. StretchChanged (leaves_gone r) [] (more root (row_below old 0) none) t) new_is (root_changed three.front three.back some_gone row_was refl roots))

  -- blanks, and the comment
  pub gone_blanks : List Content
  gone_blanks = map (content_at old) (slice_range row i (place_at old n))

  pub gone_text : (s : List ℕ) × (content_at old n ≡ comment s)
  gone_text = comment_text (content_at old n) r.comment

  pub are_gone_blanks : AreBlanks gone_blanks
  unfolding gone_blanks
  are_gone_blanks = blanks_gone old r.tree c n r.parent

  pub blanks_and_comment : leaves_gone r ≡ gone_blanks ++ comment gone_text.0 ∷ []
  unfolding gone_blanks
  blanks_and_comment = gone_contents old r.tree c n r.parent ∙ ap (λ w. map (content_at old) (slice_range row i (place_at old n)) ++ w ∷ []) gone_text.1

  pub takes_trivia : TakesTrivia r
  takes_trivia = record {
    changed = changed parts;
    trivia = all_trivia;
    ends = ends_gone old r.tree c n r.parent r.comment;
  }

  -- a sound document stays sound, if no two literals without quotes meet where the comment was
  module _ (o : Options) (s : SoundTree o (ordered_tree old 0)) where
    abbrev first_gone : ℕ
    first_gone = slice_index row i

    i_low : i < length row
    i_low = omega (arith, from_before old r.tree c n r.parent, r.tree.within n c r.parent)

    first_parent : parent_at old first_gone ≡ Some c
    first_parent = r.tree.named c i i_low

    first_place : place_at old first_gone ≡ i
    first_place = r.tree.placed c i i_low

    first_row : row_of old first_gone ≡ row
    first_row = ap (λ p. with_parent p (children_at old)) first_parent

    comment_row : row_of old n ≡ row
    comment_row = ap (λ p. with_parent p (children_at old)) r.parent

    seen_first : seen_before old first_gone ≡ nearest old (reverse (take i row))
    seen_first = ap (λ k. nearest old (reverse (take k (row_of old first_gone)))) first_place ∙ ap (λ l. nearest old (reverse (take i l))) first_row

    not_both : (a : Bool) (x y : Option ℕ) → a && begins_bare old (or_else x y) ≡ false → a && begins_bare old x ≡ false
    not_both true None y e = refl
    not_both true (Some k) y e = e
    not_both false x y e = refl

    -- a comment of a sound document prints something
    slash_prints : (f : Option ℕ) → IsTrue (begins_slash f) → IsTrue (starts (λ c. true) f)
    slash_prints None h = h
    slash_prints (Some c) h = refl

    prints_text : prints_at old n ≡ true
    prints_text =
        let w = document_differs (leaves_gone r) [] all_trivia tt takes_trivia.changed in
        let all : AllLeaves (w.front ++ (leaves_gone r ++ w.back)) = subst AllLeaves w.before (document_leaves_all o (document_alone o s.shaped)) in
        let gone : AllLeaves (gone_blanks ++ (comment gone_text.0 ∷ w.back)) =
        subst AllLeaves (ap (λ l. l ++ w.back) blanks_and_comment ∙ append_assoc gone_blanks (comment gone_text.0 ∷ []) w.back) (behind_all w.front (leaves_gone r ++ w.back) all) in
        let begins = (behind_all gone_blanks (comment gone_text.0 ∷ w.back) gone).0.1 refl in
        ap prints gone_text.1 ∙ slash_prints (first_char (comment gone_text.0)) begins

    pub sound_without : (prints_at old n ≡ true → ends_bare old (seen_before old first_gone) && begins_bare old (seen_behind old n) ≡ false) → SoundTree o (ordered_tree new 0)
    sound_without calm =
        let quiet = calm prints_text in
        let it = replaced parts in
        let rows : Replaced (followed_by parts.front (leaves_then (leaves_gone r) parts.back)) (followed_by parts.front parts.back) (ordered_tree old 0) (ordered_tree new 0) =
        subst (λ t. Replaced t (followed_by parts.front parts.back) (ordered_tree old 0) (ordered_tree new 0)) (row_was parts) it in
        let whole : Whole o (followed_by parts.front (followed_by parts.inner parts.back)) = subst (Whole o) parts.joined (whole_within o (document_alone o s.shaped) (both_within it).old) in
        let front_whole = whole_before o parts.front (followed_by parts.inner parts.back) whole in
        let back_whole = whole_behind o parts.inner parts.back (whole_behind o parts.front (followed_by parts.inner parts.back) whole) in
        let behind : begins_bare old (nearest old (siblings_after old n)) ≡ begins_bare old (nearest old (drop j row)) = ap (λ l. begins_bare old (nearest old (drop j l))) comment_row in
        let none : ends_bare old (seen_before old first_gone) && begins_bare old (nearest old (siblings_after old n)) ≡ false = not_both (ends_bare old (seen_before old first_gone)) (nearest old (siblings_after old n)) (behind_holder old n) quiet in
        let apart : meet (leaves parts.front) (leaves parts.back) ≡ false =
        meet_bare old o parts.before front_whole parts.behind back_whole
        ∙ ap (λ x. ends_bare old x && begins_bare old (nearest old (drop j row))) (sym seen_first)
        ∙ ap (λ b. ends_bare old (seen_before old first_gone) && b) (sym behind) ∙ none in
        kept_without_comment_in_row o (ordered_tree old 0) s parts.front parts.back (leaves_gone r) (ordered_tree new 0) rows all_trivia (ends_gone old r.tree c n r.parent r.comment) apart
