-- An element has left a container's row: which row that was, and which it is.
use Rattle.std.proofs.Common.{◌≡◌, ◌≢◌, ◌⊎◌, inl, inr, ℕ, suc, ◌+◌, ◌<◌, Bool, true, false, not, ◌&&◌, ◌||◌, cond, List, [], ◌∷◌, ◌++◌, length, filter, reverse, take, Option, Some, None, IsTrue, if◌then◌else◌, refl, sym, ap, subst, ◌∙◌, arith}
use Rattle.std.proofs.lemmas.List.{append_assoc, length-append, map-append, reverse-append, take_at}
use Rattle.std.proofs.lemmas.List.Folds.{find-append}
use Rattle.std.specs.Option.{option_or}
use Rattle.std.proofs.lemmas.List.Elements.{All-head, All-tail, All-append}
use Rattle.jsonc_text.specs.Options.{Options}
use Rattle.jsonc_tree.specs.Changes.{Splices}
use Rattle.jsonc_tree.specs.Content.{Content, token, is_container}
use Rattle.jsonc_tree.specs.OrderedTree.{OrderedTree, none, more, leaves, followed_by, Shows, shows_none, shows_more}
use Rattle.jsonc_tree.specs.Tree.{Node, content_at, parent_at, children_at, place_at, IsTree}
use Rattle.jsonc_tree.proofs.Order.{parent_there}
use Rattle.jsonc_tree.proofs.OrderedTrees.{leaves-followed_by}
use Rattle.jsonc_tree.proofs.Rows.{Shows-append, Shows-part, followed_by-assoc, followed_by-none}
use Rattle.jsonc_layout.specs.nodes.Kinds.{is_comma, is_comment, is_element, is_element_at, is_inline_trivia, is_newline, is_trivia, is_whitespace}
use Rattle.jsonc_sound.specs.Shape.{token_then}
use Rattle.jsonc_layout.specs.lines.Kinds.{is_array_or_object}
use Rattle.jsonc_sound.specs.Rows.{RowKind, opening, closing}
use Rattle.jsonc_sound.specs.TriviaChanges.{leaves_then}
use Rattle.jsonc_sound.specs.Adjacent.{last_printed}
use Rattle.jsonc_sound.specs.Spaces.{first_printed, is_bare, is_bare_leaf, meet, space_then}
use Rattle.jsonc_edit.specs.Due.{nearest, beginning_in, begins_bare, ends_bare, is_bare_at, prints_at}
use Rattle.jsonc_edit.specs.Put.{a_space}
use Rattle.jsonc_edit.specs.SeamRemovals.{EndsLine, NoCommentLeft, NoLineLeft, SpaceFirst, none_first, space_first, RemovedWithSeams, comma_behind, comma_before, comment_comes, line_comes, no_comma}
use Rattle.jsonc_edit.proofs.LeavesAroundNodes.{silent_row}
use Rattle.jsonc_sound.specs.Leaving.{AreInlineTrivia, ends_apart, element_count, has_no_comma, comma_comes, among, ElementRemoved, with_comma_behind, with_comma_before, with_no_comma, ClosesUp}
use Rattle.jsonc_sound.proofs.RowParts.{rest_trivia, between_trivia, line_trivia}
use Rattle.jsonc_edit.proofs.WholeRows.{Whole, more_whole, whole_before, whole_behind}
use Rattle.jsonc_edit.proofs.NearestLeaves.{back_bare, front_bare, meet_bare}
use Rattle.jsonc_edit.specs.Changes.{row_below, top_at}
use Rattle.jsonc_edit.specs.Paths.{IsElementOf}
use Rattle.jsonc_edit.proofs.Elements.{stands_at}
use Rattle.jsonc_edit.proofs.ChangesUpward.{Shows-row_below}
use Rattle.jsonc_edit.specs.remove.Removed.{IsClosedUp, LosesChild}
use Rattle.jsonc_edit.proofs.lemmas.remove.Contents.{GoesWith, GoesWithout, apart, comment_first, count, apart_shown, commas_shown, comment_shown, first_shown, line_shown, count_shown, count_append, count_beside}
use Rattle.jsonc_edit.proofs.lemmas.remove.RemovedStretches.{Edges}
use Rattle.jsonc_edit.proofs.lemmas.remove.Places.{Come, none_come, one_come, Quiet, place_in}
use Rattle.jsonc_edit.proofs.lemmas.remove.SpacedRow.{Settled, settled_behind, settled_before, settled_none, comma_is}
use Rattle.jsonc_edit.proofs.lemmas.remove.Stretches.{contents}
use Rattle.jsonc_edit.proofs.lemmas.remove.Trees.{trivia_leaves, beside_leaves, leaves_shown, among_shown, leaf_below, quiet_inside, AreKids, all_kids, closes_row as close_up, NewRow, new_row}
use Rattle.jsonc_edit.proofs.lemmas.remove.RemovedChildren.{Rewoven, stretch_out, comma_out, Others, others_before}
use Rattle.jsonc_edit.proofs.Lists.{all_front, all_rest}

-- two whole rows, one behind the other
whole_joined : (o : Options) (t u : OrderedTree) → Whole o t → Whole o u → Whole o (followed_by t u)
whole_joined o none u w v = v
whole_joined o (more content below after) u (more_whole h r) v = more_whole h (whole_joined o after u r v)

-- what the rows below c are, and that the element has left; `ready` were its children before spaces came
pub record Outcome (old new : List Node) (c n i : ℕ) (kind : RowKind) (ready : List ℕ) : Type 0 where
  pub row : OrderedTree
  pub left : OrderedTree
  pub now : OrderedTree
  pub was : row_below old c ≡ token_then (opening kind) row
  pub is : row_below new c ≡ token_then (opening kind) now
  pub leaves : ElementRemoved (top_at old n) i row left
  pub closes : ClosesUp left now
  pub ready_row : OrderedTree
  pub shows_ready : Shows old ready (token_then (opening kind) ready_row)
  pub seams : RemovedWithSeams (top_at old n) i ready_row left

-- what a row is without the space that has come into it
record Unspaced (ns : List Node) (xs : List ℕ) (before : List Content) (t : OrderedTree) : Type 0 where
  was : OrderedTree
  shows : Shows ns xs was
  space : SpaceFirst before was t

-- a space is no comma
free_of_commas : {ahead : List Content} {x y : OrderedTree} → SpaceFirst ahead x y → has_no_comma x ≡ has_no_comma y
free_of_commas none_first = refl
free_of_commas (space_first quiet rest s l f) = by quiet
  where
    by : (q : OrderedTree) → has_no_comma (followed_by q rest) ≡ has_no_comma (followed_by q (space_then rest))
    by none = refl
    by (more c b q) = ap (λ x. not (is_comma c) && x) (by q)

apart_as_well : {ahead : List Content} {x y : OrderedTree} → SpaceFirst ahead x y → (content : Content) (below : OrderedTree) → ends_apart (more content below x) ≡ ends_apart (more content below y)
apart_as_well none_first content below = refl
apart_as_well (space_first quiet none s l f) content below = let wrong : false ≡ true = f in cc
apart_as_well (space_first quiet (more d e rest) s l f) content below = by quiet content below
  where
    by : (q : OrderedTree) (content : Content) (below : OrderedTree) → ends_apart (more content below (followed_by q (more d e rest))) ≡ ends_apart (more content below (followed_by q (space_then (more d e rest))))
    by none content below = refl
    by (more c b q) content below = by q c b

comes_as_well : {ahead : List Content} {x y : OrderedTree} → SpaceFirst ahead x y → comma_comes x ≡ comma_comes y
comes_as_well none_first = refl
comes_as_well (space_first quiet rest s l f) = by quiet
  where
    by : (q : OrderedTree) → comma_comes (followed_by q rest) ≡ comma_comes (followed_by q (space_then rest))
    by none = refl
    by (more c b q) = ap (λ x. if is_trivia c then x else is_comma c) (by q)

line_as_well : {ahead : List Content} {x y : OrderedTree} → SpaceFirst ahead x y → line_comes x ≡ line_comes y
line_as_well none_first = refl
line_as_well (space_first quiet rest s l f) = by quiet
  where
    by : (q : OrderedTree) → line_comes (followed_by q rest) ≡ line_comes (followed_by q (space_then rest))
    by none = refl
    by (more c b q) = ap (λ x. is_newline c || (is_inline_trivia c && x)) (by q)

comment_as_well : {ahead : List Content} {x y : OrderedTree} → SpaceFirst ahead x y → comment_comes x ≡ comment_comes y
comment_as_well none_first = refl
comment_as_well (space_first quiet rest s l f) = by quiet
  where
    by : (q : OrderedTree) → comment_comes (followed_by q rest) ≡ comment_comes (followed_by q (space_then rest))
    by none = refl
    by (more c b q) = ap (λ x. is_comment c || (is_whitespace c && x)) (by q)

-- what is said of the contents of the nodes behind a stretch, of their row without the space that has come into it
comment_left : (ns : List Node) {ahead line : List Content} {xs : List ℕ} {t u : OrderedTree} → Shows ns xs u → SpaceFirst ahead t u → GoesWithout line (contents ns xs) → NoCommentLeft line t
comment_left ns {line = line} {xs = xs} {t = t} shows space goes = by goes.none_left
  where
    by : EndsLine line ⊎ (comment_first (contents ns xs) ≡ false) → NoCommentLeft line t
    by (inl e) = inl e
    by (inr e) = inr (comment_as_well space ∙ comment_shown ns shows ∙ e)

line_left : (ns : List Node) {ahead between line : List Content} {xs : List ℕ} {t u : OrderedTree} → Shows ns xs u → SpaceFirst ahead t u → GoesWith between line (contents ns xs) → NoLineLeft between line t
line_left ns shows space goes = λ a b. line_as_well space ∙ line_shown ns shows ∙ goes.none_left a b

first_below : (ns : List Node) (n : ℕ) (rest : List ℕ) (t : OrderedTree) → Shows ns (n ∷ rest) t → (below : OrderedTree) × (after : OrderedTree) × (t ≡ more (content_at ns n) below after) × Shows ns (children_at ns n) below × Shows ns rest after
first_below ns n rest _ (shows_more {below = b} {after = a} p q) = (b, a, refl, p, q)

nothing_below : (ns : List Node) (t : OrderedTree) → Shows ns [] t → t ≡ none
nothing_below ns _ shows_none = refl

module _ (ns : List Node) (tree : IsTree ns) (o : Options) {ahead : List ℕ} {front : OrderedTree} (shows_front : Shows ns ahead front) (whole_front : Whole o front) where
  unspaced : {xs ys : List ℕ} → Come ns ahead xs ys → (t : OrderedTree) → Shows ns ys t → Whole o t → Unspaced ns xs (leaves front) t
  unspaced none_come t shown whole = record { was = t; shows = shown; space = none_first }
  unspaced (one_come first back x leaf clear is last printed bare) t shown whole =
      let two = Shows-part ns first (leaf ∷ x ∷ back) t shown in
      let one = first_below ns leaf (x ∷ back) two.1 two.4 in
      let below : one.0 ≡ none = nothing_below ns one.0 (subst (λ (l : List ℕ). Shows ns l one.0) (tree.leaf leaf (ap is_container is)) one.3) in
      let second : two.1 ≡ space_then one.1 = one.2 ∙ ap (λ (w : Content). more w one.0 one.1) is ∙ ap (λ (b : OrderedTree). more a_space b one.1) below in
      let whole_two : Whole o (more (content_at ns leaf) one.0 one.1) = subst (Whole o) one.2 (whole_behind o two.0 two.1 (subst (Whole o) two.2 whole)) in
      let whole_one : Whole o one.1 = whole_behind o (more (content_at ns leaf) one.0 none) one.1 whole_two in
      let ahead_bare : is_bare_leaf (last_printed (leaves front)) ≡ true = front_bare ns o shows_front whole_front ∙ last in
      let nearest_x : nearest ns (x ∷ back) ≡ Some x = ap (λ b. cond b (Some x) (nearest ns back)) printed in
      let first_bare : is_bare_leaf (first_printed (leaves one.1)) ≡ true = back_bare ns o one.4 whole_one ∙ ap (begins_bare ns) nearest_x ∙ bare in
      let given : SpaceFirst (leaves front) (followed_by two.0 one.1) (followed_by two.0 (space_then one.1)) = space_first two.0 one.1 (silent_row ns tree first two.0 two.3 clear) ahead_bare first_bare in
      record {
        was = followed_by two.0 one.1;
        shows = Shows-append ns first (x ∷ back) two.0 one.1 two.3 one.4;
        space = subst (SpaceFirst (leaves front) (followed_by two.0 one.1)) (sym (two.2 ∙ ap (followed_by two.0) second)) given;
      }

-- a bracket ahead is no literal
come_inside : (ns : List Node) (x c : ℕ) → content_at ns x ≡ token c → {ahead xs ys : List ℕ} → Come ns (x ∷ ahead) xs ys → Come ns ahead xs ys
come_inside ns x c is none_come = none_come
come_inside ns x c is {ahead} (one_come first back y leaf clear space last printed bare) = one_come first back y leaf clear space (by (nearest ns (reverse ahead)) turned) printed bare
  where
    turned : ends_bare ns (option_or (nearest ns (reverse ahead)) (nearest ns (x ∷ []))) ≡ true
    turned = ap (ends_bare ns) (sym (ap (nearest ns) (reverse-append (x ∷ []) ahead) ∙ find-append (prints_at ns) (reverse ahead) (x ∷ []))) ∙ last

    alone : (b : Bool) → ends_bare ns (cond b (Some x) None) ≡ false
    alone true = ap (λ w. is_bare_at ns (beginning_in (reverse (children_at ns x)) x w)) is ∙ ap is_bare is
    alone false = refl

    by : (o : Option ℕ) → ends_bare ns (option_or o (nearest ns (x ∷ []))) ≡ true → ends_bare ns o ≡ true
    by None h = let wrong : false ≡ true = sym (alone (prints_at ns x)) ∙ h in cc
    by (Some k) h = h

-- a space is no element
count_come : (ns : List Node) {ahead xs ys : List ℕ} → Come ns ahead xs ys → count (contents ns ys) ≡ count (contents ns xs)
count_come ns none_come = refl
count_come ns (one_come front back x leaf clear is last printed bare) =
    ap count (map-append (content_at ns) front (leaf ∷ x ∷ back)) ∙ count_append (contents ns front) (contents ns (leaf ∷ x ∷ back))
    ∙ ap (λ w. count (contents ns front) + count (w ∷ contents ns (x ∷ back))) is
    ∙ sym (ap count (map-append (content_at ns) front (x ∷ back)) ∙ count_append (contents ns front) (contents ns (x ∷ back)))

-- a token before a row
token_shown : (ns : List Node) → IsTree ns → (x c : ℕ) (xs : List ℕ) (t : OrderedTree) → content_at ns x ≡ token c → Shows ns xs t → Shows ns (x ∷ xs) (token_then c t)
token_shown ns tree x c xs t is shown =
    subst (λ (w : Content). Shows ns (x ∷ xs) (more w none t)) is (shows_more (subst (λ (l : List ℕ). Shows ns l none) (sym (tree.leaf x (ap is_container is))) shows_none) shown)

counted : (ns : List Node) (xs : List ℕ) → length (filter (is_element_at ns) xs) ≡ count (contents ns xs)
counted ns [] = refl
counted ns (x ∷ xs) = by (is_element_at ns x) (counted ns xs)
  where
    by : (b : Bool) → length (filter (is_element_at ns) xs) ≡ count (contents ns xs) → length (if b then x ∷ filter (is_element_at ns) xs else filter (is_element_at ns) xs) ≡ (if b then suc (count (contents ns xs)) else count (contents ns xs))
    by true e = ap suc e
    by false e = e

module _ (o : Options) (old new : List Node) (tree : IsTree old) (after : IsTree new) (c n i open_with last from to : ℕ) (kind : RowKind) (there : c < length old) (n_there : n < length old)
    (opens : content_at old open_with ≡ token (opening kind)) (closes : content_at old last ≡ token (closing kind)) (holds : IsTrue (is_array_or_object (content_at old c))) (whole : Whole o (row_below old c)) (element : IsElementOf old c i n) where
  -- the row by its parts
  module _ (ahead near behind rest : List ℕ) (row : children_at old c ≡ (open_with ∷ ahead) ++ ((near ++ n ∷ behind) ++ (rest ++ last ∷ []))) (edges : Edges (near ++ n ∷ behind) from to) (beside : AreInlineTrivia (contents old near)) where
    abbrev stretch : List ℕ
    stretch = near ++ n ∷ behind

    abbrev back : List ℕ
    back = rest ++ last ∷ []

    from_place : place_at old from ≡ length (open_with ∷ ahead)
    from_place = place_in old tree c (open_with ∷ ahead) (edges.tail ++ back) from (row ∙ ap (λ (l : List ℕ). (open_with ∷ ahead) ++ (l ++ back)) edges.first_is)

    to_place : place_at old to + 1 ≡ length (open_with ∷ ahead) + length stretch
    to_place =
        let at : place_at old to ≡ length ((open_with ∷ ahead) ++ edges.init) =
        place_in old tree c ((open_with ∷ ahead) ++ edges.init) back to
        (row ∙ ap (λ (l : List ℕ). (open_with ∷ ahead) ++ (l ++ back)) edges.last_is ∙ ap (λ (l : List ℕ). (open_with ∷ ahead) ++ l) (append_assoc edges.init (to ∷ []) back) ∙ sym (append_assoc (open_with ∷ ahead) edges.init (to ∷ back))) in
        omega (arith, at, length-append (open_with ∷ ahead) edges.init, ap length edges.last_is, length-append edges.init (to ∷ []))

    n_row : children_at old c ≡ ((open_with ∷ ahead) ++ near) ++ n ∷ (behind ++ back)
    n_row = row ∙ ap (λ (l : List ℕ). (open_with ∷ ahead) ++ l) (append_assoc near (n ∷ behind) back) ∙ sym (append_assoc (open_with ∷ ahead) near (n ∷ (behind ++ back)))

    index : i ≡ count (contents old ahead)
    index =
        let at = stands_at (is_element_at old) (children_at old c) i n element in
        let front : List ℕ = (open_with ∷ ahead) ++ near in
        let place : at.0 ≡ length front = sym (tree.placed c at.0 at.1) ∙ ap (place_at old) at.2 ∙ place_in old tree c front (behind ++ back) n n_row in
        let taken : take at.0 (children_at old c) ≡ front = ap (λ k. take k (children_at old c)) place ∙ ap (take (length front)) n_row ∙ take_at front (n ∷ (behind ++ back)) (length front) refl in
        let no_bracket : count (contents old (open_with ∷ ahead)) ≡ count (contents old ahead) = ap (λ w. if is_element w then suc (count (contents old ahead)) else count (contents old ahead)) opens in
        sym at.4 ∙ ap (λ l. length (filter (is_element_at old) l)) taken ∙ counted old front ∙ ap count (map-append (content_at old) (open_with ∷ ahead) near) ∙ count_append (contents old (open_with ∷ ahead)) (contents old near)
        ∙ ap (λ k. k + count (contents old near)) no_bracket ∙ ap (λ k. count (contents old ahead) + k) (count_beside (contents old near) beside) ∙ (let z : count (contents old ahead) + 0 ≡ count (contents old ahead) = omega arith in z)

    -- its trees
    record Pieces : Type 0 where
      front : OrderedTree
      behind_it : OrderedTree
      rest_of : OrderedTree
      row_is : OrderedTree
      shows_front : Shows old ahead front
      shows_behind : Shows old behind behind_it
      shows_rest : Shows old back rest_of
      was : row_below old c ≡ token_then (opening kind) row_is
      parts : row_is ≡ followed_by front (leaves_then (contents old near) (more (content_at old n) (row_below old n) (followed_by behind_it rest_of)))
      whole_front : Whole o front
      whole_rest : Whole o rest_of
      stretch_of : OrderedTree
      shows_stretch : Shows old stretch stretch_of
      stretch_is : (t : OrderedTree) → followed_by stretch_of t ≡ leaves_then (contents old near) (more (content_at old n) (row_below old n) (followed_by behind_it t))

    pieces : Pieces
    pieces =
        let shown : Shows old ((open_with ∷ []) ++ (ahead ++ (stretch ++ back))) (row_below old c) = subst (λ (l : List ℕ). Shows old l (row_below old c)) row (Shows-row_below old tree c there) in
        let first = Shows-part old (open_with ∷ []) (ahead ++ (stretch ++ back)) (row_below old c) shown in
        let second = Shows-part old ahead (stretch ++ back) first.1 first.4 in
        let third = Shows-part old stretch back second.1 second.4 in
        let mid = among_shown old tree near n behind third.0 n_there (beside_leaves (contents old near) beside) third.3 in
        let all : Whole o first.1 = whole_behind o first.0 first.1 (subst (Whole o) first.2 whole) in
        let parted : Whole o (followed_by second.0 second.1) = subst (Whole o) second.2 all in
        let last_two : Whole o (followed_by third.0 third.1) = subst (Whole o) third.2 (whole_behind o second.0 second.1 parted) in
        record {
          front = second.0;
          behind_it = mid.after;
          rest_of = third.1;
          row_is = first.1;
          shows_front = second.3;
          shows_behind = mid.shown;
          shows_rest = third.4;
          was = first.2 ∙ leaves_shown old tree (open_with ∷ []) first.0 first.1 (ap is_container opens, tt) first.3 ∙ ap (λ (w : Content). more w none first.1) opens;
          parts = second.2 ∙ ap (followed_by second.0) (third.2 ∙ mid.is third.1);
          whole_front = whole_before o second.0 second.1 parted;
          whole_rest = whole_behind o third.0 third.1 last_two;
          stretch_of = third.0;
          shows_stretch = third.3;
          stretch_is = mid.is;
        }

    -- all others stand before the last
    before_last : Others last ((open_with ∷ ahead) ++ (stretch ++ rest))
    before_last =
        others_before old tree c ((open_with ∷ ahead) ++ (stretch ++ rest)) [] last
        (row ∙ ap (λ (l : List ℕ). (open_with ∷ ahead) ++ l) (sym (append_assoc stretch rest (last ∷ []))) ∙ sym (append_assoc (open_with ∷ ahead) (stretch ++ rest) (last ∷ [])))

    others_ahead : Others last ahead
    others_ahead = All-tail (λ m. m ≢ last) open_with ahead (all_front (λ m. m ≢ last) (open_with ∷ ahead) (stretch ++ rest) before_last)

    others_rest : Others last rest
    others_rest = all_rest (λ m. m ≢ last) stretch rest (all_rest (λ m. m ≢ last) (open_with ∷ ahead) (stretch ++ rest) before_last)

    kids_front : AreKids old c (open_with ∷ ahead)
    kids_front = all_front (λ m. parent_at old m ≡ Some c) (open_with ∷ ahead) (stretch ++ back) (subst (AreKids old c) row (all_kids old tree c))

    kids_back : AreKids old c back
    kids_back = all_rest (λ m. parent_at old m ≡ Some c) stretch back (all_rest (λ m. parent_at old m ≡ Some c) (open_with ∷ ahead) (stretch ++ back) (subst (AreKids old c) row (all_kids old tree c)))

    -- the row that is left is closed up, if it may
    module _ (joined : List Node) (closed : IsClosedUp joined new c) (stays : List ℕ) (left : OrderedTree) (others : Others last (stays ++ rest)) (kids : AreKids old c (open_with ∷ stays)) (shown : Shows old (stays ++ back) left)
        (r : Rewoven old joined c (open_with ∷ (stays ++ back))) where
      regrouped : stays ++ back ≡ (stays ++ rest) ++ last ∷ []
      regrouped = sym (append_assoc stays rest (last ∷ []))

      then_is : NewRow old new tree after c open_with last kind there opens closes left
      then_is =
          new_row old new tree after c open_with last kind there opens closes (stays ++ rest) left
          (subst (λ (l : List ℕ). AreKids old c (open_with ∷ l)) regrouped (All-append (λ m. parent_at old m ≡ Some c) (open_with ∷ stays) back kids kids_back))
          (subst (λ (l : List ℕ). Shows old l left) regrouped shown)
          (close_up old joined new c open_with last (stays ++ rest) holds (subst (λ (l : List ℕ). Rewoven old joined c (open_with ∷ l)) regrouped r) others closed)

  module _ (parted joined : List Node) (s : Splices old parted c (place_at old from) (place_at old to + 1) []) (closed : IsClosedUp joined new c) where
    -- where the stretch alone leaves
    module _ (ahead near behind rest : List ℕ) (row : children_at old c ≡ (open_with ∷ ahead) ++ ((near ++ n ∷ behind) ++ (rest ++ last ∷ []))) (edges : Edges (near ++ n ∷ behind) from to) (beside : AreInlineTrivia (contents old near)) (same : joined ≡ parted)
        (p : Pieces ahead near behind rest row edges beside) where
      stretch_row : NewRow old new tree after c open_with last kind there opens closes (followed_by p.front p.rest_of)
      stretch_row =
          then_is ahead near behind rest row edges beside joined closed ahead (followed_by p.front p.rest_of)
          (All-append (λ m. m ≢ last) ahead rest (others_ahead ahead near behind rest row edges beside) (others_rest ahead near behind rest row edges beside)) (kids_front ahead near behind rest row edges beside)
          (Shows-append old ahead (rest ++ last ∷ []) p.front p.rest_of p.shows_front p.shows_rest)
          (subst (λ ns. Rewoven old ns c (open_with ∷ (ahead ++ (rest ++ last ∷ [])))) (sym same)
          (stretch_out old parted c (place_at old from) (place_at old to + 1) (open_with ∷ ahead) (near ++ n ∷ behind) (rest ++ last ∷ []) row (from_place ahead near behind rest row edges beside) (to_place ahead near behind rest row edges beside) s))

      stretch_quiet : Quiet old (open_with ∷ ahead) (rest ++ last ∷ []) → meet (leaves p.front) (leaves p.rest_of) ≡ false
      stretch_quiet q = meet_bare old o p.shows_front p.whole_front p.shows_rest p.whole_rest ∙ quiet_inside old open_with ahead (rest ++ last ∷ []) q

      stretch_apart : IsTrue (apart (contents old ahead)) → IsTrue (ends_apart p.front)
      stretch_apart h = apart_shown old p.shows_front ∙ h

      stretch_index : element_count p.front ≡ i
      stretch_index = count_shown old p.shows_front ∙ sym (index ahead near behind rest row edges beside)

    pub outcome : (k : Option ℕ) (ready : List ℕ) → Settled old c n open_with last from to k ready → LosesChild parted joined c k → Outcome old new c n i kind ready
    outcome _ _ (settled_none away near line rest row edges beside apart_away none_away ended first quiet back_nodes come) same =
        let p = pieces away near line rest row edges beside in
        let r = stretch_row away near line rest row edges beside same p in
        let whole_row : p.row_is ≡ followed_by p.front (among (contents old near) (top_at old n) (contents old line) p.rest_of) =
        p.parts ∙ ap (λ (t : OrderedTree). followed_by p.front (leaves_then (contents old near) (more (content_at old n) (row_below old n) t))) (leaves_shown old tree line p.behind_it p.rest_of (trivia_leaves (contents old line) (rest_trivia (contents old line) ended)) p.shows_behind) in
        let was : Unspaced old back_nodes (leaves p.front) p.rest_of = unspaced old tree o p.shows_front p.whole_front (come_inside old open_with (opening kind) opens come) p.rest_of p.shows_rest p.whole_rest in
        let ready_is : followed_by p.front (followed_by p.stretch_of was.was) ≡ followed_by p.front (among (contents old near) (top_at old n) (contents old line) was.was) =
        ap (followed_by p.front) (p.stretch_is was.was ∙ ap (λ (t : OrderedTree). leaves_then (contents old near) (more (content_at old n) (row_below old n) t)) (leaves_shown old tree line p.behind_it was.was (trivia_leaves (contents old line) (rest_trivia (contents old line) ended)) p.shows_behind)) in
        record {
          row = p.row_is;
          left = followed_by p.front p.rest_of;
          now = r.row;
          was = p.was;
          is = r.is;
          leaves =
              subst (λ k. ElementRemoved (top_at old n) k p.row_is (followed_by p.front p.rest_of)) (stretch_index away near line rest row edges beside same p)
              (subst (λ t. ElementRemoved (top_at old n) (element_count p.front) t (followed_by p.front p.rest_of)) (sym whole_row)
              (with_no_comma p.front p.rest_of (contents old near) (contents old line) (stretch_apart away near line rest row edges beside same p apart_away) (commas_shown old p.shows_front ∙ none_away) beside ended
              (ap not (first_shown old p.shows_rest ∙ first.no_comma)) (stretch_quiet away near line rest row edges beside same p quiet)));
          closes = r.shuts;
          ready_row = followed_by p.front (followed_by p.stretch_of was.was);
          shows_ready =
              token_shown old tree open_with (opening kind) (away ++ ((near ++ n ∷ line) ++ back_nodes)) (followed_by p.front (followed_by p.stretch_of was.was)) opens
              (Shows-append old away ((near ++ n ∷ line) ++ back_nodes) p.front (followed_by p.stretch_of was.was) p.shows_front (Shows-append old (near ++ n ∷ line) back_nodes p.stretch_of was.was p.shows_stretch was.shows));
          seams =
              subst (λ k. RemovedWithSeams (top_at old n) k (followed_by p.front (followed_by p.stretch_of was.was)) (followed_by p.front p.rest_of)) (stretch_index away near line rest row edges beside same p)
              (subst (λ t. RemovedWithSeams (top_at old n) (element_count p.front) t (followed_by p.front p.rest_of)) (sym ready_is)
              (no_comma p.front was.was p.rest_of (contents old near) (contents old line) (stretch_apart away near line rest row edges beside same p apart_away) beside ended (comment_left old p.shows_rest was.space first) (commas_shown old p.shows_front ∙ none_away) (ap not (comes_as_well was.space ∙ first_shown old p.shows_rest ∙ first.no_comma)) was.space));
        }
    outcome _ _ (settled_behind away near between line rest k row edges beside apart_away comma goes quiet back_nodes come) same =
        let p = pieces away near (between ++ k ∷ line) rest row edges beside in
        let r = stretch_row away near (between ++ k ∷ line) rest row edges beside same p in
        let is_k : content_at old k ≡ token 0x2C = comma_is (content_at old k) comma in
        let k_there : k < length old =
        (parent_there old tree k c (All-head (λ m. parent_at old m ≡ Some c) k line (all_rest (λ m. parent_at old m ≡ Some c) (near ++ n ∷ between) (k ∷ line)
        (subst (AreKids old c) (sym (append_assoc near (n ∷ between) (k ∷ line))) (all_front (λ m. parent_at old m ≡ Some c) (near ++ n ∷ (between ++ k ∷ line)) (rest ++ last ∷ [])
        (all_rest (λ m. parent_at old m ≡ Some c) (open_with ∷ away) ((near ++ n ∷ (between ++ k ∷ line)) ++ (rest ++ last ∷ [])) (subst (AreKids old c) row (all_kids old tree c)))))))).0 in
        let mid = among_shown old tree between k line p.behind_it k_there (trivia_leaves (contents old between) (between_trivia goes.leaves)) p.shows_behind in
        let behind_then : (b : OrderedTree) → followed_by p.behind_it b ≡ leaves_then (contents old between) (token_then 0x2C (leaves_then (contents old line) b)) = λ b.
        mid.is b ∙ ap (λ (w : Content). leaves_then (contents old between) (more w (row_below old k) (followed_by mid.after b))) is_k
        ∙ ap (λ (t : OrderedTree). leaves_then (contents old between) (more (token 0x2C) t (followed_by mid.after b))) (leaf_below old tree k k_there (ap is_container is_k))
        ∙ ap (λ (t : OrderedTree). leaves_then (contents old between) (token_then 0x2C t)) (leaves_shown old tree line mid.after b (trivia_leaves (contents old line) (line_trivia goes.leaves)) mid.shown) in
        let behind_is : followed_by p.behind_it p.rest_of ≡ leaves_then (contents old between) (token_then 0x2C (leaves_then (contents old line) p.rest_of)) = behind_then p.rest_of in
        let was : Unspaced old back_nodes (leaves p.front) p.rest_of = unspaced old tree o p.shows_front p.whole_front (come_inside old open_with (opening kind) opens come) p.rest_of p.shows_rest p.whole_rest in
        let ready_is : followed_by p.front (followed_by p.stretch_of was.was) ≡ followed_by p.front (among (contents old near) (top_at old n) (contents old between) (token_then 0x2C (leaves_then (contents old line) was.was))) =
        ap (followed_by p.front) (p.stretch_is was.was ∙ ap (λ (t : OrderedTree). leaves_then (contents old near) (more (content_at old n) (row_below old n) t)) (behind_then was.was)) in
        let whole_row : p.row_is ≡ followed_by p.front (among (contents old near) (top_at old n) (contents old between) (token_then 0x2C (leaves_then (contents old line) p.rest_of))) =
        p.parts ∙ ap (λ (t : OrderedTree). followed_by p.front (leaves_then (contents old near) (more (content_at old n) (row_below old n) t))) behind_is in
        record {
          row = p.row_is;
          left = followed_by p.front p.rest_of;
          now = r.row;
          was = p.was;
          is = r.is;
          leaves =
              subst (λ j. ElementRemoved (top_at old n) j p.row_is (followed_by p.front p.rest_of)) (stretch_index away near (between ++ k ∷ line) rest row edges beside same p)
              (subst (λ t. ElementRemoved (top_at old n) (element_count p.front) t (followed_by p.front p.rest_of)) (sym whole_row)
              (with_comma_behind p.front p.rest_of (contents old near) (contents old between) (contents old line) (stretch_apart away near (between ++ k ∷ line) rest row edges beside same p apart_away) beside goes.leaves
              (stretch_quiet away near (between ++ k ∷ line) rest row edges beside same p quiet)));
          closes = r.shuts;
          ready_row = followed_by p.front (followed_by p.stretch_of was.was);
          shows_ready =
              token_shown old tree open_with (opening kind) (away ++ ((near ++ n ∷ (between ++ k ∷ line)) ++ back_nodes)) (followed_by p.front (followed_by p.stretch_of was.was)) opens
              (Shows-append old away ((near ++ n ∷ (between ++ k ∷ line)) ++ back_nodes) p.front (followed_by p.stretch_of was.was) p.shows_front
              (Shows-append old (near ++ n ∷ (between ++ k ∷ line)) back_nodes p.stretch_of was.was p.shows_stretch was.shows));
          seams =
              subst (λ j. RemovedWithSeams (top_at old n) j (followed_by p.front (followed_by p.stretch_of was.was)) (followed_by p.front p.rest_of)) (stretch_index away near (between ++ k ∷ line) rest row edges beside same p)
              (subst (λ t. RemovedWithSeams (top_at old n) (element_count p.front) t (followed_by p.front p.rest_of)) (sym ready_is)
              (comma_behind p.front was.was p.rest_of (contents old near) (contents old between) (contents old line) (stretch_apart away near (between ++ k ∷ line) rest row edges beside same p apart_away) beside goes.leaves (line_left old p.shows_rest was.space goes) was.space));
        }
    outcome _ _ (settled_before away mid near line rest {k = k} row edges beside apart_mid none_mid comma ended first far close mid_nodes back_nodes come_mid come) loses =
        let ahead : List ℕ = away ++ k ∷ mid in
        let back : List ℕ = rest ++ last ∷ [] in
        let p = pieces ahead near line rest row edges beside in
        let is_k : content_at old k ≡ token 0x2C = comma_is (content_at old k) comma in
        let kids = kids_front ahead near line rest row edges beside in
        let others = others_ahead ahead near line rest row edges beside in
        let at_k : AreKids old c (k ∷ mid) = all_rest (λ m. parent_at old m ≡ Some c) (open_with ∷ away) (k ∷ mid) kids in
        let k_there : k < length old = (parent_there old tree k c (All-head (λ m. parent_at old m ≡ Some c) k mid at_k)).0 in
        let two = Shows-part old away (k ∷ mid) p.front p.shows_front in
        let one = among_shown old tree [] k mid two.1 k_there tt two.4 in
        let comma_then : (t : OrderedTree) → followed_by two.1 t ≡ token_then 0x2C (followed_by one.after t) = λ t. one.is t ∙ ap (λ (w : Content). more w (row_below old k) (followed_by one.after t)) is_k ∙ ap (λ (b : OrderedTree). more (token 0x2C) b (followed_by one.after t)) (leaf_below old tree k k_there (ap is_container is_k)) in
        let front_then : (t : OrderedTree) → followed_by p.front t ≡ followed_by two.0 (token_then 0x2C (followed_by one.after t)) = λ t. ap (λ (f : OrderedTree). followed_by f t) two.2 ∙ followed_by-assoc two.0 two.1 t ∙ ap (followed_by two.0) (comma_then t) in
        let left : OrderedTree = followed_by two.0 (followed_by one.after p.rest_of) in
        let whole_row : p.row_is ≡ followed_by two.0 (token_then 0x2C (followed_by one.after (among (contents old near) (top_at old n) (contents old line) p.rest_of))) =
        p.parts ∙ ap (λ (t : OrderedTree). followed_by p.front (leaves_then (contents old near) (more (content_at old n) (row_below old n) t))) (leaves_shown old tree line p.behind_it p.rest_of (trivia_leaves (contents old line) (rest_trivia (contents old line) ended)) p.shows_behind)
        ∙ front_then (among (contents old near) (top_at old n) (contents old line) p.rest_of) in
        let whole_front : Whole o (followed_by two.0 two.1) = subst (Whole o) two.2 p.whole_front in
        let whole_away : Whole o two.0 = whole_before o two.0 two.1 whole_front in
        let front_is : two.1 ≡ token_then 0x2C one.after = sym (followed_by-none two.1) ∙ comma_then none ∙ ap (token_then 0x2C) (followed_by-none one.after) in
        let whole_mid : Whole o one.after = whole_behind o (token_then 0x2C none) one.after (subst (Whole o) front_is (whole_behind o two.0 two.1 whole_front)) in
        let shows_back : Shows old (mid ++ back) (followed_by one.after p.rest_of) = Shows-append old mid back one.after p.rest_of one.shown p.shows_rest in
        let stays_row : children_at old c ≡ (open_with ∷ away) ++ k ∷ (mid ++ ((near ++ n ∷ line) ++ back)) = row ∙ append_assoc (open_with ∷ away) (k ∷ mid) ((near ++ n ∷ line) ++ back) in
        let woven : Rewoven old joined c ((open_with ∷ away) ++ (mid ++ back)) =
        comma_out old parted tree c (place_at old from) (place_at old to + 1) k (open_with ∷ away) mid (near ++ n ∷ line) back stays_row s (from_place ahead near line rest row edges beside) (to_place ahead near line rest row edges beside) joined loses in
        let r = then_is ahead near line rest row edges beside joined closed (away ++ mid) left
        (All-append (λ m. m ≢ last) (away ++ mid) rest (All-append (λ m. m ≢ last) away mid (all_front (λ m. m ≢ last) away (k ∷ mid) others) (All-tail (λ m. m ≢ last) k mid (all_rest (λ m. m ≢ last) away (k ∷ mid) others))) (others_rest ahead near line rest row edges beside))
        (All-append (λ m. parent_at old m ≡ Some c) (open_with ∷ away) mid (all_front (λ m. parent_at old m ≡ Some c) (open_with ∷ away) (k ∷ mid) kids) (All-tail (λ m. parent_at old m ≡ Some c) k mid at_k))
        (subst (λ (l : List ℕ). Shows old l left) (sym (append_assoc away mid back)) (Shows-append old away (mid ++ back) two.0 (followed_by one.after p.rest_of) two.3 shows_back))
        (subst (λ (l : List ℕ). Rewoven old joined c (open_with ∷ l)) (sym (append_assoc away mid back)) woven) in
        let no_comma_counts : count (contents old (k ∷ mid)) ≡ count (contents old mid) = ap (λ w. if is_element w then suc (count (contents old mid)) else count (contents old mid)) is_k in
        let counts : element_count two.0 + element_count one.after ≡ i =
        ap (λ j. j + element_count one.after) (count_shown old two.3) ∙ ap (λ j. count (contents old away) + j) (count_shown old one.shown ∙ sym no_comma_counts) ∙ sym (count_append (contents old away) (contents old (k ∷ mid)))
        ∙ ap count (sym (map-append (content_at old) away (k ∷ mid))) ∙ sym (index ahead near line rest row edges beside) in
        let was_mid : Unspaced old mid_nodes (leaves two.0) one.after = unspaced old tree o two.3 whole_away (come_inside old open_with (opening kind) opens come_mid) one.after one.shown whole_mid in
        let shows_ahead : Shows old (away ++ mid) (followed_by two.0 one.after) = Shows-append old away mid two.0 one.after two.3 one.shown in
        let was_joined : Unspaced old back_nodes (leaves (followed_by two.0 one.after)) p.rest_of =
        unspaced old tree o shows_ahead (whole_joined o two.0 one.after whole_away whole_mid) (come_inside old open_with (opening kind) opens come) p.rest_of p.shows_rest p.whole_rest in
        let was : Unspaced old back_nodes (leaves two.0 ++ leaves one.after) p.rest_of = subst (λ l. Unspaced old back_nodes l p.rest_of) (leaves-followed_by two.0 one.after) was_joined in
        let ready_front : OrderedTree = followed_by two.0 (token_then 0x2C was_mid.was) in
        let shows_front : Shows old (away ++ k ∷ mid_nodes) ready_front = Shows-append old away (k ∷ mid_nodes) two.0 (token_then 0x2C was_mid.was) two.3 (token_shown old tree k 0x2C mid_nodes was_mid.was is_k was_mid.shows) in
        let ready_counts : element_count two.0 + element_count was_mid.was ≡ i = ap (λ j. element_count two.0 + j) (count_shown old was_mid.shows ∙ sym (count_come old come_mid) ∙ sym (count_shown old one.shown)) ∙ counts in
        let ready_is : followed_by ready_front (followed_by p.stretch_of was.was) ≡ followed_by two.0 (token_then 0x2C (followed_by was_mid.was (among (contents old near) (top_at old n) (contents old line) was.was))) =
        ap (followed_by ready_front) (p.stretch_is was.was ∙ ap (λ (t : OrderedTree). leaves_then (contents old near) (more (content_at old n) (row_below old n) t)) (leaves_shown old tree line p.behind_it was.was (trivia_leaves (contents old line) (rest_trivia (contents old line) ended)) p.shows_behind))
        ∙ followed_by-assoc two.0 (token_then 0x2C was_mid.was) (among (contents old near) (top_at old n) (contents old line) was.was) in
        let mid_apart : IsTrue (ends_apart (token_then 0x2C one.after)) = subst (λ t. IsTrue (ends_apart t)) front_is (apart_shown old two.4 ∙ apart_mid) in
        record {
          row = p.row_is;
          left = left;
          now = r.row;
          was = p.was;
          is = r.is;
          leaves =
              subst (λ j. ElementRemoved (top_at old n) j p.row_is left) counts
              (subst (λ t. ElementRemoved (top_at old n) (element_count two.0 + element_count one.after) t left) (sym whole_row)
              (with_comma_before two.0 one.after p.rest_of (contents old near) (contents old line) mid_apart (commas_shown old one.shown ∙ none_mid) beside ended (ap not (first_shown old p.shows_rest ∙ first.no_comma))
              (meet_bare old o two.3 whole_away shows_back (whole_joined o one.after p.rest_of whole_mid p.whole_rest) ∙ quiet_inside old open_with away (mid ++ back) far)
              (meet_bare old o one.shown whole_mid p.shows_rest p.whole_rest ∙ close)));
          closes = r.shuts;
          ready_row = followed_by ready_front (followed_by p.stretch_of was.was);
          shows_ready =
              subst (λ (l : List ℕ). Shows old l (token_then (opening kind) (followed_by ready_front (followed_by p.stretch_of was.was)))) refl
              (token_shown old tree open_with (opening kind) ((away ++ k ∷ mid_nodes) ++ ((near ++ n ∷ line) ++ back_nodes)) (followed_by ready_front (followed_by p.stretch_of was.was)) opens
              (Shows-append old (away ++ k ∷ mid_nodes) ((near ++ n ∷ line) ++ back_nodes) ready_front (followed_by p.stretch_of was.was) shows_front (Shows-append old (near ++ n ∷ line) back_nodes p.stretch_of was.was p.shows_stretch was.shows)));
          seams =
              subst (λ j. RemovedWithSeams (top_at old n) j (followed_by ready_front (followed_by p.stretch_of was.was)) left) ready_counts
              (subst (λ t. RemovedWithSeams (top_at old n) (element_count two.0 + element_count was_mid.was) t left) (sym ready_is)
              (comma_before two.0 was_mid.was was.was one.after p.rest_of (contents old near) (contents old line) (apart_as_well was_mid.space (token 0x2C) none ∙ mid_apart) beside ended (comment_left old p.shows_rest was.space first) (free_of_commas was_mid.space ∙ commas_shown old one.shown ∙ none_mid)
              (ap not (comes_as_well was.space ∙ first_shown old p.shows_rest ∙ first.no_comma)) was_mid.space was.space));
        }
