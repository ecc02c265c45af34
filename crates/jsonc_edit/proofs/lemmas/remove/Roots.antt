-- The value of a sound document is taken out of the root.
use Rattle.std.proofs.Common.{◌≡◌, ◌⊎◌, ℕ, ◌+◌, ◌<◌, Bool, true, false, not, ◌&&◌, cond, List, [], ◌∷◌, ◌++◌, length, reverse, take, drop, slice_index, Option, Some, None, IsTrue, if◌then◌else◌, inl, inr, refl, sym, ap, subst, ◌∙◌, arith, append-nil}
use Rattle.std.proofs.lemmas.Bool.{cases_Bool}
use Rattle.std.proofs.lemmas.List.{append_assoc, length-append, map-append, reverse-reverse}
use Rattle.std.proofs.lemmas.List.Elements.{All-nil, All-cons, All-append, All-from_get_or}
use Rattle.std.specs.List.{All, find}
use Rattle.jsonc_text.specs.Options.{Options}
use Rattle.jsonc_tree.specs.Changes.{Splices}
use Rattle.jsonc_tree.specs.Content.{Content, root}
use Rattle.jsonc_tree.specs.OrderedTree.{OrderedTree, none, more, followed_by, Shows, shows_none, shows_more, ordered_tree}
use Rattle.jsonc_tree.specs.Siblings.{siblings_after, siblings_before}
use Rattle.jsonc_tree.specs.Tree.{Node, content_at, parent_at, children_at, place_at, IsTree}
use Rattle.jsonc_tree.proofs.Order.{not_over_parent, parent_there}
use Rattle.jsonc_tree.proofs.OrderedTrees.{Shows-unique}
use Rattle.jsonc_tree.proofs.Rows.{Shows-append, Shows-part, followed_by-none}
use Rattle.jsonc_layout.specs.nodes.Kinds.{is_trivia, is_element_at, is_property, is_blank_at}
use Rattle.jsonc_layout.proofs.lemmas.nodes.InTree.{All-reverse}
use Rattle.jsonc_layout.specs.lines.Kinds.{is_array_or_object}
use Rattle.jsonc_layout.specs.lines.Siblings.{is_no_trivia_at, if_comma, trailing_comma_at}
use Rattle.jsonc_tree.specs.OrderedTree.{Top}
use Rattle.jsonc_sound.specs.TreeChanges.{IsElement}
use Rattle.jsonc_sound.specs.TriviaChanges.{AreTrivia, leaves_then}
use Rattle.jsonc_sound.specs.Alone as alone
use Rattle.jsonc_sound.specs.Alone.{RootAlone}
use Rattle.jsonc_sound.specs.SoundTrees.{SoundTree}
use Rattle.jsonc_sound.specs.Spaces.{is_bare}
use Rattle.jsonc_sound.proofs.RowParts.{rest_trivia}
use Rattle.jsonc_sound.specs.MarkChanges.{AreBlanks}
use Rattle.jsonc_sound.specs.Leaving.{AreInlineTrivia, ends_apart, among, ValueRemoved, value_leaves, Empties, empties, IsRestOfLine}
use Rattle.jsonc_edit.specs.Due.{nearest, prints_at, ends_bare, begins_bare, seen_before, seen_behind, space_needed_between, prints_within, beginning_in, is_bare_at, listed}
use Rattle.jsonc_edit.specs.Put.{AreSpaced}
use Rattle.jsonc_edit.specs.Changes.{row_below, top_at}
use Rattle.jsonc_edit.specs.Paths.{IsElementOf}
use Rattle.jsonc_edit.proofs.Elements.{stands_at}
use Rattle.jsonc_edit.proofs.NodesKept.{top_stays, tree_stays}
use Rattle.jsonc_edit.proofs.Uniqueness.{element_parent}
use Rattle.jsonc_edit.proofs.ChangesUpward.{Shows-row_below, apart_kept, document_is, root_row}
use Rattle.jsonc_edit.specs.SeamRemovals.{EndsLine, NoCommentLeft}
use Rattle.jsonc_edit.specs.remove.Laws.{StaysNone, ValueTaken}
use Rattle.jsonc_edit.specs.remove.Leaving.{comes_to, comma_gone, first_gone, last_gone, last_past, line_end_at}
use Rattle.jsonc_edit.specs.remove.Removed.{comma_in, space_needed_at_comma, space_needed_at_stretch, is_hollow, is_hollow_as, hollow_from, hollow_to, IsTakenFrom, LosesChild, TakesElement}
use Rattle.jsonc_edit.proofs.lemmas.remove.Contents.{apart, comment_first, apart_shown, comment_shown}
use Rattle.jsonc_edit.proofs.lemmas.remove.Places.{row_split, before_in, after_in, place_in}
use Rattle.jsonc_edit.proofs.lemmas.remove.PrintedStretches.{find_holds}
use Rattle.jsonc_edit.proofs.lemmas.remove.Spaces.{AreSame, contents_same, front_same, back_same, tail_same}
use Rattle.jsonc_edit.proofs.lemmas.remove.Stretches.{contents, Near, near_of, WholeLine, line_of}
use Rattle.jsonc_edit.proofs.lemmas.remove.Trees.{trivia_leaves, beside_leaves, blank_leaves, leaves_shown, among_shown, AreKids, all_kids}
use Rattle.jsonc_edit.proofs.lemmas.remove.RemovedChildren.{Rewoven, rewoven_next, rewoven_changed, stretch_out}
use Rattle.jsonc_edit.proofs.LeafKinds.{trivia_is}
use Rattle.jsonc_edit.proofs.Lists.{all_front, all_rest}

trivia_no_element : (c : Content) → IsTrue (is_trivia c) → IsElement c → ⊥
trivia_no_element (Content.whitespace s) h e = cc
trivia_no_element (Content.newline k) h e = cc
trivia_no_element (Content.comment s) h e = cc
trivia_no_element c h e = cc

module _ (o : Options) (ns : List Node) where
  -- behind a value only trivia stands
  trivia_behind : {xs : List ℕ} {t : OrderedTree} → Shows ns xs t → RootAlone o true t → AreTrivia (contents ns xs)
  trivia_behind shows_none g = tt
  trivia_behind (shows_more {n = n} p r) (alone.root_trivia h g) = (trivia_is o (content_at ns n) h, trivia_behind r g)

  no_second : (front : OrderedTree) (content : Content) (below after : OrderedTree) → IsElement content → RootAlone o true (followed_by front (more content below after)) → ⊥
  no_second none content below after e (alone.root_trivia h g) = trivia_no_element content (trivia_is o content h) e
  no_second (more c under front) content below after e (alone.root_trivia h g) = no_second front content below after e g

  -- and before it too
  trivia_around : {xs : List ℕ} {front : OrderedTree} (content : Content) (below after : OrderedTree) → Shows ns xs front → IsElement content → RootAlone o false (followed_by front (more content below after)) → AreTrivia (contents ns xs) × RootAlone o true after
  trivia_around content below after shows_none e (alone.root_trivia h g) = absurd (trivia_no_element content (trivia_is o content h) e)
  trivia_around content below after shows_none e (alone.root_value v g) = (tt, g)
  trivia_around content below after (shows_more {n = n} p r) e (alone.root_trivia h g) = let rest = trivia_around content below after r e g in ((trivia_is o (content_at ns n) h, rest.0), rest.1)
  trivia_around content below after (shows_more {after = front} p r) e (alone.root_value v g) = absurd (no_second front content below after e g)

trivia_ends : (ns : List Node) (m : ℕ) (content : Content) (l : List ℕ) → content_at ns m ≡ content → IsTrue (is_trivia content) → is_bare_at ns (beginning_in l m content) ≡ false
trivia_ends ns m (Content.whitespace s) l e h = ap is_bare e
trivia_ends ns m (Content.newline k) l e h = ap is_bare e
trivia_ends ns m (Content.comment s) l e h = ap is_bare e
trivia_ends ns m c l e h = cc

trivia_each : (ns : List Node) (xs : List ℕ) → AreTrivia (contents ns xs) → All (λ m. ends_bare ns (Some m) ≡ false) xs
trivia_each ns [] h = All-nil (λ m. ends_bare ns (Some m) ≡ false)
trivia_each ns (x ∷ xs) h = All-cons (λ m. ends_bare ns (Some m) ≡ false) x xs (trivia_ends ns x (content_at ns x) (reverse (children_at ns x)) refl h.0) (trivia_each ns xs h.1)

trivia_quiet : (ns : List Node) (xs : List ℕ) → AreTrivia (contents ns xs) → ends_bare ns (nearest ns (reverse xs)) ≡ false
trivia_quiet ns xs h = by (nearest ns (reverse xs)) refl
  where
    by : (o : Option ℕ) → nearest ns (reverse xs) ≡ o → ends_bare ns o ≡ false
    by None e = refl
    by (Some m) e = find_holds (λ k. ends_bare ns (Some k) ≡ false) (prints_at ns) (reverse xs) m (All-reverse (λ k. ends_bare ns (Some k) ≡ false) xs (trivia_each ns xs h)) e

none_found : (ns : List Node) (xs : List ℕ) → AreTrivia (contents ns xs) → find (is_no_trivia_at ns) xs ≡ None
none_found ns [] h = refl
none_found ns (x ∷ xs) h = ap (λ b. if not b then Some x else find (is_no_trivia_at ns) xs) h.0 ∙ none_found ns xs h.1

trivia_front : (xs ys : List Content) → AreTrivia (xs ++ ys) → AreTrivia xs
trivia_front [] ys h = tt
trivia_front (x ∷ xs) ys h = (h.0, trivia_front xs ys h.1)

root_no_property : (content : Content) → content ≡ root → is_property content ≡ false
root_no_property content e = ap is_property e

all_blank : (ns : List Node) (xs : List ℕ) → IsTrue (comes_to ns None xs) → AreBlanks (contents ns xs)
all_blank ns [] e = tt
all_blank ns (x ∷ xs) e = by (is_blank_at ns x) refl e (all_blank ns xs)
  where
    by : (b : Bool) → is_blank_at ns x ≡ b → IsTrue (b && comes_to ns None xs) → (IsTrue (comes_to ns None xs) → AreBlanks (contents ns xs)) → AreBlanks (contents ns (x ∷ xs))
    by true f g rest = (f, rest g)
    by false f g rest = absurd (let wrong : false ≡ true = g in cc)

-- the stretch that leaves, by its parts
record Parts (ns : List Node) (n : ℕ) : Type 0 where
  away : List ℕ
  near : List ℕ
  line : List ℕ
  rest : List ℕ
  tail : List ℕ
  init : List ℕ
  row : children_at ns 0 ≡ away ++ ((near ++ n ∷ line) ++ rest)
  beside : AreInlineTrivia (contents ns near)
  apart_away : IsTrue (apart (contents ns away))
  trivia_away : AreTrivia (contents ns away)
  ended : IsRestOfLine (contents ns line)
  none_left : EndsLine (contents ns line) ⊎ (comment_first (contents ns rest) ≡ false)
  first_is : near ++ n ∷ line ≡ first_gone ns n ∷ tail
  last_is : near ++ n ∷ line ≡ init ++ last_gone ns n ∷ []

module _ (o : Options) (ns : List Node) (tree : IsTree ns) (n : ℕ) (said : parent_at ns n ≡ Some 0) (element : IsElement (content_at ns n)) (sound : SoundTree o (ordered_tree ns 0)) where
  abbrev pre : List ℕ
  pre = take (place_at ns n) (children_at ns 0)

  abbrev post : List ℕ
  post = drop (place_at ns n + 1) (children_at ns 0)

  split : children_at ns 0 ≡ pre ++ n ∷ post
  split = row_split ns tree 0 n said

  trivia_both : AreTrivia (contents ns pre) × AreTrivia (contents ns post)
  trivia_both = by (Shows-part ns pre (n ∷ post) (row_below ns 0) (subst (λ (l : List ℕ). Shows ns l (row_below ns 0)) split (Shows-row_below ns tree 0 tree.first)))
    where
      inner : {t : OrderedTree} (front : OrderedTree) → Shows ns pre front → Shows ns (n ∷ post) t → RootAlone o false (followed_by front t) → AreTrivia (contents ns pre) × AreTrivia (contents ns post)
      inner front p (shows_more {below = below} {after = after} q r) g = let two = trivia_around o ns (content_at ns n) below after p element g in (two.0, trivia_behind o ns r two.1)

      by : (a : OrderedTree) × (b : OrderedTree) × (row_below ns 0 ≡ followed_by a b) × Shows ns pre a × Shows ns (n ∷ post) b → AreTrivia (contents ns pre) × AreTrivia (contents ns post)
      by (a, b, e, p, q) = inner a p q (subst (RootAlone o false) e (root_row o ns tree sound))

  around : Near ns pre n (first_gone ns n)
  around = subst (λ r. Near ns r n (first_gone ns n)) (ap (λ (l : List ℕ). reverse l) (before_in ns tree 0 pre post n split) ∙ reverse-reverse pre) (near_of ns n (siblings_before ns n))

  no_comma : trailing_comma_at ns n ≡ None
  no_comma = ap (λ l. if_comma ns (find (is_no_trivia_at ns) l)) (after_in ns tree 0 pre post n split) ∙ ap (if_comma ns) (none_found ns post trivia_both.1)

  line_is : WholeLine ns post n (last_gone ns n)
  line_is = subst (λ w. WholeLine ns post n (last_past ns n w)) (sym no_comma) (subst (λ r. WholeLine ns r n (line_end_at ns n)) (after_in ns tree 0 pre post n split) (line_of ns n (siblings_after ns n)))

  parts : Parts ns n
  parts =
      let a = around in
      let l = line_is.stretch in
      record {
        away = a.away;
        near = a.near;
        line = l.line;
        rest = l.rest;
        tail = a.tail ++ l.line;
        init = a.near ++ l.init;
        row =
            split ∙ ap (λ (k : List ℕ). k ++ n ∷ post) a.split ∙ ap (λ (k : List ℕ). (a.away ++ a.near) ++ n ∷ k) l.split ∙ append_assoc a.away a.near (n ∷ (l.line ++ l.rest))
            ∙ ap (λ (k : List ℕ). a.away ++ k) (sym (append_assoc a.near (n ∷ l.line) l.rest));
        beside = a.beside;
        apart_away = a.apart;
        trivia_away = trivia_front (contents ns a.away) (contents ns a.near) (subst AreTrivia (ap (contents ns) a.split ∙ map-append (content_at ns) a.away a.near) trivia_both.0);
        ended = l.ended;
        none_left = line_is.none_left;
        first_is = sym (append_assoc a.near (n ∷ []) l.line) ∙ ap (λ k. k ++ l.line) a.first_is;
        last_is = ap (λ (k : List ℕ). a.near ++ k) l.last_is ∙ sym (append_assoc a.near l.init (last_gone ns n ∷ []));
      }

  -- no space is due
  none_due : space_needed_between ns (first_gone ns n) (last_gone ns n) ≡ None
  none_due =
      let p = parts in
      let before : ends_bare ns (seen_before ns (first_gone ns n)) ≡ false =
      ap (λ l. ends_bare ns (nearest ns l)) (before_in ns tree 0 p.away (p.tail ++ p.rest) (first_gone ns n) (p.row ∙ ap (λ (l : List ℕ). p.away ++ (l ++ p.rest)) p.first_is)) ∙ trivia_quiet ns p.away p.trivia_away in
      ap (λ b. cond (prints_within ns (first_gone ns n) (last_gone ns n) && (b && begins_bare ns (seen_behind ns (last_gone ns n)))) (seen_behind ns (last_gone ns n)) None) before
      ∙ never (prints_within ns (first_gone ns n) (last_gone ns n))
    where
      never : (b : Bool) → cond (b && false) (seen_behind ns (last_gone ns n)) None ≡ None
      never true = refl
      never false = refl

module _ (o : Options) (old new : List Node) (n : ℕ) (tree : IsTree old) (after : IsTree new) (sound : SoundTree o (ordered_tree old 0)) (element : IsElementOf old 0 0 n) (takes : TakesElement old new n) where
  said : parent_at old n ≡ Some 0
  said = element_parent old tree 0 0 n element

  f : IsTakenFrom old new n 0
  f = (takes 0 said).1

  kind_of : IsElement (content_at old n)
  kind_of = (stands_at (is_element_at old) (children_at old 0) 0 n element).3

  abbrev ready : List Node
  ready = f.ready

  p : Parts old n
  p = parts o old tree n said kind_of sound

  no_comma_in : comma_in old 0 n ≡ None
  no_comma_in = ap (λ w. if is_array_or_object w then comma_gone old n else None) tree.root_first

  same_spaced : f.spaced ≡ ready
  same_spaced =
      subst (λ w. AreSpaced ready (listed w) f.spaced) (none_due o old tree n said kind_of sound)
      (subst (λ g. AreSpaced ready (listed (space_needed_at_comma old (first_gone old n) g) ++ listed (space_needed_at_stretch old (first_gone old n) (last_gone old n) g)) f.spaced) no_comma_in
      (subst (λ b. AreSpaced ready (listed (space_needed_at_comma old (first_gone old n) (comma_in old 0 n)) ++ listed (if b then None else space_needed_at_stretch old (first_gone old n) (last_gone old n) (comma_in old 0 n))) f.spaced) (root_no_property (content_at old 0) tree.root_first) f.spaces))

  stretch_ready : Splices ready f.parted 0 (place_at ready (first_gone old n)) (place_at ready (last_gone old n) + 1) []
  stretch_ready = subst (λ ns. Splices ns f.parted 0 (place_at ns (first_gone old n)) (place_at ns (last_gone old n) + 1) []) same_spaced f.stretch

  same_joined : f.joined ≡ f.parted
  same_joined = subst (LosesChild f.parted f.joined 0) no_comma_in f.comma

  row_ready : children_at ready 0 ≡ p.away ++ ((p.near ++ n ∷ p.line) ++ p.rest)
  row_ready = f.prepared.keeps.children 0 tree.first ∙ p.row

  first_place : place_at ready (first_gone old n) ≡ length p.away
  first_place = place_in ready f.prepared.tree 0 p.away (p.tail ++ p.rest) (first_gone old n) (row_ready ∙ ap (λ (l : List ℕ). p.away ++ (l ++ p.rest)) p.first_is)

  last_place : place_at ready (last_gone old n) + 1 ≡ length p.away + length (p.near ++ n ∷ p.line)
  last_place =
      let at : place_at ready (last_gone old n) ≡ length (p.away ++ p.init) =
      place_in ready f.prepared.tree 0 (p.away ++ p.init) p.rest (last_gone old n)
      (row_ready ∙ ap (λ (l : List ℕ). p.away ++ (l ++ p.rest)) p.last_is ∙ ap (λ (l : List ℕ). p.away ++ l) (append_assoc p.init (last_gone old n ∷ []) p.rest) ∙ sym (append_assoc p.away p.init (last_gone old n ∷ p.rest))) in
      omega (arith, at, length-append p.away p.init, ap length p.last_is, length-append p.init (last_gone old n ∷ []))

  joined_row : Rewoven ready f.joined 0 (p.away ++ p.rest)
  joined_row =
      subst (λ ns. Rewoven ready ns 0 (p.away ++ p.rest)) (sym same_joined)
      (stretch_out ready f.parted 0 (place_at ready (first_gone old n)) (place_at ready (last_gone old n) + 1) p.away (p.near ++ n ∷ p.line) p.rest row_ready first_place last_place stretch_ready)

  all_same : AreSame old ready (children_at old 0)
  all_same = All-from_get_or (λ m. content_at ready m ≡ content_at old m) (children_at old 0) 0 (λ k l. f.prepared.keeps.content (slice_index (children_at old 0) k) (tree.in_tree 0 k l))

  same_parts : AreSame old ready (p.away ++ ((p.near ++ n ∷ p.line) ++ p.rest))
  same_parts = subst (AreSame old ready) p.row all_same

  same_away : contents ready p.away ≡ contents old p.away
  same_away = contents_same old ready p.away (front_same old ready p.away ((p.near ++ n ∷ p.line) ++ p.rest) same_parts)

  same_stretch : AreSame old ready (p.near ++ n ∷ p.line)
  same_stretch = front_same old ready (p.near ++ n ∷ p.line) p.rest (back_same old ready p.away ((p.near ++ n ∷ p.line) ++ p.rest) same_parts)

  beside : AreInlineTrivia (contents ready p.near)
  beside = subst AreInlineTrivia (sym (contents_same old ready p.near (front_same old ready p.near (n ∷ p.line) same_stretch))) p.beside

  ended : IsRestOfLine (contents ready p.line)
  ended = subst IsRestOfLine (sym (contents_same old ready p.line (tail_same old ready n p.line (back_same old ready p.near (n ∷ p.line) same_stretch)))) p.ended

  none_left : EndsLine (contents ready p.line) ⊎ (comment_first (contents ready p.rest) ≡ false)
  none_left =
      subst (λ l. EndsLine l ⊎ (comment_first (contents ready p.rest) ≡ false)) (sym (contents_same old ready p.line (tail_same old ready n p.line (back_same old ready p.near (n ∷ p.line) same_stretch))))
      (subst (λ l. EndsLine (contents old p.line) ⊎ (comment_first l ≡ false)) (sym (contents_same old ready p.rest (back_same old ready (p.near ++ n ∷ p.line) p.rest (back_same old ready p.away ((p.near ++ n ∷ p.line) ++ p.rest) same_parts)))) p.none_left)

  n_there : n < length ready
  n_there = omega (arith, (parent_there old tree n 0 said).0, f.prepared.keeps.len)

  kids : AreKids ready 0 (p.away ++ p.rest)
  kids =
      let all = subst (AreKids ready 0) row_ready (all_kids ready f.prepared.tree 0) in
      All-append (λ m. parent_at ready m ≡ Some 0) p.away p.rest (all_front (λ m. parent_at ready m ≡ Some 0) p.away ((p.near ++ n ∷ p.line) ++ p.rest) all)
      (all_rest (λ m. parent_at ready m ≡ Some 0) (p.near ++ n ∷ p.line) p.rest (all_rest (λ m. parent_at ready m ≡ Some 0) p.away ((p.near ++ n ∷ p.line) ++ p.rest) all))

  row_then : (row : List ℕ) (t : OrderedTree) → Rewoven ready new 0 row → AreKids ready 0 row → Shows ready row t → row_below new 0 ≡ t
  row_then row t r mine shown =
      let kept : Shows new row t = apart_kept ready new 0 (rewoven_changed ready new 0 row f.prepared.tree r) row t (λ k l over. not_over_parent ready f.prepared.tree (slice_index row k) 0 (mine k 0 l) over) shown in
      Shows-unique new (children_at new 0) (row_below new 0) t (Shows-row_below new after 0 after.first) (subst (λ (l : List ℕ). Shows new l t) (sym r.is) kept)

  root_joined : content_at f.joined 0 ≡ root
  root_joined = joined_row.content 0 ∙ f.prepared.keeps.content 0 tree.first ∙ tree.root_first

  hollow_is : is_hollow f.joined 0 ≡ comes_to f.joined None (p.away ++ p.rest)
  hollow_is = ap (λ w. is_hollow_as w f.joined (children_at f.joined 0)) root_joined ∙ ap (comes_to f.joined None) joined_row.is

  contents_joined : (xs : List ℕ) → contents f.joined xs ≡ contents ready xs
  contents_joined [] = refl
  contents_joined (x ∷ xs) = ap (λ w. w ∷ contents f.joined xs) (joined_row.content x) ∙ ap (λ (l : List Content). content_at ready x ∷ l) (contents_joined xs)

  -- the row that is left, and what it becomes
  module _ (left : OrderedTree) (shown : Shows ready (p.away ++ p.rest) left) where
    abbrev Now : Type 0
    Now = Empties left (row_below new 0)

    now : Now
    now =
        elim (cases_Bool (is_hollow f.joined 0)) [
          | inr other ↦
              let r : Rewoven ready new 0 (p.away ++ p.rest) = subst (λ ns. Rewoven ready ns 0 (p.away ++ p.rest)) (sym (f.closed.1 (ap not other))) joined_row in
              subst (Empties left) (sym (row_then (p.away ++ p.rest) left r kids shown)) Empties.stays
          | inl hollow ↦
              let blanks : AreBlanks (contents ready (p.away ++ p.rest)) = subst AreBlanks (contents_joined (p.away ++ p.rest)) (all_blank f.joined (p.away ++ p.rest) (sym hollow_is ∙ hollow)) in
              let from_none : hollow_from f.joined 0 ≡ 0 = ap (λ w. if is_array_or_object w then 1 else 0) root_joined in
              let whole : children_at f.joined 0 ≡ [] ++ ((p.away ++ p.rest) ++ []) = joined_row.is ∙ sym (append-nil (p.away ++ p.rest)) in
              let to_end : hollow_to f.joined 0 ≡ 0 + length (p.away ++ p.rest) = omega (arith, from_none, ap length joined_row.is) in
              let r : Rewoven ready new 0 [] = rewoven_next ready f.joined new 0 (p.away ++ p.rest) [] joined_row (stretch_out f.joined new 0 (hollow_from f.joined 0) (hollow_to f.joined 0) [] (p.away ++ p.rest) [] whole from_none to_end (f.closed.0 hollow)) in
              let nothing : row_below new 0 ≡ none = row_then [] none r (All-nil (λ m. parent_at ready m ≡ Some 0)) shows_none in
              let is : left ≡ leaves_then (contents ready (p.away ++ p.rest)) none = sym (followed_by-none left) ∙ leaves_shown ready f.prepared.tree (p.away ++ p.rest) left none (blank_leaves (contents ready (p.away ++ p.rest)) blanks) shown in
              subst (Empties left) (sym nothing) (subst (λ t. Empties t none) (sym is) (empties (contents ready (p.away ++ p.rest)) blanks))
        ]

  pub value_taken : ValueTaken (top_at old n) (ordered_tree old 0) (ordered_tree new 0)
  value_taken =
      let one = Shows-part ready p.away ((p.near ++ n ∷ p.line) ++ p.rest) (row_below ready 0) (subst (λ (l : List ℕ). Shows ready l (row_below ready 0)) row_ready (Shows-row_below ready f.prepared.tree 0 f.prepared.tree.first)) in
      let two = Shows-part ready (p.near ++ n ∷ p.line) p.rest one.1 one.4 in
      let mid = among_shown ready f.prepared.tree p.near n p.line two.0 n_there (beside_leaves (contents ready p.near) beside) two.3 in
      let row_is : row_below ready 0 ≡ followed_by one.0 (among (contents ready p.near) (top_at ready n) (contents ready p.line) two.1) =
      one.2 ∙ ap (followed_by one.0) (two.2 ∙ mid.is two.1)
      ∙ ap (λ (t : OrderedTree). followed_by one.0 (leaves_then (contents ready p.near) (more (content_at ready n) (row_below ready n) t))) (leaves_shown ready f.prepared.tree p.line mid.after two.1 (trivia_leaves (contents ready p.line) (rest_trivia (contents ready p.line) ended)) mid.shown) in
      let left : OrderedTree = followed_by one.0 two.1 in
      let ends : IsTrue (ends_apart one.0) = apart_shown ready one.3 ∙ ap apart same_away ∙ p.apart_away in
      let stays : (t : OrderedTree) → Shows ready p.rest t → EndsLine (contents ready p.line) ⊎ (comment_first (contents ready p.rest) ≡ false) → NoCommentLeft (contents ready p.line) t = λ t shows h. elim h [ inl e ↦ inl e | inr e ↦ inr (comment_shown ready shows ∙ e) ] in
      let gone : (leaves : ValueRemoved (top_at ready n) (row_below ready 0) left) × StaysNone leaves =
      subst (λ t. (leaves : ValueRemoved (top_at ready n) t left) × StaysNone leaves) (sym row_is) (value_leaves one.0 two.1 (contents ready p.near) (contents ready p.line) ends beside ended, stays two.1 two.4 none_left) in
      let named : (leaves : ValueRemoved (top_at old n) (row_below ready 0) left) × StaysNone leaves =
      subst (λ (w : Top). (leaves : ValueRemoved w (row_below ready 0) left) × StaysNone leaves) (top_stays old ready tree f.prepared.keeps f.prepared.tree n (parent_there old tree n 0 said).0) gone in
      record {
        row = row_below ready 0;
        left = left;
        new = row_below new 0;
        element = kind_of;
        was = sym (tree_stays old ready tree f.prepared.keeps f.prepared.tree) ∙ sym (document_is ready f.prepared.tree (row_below ready 0) (Shows-row_below ready f.prepared.tree 0 f.prepared.tree.first));
        now = sym (document_is new after (row_below new 0) (Shows-row_below new after 0 after.first));
        leaves = named.0;
        stays = named.1;
        empties = now left (Shows-append ready p.away p.rest one.0 two.1 one.3 two.4);
      }
