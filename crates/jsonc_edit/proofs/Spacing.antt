-- What a document is once spaces have come before nodes of it.
use Rattle.std.proofs.Common.{◌≡◌, ◌≢◌, ℕ, ◌+◌, ◌<◌, List, [], ◌∷◌, length, take, drop, slice_index, slice_get, Option, Some, None, inl, inr, refl, sym, ap, subst, ◌∙◌, arith}
use Rattle.std.proofs.lemmas.Bool.{cases_eq, cases_lt}
use Rattle.std.proofs.lemmas.List.{take-append-drop}
use Rattle.std.proofs.lemmas.List.Elements.{All-nil, All-cons, All-head, All-tail, All-from_get_or}
use Rattle.std.specs.List.{All}
use Rattle.jsonc_text.specs.Options.{Options}
use Rattle.jsonc_text.specs.Plain.{Plain}
use Rattle.jsonc_tree.specs.Content.{Content, property, whitespace}
use Rattle.jsonc_tree.specs.OrderedTree.{OrderedTree, Shows, ordered_tree}
use Rattle.jsonc_tree.specs.Tree.{Node, content_at, parent_at, children_at, place_at, IsTree, IsOver}
use Rattle.jsonc_tree.specs.Values.{DocumentValueOf}
use Rattle.jsonc_tree.proofs.OrderedTrees.{Shows-unique}
use Rattle.jsonc_tree.proofs.Over.{either_over}
use Rattle.jsonc_layout.specs.nodes.Kinds.{is_trivia}
use Rattle.jsonc_layout.specs.nodes.Properties.{value_at}
use Rattle.jsonc_layout.specs.nodes.Siblings.{elements_at}
use Rattle.jsonc_layout.proofs.lemmas.nodes.PropertyValues.{IsAlike, held_alike, held_beside, held_in, same_kind, value_is_held}
use Rattle.jsonc_sound.specs.TreeChanges.{IsElement}
use Rattle.jsonc_sound.proofs.TriviaValues.{document_kept}
use Rattle.jsonc_sound.specs.InRows.{SpacePut}
use Rattle.jsonc_sound.specs.Marks.{marks}
use Rattle.jsonc_sound.specs.SoundTrees.{SoundTree}
use Rattle.jsonc_sound.proofs.ReplacedStretches.{space_keeps_marks}
use Rattle.jsonc_sound.proofs.SpacePut.{document_put, kept_with_space}
use Rattle.jsonc_edit.specs.Put.{StandsBefore, AreSpaced}
use Rattle.jsonc_edit.proofs.InsertedSpaces.{contents_kept, parent_kept, children_kept, container_row, row_kept, elements_kept, over_kept, over_before, no_parent_space, placed_ahead, placed_behind, placed_elsewhere, puts_space}
use Rattle.jsonc_edit.specs.Changes.{row_below, top_at}
use Rattle.jsonc_edit.specs.Paths.{IsElementOf, StepsTo, LeadsTo, itself, step, IsAt}
use Rattle.jsonc_edit.specs.Spaced.{SpacesPut, none_put, one_put}
use Rattle.jsonc_edit.proofs.CommentOrder.{comment_nodes, space_keeps_comments}
use Rattle.jsonc_edit.proofs.Elements.{Some_same}
use Rattle.jsonc_edit.proofs.SpacedNodes.{Placed}
use Rattle.jsonc_edit.proofs.ChangesUpward.{Shows-row_below}
use Rattle.jsonc_edit.proofs.LeafKinds.{no_space}

-- one space
module _ (old new : List Node) (x leaf : ℕ) (tree : IsTree old) (r : StandsBefore old new x leaf) where
  pub child_apart : (k p : ℕ) → parent_at old k ≡ Some p → k ≢ leaf
  child_apart k p said e = let wrong : None ≡ Some p = sym r.was.alone ∙ ap (parent_at old) (sym e) ∙ said in cc

  pub element_apart : (k : ℕ) → IsElement (content_at old k) → k ≢ leaf
  element_apart k element e = no_space (content_at old k) element (ap (content_at old) e ∙ r.was.is)

  pub parent_stays : (k p : ℕ) → parent_at old k ≡ Some p → parent_at new k ≡ Some p
  parent_stays k p said = parent_kept old new x leaf tree r k (child_apart k p said) ∙ said

  -- a node over which the container isn't stays what it is, and so does the row below it
  pub top_stays : (k : ℕ) → k < length old → (IsOver old k r.container → ⊥) → top_at new k ≡ top_at old k
  top_stays k there apart =
      let row : Shows new (children_at new k) (row_below old k) = row_kept old new x leaf tree r k (row_below old k) apart (Shows-row_below old tree k there) in
      let same : row_below new k ≡ row_below old k = Shows-unique new (children_at new k) (row_below new k) (row_below old k) (Shows-row_below new r.tree k (omega (arith, there, r.put.len))) row in
      ap (λ (w : Content). record { content = w; below = row_below new k }) (contents_kept old new x leaf tree r k) ∙ ap (λ (t : OrderedTree). record { content = content_at old k; below = t }) same

  -- paths lead where they led
  element_stays : (p i q : ℕ) → IsElementOf old p i q → IsElementOf new p i q
  element_stays p i q e = ap (λ l. slice_get l i) (elements_kept old new x leaf tree r p) ∙ e

  -- so does the value of a property, whose row has at most a space more
  row_stays : (h : ℕ) → held_in old (children_at new h) ≡ held_in old (children_at old h)
  row_stays h =
      elim (cases_eq h r.container) [
        | inr ne ↦ ap (held_in old) (children_kept old new x leaf tree r h ne)
        | inl e ↦
            let row : List ℕ = children_at old r.container in
            let place : ℕ = place_at old x in
            ap (λ k. held_in old (children_at new k)) e ∙ ap (held_in old) (container_row old new x leaf tree r)
            ∙ held_beside old (take place row) (drop place row) leaf (ap is_trivia r.was.is)
            ∙ ap (held_in old) (take-append-drop place row) ∙ ap (λ k. held_in old (children_at old k)) (sym e)
      ]

  held_stays : (h q : ℕ) → content_at old h ≡ property → value_at old h ≡ Some q → value_at new h ≡ Some q
  held_stays h q is e =
      let same = contents_kept old new x leaf tree r in
      value_is_held new h (same h ∙ is)
      ∙ held_alike old new (children_at new h) (All-from_get_or (IsAlike old new) (children_at new h) 0 (λ k l. let m = slice_index (children_at new h) k in same_kind (content_at new m) (content_at old m) (same m)))
      ∙ row_stays h ∙ sym (value_is_held old h is) ∙ e

  leads_stay : (n v : ℕ) (path : List ℕ) → LeadsTo old n v path → LeadsTo new n v path
  leads_stay n _ _ itself = itself
  leads_stay n v _ (step {i = i} {q = q} {path = path} (StepsTo.in_array a e) rest) =
      step (StepsTo.in_array (contents_kept old new x leaf tree r v ∙ a) (element_stays v i q e)) (leads_stay n q path rest)
  leads_stay n v _ (step {i = i} {q = q} {path = path} (StepsTo.in_object {r = h} o e held) rest) =
      step (StepsTo.in_object (contents_kept old new x leaf tree r v ∙ o) (element_stays v i h e) (contents_kept old new x leaf tree r h ∙ held.0, element_stays h 1 q held.1, held_stays h q held.0 held.2)) (leads_stay n q path rest)

  pub at_stays : (path : List ℕ) (n : ℕ) → IsAt old path n → IsAt new path n
  at_stays path n (v, e, leads) = (v, element_stays 0 0 v e, leads_stay n v path leads)

  -- another node stays placed
  not_first_still : (y p : ℕ) → parent_at old y ≡ Some p → 0 < place_at old y → 0 < place_at new y
  not_first_still y p said later =
      elim (cases_eq p r.container) [
        | inr ne ↦ (let same : place_at new y ≡ place_at old y = placed_elsewhere old new x leaf tree r y p said ne in omega (arith, same, later))
        | inl is ↦
            let row : List ℕ = children_at old r.container in
            let k : ℕ = place_at old y in
            let here : parent_at old y ≡ Some r.container = said ∙ ap Some is in
            let inn : k < length row = tree.within y r.container here in
            let found : slice_index row k ≡ y = tree.found y r.container here in
            elim (cases_lt k (place_at old x)) [
              | inl low ↦ (let same : place_at new y ≡ k = ap (place_at new) (sym found) ∙ placed_ahead old new x leaf tree r k low in omega (arith, same, later))
              | inr high ↦ (let same : place_at new y ≡ k + 1 = ap (place_at new) (sym found) ∙ placed_behind old new x leaf tree r k (omega (arith, high)) inn in omega (arith, same))
            ]
      ]

  pub stays_placed : (n y : ℕ) → Placed old n y → Placed new n y
  stays_placed n y p =
      record {
        container = p.container;
        parent = parent_stays y p.container p.parent;
        over = over_kept old new x leaf tree r 0 y (child_apart y p.container p.parent) p.over;
        element = subst IsElement (sym (contents_kept old new x leaf tree r y)) p.element;
        place = not_first_still y p.container p.parent p.place;
        apart = λ above. p.apart (over_before old new x leaf tree r n p.container (no_parent_space old new x leaf tree r y p.container p.parent) above);
      }

  pub all_stay_placed : (n : ℕ) (ys : List ℕ) → All (Placed old n) ys → All (Placed new n) ys
  all_stay_placed n [] f = All-nil (Placed new n)
  all_stay_placed n (y ∷ ys) f = All-cons (Placed new n) y ys (stays_placed n y (All-head (Placed old n) y ys f)) (all_stay_placed n ys (All-tail (Placed old n) y ys f))

  pub put_placed : (n : ℕ) → Placed old n x → SpacePut (ordered_tree old 0) (ordered_tree new 0)
  put_placed n p = puts_space old new x leaf tree r p.element p.place p.over

-- what has a parent below the root has one below it, or the root
pub parent_over : (ns : List Node) → IsTree ns → (k p : ℕ) → parent_at ns k ≡ Some p → IsOver ns 0 k → IsOver ns 0 p
parent_over ns tree _ p told IsOver.itself = absurd (let wrong : None ≡ Some p = sym tree.root_alone ∙ told in cc)
parent_over ns tree k p told (IsOver.above {c = q} other rest) = let same : q ≡ p = Some_same q p (sym other ∙ told) in subst (IsOver ns 0) same rest

-- a node that is detached and no space
pub record Free (ns : List Node) (m : ℕ) : Type 0 where
  pub in_tree : m < length ns
  pub alone : parent_at ns m ≡ None
  pub later : 0 < m
  pub element : IsElement (content_at ns m)

-- it is over no node of the document
pub free_not_over : (ns : List Node) → IsTree ns → (m k : ℕ) → Free ns m → IsOver ns 0 k → IsOver ns m k → ⊥
free_not_over ns tree m k free under over = elim (either_over ns m 0 k over under) [ inl up ↦ over_root up refl | inr down ↦ under_root down refl ]
  where
    over_root : {j : ℕ} → IsOver ns m j → (j ≡ 0) → ⊥
    over_root IsOver.itself e = omega (arith, e, free.later)
    over_root (IsOver.above {c = c} said rest) e = let wrong : None ≡ Some c = sym tree.root_alone ∙ ap (parent_at ns) (sym e) ∙ said in cc

    under_root : {j : ℕ} → IsOver ns 0 j → (j ≡ m) → ⊥
    under_root IsOver.itself e = omega (arith, e, free.later)
    under_root (IsOver.above {c = c} said rest) e = let wrong : None ≡ Some c = sym free.alone ∙ ap (parent_at ns) (sym e) ∙ said in cc

module _ (old new : List Node) (x leaf : ℕ) (tree : IsTree old) (r : StandsBefore old new x leaf) (n : ℕ) (p : Placed old n x) where
  same_container : r.container ≡ p.container
  same_container = Some_same r.container p.container (sym r.parent ∙ p.parent)

  pub n_stays : n < length old → top_at new n ≡ top_at old n
  n_stays there = top_stays old new x leaf tree r n there (λ over. p.apart (subst (IsOver old n) same_container over))

  pub free_stays : (m : ℕ) → Free old m → Free new m × (top_at new m ≡ top_at old m)
  free_stays m f = (
    record {
      in_tree = omega (arith, f.in_tree, r.put.len);
      alone = parent_kept old new x leaf tree r m (element_apart old new x leaf tree r m f.element) ∙ f.alone;
      later = f.later;
      element = subst IsElement (sym (contents_kept old new x leaf tree r m)) f.element;
    },
    top_stays old new x leaf tree r m f.in_tree (λ over. free_not_over old tree m r.container f (parent_over old tree x r.container r.parent p.over) over),
  )

-- all spaces, one after another
pub record Spaced (old new : List Node) (n : ℕ) : Type 0 where
  pub tree : IsTree new
  pub len : length new ≡ length old
  pub put : SpacesPut (ordered_tree old 0) (ordered_tree new 0)
  pub at : (path : List ℕ) (k : ℕ) → IsAt old path k → IsAt new path k
  pub content : (k : ℕ) → content_at new k ≡ content_at old k
  pub parent : (k p : ℕ) → parent_at old k ≡ Some p → parent_at new k ≡ Some p
  pub over : (k : ℕ) → (c : ℕ) → parent_at old k ≡ Some c → IsOver old 0 k → IsOver new 0 k
  pub top : n < length old → top_at new n ≡ top_at old n
  pub free : (m : ℕ) → Free old m → Free new m × (top_at new m ≡ top_at old m)
  pub comments : comment_nodes new ≡ comment_nodes old

none_spaced : (old : List Node) (n : ℕ) → IsTree old → Spaced old old n
none_spaced old n tree = record {
  tree = tree;
  len = refl;
  put = none_put;
  at = λ path k h. h;
  content = λ k. refl;
  parent = λ k p h. h;
  over = λ k c said h. h;
  top = λ h. refl;
  free = λ m f. (f, refl);
  comments = refl;
}

pub all_spaced : (n : ℕ) (xs : List ℕ) (old new : List Node) → IsTree old → All (Placed old n) xs → AreSpaced old xs new → Spaced old new n
all_spaced n [] old new tree f e = subst (λ ns. Spaced old ns n) (sym e) (none_spaced old n tree)
all_spaced n (x ∷ xs) old new tree f (now, leaf, r, rest) =
    let here = All-head (Placed old n) x xs f in
    let s = all_spaced n xs now new r.tree (all_stay_placed old now x leaf tree r n xs (All-tail (Placed old n) x xs f)) rest in
    record {
      tree = s.tree;
      len = s.len ∙ r.put.len;
      put = one_put (put_placed old now x leaf tree r n here) s.put;
      at = λ path k h. s.at path k (at_stays old now x leaf tree r path k h);
      content = λ k. s.content k ∙ contents_kept old now x leaf tree r k;
      parent = λ k p h. s.parent k p (parent_stays old now x leaf tree r k p h);
      over = λ k c said h. s.over k c (parent_stays old now x leaf tree r k c said) (over_kept old now x leaf tree r 0 k (child_apart old now x leaf tree r k c said) h);
      top = λ there. s.top (omega (arith, there, r.put.len)) ∙ n_stays old now x leaf tree r n here there;
      free = λ m g. let first = free_stays old now x leaf tree r n here m g in let then = s.free m first.0 in (then.0, then.1 ∙ first.1);
      comments = s.comments ∙ space_keeps_comments old now x leaf tree r here.over;
    }

-- a document with spaces is sound, and has its value
pub spaces_sound : (o : Options) {t u : OrderedTree} → SpacesPut t u → SoundTree o t → SoundTree o u
spaces_sound o none_put s = s
spaces_sound o (one_put {t = t} {s = v} k rest) s = spaces_sound o rest (kept_with_space o t s v k)

pub spaces_value : (o : Options) (w : Option Plain) {t u : OrderedTree} → SpacesPut t u → DocumentValueOf o t w → DocumentValueOf o u w
spaces_value o w none_put h = h
spaces_value o w (one_put k rest) h = spaces_value o w rest (document_kept o [] (whitespace (0x20 ∷ []) ∷ []) tt (refl, tt) w (document_put k) h)

-- a node that is over no container of these
abbrev pub Aside : List Node → ℕ → ℕ → Type 0
Aside ns k x = (c : ℕ) × (parent_at ns x ≡ Some c) × (IsOver ns k c → ⊥)

module _ (old new : List Node) (x leaf : ℕ) (tree : IsTree old) (r : StandsBefore old new x leaf) where
  stays_aside : (k y : ℕ) → Aside old k y → Aside new k y
  stays_aside k y (c, said, apart) =
      (c, parent_stays old new x leaf tree r y c said, λ above. apart (over_before old new x leaf tree r k c (no_parent_space old new x leaf tree r y c said) above))

  all_stay_aside : (k : ℕ) (ys : List ℕ) → All (Aside old k) ys → All (Aside new k) ys
  all_stay_aside k [] f = All-nil (Aside new k)
  all_stay_aside k (y ∷ ys) f = All-cons (Aside new k) y ys (stays_aside k y (All-head (Aside old k) y ys f)) (all_stay_aside k ys (All-tail (Aside old k) y ys f))

  aside_top : (k : ℕ) → k < length old → Aside old k x → top_at new k ≡ top_at old k
  aside_top k there (c, said, apart) = top_stays old new x leaf tree r k there (λ over. apart (subst (IsOver old k) (Some_same r.container c (sym r.parent ∙ said)) over))

-- what is so in any tree: of a child, and of an element that is detached
pub record AnySpaced (old new : List Node) (m : ℕ) : Type 0 where
  pub tree : IsTree new
  pub len : length new ≡ length old
  pub content : (k : ℕ) → content_at new k ≡ content_at old k
  pub parent : (k p : ℕ) → parent_at old k ≡ Some p → parent_at new k ≡ Some p
  pub alone : IsElement (content_at old m) → parent_at old m ≡ None → parent_at new m ≡ None
  pub over : (k p c : ℕ) → parent_at old p ≡ Some c → IsOver new k c → IsOver old k c
  pub top : m < length old → top_at new m ≡ top_at old m

none_any : (old : List Node) (m : ℕ) → IsTree old → AnySpaced old old m
none_any old m tree = record {
  tree = tree;
  len = refl;
  content = λ k. refl;
  parent = λ k p h. h;
  alone = λ element h. h;
  over = λ k p c said h. h;
  top = λ h. refl;
}

pub any_spaced : (m : ℕ) (xs : List ℕ) (old new : List Node) → IsTree old → All (Aside old m) xs → AreSpaced old xs new → AnySpaced old new m
any_spaced m [] old new tree f e = subst (λ ns. AnySpaced old ns m) (sym e) (none_any old m tree)
any_spaced m (x ∷ xs) old new tree f (now, leaf, r, rest) =
    let here = All-head (Aside old m) x xs f in
    let s = any_spaced m xs now new r.tree (all_stay_aside old now x leaf tree r m xs (All-tail (Aside old m) x xs f)) rest in
    record {
      tree = s.tree;
      len = s.len ∙ r.put.len;
      content = λ k. s.content k ∙ contents_kept old now x leaf tree r k;
      parent = λ k p h. s.parent k p (parent_stays old now x leaf tree r k p h);
      alone = λ element h.
          s.alone (subst IsElement (sym (contents_kept old now x leaf tree r m)) element) (parent_kept old now x leaf tree r m (element_apart old now x leaf tree r m element) ∙ h);
      over = λ k p c said above.
          over_before old now x leaf tree r k c (no_parent_space old now x leaf tree r p c said) (s.over k p c (parent_stays old now x leaf tree r p c said) above);
      top = λ there. s.top (omega (arith, there, r.put.len)) ∙ aside_top old now x leaf tree r m there here;
    }

-- spaces are no marks
pub spaces_marks : {t u : OrderedTree} → SpacesPut t u → marks u ≡ marks t
spaces_marks none_put = refl
spaces_marks (one_put {t = t} {s = s} put rest) = spaces_marks rest ∙ space_keeps_marks t s put

-- elements stay where spaces come
pub elements_spaced : (xs : List ℕ) (old new : List Node) → IsTree old → AreSpaced old xs new → (c : ℕ) → elements_at new c ≡ elements_at old c
elements_spaced [] old new tree e c = ap (λ ns. elements_at ns c) e
elements_spaced (x ∷ xs) old new tree (now, leaf, s, rest) c = elements_spaced xs now new s.tree rest c ∙ elements_kept old now x leaf tree s c
