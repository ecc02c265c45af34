-- The trees of a container's row by its parts, before an element leaves and behind.
use Rattle.std.proofs.Common.{◌≡◌, ◌≢◌, ℕ, suc, ◌+◌, ◌<◌, Bool, true, false, not, ◌&&◌, ◌||◌, List, [], ◌∷◌, ◌++◌, length, drop, reverse, slice_index, Option, Some, None, IsTrue, if◌then◌else◌, inl, inr, refl, sym, ap, subst, ◌∙◌, arith}
use Rattle.std.proofs.lemmas.Bool.{cases_Bool, ne_eqb}
use Rattle.std.proofs.lemmas.List.{length-append, reverse-append}
use Rattle.std.proofs.lemmas.List.Elements.{All-nil, All-cons, All-head, All-tail}
use Rattle.std.proofs.lemmas.List.Folds.{find-append}
use Rattle.std.specs.List.{All}
use Rattle.std.specs.Option.{option_or}
use Rattle.jsonc_tree.specs.Content.{Content, token, array, object, is_container}
use Rattle.jsonc_tree.specs.OrderedTree.{OrderedTree, none, more, followed_by, Shows, shows_none, shows_more}
use Rattle.jsonc_tree.specs.Siblings.{first}
use Rattle.jsonc_tree.specs.Tree.{Node, content_at, parent_at, children_at, IsTree}
use Rattle.jsonc_tree.proofs.Order.{not_over_parent}
use Rattle.jsonc_tree.proofs.OrderedTrees.{Shows-unique}
use Rattle.jsonc_tree.proofs.Rows.{Shows-part}
use Rattle.jsonc_layout.specs.nodes.Kinds.{is_whitespace, is_newline, is_inline_trivia, is_blank_at}
use Rattle.jsonc_sound.specs.Shape.{token_then}
use Rattle.jsonc_layout.specs.lines.Kinds.{is_array_or_object}
use Rattle.jsonc_sound.specs.Rows.{RowKind, opening, closing}
use Rattle.jsonc_sound.specs.TriviaChanges.{AreTrivia, leaves_then}
use Rattle.jsonc_sound.specs.MarkChanges.{AreBlanks}
use Rattle.jsonc_sound.specs.Leaving.{AreInlineTrivia, ClosesUp, closes_up}
use Rattle.jsonc_edit.specs.Due.{nearest, prints_at, begins_bare, ends_bare}
use Rattle.jsonc_edit.specs.Changes.{row_below}
use Rattle.jsonc_edit.proofs.ChangesUpward.{Shows-row_below, apart_kept}
use Rattle.jsonc_edit.specs.remove.Leaving.{comes_to}
use Rattle.jsonc_edit.specs.remove.Removed.{comes_to_last, is_hollow_as, hollow_from, hollow_to, IsClosedUp}
use Rattle.jsonc_edit.proofs.lemmas.remove.Places.{Quiet}
use Rattle.jsonc_edit.proofs.lemmas.remove.Stretches.{contents}
use Rattle.jsonc_edit.proofs.lemmas.remove.RemovedChildren.{Rewoven, rewoven_next, rewoven_changed, stretch_out, Others}
use Rattle.jsonc_edit.proofs.LeafKinds.{trivia_leaf}

-- each of these is a leaf
abbrev pub AreLeaves : List Content → Type 0
AreLeaves [] = Unit {0}
AreLeaves (content ∷ rest) = (is_container content ≡ false) × AreLeaves rest

beside_leaf : (c : Content) → IsTrue (is_inline_trivia c) → is_container c ≡ false
beside_leaf (Content.whitespace s) h = refl
beside_leaf (Content.comment s) h = refl
beside_leaf c h = cc

blank_leaf : (c : Content) → IsTrue (is_whitespace c || is_newline c) → is_container c ≡ false
blank_leaf (Content.whitespace s) h = refl
blank_leaf (Content.newline k) h = refl
blank_leaf c h = cc

pub trivia_leaves : (cs : List Content) → AreTrivia cs → AreLeaves cs
trivia_leaves [] h = tt
trivia_leaves (c ∷ cs) h = (trivia_leaf c h.0, trivia_leaves cs h.1)

pub beside_leaves : (cs : List Content) → AreInlineTrivia cs → AreLeaves cs
beside_leaves [] h = tt
beside_leaves (c ∷ cs) h = (beside_leaf c h.0, beside_leaves cs h.1)

pub blank_leaves : (cs : List Content) → AreBlanks cs → AreLeaves cs
blank_leaves [] h = tt
blank_leaves (c ∷ cs) h = (blank_leaf c h.0, blank_leaves cs h.1)

module _ (ns : List Node) (tree : IsTree ns) where
  -- leaves in front of a row
  pub leaves_shown : (xs : List ℕ) (t back : OrderedTree) → AreLeaves (contents ns xs) → Shows ns xs t → followed_by t back ≡ leaves_then (contents ns xs) back
  leaves_shown _ _ back h shows_none = refl
  leaves_shown _ _ back h (shows_more {n = n} {rest = rest} {below = below} {after = after} p q) =
      let bare : below ≡ none = empty (subst (λ (l : List ℕ). Shows ns l below) (tree.leaf n h.0) p) in
      ap (λ b. more (content_at ns n) b (followed_by after back)) bare ∙ ap (more (content_at ns n) none) (leaves_shown rest after back h.1 q)
    where
      empty : {b : OrderedTree} → Shows ns [] b → b ≡ none
      empty shows_none = refl

  -- leaves, a node, and what is behind it
  pub record AmongShown (near : List ℕ) (n : ℕ) (behind : List ℕ) (t : OrderedTree) : Type 0 where
    pub after : OrderedTree
    pub shown : Shows ns behind after
    pub is : (back : OrderedTree) → followed_by t back ≡ leaves_then (contents ns near) (more (content_at ns n) (row_below ns n) (followed_by after back))

  pub among_shown : (near : List ℕ) (n : ℕ) (behind : List ℕ) (t : OrderedTree) → n < length ns → AreLeaves (contents ns near) → Shows ns (near ++ n ∷ behind) t → AmongShown near n behind t
  among_shown [] n behind _ there h (shows_more {below = below} {after = after} p q) = record {
    after = after;
    shown = q;
    is = λ back. ap (λ b. more (content_at ns n) b (followed_by after back)) (Shows-unique ns (children_at ns n) below (row_below ns n) p (Shows-row_below ns tree n there));
  }
  among_shown (m ∷ near) n behind _ there h (shows_more {below = below} {after = after} p q) =
      let r = among_shown near n behind after there h.1 q in
      let bare : below ≡ none = empty (subst (λ (l : List ℕ). Shows ns l below) (tree.leaf m h.0) p) in
      record {
        after = r.after;
        shown = r.shown;
        is = λ back. ap (λ b. more (content_at ns m) b (followed_by after back)) bare ∙ ap (more (content_at ns m) none) (r.is back);
      }
    where
      empty : {b : OrderedTree} → Shows ns [] b → b ≡ none
      empty shows_none = refl

  -- a leaf has nothing below it
  pub leaf_below : (n : ℕ) → n < length ns → is_container (content_at ns n) ≡ false → row_below ns n ≡ none
  leaf_below n there h = empty (subst (λ (l : List ℕ). Shows ns l (row_below ns n)) (tree.leaf n h) (Shows-row_below ns tree n there))
    where
      empty : {b : OrderedTree} → Shows ns [] b → b ≡ none
      empty shows_none = refl

-- without the bracket nothing meets where nothing did with it
pub quiet_inside : (ns : List Node) (x : ℕ) (xs ys : List ℕ) → Quiet ns (x ∷ xs) ys → Quiet ns xs ys
quiet_inside ns x xs ys q = by (nearest ns (reverse xs)) (sym (ap (λ o. ends_bare ns o && begins_bare ns (nearest ns ys)) (ap (nearest ns) (reverse-append (x ∷ []) xs) ∙ find-append (prints_at ns) (reverse xs) (x ∷ []))) ∙ q)
  where
    by : (o : Option ℕ) → (ends_bare ns (option_or o (nearest ns (x ∷ []))) && begins_bare ns (nearest ns ys)) ≡ false → (ends_bare ns o && begins_bare ns (nearest ns ys)) ≡ false
    by None h = refl
    by (Some k) h = h

-- children of c
abbrev pub AreKids : List Node → ℕ → List ℕ → Type 0
AreKids ns c xs = All (λ m. parent_at ns m ≡ Some c) xs

pub all_kids : (ns : List Node) → IsTree ns → (c : ℕ) → AreKids ns c (children_at ns c)
all_kids ns tree c = from (children_at ns c) (tree.named c)
  where
    from : (xs : List ℕ) → ((k : ℕ) → k < length xs → parent_at ns (slice_index xs k) ≡ Some c) → AreKids ns c xs
    from [] h = All-nil (λ m. parent_at ns m ≡ Some c)
    from (x ∷ xs) h = All-cons (λ m. parent_at ns m ≡ Some c) x xs (h 0 (omega arith)) (from xs (λ k l. h (suc k) (omega (arith, l))))

-- the row where it is closed up, or not
pub data Closing (old new : List Node) (c open_with : ℕ) (inner : List ℕ) (last : ℕ) : Type 0 where
  left_open : Rewoven old new c (open_with ∷ (inner ++ last ∷ [])) → Closing old new c open_with inner last
  closed : AreBlanks (contents old inner) → Rewoven old new c (open_with ∷ last ∷ []) → Closing old new c open_with inner last

comes_blanks : (ns : List Node) (inner : List ℕ) (last : ℕ) → Others last inner → IsTrue (comes_to ns (Some last) (inner ++ last ∷ [])) → AreBlanks (contents ns inner)
comes_blanks ns [] last h e = tt
comes_blanks ns (m ∷ inner) last h e =
    by (is_blank_at ns m) refl (subst (λ b. IsTrue (b || (is_blank_at ns m && comes_to ns (Some last) (inner ++ last ∷ [])))) (ne_eqb m last (All-head (λ k. k ≢ last) m inner h)) e) (comes_blanks ns inner last (All-tail (λ k. k ≢ last) m inner h))
  where
    by : (b : Bool) → is_blank_at ns m ≡ b → IsTrue (b && comes_to ns (Some last) (inner ++ last ∷ [])) → (IsTrue (comes_to ns (Some last) (inner ++ last ∷ [])) → AreBlanks (contents ns inner)) → AreBlanks (contents ns (m ∷ inner))
    by true f g rest = (f, rest g)
    by false f g rest = absurd (let wrong : false ≡ true = g in cc)

pub hollow_row : (content : Content) (ns : List Node) (row : List ℕ) → IsTrue (is_array_or_object content) → is_hollow_as content ns row ≡ comes_to_last ns (first (reverse row)) (drop 1 row)
hollow_row array ns row h = refl
hollow_row object ns row h = refl
hollow_row content ns row h = cc

module _ (old joined new : List Node) (c open_with last : ℕ) (inner : List ℕ) (holds : IsTrue (is_array_or_object (content_at old c))) (r : Rewoven old joined c (open_with ∷ (inner ++ last ∷ []))) (others : Others last inner) (closed_up : IsClosedUp joined new c) where
  holds_still : IsTrue (is_array_or_object (content_at joined c))
  holds_still = subst (λ w. IsTrue (is_array_or_object w)) (sym (r.content c)) holds

  last_first : first (reverse (open_with ∷ (inner ++ last ∷ []))) ≡ Some last
  last_first = ap (λ l. first l) (reverse-append (open_with ∷ inner) (last ∷ []))

  hollow_is : is_hollow_as (content_at joined c) joined (children_at joined c) ≡ comes_to joined (Some last) (inner ++ last ∷ [])
  hollow_is =
      hollow_row (content_at joined c) joined (children_at joined c) holds_still ∙ ap (λ l. comes_to_last joined (first (reverse l)) (drop 1 l)) r.is
      ∙ ap (λ o. comes_to_last joined o (inner ++ last ∷ [])) last_first

  contents_joined : (xs : List ℕ) → contents joined xs ≡ contents old xs
  contents_joined [] = refl
  contents_joined (x ∷ xs) = ap (λ w. w ∷ contents joined xs) (r.content x) ∙ ap (λ (l : List Content). content_at old x ∷ l) (contents_joined xs)

  from_one : hollow_from joined c ≡ 1
  from_one = ap (λ b. if b then 1 else 0) holds_still

  to_last : hollow_to joined c ≡ 1 + length inner
  to_last = omega (arith, from_one, ap length r.is, length-append inner (last ∷ []))

  pub closes_row : Closing old new c open_with inner last
  closes_row =
      elim (cases_Bool (is_hollow_as (content_at joined c) joined (children_at joined c))) [
        | inl hollow ↦
            closed (subst AreBlanks (contents_joined inner) (comes_blanks joined inner last others (sym hollow_is ∙ hollow)))
            (rewoven_next old joined new c (open_with ∷ (inner ++ last ∷ [])) (open_with ∷ last ∷ []) r (stretch_out joined new c (hollow_from joined c) (hollow_to joined c) (open_with ∷ []) inner (last ∷ []) r.is from_one to_last (closed_up.0 hollow)))
        | inr other ↦ left_open (subst (λ ns. Rewoven old ns c (open_with ∷ (inner ++ last ∷ []))) (sym (closed_up.1 (ap not other))) r)
      ]

-- the row of trees then
module _ (old new : List Node) (tree : IsTree old) (after : IsTree new) (c open_with last : ℕ) (kind : RowKind) (there : c < length old) (opens : content_at old open_with ≡ token (opening kind)) (closes : content_at old last ≡ token (closing kind)) where
  -- children that stay stand for what they stood for
  row_then : (row : List ℕ) (t : OrderedTree) → Rewoven old new c row → AreKids old c row → Shows old row t → row_below new c ≡ t
  row_then row t r kids shown =
      let kept : Shows new row t = apart_kept old new c (rewoven_changed old new c row tree r) row t (λ k l over. not_over_parent old tree (slice_index row k) c (kids k 0 l) over) shown in
      Shows-unique new (children_at new c) (row_below new c) t (Shows-row_below new after c (omega (arith, there, r.len))) (subst (λ (l : List ℕ). Shows new l t) (sym r.is) kept)

  one_token : (x k : ℕ) (xs : List ℕ) (t : OrderedTree) → content_at old x ≡ token k → Shows old xs t → Shows old (x ∷ xs) (token_then k t)
  one_token x k xs t e shown =
      subst (λ (w : Content). Shows old (x ∷ xs) (more w none t)) e (shows_more (subst (λ (l : List ℕ). Shows old l none) (sym (tree.leaf x (ap is_container e))) shows_none) shown)

  pub record NewRow (left : OrderedTree) : Type 0 where
    pub row : OrderedTree
    pub is : row_below new c ≡ token_then (opening kind) row
    pub shuts : ClosesUp left row

  pub new_row : (inner : List ℕ) (left : OrderedTree) → AreKids old c (open_with ∷ (inner ++ last ∷ [])) → Shows old (inner ++ last ∷ []) left → Closing old new c open_with inner last → NewRow left
  new_row inner left kids shown (left_open r) =
      record { row = left; is = row_then (open_with ∷ (inner ++ last ∷ [])) (token_then (opening kind) left) r kids (one_token open_with (opening kind) (inner ++ last ∷ []) left opens shown); shuts = ClosesUp.stays }
  new_row inner left kids shown (closed blanks r) =
      let end : OrderedTree = token_then (closing kind) none in
      let two : Shows old (last ∷ []) end = one_token last (closing kind) [] none closes shows_none in
      let ends : AreKids old c (open_with ∷ last ∷ []) =
      All-cons (λ m. parent_at old m ≡ Some c) open_with (last ∷ []) (All-head (λ m. parent_at old m ≡ Some c) open_with (inner ++ last ∷ []) kids)
      (kids_behind inner (All-tail (λ m. parent_at old m ≡ Some c) open_with (inner ++ last ∷ []) kids)) in
      let part = Shows-part old inner (last ∷ []) left shown in
      let same : left ≡ leaves_then (contents old inner) end =
      part.2 ∙ leaves_shown old tree inner part.0 part.1 (blank_leaves (contents old inner) blanks) part.3 ∙ ap (leaves_then (contents old inner)) (Shows-unique old (last ∷ []) part.1 end part.4 two) in
      record {
        row = end;
        is = row_then (open_with ∷ last ∷ []) (token_then (opening kind) end) r ends (one_token open_with (opening kind) (last ∷ []) end opens two);
        shuts = subst (λ t. ClosesUp t end) (sym same) (closes_up (contents old inner) blanks);
      }
    where
      kids_behind : (xs : List ℕ) → AreKids old c (xs ++ last ∷ []) → AreKids old c (last ∷ [])
      kids_behind [] h = h
      kids_behind (x ∷ xs) h = kids_behind xs (All-tail (λ m. parent_at old m ≡ Some c) x (xs ++ last ∷ []) h)
