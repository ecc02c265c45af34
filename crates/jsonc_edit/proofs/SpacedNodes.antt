-- The nodes before which spaces are due: elements of the document, behind other children.
use Rattle.std.proofs.Common.{◌≡◌, ℕ, zero, suc, ◌+◌, ◌<◌, Bool, true, false, ◌&&◌, cond, List, [], ◌∷◌, ◌++◌, length, take, drop, reverse, slice_index, Option, Some, None, inl, inr, refl, sym, ap, subst, ◌∙◌, arith, length-drop, get_or-drop}
use Rattle.std.proofs.lemmas.Bool.{cases_Bool, cases_lt}
use Rattle.std.proofs.lemmas.List.Elements.{All-nil, All-cons, All-head, All-tail, All-append}
use Rattle.std.specs.List.{find, All}
use Rattle.std.specs.Option.{option_and_then}
use Rattle.jsonc_tree.specs.Content.{Content, property}
use Rattle.jsonc_tree.specs.Order.{with_parent}
use Rattle.jsonc_tree.specs.Siblings.{row_of, siblings_after}
use Rattle.jsonc_tree.specs.Tree.{Node, content_at, parent_at, children_at, place_at, IsTree, IsOver}
use Rattle.jsonc_tree.proofs.Order.{not_over_parent}
use Rattle.jsonc_sound.specs.TreeChanges.{IsElement}
use Rattle.jsonc_sound.specs.Adjacent.{or_else}
use Rattle.jsonc_sound.specs.Spaces.{is_bare}
use Rattle.jsonc_edit.specs.Due.{prints_at, nearest, beginning_in, is_bare_at, begins_bare, ends_bare, seen_before, seen_behind, behind_holder, behind_property, space_needed_before, space_needed_after, space_needed_between, spaces_needed_around, listed, prints_within}

-- a node before which a space may come, and that is no part of n: nor is its container
pub record Placed (ns : List Node) (n x : ℕ) : Type 0 where
  pub container : ℕ
  pub parent : parent_at ns x ≡ Some container
  pub over : IsOver ns 0 x
  pub element : IsElement (content_at ns x)
  pub place : 0 < place_at ns x
  pub apart : IsOver ns n container → ⊥

found_at : (test : ℕ → Bool) (xs : List ℕ) (x : ℕ) → find test xs ≡ Some x → (k : ℕ) × (k < length xs) × (slice_index xs k ≡ x)
found_at test [] x e = absurd (let wrong : None ≡ Some x = e in cc)
found_at test (y ∷ ys) x e =
    elim (cases_Bool (test y)) [
      | inl passes ↦ (let same : Some y ≡ Some x = sym (ap (λ b. cond b (Some y) (find test ys)) passes) ∙ e in (0, omega arith, cc))
      | inr fails ↦
          let rest = found_at test ys x (sym (ap (λ b. cond b (Some y) (find test ys)) fails) ∙ e) in
          (suc rest.0, omega (arith, rest.1), rest.2)
    ]

bare_element : (content : Content) → is_bare content ≡ true → IsElement content
bare_element (Content.number s) e = refl
bare_element (Content.word s) e = refl
bare_element (Content.boolean b) e = refl
bare_element Content.null e = refl
bare_element content e = cc

begins_element : (ns : List Node) (x : ℕ) (l : List ℕ) (content : Content) → content_at ns x ≡ content → is_bare_at ns (beginning_in l x content) ≡ true → IsElement content
begins_element ns x l property same e = refl
begins_element ns x l content same e = bare_element content (subst (λ w. is_bare w ≡ true) same e)

module _ (ns : List Node) (tree : IsTree ns) (n c : ℕ) (said : parent_at ns n ≡ Some c) where
  row_is : row_of ns n ≡ children_at ns c
  row_is = ap (λ o. with_parent o (children_at ns)) said

  -- what is found behind a node stands in its row, behind a child
  pub found_behind : (x : ℕ) → nearest ns (siblings_after ns n) ≡ Some x → (parent_at ns x ≡ Some c) × (0 < place_at ns x)
  found_behind x e =
      let row : List ℕ = children_at ns c in
      let from : ℕ = place_at ns n + 1 in
      let is = found_at (prints_at ns) (drop from row) x (sym (ap (λ l. nearest ns (drop from l)) row_is) ∙ e) in
      let low : from + is.0 < length row = omega (arith, is.1, length-drop from row) in
      let same : slice_index row (from + is.0) ≡ x = sym (get_or-drop from row is.0 0) ∙ is.2 in
      let place : place_at ns x ≡ from + is.0 = ap (place_at ns) (sym same) ∙ tree.placed c (from + is.0) low in
      (ap (parent_at ns) (sym same) ∙ tree.named c (from + is.0) low, omega (arith, place))

  -- where something is seen before it, it is not the first
  pub not_first : (y : ℕ) → seen_before ns n ≡ Some y → 0 < place_at ns n
  not_first y e =
      elim (cases_lt 0 (place_at ns n)) [
        | inl later ↦ later
        | inr m ↦ absurd (let first : place_at ns n ≡ 0 = omega (arith, m) in let wrong : None ≡ Some y = sym (ap (λ k. nearest ns (reverse (take k (row_of ns n)))) first) ∙ e in cc)
      ]

  module _ (over : IsOver ns 0 n) where
    parent_over : (k p : ℕ) → parent_at ns k ≡ Some p → IsOver ns 0 k → IsOver ns 0 p
    parent_over _ p told IsOver.itself = absurd (let wrong : None ≡ Some p = sym tree.root_alone ∙ told in cc)
    parent_over k p told (IsOver.above {c = q} other rest) = let same : q ≡ p = (let e : Some q ≡ Some p = sym other ∙ told in cc) in subst (IsOver ns 0) same rest

    c_over : IsOver ns 0 c
    c_over = parent_over n c said over

    in_own_row : (x : ℕ) → nearest ns (siblings_after ns n) ≡ Some x → begins_bare ns (Some x) ≡ true → Placed ns n x
    in_own_row x e bare =
        let found = found_behind x e in
        record {
          container = c;
          parent = found.0;
          over = IsOver.above found.0 c_over;
          element = begins_element ns x (children_at ns x) (content_at ns x) refl bare;
          place = found.1;
          apart = not_over_parent ns tree n c said;
        }

pub none_behind : (ns : List Node) (k x : ℕ) → parent_at ns k ≡ None → nearest ns (siblings_after ns k) ≡ Some x → ⊥
none_behind ns k x alone e = let wrong : None ≡ Some x = sym (ap (λ o. nearest ns (drop (place_at ns k + 1) (with_parent o (children_at ns)))) alone ∙ nothing_left (place_at ns k + 1)) ∙ e in cc
  where
    nothing_left : (j : ℕ) → nearest ns (drop j []) ≡ None
    nothing_left zero = refl
    nothing_left (suc j) = refl

pub held_only : (ns : List Node) (content : Content) (p x : ℕ) → behind_property ns content p ≡ Some x → nearest ns (siblings_after ns p) ≡ Some x
held_only ns property p x e = e
held_only ns content p x e = absurd (let wrong : None ≡ Some x = e in cc)

module _ (ns : List Node) (tree : IsTree ns) (n c : ℕ) (said : parent_at ns n ≡ Some c) (over : IsOver ns 0 n) where
  behind_its_holder : (x : ℕ) → nearest ns (siblings_after ns c) ≡ Some x → begins_bare ns (Some x) ≡ true → (o : Option ℕ) → parent_at ns c ≡ o → Placed ns n x
  behind_its_holder x e bare None told = absurd (none_behind ns c x told e)
  behind_its_holder x e bare (Some p) told =
      let up = c_over ns tree n c said over in
      let far : Placed ns c x = in_own_row ns tree c p told up x e bare in
      let found = found_behind ns tree c p told x e in
      record {
        container = p;
        parent = found.0;
        over = far.over;
        element = far.element;
        place = far.place;
        apart = λ above. not_over_parent ns tree n c said (IsOver.above told above);
      }

  behind_either : (x : ℕ) (o : Option ℕ) → nearest ns (siblings_after ns n) ≡ o → or_else o (behind_holder ns n) ≡ Some x → begins_bare ns (Some x) ≡ true → Placed ns n x
  behind_either x (Some y) seen e bare = in_own_row ns tree n c said over x (seen ∙ e) bare
  behind_either x None seen e bare =
      let held : behind_property ns (content_at ns c) c ≡ Some x = sym (ap (option_and_then (λ p. behind_property ns (content_at ns p) p)) said) ∙ e in
      behind_its_holder x (held_only ns (content_at ns c) c x held) bare (parent_at ns c) refl

  pub behind_placed : (x : ℕ) → seen_behind ns n ≡ Some x → begins_bare ns (Some x) ≡ true → Placed ns n x
  behind_placed x e bare = behind_either x (nearest ns (siblings_after ns n)) refl e bare

  -- each of those that are due
  one_placed : (b : Bool) (o : Option ℕ) → ((x : ℕ) → b ≡ true → o ≡ Some x → Placed ns n x) → All (Placed ns n) (listed (cond b o None))
  one_placed false o f = All-nil (Placed ns n)
  one_placed true None f = All-nil (Placed ns n)
  one_placed true (Some x) f = All-cons (Placed ns n) x [] (f x refl refl) (All-nil (Placed ns n))

  behind_all : All (Placed ns n) (listed (space_needed_after ns n))
  behind_all = one_placed (begins_bare ns (seen_behind ns n)) (seen_behind ns n) (λ x b e. behind_placed x e (ap (begins_bare ns) (sym e) ∙ b))

  seen_some : (o : Option ℕ) → seen_before ns n ≡ o → ends_bare ns o ≡ true → 0 < place_at ns n
  seen_some None e b = absurd (let wrong : false ≡ true = b in cc)
  seen_some (Some y) e b = not_first ns tree n c said y e

  before_all : IsElement (content_at ns n) → All (Placed ns n) (listed (space_needed_before ns n))
  before_all element =
      one_placed (ends_bare ns (seen_before ns n)) (Some n) (λ x b e.
      let same : n ≡ x = cc in
      subst (Placed ns n) same (record { container = c; parent = said; over = over; element = element; place = seen_some (seen_before ns n) refl b; apart = not_over_parent ns tree n c said }))

  both_all : (xs ys : List ℕ) → All (Placed ns n) xs → All (Placed ns n) ys → All (Placed ns n) (xs ++ ys)
  both_all [] ys f g = g
  both_all (x ∷ xs) ys f g = All-cons (Placed ns n) x (xs ++ ys) (All-head (Placed ns n) x xs f) (both_all xs ys (All-tail (Placed ns n) x xs f) g)

  pub around_placed : (content : Content) → IsElement (content_at ns n) → All (Placed ns n) (spaces_needed_around ns n content)
  around_placed content element = by (is_bare content)
    where
      by : (b : Bool) → All (Placed ns n) (cond b (listed (space_needed_before ns n) ++ listed (space_needed_after ns n)) [])
      by true = both_all (listed (space_needed_before ns n)) (listed (space_needed_after ns n)) (before_all element) behind_all
      by false = All-nil (Placed ns n)

  pub between_placed : (from : ℕ) → All (Placed ns n) (listed (space_needed_between ns from n))
  between_placed from =
      one_placed (prints_within ns from n && (ends_bare ns (seen_before ns from) && begins_bare ns (seen_behind ns n))) (seen_behind ns n) (λ x b e.
      behind_placed x e (ap (begins_bare ns) (sym e)
      ∙ both (ends_bare ns (seen_before ns from)) (begins_bare ns (seen_behind ns n)) (both (prints_within ns from n) (ends_bare ns (seen_before ns from) && begins_bare ns (seen_behind ns n)) b)))
    where
      both : (a b : Bool) → a && b ≡ true → b ≡ true
      both true b h = h
      both false b h = cc

-- each of those that are due is somebody's child, in any tree
abbrev pub IsChild : List Node → ℕ → Type 0
IsChild ns x = (c : ℕ) × (parent_at ns x ≡ Some c)

module _ (ns : List Node) (tree : IsTree ns) (n c : ℕ) (said : parent_at ns n ≡ Some c) where
  holder_child : (x : ℕ) → nearest ns (siblings_after ns c) ≡ Some x → (o : Option ℕ) → parent_at ns c ≡ o → IsChild ns x
  holder_child x e None told = absurd (none_behind ns c x told e)
  holder_child x e (Some p) told = (p, (found_behind ns tree c p told x e).0)

  child_either : (x : ℕ) (o : Option ℕ) → nearest ns (siblings_after ns n) ≡ o → or_else o (behind_holder ns n) ≡ Some x → IsChild ns x
  child_either x (Some y) seen e = (c, (found_behind ns tree n c said x (seen ∙ e)).0)
  child_either x None seen e =
      let held : behind_property ns (content_at ns c) c ≡ Some x = sym (ap (option_and_then (λ p. behind_property ns (content_at ns p) p)) said) ∙ e in
      holder_child x (held_only ns (content_at ns c) c x held) (parent_at ns c) refl

  behind_child : (x : ℕ) → seen_behind ns n ≡ Some x → IsChild ns x
  behind_child x e = child_either x (nearest ns (siblings_after ns n)) refl e

  one_child : (b : Bool) (o : Option ℕ) → ((x : ℕ) → o ≡ Some x → IsChild ns x) → All (IsChild ns) (listed (cond b o None))
  one_child false o f = All-nil (IsChild ns)
  one_child true None f = All-nil (IsChild ns)
  one_child true (Some x) f = All-cons (IsChild ns) x [] (f x refl) (All-nil (IsChild ns))

  both_children : (xs ys : List ℕ) → All (IsChild ns) xs → All (IsChild ns) ys → All (IsChild ns) (xs ++ ys)
  both_children xs ys f g = All-append (IsChild ns) xs ys f g

  pub around_children : (content : Content) → All (IsChild ns) (spaces_needed_around ns n content)
  around_children content = by (is_bare content)
    where
      by : (b : Bool) → All (IsChild ns) (cond b (listed (space_needed_before ns n) ++ listed (space_needed_after ns n)) [])
      by true =
          both_children (listed (space_needed_before ns n)) (listed (space_needed_after ns n)) (one_child (ends_bare ns (seen_before ns n)) (Some n) (λ x e. let same : n ≡ x = cc in subst (IsChild ns) same (c, said)))
          (one_child (begins_bare ns (seen_behind ns n)) (seen_behind ns n) behind_child)
      by false = All-nil (IsChild ns)

  pub between_children : (from : ℕ) → All (IsChild ns) (listed (space_needed_between ns from n))
  between_children from = one_child (prints_within ns from n && (ends_bare ns (seen_before ns from) && begins_bare ns (seen_behind ns n))) (seen_behind ns n) behind_child
