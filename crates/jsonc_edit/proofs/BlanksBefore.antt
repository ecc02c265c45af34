-- The blanks before a child of a container, one sibling after the other.
use Rattle.std.proofs.Common.{◌≡◌, ℕ, zero, suc, ◌+◌, ◌<◌, ◌≤◌, Bool, true, false, cond, List, [], ◌∷◌, length, get_or, drop, take, reverse, slice_index, Some, None, inl, inr, refl, sym, ap, subst, ◌∙◌, arith}
use Rattle.std.proofs.lemmas.Bool.{cases_Bool, cases_lt}
use Rattle.std.proofs.lemmas.List.{reverse-append, take_more}
use Rattle.jsonc_tree.specs.Order.{with_parent}
use Rattle.jsonc_tree.specs.Siblings.{first, siblings_before}
use Rattle.jsonc_tree.specs.Tree.{Node, content_at, children_at, parent_at, place_at, IsTree}
use Rattle.jsonc_tree.proofs.Order.{parent_there}
use Rattle.jsonc_layout.specs.nodes.Kinds.{is_newline_at, is_whitespace_at}
use Rattle.jsonc_sound.specs.Lines.{is_line_comment}
use Rattle.jsonc_edit.specs.Comments.{blanks_from, newline_from, removed_from}
use Rattle.jsonc_edit.proofs.RowEnds.{before_is, before_some, previous_at}
use Rattle.jsonc_edit.proofs.SpacePlaces.{first_back}

-- where the newline before a place is
pub newline_here : (ns : List Node) (xs : List ℕ) (p k : ℕ) (b : Bool) → p ≡ suc k → is_newline_at ns (slice_index xs k) ≡ b → newline_from ns xs p ≡ cond b k (suc k)
newline_here ns xs p k b e h = ap (newline_from ns xs) e ∙ ap (λ w. cond w k (suc k)) h

blank_here : (ns : List Node) (xs : List ℕ) (p k : ℕ) (b : Bool) → p ≡ suc k → is_whitespace_at ns (slice_index xs k) ≡ b → blanks_from ns xs p ≡ cond b (blanks_from ns xs k) (suc k)
blank_here ns xs p k b e h = ap (blanks_from ns xs) e ∙ ap (λ w. cond w (blanks_from ns xs k) (suc k)) h

back_more : (xs : List ℕ) (k : ℕ) → k < length xs → reverse (take (suc k) xs) ≡ get_or xs k 0 ∷ reverse (take k xs)
back_more xs k h =
    let one : suc k ≡ k + 1 = omega arith in
    ap (λ m. reverse (take m xs)) one ∙ ap (λ (l : List ℕ). reverse l) (take_more xs k 0 h) ∙ reverse-append (take k xs) (get_or xs k 0 ∷ [])

-- from the back no more are left, or one and those before it
none_left : (xs : List ℕ) (k : ℕ) → k ≤ length xs → reverse (take k xs) ≡ [] → k ≡ 0
none_left xs zero h e = refl
none_left xs (suc k) h e = let wrong : get_or xs k 0 ∷ reverse (take k xs) ≡ [] = sym (back_more xs k (omega (arith, h))) ∙ e in cc

those_left : (xs : List ℕ) (k j m : ℕ) (rest : List ℕ) → k ≡ suc j → k ≤ length xs → reverse (take k xs) ≡ m ∷ rest → rest ≡ reverse (take j xs)
those_left xs k j m rest one h e =
    let parted : m ∷ rest ≡ get_or xs j 0 ∷ reverse (take j xs) = sym e ∙ ap (λ i. reverse (take i xs)) one ∙ back_more xs j (omega (arith, one, h)) in
    ap (drop 1) parted

module _ (ns : List Node) (tree : IsTree ns) (c : ℕ) where
  abbrev row : List ℕ
  row = children_at ns c

  -- a node from which the blanks before another begin where they do before that
  pub record Back (n m : ℕ) (siblings : List ℕ) : Type 0 where
    pub child : parent_at ns m ≡ Some c
    pub rest : siblings ≡ reverse (take (place_at ns m) row)
    pub same : blanks_from ns row (place_at ns n) ≡ blanks_from ns row (place_at ns m)
    pub order : place_at ns m ≤ place_at ns n

  short : (m : ℕ) → parent_at ns m ≡ Some c → place_at ns m ≤ length row
  short m said = omega (arith, tree.within m c said)

  pub back_none : (n : ℕ) (siblings : List ℕ) → parent_at ns n ≡ Some c → siblings ≡ siblings_before ns n → Back n n siblings
  back_none n siblings said e = record {
    child = said;
    rest = e ∙ ap (λ o. reverse (take (place_at ns n) (with_parent o (children_at ns)))) said;
    same = refl;
    order = omega arith;
  }

  module _ (n m : ℕ) (siblings : List ℕ) (b : Back n m siblings) where
    pub back_ends : siblings ≡ [] → place_at ns m ≡ blanks_from ns row (place_at ns n)
    back_ends e =
        let none : place_at ns m ≡ 0 = none_left row (place_at ns m) (short m b.child) (sym b.rest ∙ e) in
        none ∙ sym (ap (blanks_from ns row) none) ∙ sym b.same

    module _ (k : ℕ) (rest : List ℕ) (e : siblings ≡ k ∷ rest) where
      next_is : (parent_at ns k ≡ Some c) × (place_at ns k + 1 ≡ place_at ns m)
      next_is = before_is ns tree c (place_at ns m) k (first_back row (place_at ns m) (short m b.child) ∙ ap first (sym b.rest ∙ e))

      one : place_at ns m ≡ suc (place_at ns k)
      one = omega (arith, next_is.1)

      pub back_there : k < length ns
      back_there = (parent_there ns tree k c next_is.0).0

      blank : (w : Bool) → is_whitespace_at ns k ≡ w → blanks_from ns row (place_at ns m) ≡ cond w (blanks_from ns row (place_at ns k)) (suc (place_at ns k))
      blank w h = blank_here ns row (place_at ns m) (place_at ns k) w one (ap (is_whitespace_at ns) (tree.found k c next_is.0) ∙ h)

      pub back_stops : is_whitespace_at ns k ≡ false → place_at ns m ≡ blanks_from ns row (place_at ns n)
      back_stops h = one ∙ sym (blank false h) ∙ sym b.same

      pub back_step : is_whitespace_at ns k ≡ true → Back n k rest
      back_step h = record {
        child = next_is.0;
        rest = those_left row (place_at ns m) (place_at ns k) k rest one (short m b.child) (sym b.rest ∙ e);
        same = b.same ∙ blank true h;
        order = omega (arith, next_is.1, b.order);
      }

  -- the newline before a node
  module _ (n : ℕ) (said : parent_at ns n ≡ Some c) where
    pub no_newline_first : first (siblings_before ns n) ≡ None → place_at ns n ≡ newline_from ns row (place_at ns n)
    no_newline_first e = by (place_at ns n) refl
      where
        by : (k : ℕ) → place_at ns n ≡ k → place_at ns n ≡ newline_from ns row (place_at ns n)
        by zero is = is ∙ sym (ap (newline_from ns row) is)
        by (suc k) is = absurd (before_some ns tree c (place_at ns n) (omega (arith, is)) (short n said) (sym (previous_at ns tree c n said) ∙ e))

    module _ (k : ℕ) (e : first (siblings_before ns n) ≡ Some k) where
      before_it : (parent_at ns k ≡ Some c) × (place_at ns k + 1 ≡ place_at ns n)
      before_it = before_is ns tree c (place_at ns n) k (sym (previous_at ns tree c n said) ∙ e)

      by_kind : (w : Bool) → is_newline_at ns k ≡ w → newline_from ns row (place_at ns n) ≡ cond w (place_at ns k) (suc (place_at ns k))
      by_kind w h = newline_here ns row (place_at ns n) (place_at ns k) w (omega (arith, before_it.1)) (ap (is_newline_at ns) (tree.found k c before_it.0) ∙ h)

      pub newline_child : parent_at ns k ≡ Some c
      newline_child = before_it.0

      pub newline_there : k < length ns
      newline_there = (parent_there ns tree k c before_it.0).0

      pub newline_place : is_newline_at ns k ≡ true → place_at ns k ≡ newline_from ns row (place_at ns n)
      newline_place h = sym (by_kind true h)

      pub newline_before : place_at ns k ≤ place_at ns n
      newline_before = omega (arith, before_it.1)

      pub no_newline : is_newline_at ns k ≡ false → place_at ns n ≡ newline_from ns row (place_at ns n)
      no_newline h = omega (arith, before_it.1, by_kind false h)

  -- what leaves with a comment begins where its blanks do
  module _ (n : ℕ) (said : parent_at ns n ≡ Some c) where
    begins_by : (w : Bool) → is_line_comment (content_at ns n) ≡ w → removed_from ns c n ≡ cond w (newline_from ns row (blanks_from ns row (place_at ns n))) (place_at ns n)
    begins_by w e = ap (λ b. cond b (newline_from ns row (blanks_from ns row (place_at ns n))) (place_at ns n)) e

    pub removes_alone : is_line_comment (content_at ns n) ≡ false → (n ≡ slice_index row (removed_from ns c n)) × (removed_from ns c n ≤ place_at ns n) × (n < length ns)
    removes_alone e = (sym (ap (slice_index row) (begins_by false e) ∙ tree.found n c said), omega (arith, begins_by false e), (parent_there ns tree n c said).0)

    pub removes_line : is_line_comment (content_at ns n) ≡ true → (b : ℕ) → place_at ns b ≡ blanks_from ns row (place_at ns n) → place_at ns b ≤ place_at ns n
        → (m : ℕ) → parent_at ns m ≡ Some c → place_at ns m ≡ newline_from ns row (place_at ns b) → place_at ns m ≤ place_at ns b
        → (m ≡ slice_index row (removed_from ns c n)) × (removed_from ns c n ≤ place_at ns n) × (m < length ns)
    removes_line e b blanks low m child line lower =
        let from : removed_from ns c n ≡ place_at ns m = begins_by true e ∙ ap (newline_from ns row) (sym blanks) ∙ sym line in
        (sym (ap (slice_index row) from ∙ tree.found m c child), omega (arith, from, low, lower), (parent_there ns tree m c child).0)

-- whitespace before a place of a row begins at that place at the latest
pub blanks_low : (ns : List Node) (row : List ℕ) (place : ℕ) → blanks_from ns row place ≤ place
blanks_low ns row zero = omega arith
blanks_low ns row (suc place) =
    elim (cases_Bool (is_whitespace_at ns (slice_index row place))) [
      | inl h ↦ (let e : blanks_from ns row (suc place) ≡ blanks_from ns row place = rw h refl in omega (arith, e, blanks_low ns row place))
      | inr h ↦ (let e : blanks_from ns row (suc place) ≡ suc place = rw h refl in omega (arith, e))
    ]

pub blanks_are : (ns : List Node) (row : List ℕ) (place at : ℕ) → blanks_from ns row place ≤ at → at < place → is_whitespace_at ns (slice_index row at) ≡ true
blanks_are ns row zero at a b = absurd (omega (arith, b))
blanks_are ns row (suc place) at a b =
    elim (cases_Bool (is_whitespace_at ns (slice_index row place))) [
      | inr h ↦ (let e : blanks_from ns row (suc place) ≡ suc place = rw h refl in absurd (omega (arith, e, a, b)))
      | inl h ↦
          let e : blanks_from ns row (suc place) ≡ blanks_from ns row place = rw h refl in
          elim (cases_lt at place) [
            | inl l ↦ blanks_are ns row place at (omega (arith, e, a)) l
            | inr m ↦ (let same : place ≡ at = omega (arith, m, b) in subst (λ k. is_whitespace_at ns (slice_index row k) ≡ true) same h)
          ]
    ]
